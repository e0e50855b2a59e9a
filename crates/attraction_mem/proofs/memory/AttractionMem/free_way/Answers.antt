use Rattle.std.proofs.Common.{rules, ◌≡◌, ◌%◌, None, subst}
use Rattle.attraction_mem.specs.Memory.{IsFull, IsLowestFree}
use Rattle.attraction_mem.proofs.Reading.{full_seen, lowest_seen}
use Rattle.attraction_mem.proofs.memory.AttractionMem.free_way.Goals as goal

pub returns-in_err-way-clause-full : goal.returns-in_err-way-clause-full
returns-in_err-way-clause-full g c =
    let taken = rw c.deref.ensures.value at c.in_err-way.ensures.full in
    let full = subst (λ m. IsFull g.row.WAYS m (c.args.item % m.sets)) c.self.view_is (full_seen c.self.invariant.0 c.args.item taken) in
    let none : c.from_residual.result ≡ None = search rules in
    rw none full

pub returns-clause-lowest : goal.returns-clause-lowest
returns-clause-lowest g c =
    let free = rw c.deref.ensures.value at c.in_ok-way.ensures.free in
    let lower = rw c.deref.ensures.value at c.in_ok-way.ensures.lower in
    subst (λ m. IsLowestFree g.row.WAYS m (c.args.item % m.sets) c.in_ok-way.way) c.self.view_is (lowest_seen c.self.invariant.0 c.args.item c.in_ok-way.way c.in_ok-way.ensures.exists free lower)
