use Rattle.std.proofs.Common.{ap, length, subst, arith}
use Rattle.std.proofs.Common.{vec_capacity}
use Rattle.replacement.specs.Places.{IsPlaced}
use Rattle.replacement.proofs.Placed.{length_seen, not_taken, put_seen}
use Rattle.replacement.proofs.arrivals.Arrivals.put.Goals as goal

pub index_mut-requires : goal.index_mut-requires
index_mut-requires g c =
    let placed = subst (λ free. IsPlaced (length c.self.inside.places.items) c.self.inside.order.items free (vec_capacity c.self.inside.order) (vec_capacity c.self.inside.free)) c.in-Some.ensures.items c.self.invariant in
    omega (arith, (not_taken c.pop.new.self.items c.in-Some.place placed).1, c.self.inside.places.ok.0)

pub unreachable-requires : goal.unreachable-requires
unreachable-requires g c =
    let places = ap (λ a. a.capacity) c.self.view_is in
    omega (arith, c.requires, places, c.in-None.ensures.cases.0, c.self.inside.free.ok.0, c.self.invariant.each, length_seen c.self.inside.places.items c.args.self.now c.self.invariant c.self.view_is)

pub returns : goal.returns
returns g c =
    let placed = subst (λ free. IsPlaced (length c.self.inside.places.items) c.self.inside.order.items free (vec_capacity c.self.inside.order) (vec_capacity c.self.inside.free)) c.in-Some.ensures.items c.self.invariant in
    put_seen c.pop.new.self.items c.self.inside.places.items c.args.self.now c.in-Some.place c.args.entry c.add.new.numbers.items placed c.self.view_is c.add.ensures.items
