use Rattle.std.proofs.Common.{◌≡◌, ◌%◌, lit<, Some, refl, ap}
use Rattle.std.proofs.Math.Nat.{mod-lt}
use Rattle.attraction_mem.specs.Memory.{StandsIn}
use Rattle.attraction_mem.proofs.Reading.{value_is}
use Rattle.attraction_mem.proofs.memory.AttractionMem.victim.Goals as goal

pub at-requires : goal.at-requires
at-requires g c = (lit< tt, (c.set_of-set.ensures.inside, mod-lt c.from-way.result c.set_of-set.ensures.some_ways))

pub unwrap-requires : goal.unwrap-requires
unwrap-requires g c =
    let way : c.from-way.result % g.row.WAYS ≡ c.args.victim % g.row.WAYS = ap (λ k. k % g.row.WAYS) c.from-way.ensures in
    let taken = c.requires (c.args.victim % g.row.WAYS) (mod-lt c.args.victim c.set_of-set.ensures.some_ways) in
    let is : c.at.result ≡ Some taken.0 = (c.at.ensures taken.0).1 (rw (c.set_of-set.ensures.set, way) taken.1) in
    rw is refl

pub returns : goal.returns
returns g c =
    let way : c.from-way.result % g.row.WAYS ≡ c.args.victim % g.row.WAYS = ap (λ k. k % g.row.WAYS) c.from-way.ensures in
    rw (← c.set_of-set.ensures.set, ← way) (value_is {P = StandsIn c.args.self.now c.set_of-set.result (c.from-way.result % g.row.WAYS)} c.at.result c.unwrap.result c.unwrap.ensures c.at.ensures)
