use Rattle.std.proofs.Common.{arith}
use Rattle.replacement.proofs.Placed.{length_seen, place_seen, entry_seen}
use Rattle.replacement.proofs.arrivals.Arrivals.at.Goals as goal

pub index-requires : goal.index-requires
index-requires g c = omega (arith, c.requires, c.self.inside.order.ok.0, length_seen c.self.inside.places.items c.args.self.now c.self.invariant c.self.view_is)

pub index-requires-2 : goal.index-requires-2
index-requires-2 g c =
    let at = place_seen c.self.inside.places.items c.args.self.now c.self.invariant c.self.view_is c.args.index c.index.result.now c.requires c.index.ensures in
    omega (arith, at.1, c.self.inside.places.ok.0)

pub returns : goal.returns
returns g c =
    entry_seen c.self.inside.places.items c.args.self.now c.self.invariant c.self.view_is c.args.index c.index.result.now c.index-2.result.now c.requires c.index.ensures c.index-2.ensures
