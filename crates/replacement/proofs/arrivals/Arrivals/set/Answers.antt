use Rattle.std.proofs.Common.{arith}
use Rattle.replacement.proofs.Placed.{length_seen, place_seen, set_seen}
use Rattle.replacement.proofs.arrivals.Arrivals.set.Goals as goal

pub index-place-requires : goal.index-place-requires
index-place-requires g c = omega (arith, c.requires, c.self.inside.order.ok.0, length_seen c.self.inside.places.items c.args.self.now c.self.invariant c.self.view_is)

pub index_mut-requires : goal.index_mut-requires
index_mut-requires g c =
    let at = place_seen c.self.inside.places.items c.args.self.now c.self.invariant c.self.view_is c.args.index c.index-place.result.now c.requires c.index-place.ensures in
    omega (arith, at.1, c.self.inside.places.ok.0)

pub returns : goal.returns
returns g c =
    set_seen c.self.inside.places.items c.args.self.now c.self.invariant c.self.view_is c.args.index c.index-place.result.now c.args.entry c.requires c.index-place.ensures
