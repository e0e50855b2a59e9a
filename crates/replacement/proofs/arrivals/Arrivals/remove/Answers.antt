use Rattle.std.proofs.Common.{arith}
use Rattle.replacement.proofs.Placed.{length_seen, remove_seen}
use Rattle.replacement.proofs.arrivals.Arrivals.remove.Goals as goal

pub remove-place-requires : goal.remove-place-requires
remove-place-requires g c = omega (arith, c.requires, c.self.inside.order.ok.0, length_seen c.self.inside.places.items c.args.self.now c.self.invariant c.self.view_is)

pub returns : goal.returns
returns g c =
    remove_seen c.self.inside.places.items c.args.self.now c.args.index c.remove-place.new.self.items c.self.invariant c.self.view_is c.requires c.remove-place.ensures.items
