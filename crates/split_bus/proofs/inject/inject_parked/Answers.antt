use Rattle.std.proofs.Common.{refl}
use Rattle.split_bus.specs.TreeModel.Turns.Down.{inject_parked}
use Rattle.split_bus.proofs.inject.inject_parked.Goals as goal

pub returns : goal.returns
unfolding inject_parked
returns g c = rw (← c.entry.view_is) (rw (c.granted.ensures, c.park.ensures, c.take_front.ensures.after) (record { answer = refl; parent = refl; kids = refl }))
