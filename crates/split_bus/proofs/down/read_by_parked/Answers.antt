use Rattle.std.proofs.Common.{refl}
use Rattle.split_bus.specs.TreeModel.Turns.Down.{read_by_parked}
use Rattle.split_bus.proofs.Outcomes.{full_outcome, room_outcome}
use Rattle.split_bus.proofs.down.read_by_parked.Goals as goal

pub returns-in-Some : goal.returns-in-Some
returns-in-Some g c = full_outcome _ _ _ _ _ _ c.in-Some.ensures c.full.ensures

pub returns : goal.returns
unfolding read_by_parked
returns g c = rw (← c.entry.view_is) (room_outcome _ _ _ _ _ _ _ c.in_default.ensures (rw (c.granted.ensures, c.send_data.ensures, c.take_front.ensures.after) (record { answer = refl; parent = refl; kids = refl })))
