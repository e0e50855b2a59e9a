use Rattle.std.proofs.Common.{refl}
use Rattle.split_bus.specs.TreeModel.Turns.Down.{inject_to_reader}
use Rattle.split_bus.proofs.Outcomes.{full_outcome, room_outcome}
use Rattle.split_bus.proofs.inject.inject_to_reader.Goals as goal

pub returns-in-Some : goal.returns-in-Some
returns-in-Some g c = rw (← c.entry.view_is) (full_outcome _ _ _ _ _ _ c.in-Some.ensures c.full.ensures)

pub returns : goal.returns
unfolding inject_to_reader
returns g c = rw (← c.entry.view_is) (room_outcome _ _ _ _ _ _ _ c.in_default.ensures (rw (c.granted.ensures, c.set_note.ensures, c.take_inject.ensures, c.take_front-stamp.ensures.stamp, c.take_front-stamp.ensures.after) (record { answer = refl; parent = refl; kids = refl })))
