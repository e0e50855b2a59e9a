use Rattle.std.proofs.Common.{refl}
use Rattle.split_bus.specs.TreeModel.Turns.Down.{data_to_readers}
use Rattle.split_bus.proofs.Outcomes.{full_outcome, room_outcome}
use Rattle.split_bus.proofs.down.data_to_readers.Goals as goal

pub returns-in-Some : goal.returns-in-Some
returns-in-Some g c = rw (← c.entry.view_is) (full_outcome _ _ _ _ _ _ c.in-Some.ensures c.full.ensures)

pub returns : goal.returns
unfolding data_to_readers
returns g c = rw (← c.entry.view_is) (room_outcome _ _ _ _ _ _ _ c.in_default.ensures (rw (c.granted.ensures, c.set_note.ensures, c.take_data.ensures, c.taker.ensures, c.take_front-stamp.ensures.stamp, c.take_front-stamp.ensures.after) (record { answer = refl; parent = refl; kids = refl })))
