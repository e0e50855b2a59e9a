use Rattle.std.proofs.Common.{refl}
use Rattle.split_bus.specs.TreeModel.Turns.Down.{erase_of_children}
use Rattle.split_bus.proofs.Outcomes.{full_outcome, room_outcome}
use Rattle.split_bus.proofs.down.down_erase.Goals as goal

pub returns-in-Some : goal.returns-in-Some
returns-in-Some g c = rw (← c.entry.view_is) (full_outcome _ _ _ _ _ _ c.in-Some.ensures c.full.ensures)

pub returns : goal.returns
unfolding erase_of_children
returns g c = rw (← c.entry.view_is) (room_outcome _ _ _ _ _ _ _ c.in_default.ensures (rw (c.granted.ensures, c.note_erased.ensures, c.lose_all.ensures, c.take_front-stamp.ensures.stamp, c.take_front-stamp.ensures.after) (record { answer = refl; parent = refl; kids = refl })))
