use Rattle.std.proofs.Common.{refl}
use Rattle.split_bus.specs.TreeModel.Turns.Leave.{leave_parked}
use Rattle.split_bus.proofs.leave.leave_parked.Goals as goal

pub returns : goal.returns
unfolding leave_parked
returns g c = rw (c.granted.ensures, c.park.ensures, c.advance.ensures.after, c.give_up-words.ensures.kids, c.give_up-words.ensures.given) (record { answer = refl; parent = refl; kids = refl })
