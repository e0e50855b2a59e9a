use Rattle.std.proofs.Common.{refl}
use Rattle.split_bus.specs.TreeModel.Turns.Leave.{out_gone}
use Rattle.split_bus.proofs.leave.out_gone.Goals as goal

pub returns : goal.returns
unfolding out_gone
returns g c = rw (c.granted.ensures, c.advance.ensures.after, c.give_up.ensures.kids) (record { answer = refl; parent = refl; kids = refl })
