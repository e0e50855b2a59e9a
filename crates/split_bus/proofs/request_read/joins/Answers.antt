use Rattle.std.proofs.Common.{refl}
use Rattle.split_bus.specs.TreeModel.Turns.RequestRead.{joins}
use Rattle.split_bus.proofs.request_read.joins.Goals as goal

pub returns : goal.returns
unfolding joins
returns g c = rw (c.granted.ensures, c.join.ensures, c.advance.ensures.after, c.take_request.ensures) (record { answer = refl; parent = refl; kids = refl })
