use Rattle.std.proofs.Common.{refl}
use Rattle.split_bus.specs.TreeModel.Turns.Reply.{reply_to_parent}
use Rattle.split_bus.proofs.Outcomes.{full_outcome, room_outcome}
use Rattle.split_bus.proofs.reply.reply_to_parent.Goals as goal

pub returns-in-Some : goal.returns-in-Some
returns-in-Some g c = full_outcome _ _ _ _ _ _ c.in-Some.ensures c.full.ensures

pub returns : goal.returns
unfolding reply_to_parent
returns g c =
    room_outcome _ _ _ _ _ _ _ c.in_default.ensures (rw (c.granted.ensures, c.send_data.ensures, c.advance.ensures.after, c.take_reply.ensures) (record { answer = refl; parent = refl; kids = refl }))
