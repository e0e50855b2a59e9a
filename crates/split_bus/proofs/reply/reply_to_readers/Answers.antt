use Rattle.std.proofs.Common.{map, refl, rules, sym}
use Rattle.split_bus.specs.TreeModel.Turns.Reply.{reply_to_readers}
use Rattle.split_bus.specs.TreeModel.State.Child.{child_reply_taken}
use Rattle.split_bus.specs.Children.{note_of_readers}
use Rattle.split_bus.proofs.Maps.{map_from-both, have-kept, node_items-reply_taken, readers-reply_taken}
use Rattle.split_bus.proofs.Outcomes.{full_outcome, room_outcome}
use Rattle.split_bus.proofs.reply.reply_to_readers.Goals as goal

pub returns-in-Some : goal.returns-in-Some
returns-in-Some g c = full_outcome _ _ _ _ _ _ c.in-Some.ensures c.full.ensures

pub take_data-requires : goal.take_data-requires
take_data-requires g c =
    let ns = map g.C.Agent.value c.args.children.now in
    let have = have-kept c.args.item c.args.c child_reply_taken node_items-reply_taken ns c.requires.ready.have in
    let room = readers-reply_taken (note_of_readers c.args.readers.now) c.args.item c.args.c ns in
    (search rules, (c.requires.ready.words_fit, (search rules, (rw c.take_reply.ensures have, rw (c.take_reply.ensures, room) (sym c.in_default.ensures)))))

pub returns : goal.returns
unfolding reply_to_readers
returns g c =
    room_outcome _ _ _ _ _ _ _ c.in_default.ensures (rw (c.granted.ensures, c.set_note.ensures, c.take_data.ensures, c.take_reply.ensures, map_from-both, c.taker.ensures, c.advance-stamp.ensures.stamp, c.advance-stamp.ensures.after) (record { answer = refl; parent = refl; kids = refl }))
