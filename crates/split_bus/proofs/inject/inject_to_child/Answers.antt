use Rattle.std.proofs.Common.{map, refl, rules}
use Rattle.split_bus.specs.TreeModel.Turns.Down.{inject_to_child}
use Rattle.split_bus.proofs.Found.{taker-room, room-hears, room-place}
use Rattle.split_bus.proofs.inject.inject_to_child.Goals as goal

pub take_inject-requires : goal.take_inject-requires
take_inject-requires g c =
    let ns = map g.C.Agent.value c.args.children.now in
    let room = rw (← c.entry.view_is) at (taker-room _ ns c.args.k c.requires.found) in
    (search rules, (c.requires.ready.words_fit, (rw (← c.entry.view_is) at c.requires.ready.have, (room-hears _ _ room, room-place _ _ room))))

pub returns : goal.returns
unfolding inject_to_child
returns g c = rw (← c.entry.view_is) (rw (c.granted.ensures, c.release_place.ensures, c.take_inject.ensures, c.take_front-stamp.ensures.stamp, c.take_front-stamp.ensures.after) (record { answer = refl; parent = refl; kids = refl }))
