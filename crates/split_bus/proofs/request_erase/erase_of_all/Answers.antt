use Rattle.std.proofs.Common.{◌≡◌, map, refl}
use Rattle.split_bus.specs.TreeModel.State.States.{is_exclusive}
use Rattle.split_bus.specs.TreeModel.State.Directory.{dir_hold}
use Rattle.split_bus.specs.TreeModel.Turns.RequestErase.{erase_noted, erase_of_all}
use Rattle.split_bus.proofs.Erase.{erase-sent, erase-bus}
use Rattle.split_bus.proofs.Outcomes.{full_outcome, room_outcome}
use Rattle.split_bus.proofs.request_erase.erase_of_all.Goals as goal

pub returns-in-Some : goal.returns-in-Some
returns-in-Some g c = full_outcome _ _ _ _ _ _ (rw (c.is_exclusive-exclusive.ensures, c.hold.ensures) at c.in-Some.ensures) c.full.ensures

pub returns : goal.returns
unfolding erase_of_all
returns g c =
    let p = g.P.Parent.state c.args.parent.now in
    let ns = map g.C.Agent.value c.args.children.now in
    let e = is_exclusive (dir_hold c.args.item p) in
    let parent : g.P.Parent.state c.send_erase.new.parent ≡ erase_noted c.args.above c.args.c c.args.item p ns e = rw (c.send_erase.ensures, c.set_note.ensures, c.advance-stamp.ensures.after, c.is_exclusive-exclusive.ensures, c.hold.ensures) (erase-sent c.args.above c.args.c c.args.item p ns e) in
    room_outcome _ _ _ _ _ _ _ (rw (c.is_exclusive-exclusive.ensures, c.hold.ensures) at c.in_default.ensures) (record {
      answer = rw (c.granted.ensures, parent, erase-bus c.args.above c.args.c c.args.item p ns e) refl;
      parent = parent;
      kids = rw (c.lose_others.ensures, c.advance-stamp.ensures.stamp, c.advance-stamp.ensures.after) refl;
    })
