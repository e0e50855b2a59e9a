use Rattle.std.proofs.Common.{◌≡◌, ℕ, List, map, refl, ap, ◌∙◌, rules}
use Rattle.split_bus.specs.DdmTypes.declared.keys.Stamp.{Stamp}
use Rattle.split_bus.specs.TreeModel.State.Lists.{map_from}
use Rattle.split_bus.specs.TreeModel.State.Directory.{stamp_of, counted}
use Rattle.split_bus.specs.TreeModel.State.Child.{child_give_up, child_take_inject}
use Rattle.split_bus.specs.TreeModel.Turns.Children.{only, passed_on}
use Rattle.split_bus.specs.TreeModel.Turns.Leave.{leave_to}
use Rattle.split_bus.proofs.Maps.{both-told_back, have-kept, node_items-given_up, only-other}
use Rattle.split_bus.proofs.Found.{leave_taker-other, room-hears, room-place}
use Rattle.split_bus.proofs.leave.leave_to.Goals as goal

pub take_inject-requires : goal.take_inject-requires
take_inject-requires g c =
    let ns = map g.C.Agent.value c.args.children.now in
    let other = leave_taker-other c.args.c c.args.item ns (g.P.Parent.state c.args.parent.now) c.args.k c.requires.found in
    let have = have-kept c.args.item c.args.c (child_give_up c.args.item) (node_items-given_up c.args.item) ns c.requires.ready.have in
    let there = only-other c.args.c c.args.k (child_give_up c.args.item) other.apart ns other.within in
    (search rules, (c.requires.ready.words_fit, (rw c.give_up-words.ensures.kids have, (rw (c.give_up-words.ensures.kids, there) (room-hears _ _ other.room), rw (c.give_up-words.ensures.kids, there) (room-place _ _ other.room)))))

pub returns : goal.returns
unfolding leave_to
returns g c =
    let p = g.P.Parent.state c.args.parent.now in
    let ns = map g.C.Agent.value c.args.children.now in
    let apart = (leave_taker-other c.args.c c.args.item ns p c.args.k c.requires.found).apart in
    let stamp : c.advance-stamp.result ≡ stamp_of (counted p) = rw c.advance-stamp.ensures.after at c.advance-stamp.ensures.stamp in
    let words = c.give_up-words.result in
    let s = c.advance-stamp.result in
    record {
      answer = rw (c.granted.ensures, c.advance-stamp.ensures.after) refl;
      parent = c.advance-stamp.ensures.after;
      kids = c.take_inject.ensures ∙ ap (map_from (only c.args.k (child_take_inject c.args.item words s)) 0) c.give_up-words.ensures.kids ∙ both-told_back c.args.c c.args.k (child_give_up c.args.item) (child_take_inject c.args.item words s) apart ns ∙ ap (λ (t : Stamp). map_from (passed_on c.args.c c.args.k c.args.item words t) 0 ns) stamp ∙ ap (λ (ws : List ℕ). map_from (passed_on c.args.c c.args.k c.args.item ws (stamp_of (counted p))) 0 ns) c.give_up-words.ensures.given;
    }
