use Rattle.std.proofs.Common.{◌≡◌, map, refl, ap, ◌∙◌}
use Rattle.split_bus.specs.DdmTypes.declared.keys.Stamp.{Stamp}
use Rattle.split_bus.specs.TreeModel.State.Lists.{map_from}
use Rattle.split_bus.specs.TreeModel.State.Directory.{stamp_of, counted}
use Rattle.split_bus.specs.TreeModel.State.Child.{child_answer, child_request_taken}
use Rattle.split_bus.specs.TreeModel.Turns.Children.{only, read_from}
use Rattle.split_bus.specs.TreeModel.Turns.RequestRead.{read_of_child}
use Rattle.split_bus.proofs.Maps.{both-told}
use Rattle.split_bus.proofs.Found.{other_holder-apart}
use Rattle.split_bus.proofs.Outcomes.{full_outcome, room_outcome}
use Rattle.split_bus.proofs.request_read.read_of_child.Goals as goal

pub returns-in-Some : goal.returns-in-Some
returns-in-Some g c = full_outcome _ _ _ _ _ _ c.in-Some.ensures c.full.ensures

pub returns : goal.returns
unfolding read_of_child
returns g c =
    let ns = map g.C.Agent.value c.args.children.now in
    let apart = other_holder-apart c.args.c c.args.item c.args.k ns c.requires.found in
    let stamp : c.advance-stamp.result ≡ stamp_of (counted (g.P.Parent.state c.args.parent.now)) = rw c.advance-stamp.ensures.after at c.advance-stamp.ensures.stamp in
    room_outcome _ _ _ _ _ _ _ c.in_default.ensures (record {
      answer = rw (c.granted.ensures, c.set_note.ensures, c.advance-stamp.ensures.after) refl;
      parent = rw (c.set_note.ensures, c.advance-stamp.ensures.after) refl;
      kids = c.take_request.ensures ∙ ap (map_from (only c.args.c child_request_taken) 0) c.answer.ensures ∙ both-told c.args.c c.args.k child_request_taken (child_answer c.args.item c.advance-stamp.result) apart ns ∙ ap (λ (s : Stamp). map_from (read_from c.args.c c.args.k c.args.item s) 0 ns) stamp;
    })
