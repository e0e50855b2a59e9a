use Rattle.std.proofs.Common.{◌≡◌, is_none, ap, ◌∙◌}
use Rattle.ddm_tree.specs.TreeModel.State.Child.{child_leaving, child_reply, child_request}
use Rattle.ddm_tree.specs.ItemStates.Parts.{copy_pair, request_pair}
use Rattle.ddm_tree.specs.Quiet.{quiet_if}
use Rattle.ddm_tree.proofs.QuietIndex.{child-put, none-is, none-mapped}
use Rattle.ddm_tree.proofs.quiet.put_child.Goals as goal

pub returns : goal.returns
returns g c =
    let m = g.C.Agent.value c.args.child.now in
    let asks : c.is_none.result ≡ is_none (child_request m) = none-is c.first_request.result c.is_none.result c.is_none.ensures ∙ ap is_none c.first_request.ensures.value ∙ none-mapped request_pair (child_request m) in
    let answers : c.is_none-2.result ≡ is_none (child_reply m) = none-is c.first_reply.result c.is_none-2.result c.is_none-2.ensures ∙ ap is_none c.first_reply.ensures.value ∙ none-mapped copy_pair (child_reply m) in
    let goes : c.is_none-3.result ≡ is_none (child_leaving 0 m) = none-is c.leaving.result c.is_none-3.result c.is_none-3.ensures ∙ ap is_none c.leaving.ensures.value in
    λ d ns is. child-put d ns c.args.place c.requires.place m is c.args.quiet.now c.quiet_if.result c.quiet_if-2.result c.quiet_if-3.result (c.quiet_if.ensures ∙ ap quiet_if asks) (c.quiet_if-2.ensures ∙ ap quiet_if answers) (c.quiet_if-3.ensures ∙ ap quiet_if goes)
