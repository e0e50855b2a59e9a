use Rattle.std.proofs.Common.{◌≡◌, is_none, ap, ◌∙◌}
use Rattle.ddm_tree.specs.TreeModel.State.Lists.{first_of}
use Rattle.ddm_tree.specs.Quiet.{quiet_if}
use Rattle.ddm_tree.proofs.QuietIndex.{down-put, none-is}
use Rattle.ddm_tree.proofs.quiet.put_down.Goals as goal

pub returns : goal.returns
returns g c =
    let d = g.P.Parent.state c.args.parent.now in
    let is : c.is_none.result ≡ is_none (first_of d.down) = none-is c.first_down.result c.is_none.result c.is_none.ensures ∙ ap is_none c.first_down.ensures.value in
    λ ns. down-put d ns c.args.quiet.now c.quiet_if.result (c.quiet_if.ensures ∙ ap quiet_if is)
