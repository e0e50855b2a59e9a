use Rattle.std.proofs.Common.{◌-◌, ◌++◌, ◌∷◌, [], List, map, ap, ◌∙◌}
use Rattle.ddm_types.specs.declared.operations.Op.{Op}
use Rattle.operation_list.specs.Kept.{OpList, op_of}
use Rattle.operation_list.proofs.Pushed.{pushed_ops}
use Rattle.operation_list.proofs.list.Operations.push.Goals as goal

pub returns : goal.returns
returns c =
    let old = c.self.inside.moments.items in
    let new = c.number_of-moment.new.moments.items in
    let briefs = c.self.inside.briefs.items in
    let op = c.args.op.now in
    let items = ap (map (op_of new)) c.push_reserved.ensures.items ∙ pushed_ops old new briefs c.number_of-moment.result op c.self.invariant.0 c.number_of-moment.ensures.others c.number_of-moment.ensures.at in
    ap (λ (xs : List Op). record { items = xs; spare = c.self.inside.spare - 1 }) items ∙ ap (λ (o : OpList). record { items = o.items ++ op ∷ []; spare = o.spare - 1 }) c.self.view_is
