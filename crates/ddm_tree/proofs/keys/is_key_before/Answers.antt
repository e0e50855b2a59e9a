use Rattle.ddm_tree.proofs.KeysJudged.{judged-same, judged-other}
use Rattle.std.proofs.Common.{◌∙◌}
use Rattle.ddm_tree.proofs.keys.is_key_before.Goals as goal

pub returns-then-same_children : goal.returns-then-same_children
returns-then-same_children c =
    c.precedes.ensures ∙ judged-same c.args.depth c.args.now.now c.args.key.now _ _ c.requires.some c.requires.few c.cut-key.ensures c.cut-now.ensures _ c.same_children.ensures c.if-same_children.true

pub returns-else-same_children : goal.returns-else-same_children
returns-else-same_children c =
    judged-other c.args.depth c.args.now.now c.args.key.now _ _ c.requires.some c.requires.few c.cut-key.ensures c.cut-now.ensures _ c.same_children.ensures c.if-same_children.false
