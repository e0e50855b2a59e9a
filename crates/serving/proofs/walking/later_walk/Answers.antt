use Rattle.std.proofs.Common.{Some, sym, ap, ◌++◌, ◌∙◌}
use Rattle.serving.specs.ServingModel.Walk.{erase_turns}
use Rattle.serving.specs.TreeModel.State.Values.{root_of}
use Rattle.serving_walk.specs.Parts.{part_at}
use Rattle.serving.proofs.Walked.{root-part, waiting-walk}
use Rattle.serving.proofs.walking.later_walk.Goals as goal

pub returns : goal.returns
returns g c =
    let m = (g.S.Tree.value c.args.server.now) in
    c.in_ok-erase.ensures ∙ (ap (λ ts. ts ++ erase_turns c.args.leaf c.args.item (part_at (Some 0) m)) c.new-walk.ensures.items ∙ (ap (erase_turns c.args.leaf c.args.item) (root-part m c.requires.shaped c.requires.top) ∙ waiting-walk _ c.state.result c.args.leaf c.args.item (root_of m) c.state.ensures (sym c.waits_to_write.ensures ∙ c.if-not-waits_to_write.false)))
