use Rattle.std.proofs.Common.{Some, sym, ap, ◌++◌, ◌∙◌}
use Rattle.serving.specs.TreeModel.State.Values.{root_of}
use Rattle.serving.specs.ServingModel.Walk.{read_turns, erase_turns}
use Rattle.serving.specs.ServingModel.Serving.{walk_by_kind}
use Rattle.serving_walk.specs.Parts.{part_at}
use Rattle.serving.proofs.Walked.{root-part, other-kind}
use Rattle.serving.proofs.walking.first_walk.Goals as goal
use Rattle.serving.proofs.walking.first_walk.Goals.{in-ReadTx+in_ok-read-in-ReadTx, in-EraseTx+in_ok-erase-in-EraseTx, in_default}

pub returns : goal.returns
returns g c =
    let m = (g.S.Tree.value c.args.server.now) in
    elim c.match-kind.branch [
      | in-ReadTx+in_ok-read-in-ReadTx w ↦ ap (λ (v : _). v.items) w.walk-is ∙ (w.in_ok-read-in-ReadTx.ensures ∙ (ap (λ ts. ts ++ read_turns c.args.leaf c.args.item (part_at (Some 0) m)) c.new-walk.ensures.items ∙ (ap (read_turns c.args.leaf c.args.item) (root-part m c.requires.shaped c.requires.top) ∙ ap (λ k. walk_by_kind k c.args.leaf c.args.item (root_of m)) (sym w.in-ReadTx.is))))
      | in-EraseTx+in_ok-erase-in-EraseTx w ↦ ap (λ (v : _). v.items) w.walk-is ∙ (w.in_ok-erase-in-EraseTx.ensures ∙ (ap (λ ts. ts ++ erase_turns c.args.leaf c.args.item (part_at (Some 0) m)) c.new-walk.ensures.items ∙ (ap (erase_turns c.args.leaf c.args.item) (root-part m c.requires.shaped c.requires.top) ∙ ap (λ k. walk_by_kind k c.args.leaf c.args.item (root_of m)) (sym w.in-EraseTx.is))))
      | in_default w ↦ ap (λ (v : _). v.items) w.walk-is ∙ (c.new-walk.ensures.items ∙ other-kind c.args.kind c.args.leaf c.args.item (root_of m) w.in_default.not-ReadTx w.in_default.not-EraseTx)
    ]
