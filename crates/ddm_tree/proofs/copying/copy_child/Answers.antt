use Rattle.std.proofs.Common.{◌≡◌, ◌∙◌, ap, sym, map}
use Rattle.std.specs.Prelude.{slice_set}
use Rattle.std.proofs.lemmas.List.{get_or-map, map-set}
use Rattle.ddm_tree.specs.TreeModel.State.Blank.{no_node}
use Rattle.ddm_tree.specs.TreeModel.State.Values.{Node}
use Rattle.ddm_tree.specs.TreeModel.Turns.Children.{child_at}
use Rattle.ddm_tree.proofs.copying.copy_child.Goals as goal

pub returns : goal.returns
returns g c =
    let other : Node = g.C.Agent.value c.index-others-number.result in
    let there : other ≡ child_at c.args.number (map g.C.Agent.value c.args.others.now) = ap g.C.Agent.value c.index-others-number.is ∙ sym (get_or-map g.C.Agent.value c.args.others.now c.args.number c.index-others-number.result no_node c.requires.other) in
    map-set g.C.Agent.value c.args.children.now c.args.number c.copy_from.new.self ∙ ap (slice_set (map g.C.Agent.value c.args.children.now) c.args.number) (c.copy_from.ensures ∙ there)
