use Rattle.std.proofs.Common.{◌≡◌, ◌∙◌, ap, map, nat_eq}
use Rattle.ddm_tree.specs.TreeRules.Bus.Faces.{faces_of, parent_face}
use Rattle.ddm_tree.specs.TreeModel.State.Directory.{is_top}
use Rattle.ddm_tree.proofs.JudgedItems.{rules-judged}
use Rattle.ddm_tree.proofs.judging.keeps_rules.Goals as goal

pub returns : goal.returns
returns g c =
    let p = parent_face c.args.item (g.P.Parent.state c.args.parent.now) in
    let cs = faces_of c.args.item (map g.C.Agent.value c.args.children.now) in
    let rules = c.keeps_rules-rules.ensures p cs c.facts-facts.ensures c.children_facts-among.ensures in
    let top = c.keeps_top-top.ensures p cs c.facts-facts.ensures c.children_facts-among.ensures in
    let bus : nat_eq c.below.inside.0 0 ≡ is_top (g.P.Parent.state c.args.parent.now) = ap (λ b. nat_eq b 0) c.below.view_is ∙ c.bus.ensures.top in
    rules-judged (g.P.Parent.state c.args.parent.now) (map g.C.Agent.value c.args.children.now) c.args.item c.keeps_rules-rules.result c.keeps_top-top.result (nat_eq c.below.inside.0 0) rules top bus
