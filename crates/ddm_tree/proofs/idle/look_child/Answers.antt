use Rattle.std.proofs.Common.{◌≡◌, ◌≢◌, ◌∷◌, ◌++◌, [], ℕ, Some, map, vec_items, sym, ap, subst, ◌∙◌}
use Rattle.std.proofs.lemmas.Option.{none-some, same_Some}
use Rattle.ddm_tree.specs.TreeModel.State.Values.{dir_node, nodes}
use Rattle.ddm_tree.specs.TreeModel.Turns.Tree.{leaf_of_number}
use Rattle.ddm_tree.specs.Idle.{IsNoChild}
use Rattle.ddm_tree.specs.Ready.{Leads}
use Rattle.ddm_tree.proofs.Resting.{seen-one, seen-others}
use Rattle.ddm_tree.proofs.idle.look_child.Goals as goal

pub returns-in-Some-leaf_under-clause-seen : goal.returns-in-Some-leaf_under-clause-seen
returns-in-Some-leaf_under-clause-seen g c = λ d.
    let n = dir_node d (nodes (map g.C.Agent.value c.args.children.now)) in
    let others : (k : ℕ) → k ≢ c.leaf.inside.0 → IsNoChild (λ i. c.args.named ≡ Some i) c.args.path.now n k = λ k other i is leads.
    let own : c.in-Some.place ≡ i = same_Some c.in-Some.place i (sym c.in-Some.is ∙ is) in
    let found = c.leaf_under.ensures d k (subst (λ j. Leads (leaf_of_number k) (c.args.path.now ++ j ∷ []) n) (sym own) leads) in
    other (same_Some k c.leaf.inside.0 (sym found ∙ c.in-Some-leaf_under.is ∙ ap Some (sym c.leaf.view_is))) in
    seen-one (map vec_items c.args.leaf_paths.now) n c.args.answered.now _ c.leaf.inside.0 c.args.idle.now c.look_after.new.idle others (c.look_after.ensures.looked d)

pub returns-in_default-leaf_under-clause-seen : goal.returns-in_default-leaf_under-clause-seen
returns-in_default-leaf_under-clause-seen g c = λ d.
    let n = dir_node d (nodes (map g.C.Agent.value c.args.children.now)) in
    let others : (k : ℕ) → IsNoChild (λ i. c.args.named ≡ Some i) c.args.path.now n k = λ k i is leads.
    let own : c.in-Some.place ≡ i = same_Some c.in-Some.place i (sym c.in-Some.is ∙ is) in
    let found = c.leaf_under.ensures d k (subst (λ j. Leads (leaf_of_number k) (c.args.path.now ++ j ∷ []) n) (sym own) leads) in
    none-some k (sym c.in_default-leaf_under.is ∙ found) in
    seen-others (map vec_items c.args.leaf_paths.now) n c.args.answered.now _ c.args.idle.now others
