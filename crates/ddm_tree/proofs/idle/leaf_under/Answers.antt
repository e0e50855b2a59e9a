use Rattle.std.proofs.Common.{◌≡◌, ◌≤◌, ◌∷◌, ◌++◌, [], length, map, sym, ap, subst, ◌∙◌, arith}
use Rattle.std.proofs.lemmas.Bool.{ltb-true, ltb-false}
use Rattle.std.proofs.lemmas.List.{nil_from_length}
use Rattle.ddm_tree.specs.TreeModel.State.Values.{dir_node, nodes}
use Rattle.ddm_tree.specs.TreeModel.Turns.Tree.{leaf_of_number}
use Rattle.ddm_tree.specs.Ready.{Leads}
use Rattle.ddm_tree.proofs.LeafThere.{kid-leads, kid-there, label-leaf}
use Rattle.ddm_tree.proofs.idle.leaf_under.Goals as goal

pub returns-in_err-get-in-None : goal.returns-in_err-get-in-None
returns-in_err-get-in-None g c = λ d k leads.
    let xs = c.args.children.now in
    let ends : c.args.path.now ≡ [] = nil_from_length c.args.path.now c.in-None.ensures.cases in
    let there = kid-there g.C.Agent.value d xs (leaf_of_number k) c.args.place [] (subst (λ p. Leads (leaf_of_number k) (p ++ c.args.place ∷ []) (dir_node d (nodes (map g.C.Agent.value xs)))) ends leads) in
    let past : length xs ≤ c.args.place = ltb-false _ _ (sym c.in_err-get-in-None.ensures.lookup.0) in
    absurd (omega (arith, there, past))

pub returns-in_err-get-in-Some : goal.returns-in_err-get-in-Some
returns-in_err-get-in-Some g c = λ d k leads.
    let xs = c.args.children.now in
    let i = c.child.inside.0 in
    let on : c.args.path.now ≡ i ∷ c.in-Some.rest.now = c.in-Some.ensures.cases.0 ∙ ap (λ j. j ∷ c.in-Some.rest.now) (sym c.child.view_is) in
    let there = kid-there g.C.Agent.value d xs (leaf_of_number k) i (c.in-Some.rest.now ++ c.args.place ∷ []) (subst (λ p. Leads (leaf_of_number k) (p ++ c.args.place ∷ []) (dir_node d (nodes (map g.C.Agent.value xs)))) on leads) in
    let past : length xs ≤ i = ltb-false _ _ (sym c.in_err-get-in-Some.ensures.lookup.0) in
    absurd (omega (arith, there, past))

pub returns-in_ok-get-in-None : goal.returns-in_ok-get-in-None
returns-in_ok-get-in-None g c = λ d k leads.
    let xs = c.args.children.now in
    let here = c.in_ok-get-in-None.ensures.lookup in
    let ends : c.args.path.now ≡ [] = nil_from_length c.args.path.now c.in-None.ensures.cases in
    let there = kid-leads g.C.Agent.value d xs (leaf_of_number k) c.args.place [] (subst (λ p. Leads (leaf_of_number k) (p ++ c.args.place ∷ []) (dir_node d (nodes (map g.C.Agent.value xs)))) ends leads) c.in_ok-get-in-None.field-0.now (ltb-true _ _ (sym here.0)) here.1 in
    c.leaf_of.ensures k (c.label.ensures ∙ label-leaf k _ there)

pub returns-in_ok-get-in-Some : goal.returns-in_ok-get-in-Some
returns-in_ok-get-in-Some g c = λ d k leads.
    let xs = c.args.children.now in
    let i = c.child.inside.0 in
    let here = c.in_ok-get-in-Some.ensures.lookup in
    let on : c.args.path.now ≡ i ∷ c.in-Some.rest.now = c.in-Some.ensures.cases.0 ∙ ap (λ j. j ∷ c.in-Some.rest.now) (sym c.child.view_is) in
    let there = kid-leads g.C.Agent.value d xs (leaf_of_number k) i (c.in-Some.rest.now ++ c.args.place ∷ []) (subst (λ p. Leads (leaf_of_number k) (p ++ c.args.place ∷ []) (dir_node d (nodes (map g.C.Agent.value xs)))) on leads) c.in_ok-get-in-Some.field-0.now (ltb-true _ _ (sym here.0)) here.1 in
    c.leaf_below.ensures k there
