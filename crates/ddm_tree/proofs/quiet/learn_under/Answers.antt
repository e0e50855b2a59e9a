use Rattle.std.proofs.Common.{◌≡◌, ◌∷◌, [], ◌≤◌, true, false, true≢false, length, map, sym, ap, subst, ◌∙◌, arith}
use Rattle.std.proofs.lemmas.List.{get_or-map, length-map, nil_from_length}
use Rattle.ddm_tree.specs.TreeModel.State.Blank.{no_node}
use Rattle.ddm_tree.specs.TreeModel.State.Values.{children, nodes}
use Rattle.ddm_tree.specs.TreeModel.Turns.Children.{child_at}
use Rattle.ddm_tree.proofs.TreeModel.Children.{children-nodes}
use Rattle.ddm_tree.specs.Quiet.{AreLearnedBelow, IsTouched}
use Rattle.ddm_tree.proofs.OneBus.{nothing-below}
use Rattle.ddm_tree.proofs.QuietTable.{walked-end, walked-on}
use Rattle.ddm_tree.proofs.quiet.learn_under.Goals as goal
use Rattle.ddm_tree.proofs.quiet.learn_under.Goals.{then-is_empty, else-is_empty}

pub returns-in_default-clause-learned : goal.returns-in_default-clause-learned
returns-in_default-clause-learned g c =
    let ends : c.args.path.now ≡ [] = nil_from_length c.args.path.now c.in_default.ensures.cases in
    rw ends c.learn_here.ensures.learned

pub returns-then-place-children-clause-learned : goal.returns-then-place-children-clause-learned
returns-then-place-children-clause-learned g c =
    let d = g.P.Parent.state c.args.parent.now in
    let ns = nodes (map g.C.Agent.value c.args.children.now) in
    let i = c.child.inside.0 in
    let rest = c.in-Some.rest.now in
    let on : c.args.path.now ≡ i ∷ rest = c.in-Some.ensures.cases.0 ∙ ap (λ k. k ∷ rest) (sym c.child.view_is) in
    let child : child_at i (children ns) ≡ g.C.Agent.value c.index-children-place.result = ap (child_at i) (children-nodes (map g.C.Agent.value c.args.children.now)) ∙ get_or-map g.C.Agent.value c.args.children.now i c.index-children-place.result no_node c.if-place-children.true ∙ ap g.C.Agent.value (sym c.index-children-place.is) in
    let below : AreLearnedBelow (IsTouched c.args.answer.now rest) (child_at i (children ns)) c.if-is_empty.known c.learn_below.new.known = rw child c.learn_below.ensures.learned in
    elim c.if-is_empty.branch [
      | then-is_empty w ↦ rw on (walked-end c.args.answer.now i rest d ns c.args.known.now w.learn_child.new.known c.learn_below.new.known w.learn_child.ensures.learned (subst (λ k. AreLearnedBelow (IsTouched c.args.answer.now rest) (child_at i (children ns)) k c.learn_below.new.known) w.known-is below))
      | else-is_empty w ↦ rw on (walked-on c.args.answer.now i rest d ns c.args.known.now c.args.known.now c.learn_below.new.known (λ none. more w.if-is_empty.false none) (subst (λ k. AreLearnedBelow (IsTouched c.args.answer.now rest) (child_at i (children ns)) k c.learn_below.new.known) w.known-is below))
    ]
  where
    more : c.is_empty.result ≡ false → c.in-Some.rest.now ≡ [] → ⊥
    more isnt none =
        let wrong : true ≡ false = rw none at (sym c.is_empty.ensures ∙ isnt) in
        true≢false wrong

pub returns-else-place-children-clause-learned : goal.returns-else-place-children-clause-learned
returns-else-place-children-clause-learned g c =
    let d = g.P.Parent.state c.args.parent.now in
    let kids = map g.C.Agent.value c.args.children.now in
    let i = c.child.inside.0 in
    let rest = c.in-Some.rest.now in
    let on : c.args.path.now ≡ i ∷ rest = c.in-Some.ensures.cases.0 ∙ ap (λ k. k ∷ rest) (sym c.child.view_is) in
    let past : length (children (nodes kids)) ≤ i = omega (arith, ap length (children-nodes kids), length-map c.args.children.now g.C.Agent.value, c.if-place-children.false) in
    let below : AreLearnedBelow (IsTouched c.args.answer.now rest) (child_at i (children (nodes kids))) c.if-is_empty.known c.if-is_empty.known = nothing-below (IsTouched c.args.answer.now rest) i (children (nodes kids)) c.if-is_empty.known past in
    elim c.if-is_empty.branch [
      | then-is_empty w ↦ rw on (walked-end c.args.answer.now i rest d (nodes kids) c.args.known.now w.learn_child.new.known c.if-is_empty.known w.learn_child.ensures.learned (subst (λ k. AreLearnedBelow (IsTouched c.args.answer.now rest) (child_at i (children (nodes kids))) k c.if-is_empty.known) w.known-is below))
      | else-is_empty w ↦ rw on (walked-on c.args.answer.now i rest d (nodes kids) c.args.known.now c.args.known.now c.if-is_empty.known (λ none. more w.if-is_empty.false none) (subst (λ k. AreLearnedBelow (IsTouched c.args.answer.now rest) (child_at i (children (nodes kids))) k c.if-is_empty.known) w.known-is below))
    ]
  where
    more : c.is_empty.result ≡ false → c.in-Some.rest.now ≡ [] → ⊥
    more isnt none =
        let wrong : true ≡ false = rw none at (sym c.is_empty.ensures ∙ isnt) in
        true≢false wrong
