-- A leaf that keeps its rules waits for the item of its entry that waits: so it waits on where that entry does.
-- Letters: n and m are nodes, v a leaf, x the item that is waited for, p and q paths.
use Rattle.std.proofs.Common.{◌≡◌, ◌⊎◌, inl, inr, ℕ, zero, suc, ◌<◌, true, List, [], ◌∷◌, Option, Some, None, refl, sym, ap, subst, ◌∙◌, true≢false}
use Rattle.std.proofs.lemmas.Bool.{eqb-true}
use Rattle.ddm_tree.specs.FlatModel.Flat.{has_reserved}
use Rattle.ddm_tree.specs.TreeModel.State.Blank.{no_leaf, no_node}
use Rattle.ddm_tree.specs.TreeModel.State.Values.{LeafValue, Node, Nodes, leaf_node, dir_node, no_nodes, more_nodes, children}
use Rattle.ddm_tree.specs.TreeModel.State.Leaf.{entry_at, state_at, waiting_item}
use Rattle.ddm_tree.specs.TreeModel.Turns.Children.{child_at}
use Rattle.ddm_tree.specs.TreeRules.Bus.Own.{IsLeafOk, one_waiting, state_waits, waits_alone}
use Rattle.ddm_tree.specs.TreeRules.Bus.Rules.{AreTreesOk, IsTreeOk}
use Rattle.ddm_tree.proofs.TreeRules.Implying.{implies-use}
use Rattle.ddm_tree.proofs.TreeRules.Lists.{each-from_range}
use Rattle.ddm_tree.proofs.BusLaws.HartFacts.{entries-from_rules, state-known, waiting-some}
use Rattle.ddm_tree.specs.Path.{node_at}
use Rattle.ddm_tree.proofs.StillWaits.{Still, node_awaits}
use Rattle.ddm_tree.proofs.Untold.{node_waits}

-- a path below what isn't there
pub nowhere : (q : List ℕ) → node_at q no_node ≡ no_node
nowhere [] = refl
nowhere (c ∷ q) = nowhere q

module _ (count : ℕ) where
  -- a node that is a leaf keeps its rules, or stands nowhere
  abbrev pub Ruled : Node → Type 0
  Ruled n = (v : LeafValue) → n ≡ leaf_node v → IsLeafOk count v ⊎ (v ≡ no_leaf)

  ruled-none : (q : List ℕ) → Ruled (node_at q no_node)
  ruled-none q v is =
      let both : leaf_node no_leaf ≡ leaf_node v = sym (nowhere q) ∙ is in
      let same : no_leaf ≡ v = cc in
      inr (sym same)

  mutual
    pub ruled-at : (q : List ℕ) (n : Node) → IsTreeOk count n → Ruled (node_at q n)
    ruled-at [] (leaf_node u) ok = λ v is.
        let same : u ≡ v = cc in
        inl (subst (IsLeafOk count) same ok)
    ruled-at [] (dir_node d ns) ok = λ v is. cc
    ruled-at (c ∷ q) (leaf_node u) ok = ruled-none q
    ruled-at (c ∷ q) (dir_node d ns) ok = ruled-among c q ns ok.1

    ruled-among : (c : ℕ) (q : List ℕ) (ns : Nodes) → AreTreesOk count ns → Ruled (node_at q (child_at c (children ns)))
    ruled-among c q no_nodes ok = ruled-none q
    ruled-among zero q (more_nodes m ns) ok = ruled-at q m ok.0
    ruled-among (suc c) q (more_nodes m ns) ok = ruled-among c q ns ok.1

  module _ (x : ℕ) where
    awaited-known : (v : LeafValue) → IsLeafOk count v → state_waits (state_at x v) ≡ true → x < count
    awaited-known v ok waits =
        elim (state_at x v) as (λ o. state_at x v ≡ o → x < count) [
          | Some s ↦ λ is. state-known count v.sizes v.ways v.buffer (entries-from_rules count v ok) x s is
          | None ↦ λ none. absurd (true≢false (sym waits ∙ ap state_waits none))
        ] refl

    reserved-one : (o : Option ℕ) → has_reserved o x ≡ true → o ≡ Some x
    reserved-one None is = absurd (true≢false (sym is))
    reserved-one (Some y) is = ap Some (eqb-true _ _ is)

    pub waits-for : (v : LeafValue) → IsLeafOk count v → state_waits (state_at x v) ≡ true → waiting_item v.ways v.buffer ≡ Some x
    waits-for v ok waits = reserved-one (waiting_item v.ways v.buffer) (implies-use _ _ (each-from_range (waits_alone v) count (ok.each one_waiting) x (awaited-known v ok waits)) waits)

    no_leaf-waits : waiting_item no_leaf.ways no_leaf.buffer ≡ Some x → ⊥
    unfolding waiting_item
    no_leaf-waits is = cc

    no_leaf-awaits : state_waits (state_at x no_leaf) ≡ true → ⊥
    unfolding entry_at
    no_leaf-awaits is = true≢false (sym is)

    awaits : (v : LeafValue) → IsLeafOk count v ⊎ (v ≡ no_leaf) → waiting_item v.ways v.buffer ≡ Some x → state_waits (state_at x v) ≡ true
    awaits v (inl ok) is = waiting-some count v.sizes v.ways v.buffer (entries-from_rules count v ok) x is
    awaits v (inr none) is = absurd (no_leaf-waits (ap (λ u. waiting_item u.ways u.buffer) (sym none) ∙ is))

    awaited : (v : LeafValue) → IsLeafOk count v ⊎ (v ≡ no_leaf) → state_waits (state_at x v) ≡ true → waiting_item v.ways v.buffer ≡ Some x
    awaited v (inl ok) is = waits-for v ok is
    awaited v (inr none) is = absurd (no_leaf-awaits (ap (λ u. state_waits (state_at x u)) (sym none) ∙ is))

    still-after : (m : Node) → Ruled m → node_awaits x m ≡ true → node_waits m ≡ Some x
    still-after (leaf_node v) ruled is = awaited v (ruled v refl) is
    still-after (dir_node d ns) ruled is = absurd (true≢false (sym is))

    -- where its entry waits on, so does the leaf
    pub still-waits : (n m : Node) → Ruled n → Ruled m → Still x n m → node_waits n ≡ Some x → node_waits m ≡ Some x
    still-waits (leaf_node v) m ruled later still is = still-after m later (still (awaits v (ruled v refl) is))
    still-waits (dir_node d ns) m ruled later still is = cc
