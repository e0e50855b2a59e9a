-- Lists and children: what is empty, what stands where, and what each child passes.
use Rattle.std.proofs.Common.{◌≡◌, ◌≢◌, ℕ, zero, suc, ◌<◌, Bool, true, List, [], ◌∷◌, length, Option, Some, None, refl, sym, subst, arith, get_or-set_same, get_or-set_other}
use Rattle.std.specs.Prelude.{not, is_none, slice_index_or, slice_set}
use Rattle.std.specs.List.{list_all}
use native.Mathlib.Decide.{ℕ_discrete}
use Rattle.std.proofs.lemmas.Bool.{and_parts, true≢false}
use Rattle.std.proofs.lemmas.List.{length-set}
use Rattle.serving_model.specs.TreeModel.State.Lists.{map_from, has_some}
use Rattle.serving_model.specs.TreeModel.State.Values.{DirValue, LeafValue, Node, Nodes, leaf_node, dir_node, no_nodes, more_nodes, children}
use Rattle.serving_model.specs.TreeModel.State.Blank.{no_node}
use Rattle.serving_model.specs.TreeModel.Turns.Children.{child_at, only}
use Rattle.serving_model.proofs.TreeModel.Children.{only-set}

-- ---- empty lists

pub empty : {X : Type 0} (xs : List X) → not (has_some xs) ≡ true → xs ≡ []
empty [] e = refl
empty (x ∷ xs) e = absurd (true≢false (sym e))

pub nothing : {X : Type 0} (o : Option X) → is_none o ≡ true → o ≡ None
nothing None e = refl
nothing (Some x) e = absurd (true≢false (sym e))

-- what passes for all, and for what stands where nothing is, passes at each place
pub pass-at : {X : Type 0} (t : X → Bool) (d : X) → t d ≡ true → (xs : List X) → list_all t xs ≡ true → (k : ℕ) → t (slice_index_or xs k d) ≡ true
pass-at t d none [] all k = none
pass-at t d none (x ∷ xs) all zero = (and_parts (t x) (list_all t xs) all).0
pass-at t d none (x ∷ xs) all (suc k) = pass-at t d none xs (and_parts (t x) (list_all t xs) all).1 k

-- what passes at each place passes for all
pub pass-each : {X : Type 0} (t : X → Bool) (d : X) (xs : List X) → ((k : ℕ) → k < length xs → t (slice_index_or xs k d) ≡ true) → list_all t xs ≡ true
pass-each t d [] each = refl
pass-each t d (x ∷ xs) each =
    let first : t x ≡ true = each 0 (omega arith) in
    let rest : list_all t xs ≡ true = pass-each t d xs (λ k l. each (suc k) (omega (arith, l))) in
    rw (first, rest) refl

-- ---- children

-- a fact of every part of the tree, by what is below it
mutual
  pub part-induction : (P : Node → Type 0) → ((v : LeafValue) → P (leaf_node v)) → ((d : DirValue) (ns : Nodes) → ((k : ℕ) → k < length (children ns) → P (child_at k (children ns))) → P (dir_node d ns)) → (m : Node) → P m
  part-induction P leaf dir (leaf_node v) = leaf v
  part-induction P leaf dir (dir_node d ns) = dir d ns (parts-induction P leaf dir ns)

  parts-induction : (P : Node → Type 0) → ((v : LeafValue) → P (leaf_node v)) → ((d : DirValue) (ns : Nodes) → ((k : ℕ) → k < length (children ns) → P (child_at k (children ns))) → P (dir_node d ns)) → (ns : Nodes) (k : ℕ) → k < length (children ns) → P (child_at k (children ns))
  parts-induction P leaf dir no_nodes k l = absurd (omega (arith, l))
  parts-induction P leaf dir (more_nodes m ns) zero l = part-induction P leaf dir m
  parts-induction P leaf dir (more_nodes m ns) (suc k) l = parts-induction P leaf dir ns k (omega (arith, l))

module _ (P : Node → Type 0) (k : ℕ) (ns : List Node) where
  -- child k is set
  pub set-each : (c : Node) → ((j : ℕ) → j < length ns → j ≢ k → P (child_at j ns)) → P c → (j : ℕ) → j < length (slice_set ns k c) → P (child_at j (slice_set ns k c))
  set-each c others here j l = at (ℕ_discrete j k) where
    within : j < length ns
    within = subst (λ n. j < n) (length-set ns k c) l

    at : Dec (j ≡ k) → P (child_at j (slice_set ns k c))
    at (yes same) =
        let there : k < length ns = subst (λ i. i < length ns) same within in
        subst (λ i. P (child_at i (slice_set ns k c))) (sym same) (subst P (sym (get_or-set_same ns k c no_node there)) here)
    at (no other) = subst P (sym (get_or-set_other ns k j c no_node other)) (others j within other)

  -- child k is changed alone
  pub only-each : (f : Node → Node) → ((j : ℕ) → j < length ns → j ≢ k → P (child_at j ns)) → P (f (child_at k ns)) → (j : ℕ) → j < length (map_from (only k f) 0 ns) → P (child_at j (map_from (only k f) 0 ns))
  only-each f others here = subst (λ ms. (j : ℕ) → j < length ms → P (child_at j ms)) (sym (only-set k f ns)) (set-each (f (child_at k ns)) others here)
