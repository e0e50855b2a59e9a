-- The children of a bus as a list: what maps and searches over them give at each number.
use Rattle.std.proofs.Common.{◌≡◌, ℕ, zero, suc, ◌+◌, ◌<◌, ◌≤◌, Bool, true, false, List, [], ◌∷◌, map, length, Option, Some, None, refl, ap, subst, ◌∙◌, arith}
use Rattle.std.specs.Prelude.{nat_eq, slice_index_or, slice_set}
use Rattle.std.proofs.lemmas.Bool.{eq-eqb, ne_eqb}
use Rattle.std.proofs.lemmas.List.{set_past}
use Rattle.tree_model.specs.State.Lists.{map_from, find_from, first_given}
use Rattle.tree_model.specs.State.Values.{Node, Nodes, no_nodes, more_nodes, nodes, children}
use Rattle.tree_model.specs.State.Blank.{no_node}
use Rattle.tree_model.specs.Turns.Children.{child_at, only}
use Rattle.tree_model.proofs.Tests.{first_some-none_first, first_some-none_second}

-- ---- the two forms of a list of nodes

pub children-nodes : (ns : List Node) → children (nodes ns) ≡ ns
children-nodes [] = refl
children-nodes (n ∷ ns) = ap (λ ms. n ∷ ms) (children-nodes ns)

pub nodes-children : (ns : Nodes) → nodes (children ns) ≡ ns
nodes-children no_nodes = refl
nodes-children (more_nodes n ns) = ap (more_nodes n) (nodes-children ns)

-- ---- maps

module _ {X : Type 0} (g : ℕ → X → X) where
  pub map_from-length : (i : ℕ) (xs : List X) → length (map_from g i xs) ≡ length xs
  map_from-length i [] = refl
  map_from-length i (x ∷ xs) = ap suc (map_from-length (i + 1) xs)

  -- the element at an index
  pub map_from-at : (i k : ℕ) (xs : List X) (d : X) → k < length xs → slice_index_or (map_from g i xs) k d ≡ g (i + k) (slice_index_or xs k d)
  map_from-at i k [] d within = absurd (omega arith)
  map_from-at i zero (x ∷ xs) d within =
      let same : i + 0 ≡ i = omega arith in
      rw same refl
  map_from-at i (suc k) (x ∷ xs) d within =
      let same : i + suc k ≡ (i + 1) + k = omega arith in
      let inside : k < length xs = omega arith in
      rw same (map_from-at (i + 1) k xs d inside)

  pub map_from-past : (i k : ℕ) (xs : List X) (d : X) → length xs ≤ k → slice_index_or (map_from g i xs) k d ≡ d
  map_from-past i k [] d past = refl
  map_from-past i zero (x ∷ xs) d past = absurd (omega arith)
  map_from-past i (suc k) (x ∷ xs) d past =
      let inside : length xs ≤ k = omega arith in
      map_from-past (i + 1) k xs d inside

  -- what each change of an element keeps, the map keeps
  pub map_from-keeps : {Y : Type 0} (f : X → Y) → ((i : ℕ) (x : X) → f (g i x) ≡ f x) → (i : ℕ) (xs : List X) → map f (map_from g i xs) ≡ map f xs
  map_from-keeps f kept i [] = refl
  map_from-keeps f kept i (x ∷ xs) = rw (kept i x) (ap (λ ys. f x ∷ ys) (map_from-keeps f kept (i + 1) xs))

  -- a map that changes nothing
  pub map_from-same : ((i : ℕ) (x : X) → g i x ≡ x) → (i : ℕ) (xs : List X) → map_from g i xs ≡ xs
  map_from-same same i [] = refl
  map_from-same same i (x ∷ xs) = rw (same i x) (ap (λ ys. x ∷ ys) (map_from-same same (i + 1) xs))

-- ---- one child alone

module _ (c : ℕ) (f : Node → Node) where
  only-behind : (i : ℕ) (ns : List Node) → c < i → map_from (only c f) i ns ≡ ns
  only-behind i [] behind = refl
  only-behind i (n ∷ ns) behind =
      let other : nat_eq i c ≡ false = ne_eqb i c (λ same. omega arith) in
      let later : c < i + 1 = omega arith in
      rw other (ap (λ ms. n ∷ ms) (only-behind (i + 1) ns later))

  only-from : (i k : ℕ) (ns : List Node) → c ≡ i + k → map_from (only c f) i ns ≡ slice_set ns k (f (child_at k ns))
  only-from i k [] place = refl
  only-from i zero (n ∷ ns) place =
      let same : i ≡ c = omega arith in
      let here : nat_eq i c ≡ true = eq-eqb i c same in
      let later : c < i + 1 = omega arith in
      rw here (ap (λ ms. f n ∷ ms) (only-behind (i + 1) ns later))
  only-from i (suc k) (n ∷ ns) place =
      let before : i < c = omega arith in
      let other : nat_eq i c ≡ false = ne_eqb i c (λ same. omega arith) in
      let later : c ≡ (i + 1) + k = omega arith in
      rw other (ap (λ ms. n ∷ ms) (only-from (i + 1) k ns later))

  -- one child set to what becomes of it
  pub only-set : (ns : List Node) → map_from (only c f) 0 ns ≡ slice_set ns c (f (child_at c ns))
  only-set ns = only-from 0 c ns (omega arith)

  -- a child that isn't there
  pub only-absent : (ns : List Node) → length ns ≤ c → map_from (only c f) 0 ns ≡ ns
  only-absent ns absent = only-set ns ∙ set_past ns c _ absent

-- ---- a child by its number

pub child_at-map_from : (g : ℕ → Node → Node) (k : ℕ) (ns : List Node) → k < length ns → child_at k (map_from g 0 ns) ≡ g k (child_at k ns)
child_at-map_from g k ns within =
    let none : 0 + k ≡ k = omega arith in
    map_from-at g 0 k ns no_node within ∙ ap (λ i. g i (child_at k ns)) none

-- ---- searches

module _ {X : Type 0} (t : ℕ → X → Bool) where
  -- what is found passes, and stands there
  find_from-passes : (i j : ℕ) (xs : List X) (d : X) → find_from t i xs ≡ Some j → (k : ℕ) × (j ≡ i + k) × (k < length xs) × (t j (slice_index_or xs k d) ≡ true)
  find_from-passes i j [] d found = cc
  find_from-passes i j (x ∷ xs) d found =
      elim (t i x) as (λ b. t i x ≡ b → (k : ℕ) × (j ≡ i + k) × (k < length (x ∷ xs)) × (t j (slice_index_or (x ∷ xs) k d) ≡ true)) [
        | true ↦ λ passes.
            let here : Some i ≡ Some j = rw passes at found in
            let same : i ≡ j = cc in
            (0, omega arith, omega arith, subst (λ k. t k x ≡ true) same passes)
        | false ↦ λ fails.
            let rest : find_from t (i + 1) xs ≡ Some j = rw fails at found in
            let later = find_from-passes (i + 1) j xs d rest in
            let place : j ≡ (i + 1) + later.0 = later.1 in
            let inside : later.0 < length xs = later.2 in
            (suc later.0, omega arith, omega arith, later.3)
      ] refl

  none_found-first : (i : ℕ) (x : X) (xs : List X) → find_from t i (x ∷ xs) ≡ None → t i x ≡ false
  none_found-first i x xs none =
      elim (t i x) as (λ b. t i x ≡ b → b ≡ false) [
        | true ↦ λ passes.
            let here : Some i ≡ None = rw passes at none in
            cc
        | false ↦ λ fails. refl
      ] refl

  none_found-rest : (i : ℕ) (x : X) (xs : List X) → find_from t i (x ∷ xs) ≡ None → find_from t (i + 1) xs ≡ None
  none_found-rest i x xs none =
      let fails = none_found-first i x xs none in
      rw fails at none

  -- where nothing is found, each fails
  find_from-fails : (i k : ℕ) (xs : List X) (d : X) → find_from t i xs ≡ None → k < length xs → t (i + k) (slice_index_or xs k d) ≡ false
  find_from-fails i k [] d none within = absurd (omega arith)
  find_from-fails i zero (x ∷ xs) d none within =
      let same : i + 0 ≡ i = omega arith in
      rw same (none_found-first i x xs none)
  find_from-fails i (suc k) (x ∷ xs) d none within =
      let same : i + suc k ≡ (i + 1) + k = omega arith in
      let inside : k < length xs = omega arith in
      rw same (find_from-fails (i + 1) k xs d (none_found-rest i x xs none) inside)

  -- the child that is found passes, and is there
  pub found-passes : (k : ℕ) (xs : List X) (d : X) → find_from t 0 xs ≡ Some k → t k (slice_index_or xs k d) ≡ true
  found-passes k xs d found =
      let place = find_from-passes 0 k xs d found in
      let same : place.0 ≡ k = omega (arith, place.1) in
      subst (λ j. t k (slice_index_or xs j d) ≡ true) same place.3

  pub found-within : (k : ℕ) (xs : List X) → X → find_from t 0 xs ≡ Some k → k < length xs
  found-within k xs d found =
      let place = find_from-passes 0 k xs d found in
      omega (arith, place.1, place.2)

  -- where nothing is found, no child passes
  pub none-passes : (k : ℕ) (xs : List X) (d : X) → find_from t 0 xs ≡ None → k < length xs → t k (slice_index_or xs k d) ≡ false
  none-passes k xs d none within =
      let same : 0 + k ≡ k = omega arith in
      let fails : t (0 + k) (slice_index_or xs k d) ≡ false = find_from-fails 0 k xs d none within in
      subst (λ j. t j (slice_index_or xs k d) ≡ false) same fails

module _ {X Y : Type 0} (g : ℕ → X → Option Y) where
  -- where nothing is given, no element gives anything
  pub first_given-none : (i k : ℕ) (xs : List X) (d : X) → first_given g i xs ≡ None → k < length xs → g (i + k) (slice_index_or xs k d) ≡ None
  first_given-none i k [] d none within = absurd (omega arith)
  first_given-none i zero (x ∷ xs) d none within =
      let same : i + 0 ≡ i = omega arith in
      rw same (first_some-none_first _ _ none)
  first_given-none i (suc k) (x ∷ xs) d none within =
      let same : i + suc k ≡ (i + 1) + k = omega arith in
      let inside : k < length xs = omega arith in
      rw same (first_given-none (i + 1) k xs d (first_some-none_second _ _ none) inside)

  pub none-given : (k : ℕ) (xs : List X) (d : X) → first_given g 0 xs ≡ None → k < length xs → g k (slice_index_or xs k d) ≡ None
  none-given k xs d none within =
      let same : 0 + k ≡ k = omega arith in
      subst (λ j. g j (slice_index_or xs k d) ≡ None) same (first_given-none 0 k xs d none within)
