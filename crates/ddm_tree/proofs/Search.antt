-- The search for a path among the children, while a loop goes over them, seen through f.
use Rattle.std.proofs.Common.{◌≡◌, ◌<◌, ◌≤◌, ℕ, zero, suc, ◌+◌, ◌++◌, List, [], ◌∷◌, length, map, drop, get_or, Option, Some, None, option_map, refl, sym, ap, subst, ◌∙◌, arith, add-one, reverse, All, true, false}
use Rattle.std.specs.Prelude.{nat_lt, slice_get}
use Rattle.std.proofs.lemmas.Bool.{ltb-true}
use Rattle.std.proofs.lemmas.Bool.Decides.{nat_tests}
use Rattle.std.proofs.lemmas.List.{get_or-map, length-append, length-map, drop_all}
use mathlib.Core.List.{reverse-cons}
use Rattle.std.proofs.lemmas.List.Elements.{All-get_or}
use Rattle.ddm_tree.specs.TreeModel.State.Lists.{first_some}
use Rattle.ddm_tree.specs.TreeModel.State.Values.{Node, nodes}
use Rattle.ddm_tree.specs.TreeModel.State.Shape.{skeleton, skeletons}
use Rattle.ddm_tree.specs.TreeModel.Turns.Tree.{Name}
use Rattle.ddm_tree.specs.Path.{step_down, path_to, path_among}

drop-here : {X : Type 0} (i : ℕ) (xs : List X) (d : X) → i < length xs → drop i xs ≡ get_or xs i d ∷ drop (suc i) xs
drop-here i [] d h = absurd (omega arith)
drop-here zero (x ∷ xs) d h = refl
drop-here (suc i) (x ∷ xs) d h = drop-here i xs d (omega arith)

drop-first : {X : Type 0} (i : ℕ) (xs : List X) (d : X) → i < length xs → drop i xs ≡ get_or xs i d ∷ drop (i + 1) xs
drop-first i xs d h = drop-here i xs d h ∙ ap (λ k. get_or xs i d ∷ drop k xs) (sym (add-one i))

-- the search from child i on
abbrev pub search_from : Name → ℕ → List Node → Option (List ℕ)
search_from name i ns = path_among name i (skeletons (nodes (drop i ns)))

pub search-end : (name : Name) (i : ℕ) (ns : List Node) → length ns ≤ i → search_from name i ns ≡ None
search-end name i ns h = ap (λ ms. path_among name i (skeletons (nodes ms))) (drop_all i ns h)

module _ {A : Type 0} (f : A → Node) (xs : List A) (name : Name) (i : ℕ) (within : i < length xs) (x : A) (is : x ≡ get_or xs i x) where
  search-next : search_from name i (map f xs) ≡ first_some (option_map (step_down i) (path_to name (skeleton (f x)))) (search_from name (i + 1) (map f xs))
  search-next =
      let first : drop i (map f xs) ≡ f x ∷ drop (i + 1) (map f xs) = drop-first i (map f xs) (f x) (omega (arith, within, length-map xs f)) ∙ ap (λ n. n ∷ drop (i + 1) (map f xs)) (get_or-map f xs i x (f x) within ∙ ap f (sym is)) in
      ap (λ ns. path_among name i (skeletons (nodes ns))) first

  pub search-found : (path : List ℕ) → path_to name (skeleton (f x)) ≡ Some path → search_from name i (map f xs) ≡ Some (i ∷ path)
  search-found path e = search-next ∙ ap (λ o. first_some (option_map (step_down i) o) (search_from name (i + 1) (map f xs))) e

  pub search-past : path_to name (skeleton (f x)) ≡ None → search_from name i (map f xs) ≡ search_from name (i + 1) (map f xs)
  search-past e = search-next ∙ ap (λ o. first_some (option_map (step_down i) o) (search_from name (i + 1) (map f xs))) e

-- a path from its end on, and one step more
pub reversed-found : (found : Option (List ℕ)) (up : List ℕ) → Some up ≡ option_map reverse found → (path : List ℕ) × (found ≡ Some path) × (up ≡ reverse path)
reversed-found None up e = cc
reversed-found (Some path) up e =
    let same : up ≡ reverse path = cc in
    (path, refl, same)

pub reversed-none : (found : Option (List ℕ)) → None ≡ option_map reverse found → found ≡ None
reversed-none None e = refl
reversed-none (Some path) e = cc

-- what holds of each child holds of the one at i
pub here-all : {A : Type 0} (f : A → Node) (xs : List A) (i : ℕ) (x : A) → i < length xs → x ≡ get_or xs i x → (P : Node → Type 0) → All P (map f xs) → P (f x)
here-all f xs i x within is P all =
    let here = All-get_or P (map f xs) i (f x) (omega (arith, length-map xs f)) all in
    rw (get_or-map f xs i x (f x) within, ← is) at here

pub reversed-step : (i : ℕ) (path : List ℕ) → reverse (i ∷ path) ≡ reverse path ++ i ∷ []
reversed-step i path = reverse-cons i path

-- ---- a list of paths with one more at its end

slice_get-pushed : {X : Type 0} (f : X → List ℕ) (xs : List X) (x : X) (k : ℕ) → k ≡ length xs → slice_get (map f (xs ++ x ∷ [])) k ≡ Some (f x)
slice_get-pushed f [] x zero e = refl
slice_get-pushed f [] x (suc k) e = absurd (omega (arith, e))
slice_get-pushed f (y ∷ ys) x zero e = absurd (omega (arith, e))
slice_get-pushed f (y ∷ ys) x (suc k) e = slice_get-pushed f ys x k (omega (arith, e))

slice_get-before : {X : Type 0} (f : X → List ℕ) (xs : List X) (x : X) (k : ℕ) → k < length xs → slice_get (map f (xs ++ x ∷ [])) k ≡ slice_get (map f xs) k
slice_get-before f [] x k l = absurd (omega (arith, l))
slice_get-before f (y ∷ ys) x zero l = refl
slice_get-before f (y ∷ ys) x (suc k) l = slice_get-before f ys x k (omega (arith, l))

pub one-more : {X : Type 0} (xs : List X) (x : X) (n : ℕ) → length xs ≡ n → length (xs ++ x ∷ []) ≡ n + 1
one-more xs x n size =
    let whole = length-append xs (x ∷ []) in
    omega (arith, whole, size)

pub one-listed : {X : Type 0} (f : X → List ℕ) (P : ℕ → List ℕ → Type 0) (xs : List X) (x : X) (n : ℕ) → length xs ≡ n → ((k : ℕ) (path : List ℕ) → k < n → P k path → slice_get (map f xs) k ≡ Some path) → ((path : List ℕ) → P n path → f x ≡ path)
    → (k : ℕ) (path : List ℕ) → k < n + 1 → P k path → slice_get (map f (xs ++ x ∷ [])) k ≡ Some path
one-listed f P xs x n size old new k path below is =
    elim (nat_lt k n) as (λ b. nat_lt k n ≡ b → slice_get (map f (xs ++ x ∷ [])) k ≡ Some path) [
      | true ↦ λ e.
          let before : k < n = ltb-true k n e in
          slice_get-before f xs x k (omega (arith, before, size)) ∙ old k path before is
      | false ↦ λ e.
          let here : k ≡ n = grind (arith, nat_tests, below, e) in
          slice_get-pushed f xs x k (omega (arith, here, size)) ∙ ap Some (new path (subst (λ i. P i path) here is))
    ] refl
