-- No item stands twice in a list, as entries come, go and change.
use Rattle.std.proofs.Common.{◌≡◌, ◌≤◌, ◌∙◌, ap, refl, ℕ, Bool, true, false, cond, not, ◌&&◌, ◌||◌, nat_eq, List, [], ◌∷◌, ◌++◌, map, length, Some, None, arith}
use Rattle.std.specs.List.{find, filter, list_any}
use lib.ListN.{length-map}
use Rattle.std.proofs.lemmas.List.Sums.{length-filter, count_by-le-length}
use Rattle.std.proofs.lemmas.Bool.Decides.{nat_tests}
use Rattle.replacement.specs.TreeModel.State.Shape.{are_distinct}
use Rattle.replacement.specs.TreeModel.State.Leaf.{buffer_item}
use Rattle.replacement.specs.DdmTypes.declared.sizes.LeafState.{LeafState}
use Rattle.replacement.specs.TreeModel.State.Leaf.{is_buffered}
use Rattle.replacement.specs.TreeModel.State.Values.{BufferValue}
use Rattle.replacement.specs.TreeModel.State.Lists.{names_item}
use Rattle.replacement.specs.Arrived.{with_state, with_words, IsHeld}
use Rattle.replacement.specs.Places.{ArrivedList}

swapped : (a b : ℕ) → nat_eq a b ≡ false → nat_eq b a ≡ false
swapped a b e = grind (arith, nat_tests)

-- two tests in a row, taken apart and put together
pub left : (a b : Bool) → (not a && b) ≡ true → a ≡ false
left true b e = cc
left false b e = refl

pub right : (a b : Bool) → (not a && b) ≡ true → b ≡ true
right true b e = cc
right false b e = e

joined : (a b : Bool) → a ≡ false → b ≡ true → (not a && b) ≡ true
joined a b e h = rw (e, h) refl

neither : (a b : Bool) → a ≡ false → b ≡ false → (a || b) ≡ false
neither a b e h = rw (e, h) refl

pub first_fails : (a b : Bool) → (a || b) ≡ false → a ≡ false
first_fails true b e = cc
first_fails false b e = refl

pub rest_fails : (a b : Bool) → (a || b) ≡ false → b ≡ false
rest_fails true b e = cc
rest_fails false b e = e

module _ {X : Type 0} (named : X → ℕ) where
  other : (x : ℕ) (b : Bool) (y : X) (ys : List X) → cond b (Some y) (find (names_item named x) ys) ≡ None → b ≡ false
  other x true y ys e = cc
  other x false y ys e = refl

  later : (x : ℕ) (b : Bool) (y : X) (ys : List X) → cond b (Some y) (find (names_item named x) ys) ≡ None → find (names_item named x) ys ≡ None
  later x true y ys e = cc
  later x false y ys e = e

  any-append : (t : ℕ → Bool) (xs : List X) (e : X) → list_any t (map named xs) ≡ false → t (named e) ≡ false → list_any t (map named (xs ++ e ∷ [])) ≡ false
  any-append t [] e none fails = neither (t (named e)) false fails refl
  any-append t (y ∷ ys) e none fails =
      neither (t (named y)) (list_any t (map named (ys ++ e ∷ []))) (first_fails (t (named y)) (list_any t (map named ys)) none)
      (any-append t ys e (rest_fails (t (named y)) (list_any t (map named ys)) none) fails)

  any-filter : (t : ℕ → Bool) (p : X → Bool) (xs : List X) → list_any t (map named xs) ≡ false → list_any t (map named (filter p xs)) ≡ false
  any-filter t p [] none = refl
  any-filter t p (y ∷ ys) none = by_test (p y) (first_fails (t (named y)) _ none) (any-filter t p ys (rest_fails (t (named y)) _ none))
    where
      by_test : (b : Bool) → t (named y) ≡ false → list_any t (map named (filter p ys)) ≡ false → list_any t (map named (cond b (y ∷ filter p ys) (filter p ys))) ≡ false
      by_test true here rest = neither (t (named y)) _ here rest
      by_test false here rest = rest

  -- an entry of another item comes
  pub once-append : (xs : List X) (e : X) → are_distinct (map named xs) ≡ true → find (names_item named (named e)) xs ≡ None → are_distinct (map named (xs ++ e ∷ [])) ≡ true
  once-append [] e once fresh = refl
  once-append (y ∷ ys) e once fresh =
      let here = other (named e) (nat_eq (named e) (named y)) y ys fresh in
      let rest = later (named e) (nat_eq (named e) (named y)) y ys fresh in
      joined _ _
      (any-append (nat_eq (named y)) ys e (left _ (are_distinct (map named ys)) once) (swapped (named e) (named y) here))
      (once-append ys e (right (list_any (nat_eq (named y)) (map named ys)) _ once) rest)

  -- entries go
  pub once-filter : (p : X → Bool) (xs : List X) → are_distinct (map named xs) ≡ true → are_distinct (map named (filter p xs)) ≡ true
  once-filter p [] once = refl
  once-filter p (y ∷ ys) once =
      by_test (p y) (any-filter (nat_eq (named y)) p ys (left _ (are_distinct (map named ys)) once)) (once-filter p ys (right (list_any (nat_eq (named y)) (map named ys)) _ once))
    where
      by_test : (b : Bool) → list_any (nat_eq (named y)) (map named (filter p ys)) ≡ false → are_distinct (map named (filter p ys)) ≡ true → are_distinct (map named (cond b (y ∷ filter p ys) (filter p ys))) ≡ true
      by_test true here rest = joined _ _ here rest
      by_test false here rest = rest

  -- entries change, each of the same item as before
  pub named-map : (f : X → X) → ((e : X) → named (f e) ≡ named e) → (xs : List X) → map named (map f xs) ≡ map named xs
  named-map f same [] = refl
  named-map f same (y ∷ ys) = ap (λ n. n ∷ map named (map f ys)) (same y) ∙ ap (λ ns. named y ∷ ns) (named-map f same ys)

-- each entry changes and stays of its item
pub held_changed : {X : Type 0} (named : X → ℕ) (f : X → X) → ((e : X) → named (f e) ≡ named e) → {words : ℕ} (before after : ArrivedList X) → after ≡ record before { list = map f before.list } → IsHeld words (map named before.list) (length before.list) before.capacity → IsHeld words (map named after.list) (length after.list) after.capacity
held_changed named f same {words} before after is was = rw is (record {
  once = rw (named-map named f same before.list) was.once;
  within = rw (length-map before.list f) was.within;
  small = was.small;
  words_fit = was.words_fit;
})

pub state_item : (x : ℕ) (state : LeafState) (e : BufferValue) → buffer_item (with_state x state e) ≡ buffer_item e
state_item x state e = by_test (is_buffered x e)
  where
    by_test : (b : Bool) → buffer_item (cond b (record e { state = state }) e) ≡ buffer_item e
    by_test true = refl
    by_test false = refl

pub words_item : (x : ℕ) (words : List ℕ) (e : BufferValue) → buffer_item (with_words x words e) ≡ buffer_item e
words_item x words e = by_test (is_buffered x e)
  where
    by_test : (b : Bool) → buffer_item (cond b (record e { words = words }) e) ≡ buffer_item e
    by_test true = refl
    by_test false = refl

pub state_same : (x : ℕ) (state : LeafState) (e : BufferValue) → is_buffered x e ≡ false → with_state x state e ≡ e
state_same x state e other = rw other refl

pub words_same : (x : ℕ) (words : List ℕ) (e : BufferValue) → is_buffered x e ≡ false → with_words x words e ≡ e
words_same x words e other = rw other refl

pub fewer : {X : Type 0} (p : X → Bool) (xs : List X) → length (filter p xs) ≤ length xs
fewer p xs = omega (arith, length-filter p xs, count_by-le-length p xs)
