-- An item of which there is no copy, as each call says it.
use Rattle.std.proofs.Common.{◌≡◌, refl, ℕ, ◌<◌, Bool, true, false, cond, ◌||◌, List, [], ◌∷◌, ◌++◌, Some, None}
use Rattle.std.specs.List.{All, find, list_any}
use Rattle.std.proofs.lemmas.List.Elements.{All-push}
use Rattle.replacement.specs.TreeModel.State.Values.{CopyValue}
use Rattle.replacement.specs.TreeModel.State.Leaf.{is_copy}

module _ {X : Type 0} (p : X → Bool) where
  some-found : (xs : List X) (x : X) → find p xs ≡ Some x → list_any p xs ≡ true
  some-found [] x found = cc
  some-found (y ∷ xs) x found = by_test (p y) found (some-found xs x)
    where
      by_test : (b : Bool) → cond b (Some y) (find p xs) ≡ Some x → (find p xs ≡ Some x → list_any p xs ≡ true) → (b || list_any p xs) ≡ true
      by_test true h rest = refl
      by_test false h rest = rest h

  any-of-none : (xs : List X) → find p xs ≡ None → list_any p xs ≡ false
  any-of-none [] none = refl
  any-of-none (y ∷ xs) none = by_test (p y) none (any-of-none xs)
    where
      by_test : (b : Bool) → cond b (Some y) (find p xs) ≡ None → (find p xs ≡ None → list_any p xs ≡ false) → (b || list_any p xs) ≡ false
      by_test true h rest = cc
      by_test false h rest = rest h

  none-of-any : (xs : List X) → list_any p xs ≡ false → find p xs ≡ None
  none-of-any [] none = refl
  none-of-any (y ∷ xs) none = by_test (p y) none (none-of-any xs)
    where
      by_test : (b : Bool) → (b || list_any p xs) ≡ false → (list_any p xs ≡ false → find p xs ≡ None) → cond b (Some y) (find p xs) ≡ None
      by_test true h rest = cc
      by_test false h rest = rest h

pub has_copy : (x : ℕ) (cs : List CopyValue) (c : CopyValue) → find (is_copy x) cs ≡ Some c → list_any (is_copy x) cs ≡ true
has_copy x cs c found = some-found (is_copy x) cs c found

pub has_none : (x : ℕ) (cs : List CopyValue) → find (is_copy x) cs ≡ None → list_any (is_copy x) cs ≡ false
has_none x cs none = any-of-none (is_copy x) cs none

pub absent_copy : (x : ℕ) (cs : List CopyValue) → list_any (is_copy x) cs ≡ false → find (is_copy x) cs ≡ None
absent_copy x cs none = none-of-any (is_copy x) cs none

-- one copy more of an item below n
pub below_more : (n : ℕ) (cs : List CopyValue) (c : CopyValue) → All (λ c. c.item < n) cs → c.item < n → All (λ c. c.item < n) (cs ++ c ∷ [])
below_more n cs c all below = All-push (λ c. c.item < n) cs c all below
