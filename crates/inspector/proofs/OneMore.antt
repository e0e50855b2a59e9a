-- The first elements of a list, and one more.
use Rattle.std.proofs.Common.{◌≡◌, ◌<◌, ℕ, zero, suc, ◌+◌, ◌++◌, List, [], ◌∷◌, length, map, take, get_or, Some, refl, ap, ◌∙◌, arith, add-one, zero-add}
use Rattle.std.specs.Prelude.{slice_get}
use Rattle.std.specs.List.{flat_map, range_with_len}
use Rattle.std.proofs.lemmas.List.{append-nil}
use Rattle.std.proofs.lemmas.List.FromFn.{length-range_with_len, get_or-range_with_len}
use Rattle.std.proofs.lemmas.Grind.{flat_map-append}

module _ {X : Type 0} where
  pub taken-one : (xs : List X) (k : ℕ) (x : X) → slice_get xs k ≡ Some x → take (suc k) xs ≡ take k xs ++ x ∷ []
  taken-one [] k x is = cc
  taken-one (y ∷ ys) zero x is = cc
  taken-one (y ∷ ys) (suc k) x is = ap (λ zs. y ∷ zs) (taken-one ys k x is)

  pub got-some : (xs : List X) (k : ℕ) (d : X) → k < length xs → slice_get xs k ≡ Some (get_or xs k d)
  got-some [] k d l = absurd (omega (arith, l))
  got-some (y ∷ ys) zero d l = refl
  got-some (y ∷ ys) (suc k) d l = got-some ys k d (omega (arith, l))

  pub item-there : (xs : List X) (k : ℕ) → k < length xs → (x : X) × (slice_get xs k ≡ Some x)
  item-there [] k l = absurd (omega (arith, l))
  item-there (x ∷ xs) zero l = (x, refl)
  item-there (x ∷ xs) (suc k) l = item-there xs k (omega (arith, l))

  -- what f gives of one element more
  pub more-of : {Y : Type 0} (f : X → List Y) (xs : List X) (k : ℕ) (x : X) → slice_get xs k ≡ Some x → flat_map f (take (k + 1) xs) ≡ flat_map f (take k xs) ++ f x
  more-of f xs k x is = rw (add-one, taken-one xs k x is) (flat_map-append f (take k xs) (x ∷ []) ∙ ap (λ t. flat_map f (take k xs) ++ t) (append-nil (f x)))

-- the number k stands at place k
pub number-here : (n k : ℕ) → k < n → slice_get (range_with_len 0 n) k ≡ Some k
number-here n k l = got-some (range_with_len 0 n) k 0 (omega (arith, l, length-range_with_len 0 n)) ∙ ap Some (get_or-range_with_len 0 n k 0 l ∙ zero-add k)

pub mapped-at : {X Y : Type 0} (f : X → Y) (xs : List X) (k : ℕ) (x : X) → slice_get xs k ≡ Some x → slice_get (map f xs) k ≡ Some (f x)
mapped-at f [] k x is = cc
mapped-at f (y ∷ ys) zero x is =
    let same : y ≡ x = cc in
    ap (λ z. Some (f z)) same
mapped-at f (y ∷ ys) (suc k) x is = mapped-at f ys k x is

-- three parts, one behind the other
pub joined : {X : Type 0} (none first second third a b c : List X) → none ≡ [] → first ≡ none ++ a → second ≡ first ++ b → third ≡ second ++ c → third ≡ a ++ b ++ c
joined none first second third a b c empty one two three = three ∙ ap (λ l. l ++ c) (two ∙ ap (λ l. l ++ b) (one ∙ ap (λ l. l ++ a) empty))
