-- Places in lists.
-- Letters: xs are things, x is the one at place k.
use Rattle.std.proofs.Common.{◌≡◌, ℕ, zero, suc, ◌<◌, true, List, [], ◌∷◌, map, length, Option, Some, None, refl, sym, ap, ◌∙◌, inl, inr, true≢false, arith}
use Rattle.std.specs.Prelude.{is_some, slice_get, slice_index_or}
use Rattle.search_laws.specs.Space.{IsOneOf}

pub record There {X : Type 0} (xs : List X) (k : ℕ) : Type 0 where
  pub one : X
  pub at : slice_get xs k ≡ Some one

pub get-there : {X : Type 0} (xs : List X) (k : ℕ) → k < length xs → There xs k
get-there [] k less = absurd (omega (arith, less))
get-there (x ∷ xs) zero less = record { one = x; at = refl }
get-there (x ∷ xs) (suc k) less =
    let there = get-there xs k (omega (arith, less)) in
    record { one = there.one; at = there.at }

pub get-one : {X : Type 0} (xs : List X) (k : ℕ) (x : X) → slice_get xs k ≡ Some x → IsOneOf xs x
get-one [] k x is = cc
get-one (y ∷ ys) zero x is =
    let same : y ≡ x = cc in
    inl same
get-one (y ∷ ys) (suc k) x is = inr (get-one ys k x is)

pub some-there : {X : Type 0} (o : Option X) → is_some o ≡ true → (x : X) × (o ≡ Some x)
some-there None e = absurd (true≢false (sym e))
some-there (Some x) e = (x, refl)

pub or-found : {X : Type 0} (xs : List X) (k : ℕ) (d x : X) → slice_get xs k ≡ Some x → slice_index_or xs k d ≡ x
or-found [] k d x is = cc
or-found (y ∷ ys) zero d x is = let same : y ≡ x = cc in same
or-found (y ∷ ys) (suc k) d x is = or-found ys k d x is

-- what is got whatever there would be else
pub got-at : {X : Type 0} (xs : List X) (k : ℕ) (x : X) → k < length xs → ((d : X) → x ≡ slice_index_or xs k d) → slice_get xs k ≡ Some x
got-at xs k x less is =
    let there = get-there xs k less in
    there.at ∙ ap Some (sym (is x ∙ or-found xs k x there.one there.at))

pub got : {X Y : Type 0} (f : X → Y) (xs : List X) (k : ℕ) (x : X) → slice_get xs k ≡ Some x → slice_get (map f xs) k ≡ Some (f x)
got f [] k x is = cc
got f (y ∷ ys) zero x is = let same : y ≡ x = cc in ap (λ z. Some (f z)) same
got f (y ∷ ys) (suc k) x is = got f ys k x is

-- what is got, by itself
pub got-own : {X : Type 0} (xs : List X) (k : ℕ) (x : X) → k < length xs → x ≡ slice_index_or xs k x → slice_get xs k ≡ Some x
got-own xs k x less is =
    let there = get-there xs k less in
    there.at ∙ ap Some (sym (is ∙ or-found xs k x there.one there.at))
