-- Where a target is put among others.
use Rattle.std.proofs.Common.{◌≡◌, ℕ, suc, ◌+◌, ◌<◌, List, [], ◌∷◌, ◌++◌, length, take, drop, get_or, refl, ◌∙◌, arith}
use Rattle.std.specs.Prelude.{Bool, true, false, if◌then◌else◌}
use Rattle.std.specs.List.{insert, position_or_len}
use Rattle.litmus_model.specs.declared.parts.Target.{Target}
use Rattle.litmus_model.specs.Init.{same_target}
use Rattle.litmus_model.specs.Test.{is_before, with_target}
use Rattle.litmus_test.specs.Places.{is_at}

last_case : (b c : Bool) (x y : Target) (ys : List Target) → is_before x y ≡ b → same_target x y ≡ c → position_or_len (is_at x) (y ∷ ys) ≡ length (y ∷ ys)
    → (position_or_len (is_at x) ys ≡ length ys → with_target ys x ≡ ys ++ x ∷ []) → with_target (y ∷ ys) x ≡ y ∷ ys ++ x ∷ []
unfolding with_target
last_case true c x y ys before same none rest = let zero : 0 ≡ suc (length ys) = rw before at none in absurd (omega (arith, zero))
last_case false true x y ys before same none rest = let zero : 0 ≡ suc (length ys) = rw (before, same) at none in absurd (omega (arith, zero))
last_case false false x y ys before same none rest =
    let next : 1 + position_or_len (is_at x) ys ≡ suc (length ys) = rw (before, same) at none in
    rw (before, same, rest (omega (arith, next))) refl

pub last_place : (x : Target) (ys : List Target) → position_or_len (is_at x) ys ≡ length ys → with_target ys x ≡ ys ++ x ∷ []
unfolding with_target
last_place x [] none = refl
last_place x (y ∷ ys) none = last_case (is_before x y) (same_target x y) x y ys refl refl none (last_place x ys)

with_first : (b : Bool) (y : Target) (ps qs : List Target) → y ∷ (if b then ps else qs) ≡ (if b then y ∷ ps else y ∷ qs)
with_first true y ps qs = refl
with_first false y ps qs = refl

place_case : (b c : Bool) (x y : Target) (ys : List Target) (n : ℕ) (d : Target) → is_before x y ≡ b → same_target x y ≡ c → position_or_len (is_at x) (y ∷ ys) ≡ n → n < suc (length ys)
    → ((m : ℕ) → position_or_len (is_at x) ys ≡ m → m < length ys → with_target ys x ≡ (if is_before x (get_or ys m d) then insert ys m x else ys))
    → with_target (y ∷ ys) x ≡ (if is_before x (get_or (y ∷ ys) n d) then insert (y ∷ ys) n x else y ∷ ys)
unfolding with_target
place_case true c x y ys n d before same here inside rest =
    let zero : 0 ≡ n = rw before at here in
    rw (← zero, before) refl
place_case false true x y ys n d before same here inside rest =
    let zero : 0 ≡ n = rw (before, same) at here in
    rw (← zero, before, same) refl
place_case false false x y ys n d before same here inside rest =
    let one_more : 1 + position_or_len (is_at x) ys ≡ n = rw (before, same) at here in
    let m = position_or_len (is_at x) ys in
    let next : suc (position_or_len (is_at x) ys) ≡ n = omega (arith, one_more) in
    rw (← next, before, same, rest m refl (omega (arith, next, inside)))
    (with_first (is_before x (get_or ys m d)) y (take m ys ++ x ∷ drop m ys) ys)

at_place : (x : Target) (ys : List Target) (n : ℕ) (d : Target) → position_or_len (is_at x) ys ≡ n → n < length ys
    → with_target ys x ≡ (if is_before x (get_or ys n d) then insert ys n x else ys)
at_place x [] n d here inside = absurd (omega (arith, inside))
at_place x (y ∷ ys) n d here inside = place_case (is_before x y) (same_target x y) x y ys n d refl refl here inside (λ m. at_place x ys m d)

pub put_in : (x : Target) (ys : List Target) (n : ℕ) → position_or_len (is_at x) ys ≡ n → n < length ys → is_before x (get_or ys n x) ≡ true → with_target ys x ≡ insert ys n x
put_in x ys n here inside before = at_place x ys n x here inside ∙ rw before refl

pub stays : (x : Target) (ys : List Target) (n : ℕ) → position_or_len (is_at x) ys ≡ n → n < length ys → is_before x (get_or ys n x) ≡ false → with_target ys x ≡ ys
stays x ys n here inside other = at_place x ys n x here inside ∙ rw other refl
