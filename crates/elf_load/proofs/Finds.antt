-- A search through numbers in order, one number at a time.
use Rattle.std.proofs.Common.{◌≡◌, ℕ, suc, ◌+◌, ◌-◌, ◌<◌, Bool, true, false, ◌∷◌, Option, Some, None, refl, arith}
use Rattle.std.specs.Prelude.{find}
use Rattle.std.specs.List.{range_with_len}

-- the first from a on and below b
abbrev pub find_between : (ℕ → Bool) → ℕ → ℕ → Option ℕ
find_between p a b = find p (range_with_len a (b - a))

range_between : (a b : ℕ) → a < b → range_with_len a (b - a) ≡ a ∷ range_with_len (a + 1) (b - (a + 1))
range_between a b h =
    let e : b - a ≡ suc (b - (a + 1)) = omega arith in
    rw e refl

pub find_next : (p : ℕ → Bool) (a b : ℕ) → a < b → p a ≡ false → find_between p a b ≡ find_between p (a + 1) b
find_next p a b h fails = rw (range_between a b h, fails) refl

pub find_here : (p : ℕ → Bool) (a b : ℕ) → a < b → p a ≡ true → find_between p a b ≡ Some a
find_here p a b h holds = rw (range_between a b h, holds) refl

pub find_none : (p : ℕ → Bool) (a b : ℕ) → b ≡ a → find_between p a b ≡ None
find_none p a b e =
    let z : b - a ≡ 0 = omega arith in
    rw z refl
