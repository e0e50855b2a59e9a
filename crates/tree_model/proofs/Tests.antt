-- What `||` and `&&` of two tests, and the first of two values, say of each.
use Rattle.std.proofs.Common.{◌≡◌, Bool, true, false, Option, Some, None, refl}
use Rattle.std.specs.Prelude.{not, ◌&&◌, ◌||◌}
use Rattle.tree_model.specs.State.Lists.{first_some, some_if}

pub or-false_first : (a b : Bool) → (a || b) ≡ false → a ≡ false
or-false_first true b e = e
or-false_first false b e = refl

pub or-false_second : (a b : Bool) → (a || b) ≡ false → b ≡ false
or-false_second true b e = cc
or-false_second false b e = e

pub and-first : (a b : Bool) → (a && b) ≡ true → a ≡ true
and-first true b e = refl
and-first false b e = e

pub and-second : (a b : Bool) → (a && b) ≡ true → b ≡ true
and-second true b e = e
and-second false b e = cc

pub and-both : (a b : Bool) → a ≡ true → b ≡ true → (a && b) ≡ true
and-both a b first second = rw (first, second) refl

pub first_some-none_first : {X : Type 0} (a b : Option X) → first_some a b ≡ None → a ≡ None
first_some-none_first None b e = refl
first_some-none_first (Some x) b e = e

pub first_some-none_second : {X : Type 0} (a b : Option X) → first_some a b ≡ None → b ≡ None
first_some-none_second None b e = e
first_some-none_second (Some x) b e = cc

pub not-true : (b : Bool) → not b ≡ true → b ≡ false
not-true true e = cc
not-true false e = refl

pub some_if-none : {X : Type 0} (b : Bool) (x : X) → some_if b x ≡ None → b ≡ false
some_if-none true x e = cc
some_if-none false x e = refl

-- a fact of both is one of the first that is there
pub first_some-either : {X : Type 0} (P : X → Type 0) (a b : Option X) → ((x : X) → a ≡ Some x → P x) → ((x : X) → b ≡ Some x → P x) → (x : X) → first_some a b ≡ Some x → P x
first_some-either P None b first second x e = second x e
first_some-either P (Some y) b first second x e = first x e
