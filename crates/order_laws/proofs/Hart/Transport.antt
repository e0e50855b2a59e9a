-- Statements of each element of a list, where the list has one more, or each element has become another.
use Rattle.std.proofs.Common.{◌≡◌, Bool, true, false, ◌||◌, List, [], ◌∷◌, ◌++◌, refl, ap₂}
use Rattle.std.specs.List.{AllByRecursion, list_any}
use Rattle.order_laws.specs.TreeRules.Statements.{Statement, Holds, both, each}
use Rattle.order_laws.specs.Pairs.{Pairs}

module _ {X : Type 0} where
  pub holds-push : (s : X → Statement) (xs : List X) (x : X) → Holds (each s xs) → Holds (s x) → Holds (each s (xs ++ x ∷ []))
  holds-push s [] x h k = (k, tt)
  holds-push s (y ∷ ys) x h k = (h.0, holds-push s ys x h.1 k)

  pub holds-weaker : (s t : X → Statement) → ((x : X) → Holds (s x) → Holds (t x)) → (xs : List X) → Holds (each s xs) → Holds (each t xs)
  holds-weaker s t f [] h = tt
  holds-weaker s t f (x ∷ xs) h = (f x h.0, holds-weaker s t f xs h.1)

  pub holds-both : (s t : X → Statement) (xs : List X) → Holds (each s xs) → Holds (each t xs) → Holds (each (λ x. both (s x) (t x)) xs)
  holds-both s t [] h k = tt
  holds-both s t (x ∷ xs) h k = ((h.0, k.0), holds-both s t xs h.1 k.1)

  -- of an element, where of each a fact is known
  pub holds-given : (P : X → Type 0) (s t : X → Statement) → ((x : X) → P x → Holds (s x) → Holds (t x)) → (xs : List X) → AllByRecursion P xs → Holds (each s xs) → Holds (each t xs)
  holds-given P s t f [] h k = tt
  holds-given P s t f (x ∷ xs) h k = (f x h.0 k.0, holds-given P s t f xs h.1 k.1)

  module _ (R : X → X → Type 0) where
    pub pairs-holds : (s t : X → Statement) → ((x y : X) → R x y → Holds (s x) → Holds (t y)) → (xs ys : List X) → Pairs R xs ys → Holds (each s xs) → Holds (each t ys)
    pairs-holds s t f [] [] r h = tt
    pairs-holds s t f [] (y ∷ ys) r h = absurd r
    pairs-holds s t f (x ∷ xs) [] r h = absurd r
    pairs-holds s t f (x ∷ xs) (y ∷ ys) r h = (f x y r.0 h.0, pairs-holds s t f xs ys r.1 h.1)

    -- from a fact of each that was there
    pub pairs-each : (P : X → Type 0) (t : X → Statement) → ((x y : X) → R x y → P x → Holds (t y)) → (xs ys : List X) → Pairs R xs ys → AllByRecursion P xs → Holds (each t ys)
    pairs-each P t f [] [] r h = tt
    pairs-each P t f [] (y ∷ ys) r h = absurd r
    pairs-each P t f (x ∷ xs) [] r h = absurd r
    pairs-each P t f (x ∷ xs) (y ∷ ys) r h = (f x y r.0 h.0, pairs-each P t f xs ys r.1 h.1)

    pub pairs-first : (Q : X → Type 0) → ((x y : X) → R x y → Q x) → (xs ys : List X) → Pairs R xs ys → AllByRecursion Q xs
    pairs-first Q f [] [] r = tt
    pairs-first Q f [] (y ∷ ys) r = absurd r
    pairs-first Q f (x ∷ xs) [] r = absurd r
    pairs-first Q f (x ∷ xs) (y ∷ ys) r = (f x y r.0, pairs-first Q f xs ys r.1)

    pub pairs-any : (t : X → Bool) → ((x y : X) → R x y → t y ≡ t x) → (xs ys : List X) → Pairs R xs ys → list_any t ys ≡ list_any t xs
    pairs-any t f [] [] r = refl
    pairs-any t f [] (y ∷ ys) r = absurd r
    pairs-any t f (x ∷ xs) [] r = absurd r
    pairs-any t f (x ∷ xs) (y ∷ ys) r = ap₂ (λ a b. a || b) (f x y r.0) (pairs-any t f xs ys r.1)

  -- one that passes is among those of which it is asked
  any_later : (t : X → Bool) (x : X) (xs zs : List X) → AllByRecursion (λ y. t y ≡ true → list_any t xs ≡ true) zs → AllByRecursion (λ y. t y ≡ true → list_any t (x ∷ xs) ≡ true) zs
  any_later t x xs [] h = tt
  any_later t x xs (z ∷ zs) h = ((λ e. or (t x) (h.0 e)), any_later t x xs zs h.1) where
    or : (b : Bool) → list_any t xs ≡ true → (b || list_any t xs) ≡ true
    or true k = refl
    or false k = k

  pub each_any : (t : X → Bool) (xs : List X) → AllByRecursion (λ x. t x ≡ true → list_any t xs ≡ true) xs
  each_any t [] = tt
  each_any t (x ∷ xs) = ((λ e. rw e refl), any_later t x xs xs (each_any t xs))
