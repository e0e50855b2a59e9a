-- Members of lists that are made of others.
-- Letters: x and y are members, f makes one or many of another.
use Rattle.std.proofs.Common.{◌≡◌, ℕ, zero, suc, ◌+◌, ◌<◌, Bool, true, false, List, [], ◌∷◌, map, refl, sym, ap, subst, ◌∙◌, inl, inr, arith}
use Rattle.std.specs.Prelude.{filter, flat_map, cond}
use Rattle.std.specs.List.{range_with_len}
use Rattle.search_laws.specs.Space.{IsOneOf}
use Rattle.search_laws.proofs.Lists.{in-left, in-right}

module _ {X Y : Type 0} where
  pub in-map : (f : X → Y) (xs : List X) (x : X) → IsOneOf xs x → IsOneOf (map f xs) (f x)
  in-map f [] x i = absurd i
  in-map f (z ∷ zs) x (inl e) = inl (ap f e)
  in-map f (z ∷ zs) x (inr i) = inr (in-map f zs x i)

  pub in-flat_map : (f : X → List Y) (xs : List X) (x : X) (y : Y) → IsOneOf xs x → IsOneOf (f x) y → IsOneOf (flat_map f xs) y
  in-flat_map f [] x y i j = absurd i
  in-flat_map f (z ∷ zs) x y (inl e) j = in-left (f z) (flat_map f zs) y (subst (λ w. IsOneOf (f w) y) (sym e) j)
  in-flat_map f (z ∷ zs) x y (inr i) j = in-right (f z) (flat_map f zs) y (in-flat_map f zs x y i j)

-- the numbers from a on
pub in-range : (n a i : ℕ) → i < n → IsOneOf (range_with_len a n) (a + i)
in-range zero a i below = absurd (omega (arith, below))
in-range (suc n) a zero below = inl (omega arith)
in-range (suc n) a (suc i) below =
    let same : (a + 1) + i ≡ a + suc i = omega arith in
    inr (subst (λ k. IsOneOf (range_with_len (a + 1) n) k) same (in-range n (a + 1) i (omega (arith, below))))

pub in-first : (n i : ℕ) → i < n → IsOneOf (range_with_len 0 n) i
in-first n i below = let same : 0 + i ≡ i = omega arith in subst (λ k. IsOneOf (range_with_len 0 n) k) same (in-range n 0 i below)

module _ {X : Type 0} where
  pub filter-same : (p q : X → Bool) (xs : List X) → ((x : X) → p x ≡ q x) → filter p xs ≡ filter q xs
  filter-same p q [] same = refl
  filter-same p q (x ∷ xs) same = ap (λ b. cond b (x ∷ filter p xs) (filter p xs)) (same x) ∙ ap (λ l. cond (q x) (x ∷ l) l) (filter-same p q xs same)

  pub filter-holds : (p : X → Bool) (xs : List X) (x : X) → IsOneOf (filter p xs) x → p x ≡ true
  filter-holds p [] x i = absurd i
  filter-holds p (y ∷ ys) x i = elim (p y) as (λ b. p y ≡ b → IsOneOf (cond b (y ∷ filter p ys) (filter p ys)) x → p x ≡ true) [
    | true ↦ λ holds j. elim j [
      | inl e ↦ ap p (sym e) ∙ holds
      | inr k ↦ filter-holds p ys x k
    ]
    | false ↦ λ fails j. filter-holds p ys x j
  ] refl i

module _ {X Y : Type 0} where
  pub map-each : (f g : X → Y) → ((x : X) → f x ≡ g x) → (xs : List X) → map f xs ≡ map g xs
  map-each f g same [] = refl
  map-each f g same (x ∷ xs) = ap (λ y. y ∷ map f xs) (same x) ∙ ap (λ l. g x ∷ l) (map-each f g same xs)

  -- what a member of a map was made of
  pub record MadeOf (f : X → Y) (xs : List X) (y : Y) : Type 0 where
    pub source : X
    pub listed : IsOneOf xs source
    pub is : f source ≡ y

  pub made-of : (f : X → Y) (xs : List X) (y : Y) → IsOneOf (map f xs) y → MadeOf f xs y
  made-of f [] y i = absurd i
  made-of f (x ∷ xs) y (inl e) = record { source = x; listed = inl refl; is = e }
  made-of f (x ∷ xs) y (inr i) = let rest = made-of f xs y i in record { source = rest.source; listed = inr rest.listed; is = rest.is }
