-- Members of lists, and what tests of them say.
-- Letters: x is one of the things xs, p a test.
use Rattle.std.proofs.Common.{◌≡◌, ◌<◌, ◌≤◌, Bool, true, false, List, [], ◌∷◌, ◌++◌, ◌||◌, ◌&&◌, length, refl, sym, ap, subst, ◌∙◌, ◌⊎◌, inl, inr, true≢false, arith}
use Rattle.std.specs.Prelude.{if◌then◌else◌, cond}
use Rattle.std.specs.List.{list_any, list_all, filter}
use Rattle.search_laws.specs.Space.{IsOneOf}
use Rattle.search_laws.specs.Search.{is_empty}

-- ---- tests

pub if-either : {X : Type 0} (P : X → Type 0) (b : Bool) (x y : X) → (b ≡ true → P x) → (b ≡ false → P y) → P (if b then x else y)
if-either P true x y holds fails = holds refl
if-either P false x y holds fails = fails refl

pub absurd-bool : {A : Type 0} (b : Bool) → b ≡ true → b ≡ false → A
absurd-bool b holds fails = absurd (true≢false (sym holds ∙ fails))

pub true-or-false : (b : Bool) → (b ≡ true) ⊎ (b ≡ false)
true-or-false true = inl refl
true-or-false false = inr refl

or-first : (a b : Bool) → (a || b) ≡ false → a ≡ false
or-first true b e = e
or-first false b e = refl

or-second : (a b : Bool) → (a || b) ≡ false → b ≡ false
or-second true b e = absurd (true≢false e)
or-second false b e = e

pub and-first : (a b : Bool) → (a && b) ≡ true → a ≡ true
and-first true b e = refl
and-first false b e = e

pub and-second : (a b : Bool) → (a && b) ≡ true → b ≡ true
and-second true b e = e
and-second false b e = absurd (true≢false (sym e))

module _ {X : Type 0} where
  pub empty-nothing : (xs : List X) → is_empty xs ≡ true → xs ≡ []
  empty-nothing [] e = refl
  empty-nothing (x ∷ xs) e = absurd (true≢false (sym e))

  -- ---- members

  pub in-left : (xs ys : List X) (x : X) → IsOneOf xs x → IsOneOf (xs ++ ys) x
  in-left [] ys x i = absurd i
  in-left (z ∷ zs) ys x (inl e) = inl e
  in-left (z ∷ zs) ys x (inr i) = inr (in-left zs ys x i)

  pub in-right : (xs ys : List X) (x : X) → IsOneOf ys x → IsOneOf (xs ++ ys) x
  in-right [] ys x i = i
  in-right (z ∷ zs) ys x i = inr (in-right zs ys x i)

  pub in-either : (xs ys : List X) (x : X) → IsOneOf (xs ++ ys) x → IsOneOf xs x ⊎ IsOneOf ys x
  in-either [] ys x i = inr i
  in-either (z ∷ zs) ys x (inl e) = inl (inl e)
  in-either (z ∷ zs) ys x (inr i) = elim (in-either zs ys x i) [
    | inl a ↦ inl (inr a)
    | inr b ↦ inr b
  ]

  pub only-one : (x y : X) → IsOneOf (x ∷ []) y → x ≡ y
  only-one x y (inl e) = e
  only-one x y (inr i) = absurd i

  pub none-of-nothing : (xs : List X) (x : X) → xs ≡ [] → IsOneOf xs x → ⊥
  none-of-nothing xs x e i = subst (λ l. IsOneOf l x) e i

  -- ---- a test of each

  pub record Passing (p : X → Bool) (b : Bool) (xs : List X) : Type 0 where
    pub one : X
    pub is_one : IsOneOf xs one
    pub passes : p one ≡ b

  pub any-passes : (p : X → Bool) (xs : List X) → list_any p xs ≡ true → Passing p true xs
  any-passes p [] e = absurd (true≢false (sym e))
  any-passes p (x ∷ xs) e = elim (p x) as (λ b. p x ≡ b → (b || list_any p xs) ≡ true → Passing p true (x ∷ xs)) [
    | true ↦ λ is h. record { one = x; is_one = inl refl; passes = is }
    | false ↦ λ is h. let rest = any-passes p xs h in record { one = rest.one; is_one = inr rest.is_one; passes = rest.passes }
  ] refl e

  pub any-none : (p : X → Bool) (xs : List X) → list_any p xs ≡ false → (x : X) → IsOneOf xs x → p x ≡ false
  any-none p [] e x i = absurd i
  any-none p (y ∷ ys) e x (inl same) = ap p (sym same) ∙ or-first (p y) (list_any p ys) e
  any-none p (y ∷ ys) e x (inr i) = any-none p ys (or-second (p y) (list_any p ys) e) x i

  pub all-each : (p : X → Bool) (xs : List X) → list_all p xs ≡ true → (x : X) → IsOneOf xs x → p x ≡ true
  all-each p [] e x i = absurd i
  all-each p (y ∷ ys) e x (inl same) = ap p (sym same) ∙ and-first (p y) (list_all p ys) e
  all-each p (y ∷ ys) e x (inr i) = all-each p ys (and-second (p y) (list_all p ys) e) x i

  pub all-fails : (p : X → Bool) (xs : List X) → list_all p xs ≡ false → Passing p false xs
  all-fails p [] e = absurd (true≢false e)
  all-fails p (x ∷ xs) e = elim (p x) as (λ b. p x ≡ b → (b && list_all p xs) ≡ false → Passing p false (x ∷ xs)) [
    | true ↦ λ is h. let rest = all-fails p xs h in record { one = rest.one; is_one = inr rest.is_one; passes = rest.passes }
    | false ↦ λ is h. record { one = x; is_one = inl refl; passes = is }
  ] refl e

  -- ---- those that pass

  pub filter-part : (p : X → Bool) (xs : List X) (x : X) → IsOneOf (filter p xs) x → IsOneOf xs x
  filter-part p [] x i = absurd i
  filter-part p (y ∷ ys) x i = elim (p y) as (λ b. IsOneOf (cond b (y ∷ filter p ys) (filter p ys)) x → IsOneOf (y ∷ ys) x) [
    | true ↦ λ j. elim j [ inl e ↦ inl e | inr k ↦ inr (filter-part p ys x k) ]
    | false ↦ λ j. inr (filter-part p ys x j)
  ] i

  pub filter-passing : (p : X → Bool) (xs : List X) (x : X) → IsOneOf xs x → p x ≡ true → IsOneOf (filter p xs) x
  filter-passing p [] x i e = absurd i
  filter-passing p (y ∷ ys) x (inl same) e = subst (λ b. IsOneOf (cond b (y ∷ filter p ys) (filter p ys)) x) (sym (ap p same ∙ e)) (inl same)
  filter-passing p (y ∷ ys) x (inr i) e = elim (p y) as (λ b. IsOneOf (cond b (y ∷ filter p ys) (filter p ys)) x) [
    | true ↦ inr (filter-passing p ys x i e)
    | false ↦ filter-passing p ys x i e
  ]

  pub filter-all : (p : X → Bool) (xs : List X) → list_all p xs ≡ true → filter p xs ≡ xs
  filter-all p [] e = refl
  filter-all p (y ∷ ys) e = subst (λ b. cond b (y ∷ filter p ys) (filter p ys) ≡ y ∷ ys) (sym (and-first (p y) (list_all p ys) e)) (ap (λ l. y ∷ l) (filter-all p ys (and-second (p y) (list_all p ys) e)))

  filter-no_longer : (p : X → Bool) (xs : List X) → length (filter p xs) ≤ length xs
  filter-no_longer p [] = omega arith
  filter-no_longer p (y ∷ ys) =
      let rest : length (filter p ys) ≤ length ys = filter-no_longer p ys in
      elim (p y) as (λ b. length (cond b (y ∷ filter p ys) (filter p ys)) ≤ length (y ∷ ys)) [
        | true ↦ omega (arith, rest)
        | false ↦ omega (arith, rest)
      ]

  pub filter-shorter : (p : X → Bool) (xs : List X) → list_all p xs ≡ false → length (filter p xs) < length xs
  filter-shorter p [] e = absurd (true≢false e)
  filter-shorter p (y ∷ ys) e = elim (p y) as (λ b. (b && list_all p ys) ≡ false → length (cond b (y ∷ filter p ys) (filter p ys)) < length (y ∷ ys)) [
    | true ↦ λ h. let rest : length (filter p ys) < length ys = filter-shorter p ys h in omega (arith, rest)
    | false ↦ λ h. let rest : length (filter p ys) ≤ length ys = filter-no_longer p ys in omega (arith, rest)
  ] e
