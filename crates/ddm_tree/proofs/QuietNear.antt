-- Paths that lead apart, since they differ on the way; and the leaves near a bus.
-- Letters: q and p are paths, k and m numbers of leaves or buses, or k a level and a and b the children there, c a child, near and xs
-- numbers of leaves.
use Rattle.std.proofs.Common.{◌≡◌, ◌≢◌, ℕ, zero, suc, ◌+◌, ◌<◌, ◌≤◌, ◌++◌, Bool, true, false, List, [], ◌∷◌, length, Some, refl, sym, ap, subst, ◌∙◌, arith}
use Rattle.std.specs.Prelude.{◌&&◌, nat_eq, nat_lt, slice_get, slice_index_or}
use Rattle.std.proofs.lemmas.Bool.{eqb-false, ltb-false, ltb-true}
use Rattle.std.proofs.lemmas.List.{get_or_append_left, get_or_default, length-append}
use Rattle.std.proofs.lemmas.Option.{none-some, same_Some, slice_get-get_or, slice_get_within}
use native.Mathlib.Decide.{ℕ_discrete}
use Rattle.ddm_tree.specs.Quiet.{AreApart, AreNear, IsNear, IsNoneOf}

-- they differ at a level that both have
level-apart : (q p : List ℕ) (k a b : ℕ) → k < length q → k < length p → a ≡ slice_index_or q k a → b ≡ slice_index_or p k b → a ≢ b → AreApart q p
level-apart q p k a b there here first second differ = record {
  other = λ is. differ (first ∙ ap (λ r. slice_index_or r k a) is ∙ get_or_default p k a b here ∙ sym second);
  parent = λ c is. differ (first ∙ get_or_default q k a b there ∙ sym (get_or_append_left q (c ∷ []) b k there) ∙ ap (λ r. slice_index_or r k b) (sym is) ∙ sym second);
  child = λ c is. differ (first ∙ ap (λ r. slice_index_or r k a) is ∙ get_or_append_left p (c ∷ []) a k here ∙ get_or_default p k a b here ∙ sym second);
}

-- one level more that both have
pub near-step : (same : Bool) (q p : List ℕ) (k a b : ℕ) → (same ≡ false → AreApart q p) → k < length q → k < length p → a ≡ slice_index_or q k a → b ≡ slice_index_or p k b → (same && nat_eq a b) ≡ false → AreApart q p
near-step false q p k a b before there here first second e = before refl
near-step true q p k a b before there here first second e = level-apart q p k a b there here first second (eqb-false a b e)

-- ---- those near a path

-- of the first so many, each one that isn't among these numbers is apart from the path
pub record AreNearBelow (count : ℕ) (p near : List ℕ) (paths : List (List ℕ)) : Type 0 where
  pub others : (k : ℕ) (q : List ℕ) → k < count → slice_get paths k ≡ Some q → IsNoneOf k (length near) near → AreApart q p

pub below-next : (k j : ℕ) → j ≢ k → j < k + 1 → j < k
below-next k j other below = elim (nat_lt j k) as (λ b. nat_lt j k ≡ b → j < k) [
  | true ↦ λ is. ltb-true j k is
  | false ↦ λ is.
      let past : k ≤ j = ltb-false j k is in
      let here : j ≡ k = omega (arith, below, past) in
      absurd (other here)
] refl

pub none-next : (k m count : ℕ) (near : List ℕ) → slice_get near count ≡ Some m → k ≢ m → IsNoneOf k count near → IsNoneOf k (count + 1) near
none-next k m count near at other none i below is =
    elim (ℕ_discrete i count) as (λ _. ⊥) [
      | yes same ↦ other (same_Some k m (sym is ∙ ap (slice_get near) same ∙ at))
      | no earlier ↦ none i (below-next count i earlier below) is
    ]

-- what stands in a list with one more
last-list : {A : Type 0} (xs : List A) (x : A) → slice_get (xs ++ x ∷ []) (length xs) ≡ Some x
last-list [] x = refl
last-list (y ∷ xs) x = last-list xs x

front-list : {A : Type 0} (xs : List A) (x : A) (i : ℕ) → i < length xs → slice_get (xs ++ x ∷ []) i ≡ slice_get xs i
front-list [] x i inside = absurd (omega (arith, inside))
front-list (y ∷ xs) x zero inside = refl
front-list (y ∷ xs) x (suc i) inside = front-list xs x i (omega (arith, inside))

fewer-none : (k j : ℕ) (near : List ℕ) → IsNoneOf k (length (near ++ j ∷ [])) (near ++ j ∷ []) → IsNoneOf k (length near) near
fewer-none k j near none i inside is = none i (omega (arith, inside, length-append near (j ∷ []))) (front-list near j i inside ∙ is)

module _ (count : ℕ) (p near : List ℕ) (paths : List (List ℕ)) (before : AreNearBelow count p near paths) where
  -- the next one is put behind them
  put-at : (k : ℕ) (q : List ℕ) → Dec (k ≡ count) → k < count + 1 → slice_get paths k ≡ Some q → IsNoneOf k (length (near ++ count ∷ [])) (near ++ count ∷ []) → AreApart q p
  put-at k q (yes is) below listed none = absurd (none (length near) (omega (arith, length-append near (count ∷ []))) (last-list near count ∙ ap Some (sym is)))
  put-at k q (no other) below listed none = before.others k q (below-next count k other below) listed (fewer-none k count near none)

  pub near-put : AreNearBelow (count + 1) p (near ++ count ∷ []) paths
  near-put = record { others = λ k q below. put-at k q (ℕ_discrete k count) below }

  -- the next one is apart
  module _ (here : List ℕ) (at : slice_get paths count ≡ Some here) (apart : AreApart here p) where
    past-at : (k : ℕ) (q : List ℕ) → Dec (k ≡ count) → k < count + 1 → slice_get paths k ≡ Some q → IsNoneOf k (length near) near → AreApart q p
    past-at k q (yes is) below listed none = subst (λ r. AreApart r p) (same_Some here q (sym at ∙ ap (slice_get paths) (sym is) ∙ listed)) apart
    past-at k q (no other) below listed none = before.others k q (below-next count k other below) listed none

    pub near-past : AreNearBelow (count + 1) p near paths
    near-past = record { others = λ k q below. past-at k q (ℕ_discrete k count) below }

pub near-all : (p near : List ℕ) (paths : List (List ℕ)) → AreNearBelow (length paths) p near paths → IsNear p near paths
near-all p near paths below = record { others = λ k q listed. below.others k q (slice_get_within paths k q listed) listed }

-- ---- the lists of all

-- of the first so many paths there is a list of those near each
pub record AreNearFor (count : ℕ) (nears from paths : List (List ℕ)) : Type 0 where
  pub as_many : length nears ≡ count
  pub each : (m : ℕ) (p near : List ℕ) → slice_get from m ≡ Some p → slice_get nears m ≡ Some near → IsNear p near paths

pub lists-none : (from paths : List (List ℕ)) → AreNearFor 0 [] from paths
lists-none from paths = record { as_many = refl; each = λ m p near at there. absurd (none-some near there) }

module _ (count : ℕ) (nears from paths : List (List ℕ)) (before : AreNearFor count nears from paths) (p near : List ℕ) (at : slice_get from count ≡ Some p) (is : IsNear p near paths) where
  list-at : (m : ℕ) (q xs : List ℕ) → Dec (m ≡ count) → slice_get from m ≡ Some q → slice_get (nears ++ near ∷ []) m ≡ Some xs → IsNear q xs paths
  list-at m q xs (yes here) listed there =
      let path : p ≡ q = same_Some p q (sym at ∙ ap (slice_get from) (sym here) ∙ listed) in
      let own : near ≡ xs = same_Some near xs (sym (last-list nears near) ∙ ap (slice_get (nears ++ near ∷ [])) (before.as_many ∙ sym here) ∙ there) in
      subst (λ r. IsNear r xs paths) path (subst (λ r. IsNear p r paths) own is)
  list-at m q xs (no other) listed there =
      let below : m < count + 1 = omega (arith, slice_get_within (nears ++ near ∷ []) m xs there, length-append nears (near ∷ []), before.as_many) in
      let inside : m < length nears = omega (arith, below-next count m other below, before.as_many) in
      before.each m q xs listed (sym (front-list nears near m inside) ∙ there)

  pub lists-more : AreNearFor (count + 1) (nears ++ near ∷ []) from paths
  lists-more = record {
    as_many = omega (arith, length-append nears (near ∷ []), before.as_many);
    each = λ m q xs listed there. list-at m q xs (ℕ_discrete m count) listed there;
  }

pub lists-all : (nears from paths : List (List ℕ)) → AreNearFor (length from) nears from paths → AreNear nears from paths
lists-all nears from paths all = record { as_many = all.as_many; each = all.each }

-- whoever is not listed as near is apart
pub far-in : (nears from paths : List (List ℕ)) (m : ℕ) (p : List ℕ) → slice_get from m ≡ Some p → AreNear nears from paths → (k : ℕ) (q : List ℕ) → slice_get paths k ≡ Some q → ((xs : List ℕ) → slice_get nears m ≡ Some xs → IsNoneOf k (length xs) xs) → AreApart q p
far-in nears from paths m p at near k q listed none =
    let inside : m < length nears = omega (arith, near.as_many, slice_get_within from m p at) in
    let there : slice_get nears m ≡ Some (slice_index_or nears m []) = slice_get-get_or nears m [] inside in
    (near.each m p (slice_index_or nears m []) at there).others k q listed (none (slice_index_or nears m []) there)
