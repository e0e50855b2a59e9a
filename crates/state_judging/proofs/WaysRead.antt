-- The ways of a leaf that are made of a list of standing entries: each item has the entry that the list says, if it says one.
-- Letters: n is how many items there are, s and t standing entries, ss the list of them, x and y items, e and o their entries.
use Rattle.std.specs.Prelude.{◌≡◌, ◌<◌, ℕ, zero, suc, ◌%◌, Bool, true, false, not, ◌&&◌, nat_eq, nat_lt, List, [], ◌∷◌, length, replicate, Option, Some, None, refl, ⊤}
use Rattle.std.specs.List.{list_any, list_all, AllByRecursion}
use Rattle.std.proofs.Common.{sym, ap, subst, ◌∙◌, arith, true≢false}
use Rattle.std.proofs.lemmas.Bool.{and_parts, eqb-true, eq-eqb, ltb-true}
use Rattle.std.proofs.lemmas.List.{get_or-set_same, get_or-set_other, length-set, length-replicate}
use Rattle.std.specs.Cmp.Derive.{both_true}
use Rattle.state_judging.specs.TreeModel.State.Lists.{all_from}
use Rattle.state_judging.specs.TreeModel.State.Values.{WayValue, LeafValue}
use Rattle.state_judging.specs.TreeModel.State.Leaf.{way_at, stands_in}
use Rattle.state_judging.proofs.TreeModel.Tests.{not-true, or-false_first, or-false_second}
use Rattle.state_judging.specs.TreeRules.Bus.Own.{words_suit, way_fits, same_if_there, has_way_alone}
use Rattle.state_judging.proofs.TreeRules.Implying.{implies-by, implies-false}
use Rattle.bus_laws.proofs.Lists.{pass-set}
use Rattle.state_judging.specs.StateWords.Parts.{StandingValue}
use Rattle.state_reading.specs.Parts.{ways_with, same_place, places_differ}
use Rattle.state_judging.proofs.Lists.{pass-replicate, all-from}

-- ---- what the list says

abbrev pub no_ways : ℕ → List (Option WayValue)
no_ways n = replicate n None

abbrev pub ways_of : ℕ → List StandingValue → List (Option WayValue)
ways_of n ss = ways_with ss (no_ways n)

pub length-ways : (n : ℕ) (ss : List StandingValue) → length (ways_of n ss) ≡ n
length-ways n [] = length-replicate n None
length-ways n (s ∷ ss) = length-set (ways_of n ss) s.item (Some s.entry) ∙ length-ways n ss

none-at : (n x : ℕ) → way_at x (no_ways n) ≡ None
none-at zero x = refl
none-at (suc n) zero = refl
none-at (suc n) (suc x) = none-at n x

abbrev pub AllWithin : ℕ → List StandingValue → Type 0
AllWithin n ss = AllByRecursion (λ (s : StandingValue). s.item < n) ss

module _ (n : ℕ) (s : StandingValue) (ss : List StandingValue) (within : s.item < n) where
  here-at : way_at s.item (ways_of n (s ∷ ss)) ≡ Some s.entry
  here-at = get_or-set_same (ways_of n ss) s.item (Some s.entry) None (omega (arith, length-ways n ss, within))

  other-at : (x : ℕ) → nat_eq x s.item ≡ false → way_at x (ways_of n (s ∷ ss)) ≡ way_at x (ways_of n ss)
  other-at x other = get_or-set_other (ways_of n ss) s.item x (Some s.entry) None (λ same. true≢false (sym (eq-eqb x s.item same) ∙ other))

module _ (n : ℕ) (P : ℕ → WayValue → Type 0) where
  -- what holds of each entry of the list holds of each item's
  pub found-in : (ss : List StandingValue) → AllWithin n ss → AllByRecursion (λ (s : StandingValue). P s.item s.entry) ss → (x : ℕ) (e : WayValue) → way_at x (ways_of n ss) ≡ Some e → P x e
  found-in [] within all x e is = let no : None ≡ Some e = sym (none-at n x) ∙ is in cc
  found-in (s ∷ ss) within all x e is =
      elim (nat_eq x s.item) as (λ b. nat_eq x s.item ≡ b → P x e) [
        | true ↦ λ own.
            let same : x ≡ s.item = eqb-true x s.item own in
            let here : Some s.entry ≡ Some e = sym (here-at n s ss within.0) ∙ ap (λ y. way_at y (ways_of n (s ∷ ss))) (sym same) ∙ is in
            let entry : s.entry ≡ e = cc in
            subst (λ y. P y e) (sym same) (subst (λ o. P s.item o) entry all.0)
        | false ↦ λ own. found-in ss within.1 all.1 x e (sym (other-at n s ss within.0 x own) ∙ is)
      ] refl

abbrev pub standing_one : ℕ → WayValue → StandingValue
standing_one x e = record { item = x; entry = e }

-- ---- entries that differ in something

module _ (same : StandingValue → StandingValue → Bool) where
  abbrev pub Apart : List StandingValue → Type 0
  Apart [] = ⊤
  Apart (s ∷ ss) = (list_any (same s) ss ≡ false) × Apart ss

  none-same : (s : StandingValue) (ss : List StandingValue) → list_any (same s) ss ≡ false → AllByRecursion (λ (t : StandingValue). same s (standing_one t.item t.entry) ≡ false) ss
  none-same s [] e = tt
  none-same s (t ∷ ss) e = (or-false_first (same s t) (list_any (same s) ss) e, none-same s ss (or-false_second (same s t) (list_any (same s) ss) e))

  module _ (n : ℕ) (swaps : (s t : StandingValue) → same s t ≡ true → same t s ≡ true) where
    first-alone : (s : StandingValue) (ss : List StandingValue) → AllWithin n ss → list_any (same s) ss ≡ false → (y : ℕ) (o : WayValue) → way_at y (ways_of n ss) ≡ Some o → same s (standing_one y o) ≡ true → ⊥
    first-alone s ss within alone y o is both =
        true≢false (sym both ∙ found-in n (λ y o. same s (standing_one y o) ≡ false) ss within (none-same s ss alone) y o is)

    -- two items that have entries which don't differ are one
    pub one-item : (ss : List StandingValue) → AllWithin n ss → Apart ss → (x y : ℕ) (e o : WayValue) → way_at x (ways_of n ss) ≡ Some e → way_at y (ways_of n ss) ≡ Some o → same (standing_one x e) (standing_one y o) ≡ true → x ≡ y
    one-item [] within apart x y e o first second both = let no : None ≡ Some e = sym (none-at n x) ∙ first in cc
    one-item (s ∷ ss) within apart x y e o first second both = by_items (nat_eq x s.item) (nat_eq y s.item) refl refl (one-item ss within.1 apart.1 x y e o)
      where
        is_first : (z : ℕ) (i : WayValue) → nat_eq z s.item ≡ true → way_at z (ways_of n (s ∷ ss)) ≡ Some i → standing_one z i ≡ s
        is_first z i own is =
            let item : z ≡ s.item = eqb-true z s.item own in
            let here : Some s.entry ≡ Some i = sym (here-at n s ss within.0) ∙ ap (λ y. way_at y (ways_of n (s ∷ ss))) (sym item) ∙ is in
            let entry : i ≡ s.entry = cc in
            rw (item, entry) refl

        is_later : (z : ℕ) (i : WayValue) → nat_eq z s.item ≡ false → way_at z (ways_of n (s ∷ ss)) ≡ Some i → way_at z (ways_of n ss) ≡ Some i
        is_later z i own is = sym (other-at n s ss within.0 z own) ∙ is

        by_items : (a b : Bool) → nat_eq x s.item ≡ a → nat_eq y s.item ≡ b → (way_at x (ways_of n ss) ≡ Some e → way_at y (ways_of n ss) ≡ Some o → same (standing_one x e) (standing_one y o) ≡ true → x ≡ y) → x ≡ y
        by_items true true own that rest = eqb-true x s.item own ∙ sym (eqb-true y s.item that)
        by_items true false own that rest = absurd (first-alone s ss within.1 apart.0 y o (is_later y o that second) (subst (λ t. same t (standing_one y o) ≡ true) (is_first x e own first) both))
        by_items false true own that rest = absurd (first-alone s ss within.1 apart.0 x e (is_later x e own first) (subst (λ t. same t (standing_one x e) ≡ true) (is_first y o that second) (swaps (standing_one x e) (standing_one y o) both)))
        by_items false false own that rest = rest (is_later x e own first) (is_later y o that second) both

-- ---- places

places-apart : (sets : ℕ) (ss : List StandingValue) → places_differ sets ss ≡ true → Apart (same_place sets) ss
places-apart sets [] e = tt
places-apart sets (s ∷ ss) e =
    let parts = and_parts (not (list_any (same_place sets s) ss)) (places_differ sets ss) e in
    (not-true (list_any (same_place sets s) ss) parts.0, places-apart sets ss parts.1)

swapped : (a b : ℕ) → nat_eq a b ≡ true → nat_eq b a ≡ true
swapped a b e = eq-eqb b a (sym (eqb-true a b e))

places-swap : (sets : ℕ) (s t : StandingValue) → same_place sets s t ≡ true → same_place sets t s ≡ true
places-swap sets s t e =
    let parts = and_parts (nat_eq (s.item % sets) (t.item % sets)) (nat_eq s.entry.way t.entry.way) e in
    both_true (swapped (s.item % sets) (t.item % sets) parts.0) (swapped s.entry.way t.entry.way parts.1)

module _ (n sets : ℕ) (ss : List StandingValue) (within : AllWithin n ss) (differ : places_differ sets ss ≡ true) where
  alone-there : (x : ℕ) (e : WayValue) → way_at x (ways_of n ss) ≡ Some e → (y : ℕ) (o : Option WayValue) → way_at y (ways_of n ss) ≡ o → same_if_there sets x e.way y o ≡ true
  alone-there x e is y None that = implies-false (nat_eq x y)
  alone-there x e is y (Some o) that =
      implies-by (stands_in sets x e.way y (Some o)) (nat_eq x y) (λ stands.
      let parts = and_parts (nat_eq (y % sets) (x % sets)) (nat_eq o.way e.way) stands in
      eq-eqb x y (one-item (same_place sets) n (places-swap sets) ss within (places-apart sets ss differ) x y e o is that (both_true (swapped (y % sets) (x % sets) parts.0) (swapped o.way e.way parts.1))))

  alone-or : (v : LeafValue) → v.sizes.sets ≡ sets → v.ways ≡ ways_of n ss → (x : ℕ) (o : Option WayValue) → way_at x (ways_of n ss) ≡ o → has_way_alone v x o ≡ true
  alone-or v size ways x None is = refl
  alone-or v size ways x (Some e) is = rw (size, ways) (all-from (same_if_there sets x e.way) None (ways_of n ss) (λ y. alone-there x e is y (way_at y (ways_of n ss)) refl))

  -- no other item stands in an item's way of its set
  pub ways-alone : (v : LeafValue) → v.sizes.sets ≡ sets → v.ways ≡ ways_of n ss → all_from (has_way_alone v) 0 (ways_of n ss) ≡ true
  ways-alone v size ways = all-from (has_way_alone v) None (ways_of n ss) (λ x. alone-or v size ways x (way_at x (ways_of n ss)) refl)

-- ---- each entry by itself

abbrev pub standing_fits : ℕ → ℕ → StandingValue → Bool
standing_fits n way_count s = nat_lt s.item n && (nat_lt s.entry.way way_count && words_suit s.entry.state s.entry.words)

pub standing-within : (n way_count : ℕ) (ss : List StandingValue) → list_all (standing_fits n way_count) ss ≡ true → AllWithin n ss
standing-within n way_count [] e = tt
standing-within n way_count (s ∷ ss) e =
    let parts = and_parts (standing_fits n way_count s) (list_all (standing_fits n way_count) ss) e in
    (ltb-true s.item n (and_parts (nat_lt s.item n) (nat_lt s.entry.way way_count && words_suit s.entry.state s.entry.words) parts.0).0, standing-within n way_count ss parts.1)

pub ways-fit : (n way_count : ℕ) (ss : List StandingValue) → list_all (standing_fits n way_count) ss ≡ true → list_all (way_fits way_count) (ways_of n ss) ≡ true
ways-fit n way_count [] e = pass-replicate (way_fits way_count) n None refl
ways-fit n way_count (s ∷ ss) e =
    let parts = and_parts (standing_fits n way_count s) (list_all (standing_fits n way_count) ss) e in
    pass-set (way_fits way_count) (ways_of n ss) s.item (Some s.entry) (ways-fit n way_count ss parts.1) (and_parts (nat_lt s.item n) (nat_lt s.entry.way way_count && words_suit s.entry.state s.entry.words) parts.0).1

-- an item that the list doesn't name stands in no way
pub not-there : (n x : ℕ) (ss : List StandingValue) → AllWithin n ss → list_any (λ (s : StandingValue). nat_eq x s.item) ss ≡ false → way_at x (ways_of n ss) ≡ None
not-there n x ss within none =
    elim (way_at x (ways_of n ss)) as (λ o. way_at x (ways_of n ss) ≡ o → o ≡ None) [
      | None ↦ λ is. refl
      | Some e ↦ λ is. absurd (true≢false (sym (eq-eqb x x refl) ∙ found-in n (λ y o. nat_eq x y ≡ false) ss within (named ss none) x e is))
    ] refl
  where
    named : (ts : List StandingValue) → list_any (λ (s : StandingValue). nat_eq x s.item) ts ≡ false → AllByRecursion (λ (t : StandingValue). nat_eq x t.item ≡ false) ts
    named [] e = tt
    named (t ∷ ts) e = (or-false_first (nat_eq x t.item) _ e, named ts (or-false_second (nat_eq x t.item) _ e))
