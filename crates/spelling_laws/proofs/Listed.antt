-- The entries in a leaf's ways, listed by set and way: each of them is listed once, in order, and put in by their items they give the
-- ways again.
-- Letters: s and t are entries with their items, ss those that were read, the last one first, st those to be read.
use Rattle.std.specs.Prelude.{◌≡◌, ℕ, zero, suc, ◌+◌, ◌*◌, ◌%◌, ◌<◌, ◌≤◌, Bool, true, false, nat_eq, nat_lt, nat_le, ◌&&◌, ◌||◌, List, [], ◌∷◌, ◌++◌, length, map, option_to_list, option_map, slice_set, slice_index_or, Option, Some, None, is_some, refl, if◌then◌else◌}
use Rattle.std.specs.List.{list_any, flat_map, range_with_len}
use Rattle.std.proofs.Common.{ap, sym, ◌∙◌, subst, arith, get_or-set_same, get_or-set_other, inl, inr, zero-add, true≢false}
use Rattle.std.proofs.Math.Path.{fun_ext}
use Rattle.std.proofs.Math.Nat.{mod-eq_of_lt, mod-mod, mul-le-mul_right}
use Rattle.std.proofs.lemmas.List.{get_or-replicate, ext_get_or}
use Rattle.std.proofs.lemmas.Bool.{eqb-true, eqb-false, eq-eqb, lt-ltb, le-leb, and_parts, and_from, or_right, not_from_false, cases_lt, false_from_ne_true}
use Rattle.spelling_laws.specs.TreeModel.State.Lists.{find_from, all_from}
use Rattle.spelling_laws.specs.TreeModel.State.Values.{WayValue}
use Rattle.spelling_laws.specs.TreeModel.State.Shape.{are_distinct}
use Rattle.spelling_laws.specs.TreeModel.State.Leaf.{way_at, stands_in, item_in_way}
use Rattle.spelling_laws.specs.TreeRules.Bus.Item.{implies}
use Rattle.spelling_laws.specs.TreeRules.Bus.Own.{same_if_there}
use Rattle.spelling_laws.specs.StateWords.Parts.{StandingValue, standing_of, standing_at, standing_in, standing}
use Rattle.spelling_laws.specs.StateReading.Parts.{not_before, way_not_before, last_of, standing_item, same_place, places_differ}
use Rattle.spelling_laws.proofs.Rows.{filter_map-flat}
use Rattle.spelling_laws.proofs.Standing.{ways_of, ways-many}

-- ---- lists

module _ {X : Type 0} where
  pub any-append : (p : X → Bool) (xs ys : List X) → list_any p (xs ++ ys) ≡ (list_any p xs || list_any p ys)
  any-append p [] ys = refl
  any-append p (x ∷ xs) ys = elim (p x) as (λ b. (b || list_any p (xs ++ ys)) ≡ ((b || list_any p xs) || list_any p ys)) [ true ↦ refl | false ↦ any-append p xs ys ]

  any-first : (p : X → Bool) (xs ys : List X) → list_any p xs ≡ true → list_any p (xs ++ ys) ≡ true
  any-first p xs ys e = any-append p xs ys ∙ ap (λ b. b || list_any p ys) e

  any-later : (p : X → Bool) (xs ys : List X) → list_any p ys ≡ true → list_any p (xs ++ ys) ≡ true
  any-later p xs ys e = any-append p xs ys ∙ or_right (list_any p xs) (list_any p ys) e

  -- what is in the list at one place of a range is in all of them put together
  any-along : (p : X → Bool) (F : ℕ → List X) (w start count : ℕ) → start ≤ w → w < start + count → list_any p (F w) ≡ true → list_any p (flat_map F (range_with_len start count)) ≡ true
  any-along p F w start zero first last e = absurd (omega (arith, first, last))
  any-along p F w start (suc count) first last e =
      elim (cases_lt start w) [
        | inl less ↦ any-later p (F start) (flat_map F (range_with_len (start + 1) count)) (any-along p F w (start + 1) count (omega (arith, less)) (omega (arith, last)) e)
        | inr le ↦
            let same : w ≡ start = omega (arith, first, le) in
            any-first p (F start) (flat_map F (range_with_len (start + 1) count)) (subst (λ w. list_any p (F w) ≡ true) same e)
      ]

  pub record Found (t : ℕ → X → Bool) (a : ℕ) (xs : List X) (d : X) (i : ℕ) : Type 0 where
    pub place : ℕ
    pub is : i ≡ a + place
    pub inside : place < length xs
    pub passes : t i (slice_index_or xs place d) ≡ true

  pub found-from : (t : ℕ → X → Bool) (a : ℕ) (xs : List X) (d : X) (i : ℕ) → find_from t a xs ≡ Some i → Found t a xs d i
  found-from t a [] d i e = cc
  found-from t a (x ∷ xs) d i e =
      elim (t a x) as (λ b. t a x ≡ b → (if b then Some a else find_from t (a + 1) xs) ≡ Some i → Found t a (x ∷ xs) d i) [
        | true ↦ λ pass e.
            let same : a ≡ i = cc in
            record { place = 0; is = omega (arith, same); inside = omega arith; passes = subst (λ i. t i x ≡ true) same pass }
        | false ↦ λ pass e.
            let f = found-from t (a + 1) xs d i e in
            record { place = suc f.place; is = omega (arith, f.is); inside = omega (arith, f.inside); passes = f.passes }
      ] refl e

  pub some-found : (t : ℕ → X → Bool) (a j : ℕ) (xs : List X) (d : X) → j < length xs → t (a + j) (slice_index_or xs j d) ≡ true → is_some (find_from t a xs) ≡ true
  some-found t a j [] d inside pass = absurd (omega (arith, inside))
  some-found t a zero (x ∷ xs) d inside pass =
      let at : a + 0 ≡ a = omega arith in
      let here : t a x ≡ true = subst (λ k. t k x ≡ true) at pass in
      rw here refl
  some-found t a (suc j) (x ∷ xs) d inside pass =
      let at : a + suc j ≡ a + 1 + j = omega arith in
      elim (t a x) as (λ b. is_some (if b then Some a else find_from t (a + 1) xs) ≡ true) [
        | true ↦ refl
        | false ↦ some-found t (a + 1) j xs d (omega (arith, inside)) (subst (λ k. t k (slice_index_or xs j d) ≡ true) at pass)
      ]

  pub all-from-at : (t : ℕ → X → Bool) (a j : ℕ) (xs : List X) (d : X) → all_from t a xs ≡ true → j < length xs → t (a + j) (slice_index_or xs j d) ≡ true
  all-from-at t a j [] d all inside = absurd (omega (arith, inside))
  all-from-at t a zero (x ∷ xs) d all inside =
      let at : a ≡ a + 0 = omega arith in
      subst (λ k. t k x ≡ true) at ((and_parts (t a x) (all_from t (a + 1) xs) all).0)
  all-from-at t a (suc j) (x ∷ xs) d all inside =
      let at : a + 1 + j ≡ a + suc j = omega arith in
      subst (λ k. t k (slice_index_or xs j d) ≡ true) at (all-from-at t (a + 1) j xs d ((and_parts (t a x) (all_from t (a + 1) xs) all).1) (omega (arith, inside)))

pub implied : (a b : Bool) → implies a b ≡ true → a ≡ true → b ≡ true
unfolding implies
implied true b e is = e
implied false b e is = cc

-- ---- the entries of a leaf

abbrev no_way : Option WayValue
no_way = None

none-either : (b : Bool) → (if b then no_way else no_way) ≡ no_way
none-either true = refl
none-either false = refl

abbrev pub onto : List StandingValue → List StandingValue → List StandingValue
onto ss [] = ss
onto ss (s ∷ st) = onto (s ∷ ss) st

abbrev pub is_item : ℕ → StandingValue → Bool
is_item x s = nat_eq x s.item

any-map : (x : ℕ) (ss : List StandingValue) → list_any (nat_eq x) (map standing_item ss) ≡ list_any (is_item x) ss
any-map x [] = refl
any-map x (s ∷ ss) = ap (λ b. nat_eq x s.item || b) (any-map x ss)

any-onto : (p : StandingValue → Bool) (ss st : List StandingValue) → (list_any p ss || list_any p st) ≡ true → list_any p (onto ss st) ≡ true
any-onto p ss [] e = elim (list_any p ss) as (λ b. (b || false) ≡ true → b ≡ true) [ true ↦ λ e. refl | false ↦ λ e. e ] e
any-onto p ss (s ∷ st) e = any-onto p (s ∷ ss) st (moved (list_any p ss) (p s) (list_any p st) e)
  where
    moved : (a b c : Bool) → (a || (b || c)) ≡ true → ((b || a) || c) ≡ true
    moved true true c e = refl
    moved true false c e = refl
    moved false true c e = refl
    moved false false c e = e

pub onto-many : (ss st : List StandingValue) → length (onto ss st) ≡ length ss + length st
onto-many ss [] = omega arith
onto-many ss (s ∷ st) = onto-many (s ∷ ss) st ∙ omega arith

module _ (sets way_count : ℕ) (ways : List (Option WayValue)) where
  -- the number of an entry's place
  abbrev pub place_of : StandingValue → ℕ
  place_of s = s.item % sets * way_count + s.entry.way

  pub record Stands (s : StandingValue) : Type 0 where
    pub inside : s.item < length ways
    pub way : s.entry.way < way_count
    pub there : way_at s.item ways ≡ Some s.entry

  -- in order of their places, which are all from this one on
  abbrev pub Ascending : ℕ → List StandingValue → Type 0
  Ascending least [] = Unit {0}
  Ascending least (s ∷ st) = Stands s × (least ≤ place_of s) × Ascending (place_of s + 1) st

  -- places before this one
  abbrev pub AllBelow : ℕ → List StandingValue → Type 0
  AllBelow bound [] = Unit {0}
  AllBelow bound (t ∷ ts) = Stands t × (place_of t < bound) × AllBelow bound ts

  ascending-from : (least more : ℕ) (st : List StandingValue) → least ≤ more → Ascending more st → Ascending least st
  ascending-from least more [] le order = tt
  ascending-from least more (s ∷ st) le order = (order.0, omega (arith, le, order.1), order.2)

  pub below-more : (bound more : ℕ) (ss : List StandingValue) → bound ≤ more → AllBelow bound ss → AllBelow more ss
  below-more bound more [] le below = tt
  below-more bound more (t ∷ ts) le below = (below.0, omega (arith, le, below.1), below-more bound more ts le below.2)

  -- ---- what is listed

  pub record StandsAt (set way : ℕ) (s : StandingValue) : Type 0 where
    pub inside : s.item < length ways
    pub there : way_at s.item ways ≡ Some s.entry
    pub set_is : s.item % sets ≡ set % sets
    pub way_is : s.entry.way ≡ way

  stood : (set way x : ℕ) (s : StandingValue) (o : Option WayValue) → x < length ways → way_at x ways ≡ o → stands_in sets set way x o ≡ true → option_map (λ e. record { item = x; entry = e }) o ≡ Some s → StandsAt set way s
  stood set way x s None inside is stands e = cc
  stood set way x s (Some entry) inside is stands e =
      let same : record { item = x; entry = entry } ≡ s = cc in
      let p = and_parts (nat_eq (x % sets) (set % sets)) (nat_eq entry.way way) stands in
      subst (StandsAt set way) same (record { inside = inside; there = is; set_is = eqb-true _ _ p.0; way_is = eqb-true _ _ p.1 })

  stands-at : (set way : ℕ) (s : StandingValue) → standing_at sets ways set way ≡ Some s → StandsAt set way s
  unfolding standing_at item_in_way
  stands-at set way s e =
      elim (find_from (stands_in sets set way) 0 ways) as (λ o. find_from (stands_in sets set way) 0 ways ≡ o → standing_of sets ways o ≡ Some s → StandsAt set way s) [
        | None ↦ λ is e. cc
        | Some x ↦ λ is e.
            let f = found-from (stands_in sets set way) 0 ways None x is in
            let same : f.place ≡ x = sym (f.is ∙ zero-add f.place) in
            stood set way x s (way_at x ways) (subst (λ y. y < length ways) same f.inside) refl (subst (λ y. stands_in sets set way x (way_at y ways) ≡ true) same f.passes) e
      ] refl e

  abbrev at_way : ℕ → ℕ → List StandingValue
  at_way set way = option_to_list (standing_at sets ways set way)

  abbrev in_set : ℕ → List StandingValue
  in_set set = flat_map (at_way set) (range_with_len 0 way_count)

  row-ascends : (set way count : ℕ) (more : List StandingValue) → way + count ≡ way_count → set % sets ≡ set → Ascending (set * way_count + way_count) more → Ascending (set * way_count + way) (flat_map (at_way set) (range_with_len way count) ++ more)
  row-ascends set way zero more size whole order = ascending-from (set * way_count + way) (set * way_count + way_count) more (omega (arith, size)) order
  row-ascends set way (suc count) more size whole order =
      let later = row-ascends set (way + 1) count more (omega (arith, size)) whole order in
      elim (standing_at sets ways set way) as (λ o. standing_at sets ways set way ≡ o → Ascending (set * way_count + way) ((option_to_list o ++ flat_map (at_way set) (range_with_len (way + 1) count)) ++ more)) [
        | None ↦ λ is. ascending-from (set * way_count + way) (set * way_count + (way + 1)) (flat_map (at_way set) (range_with_len (way + 1) count) ++ more) (omega arith) later
        | Some s ↦ λ is.
            let a = stands-at set way s is in
            let set_is : s.item % sets ≡ set = a.set_is ∙ whole in
            let place : place_of s ≡ set * way_count + way = ap (λ k. k * way_count + s.entry.way) set_is ∙ ap (λ w. set * way_count + w) a.way_is in (
              record { inside = a.inside; way = omega (arith, a.way_is, size); there = a.there },
              omega (arith, place),
              ascending-from (place_of s + 1) (set * way_count + (way + 1)) (flat_map (at_way set) (range_with_len (way + 1) count) ++ more) (omega (arith, place)) later,
            )
      ] refl

  rows-ascend : (set count : ℕ) → set + count ≡ sets → Ascending (set * way_count) (flat_map in_set (range_with_len set count))
  rows-ascend set zero size = tt
  rows-ascend set (suc count) size =
      let less : set < sets = omega (arith, size) in
      let next : set * way_count + way_count ≤ (set + 1) * way_count = omega arith in
      let later = ascending-from (set * way_count + way_count) ((set + 1) * way_count) (flat_map in_set (range_with_len (set + 1) count)) next (rows-ascend (set + 1) count (omega (arith, size))) in
      let first : set * way_count ≤ set * way_count + 0 = omega arith in
      ascending-from (set * way_count) (set * way_count + 0) (in_set set ++ flat_map in_set (range_with_len (set + 1) count)) first (row-ascends set 0 way_count (flat_map in_set (range_with_len (set + 1) count)) (zero-add way_count) (mod-eq_of_lt less) later)

  pub listed-flat : standing sets ways way_count ≡ flat_map in_set (range_with_len 0 sets)
  unfolding standing standing_in
  listed-flat = ap (λ f. flat_map f (range_with_len 0 sets)) (fun_ext (λ set. filter_map-flat (standing_at sets ways set) (range_with_len 0 way_count)))

  pub listed-ascend : Ascending 0 (standing sets ways way_count)
  listed-ascend =
      let least : 0 ≤ 0 * way_count = omega arith in
      subst (Ascending 0) (sym listed-flat) (ascending-from 0 (0 * way_count) (flat_map in_set (range_with_len 0 sets)) least (rows-ascend 0 sets (zero-add sets)))

  -- ---- read in that order

  record InOrderOf (t s : StandingValue) : Type 0 where
    set : t.item % sets ≤ s.item % sets
    way : s.item % sets ≤ t.item % sets → t.entry.way ≤ s.entry.way

  order-of : (t s : StandingValue) → place_of t < place_of s → t.entry.way < way_count → s.entry.way < way_count → InOrderOf t s
  order-of t s less t_way s_way =
      let set : t.item % sets ≤ s.item % sets =
      elim (cases_lt (s.item % sets) (t.item % sets)) [
        | inl later ↦
            let next : s.item % sets + 1 ≤ t.item % sets = omega (arith, later) in
            let far : (s.item % sets + 1) * way_count ≤ t.item % sets * way_count = mul-le-mul_right way_count next in
            let product : (s.item % sets + 1) * way_count ≡ s.item % sets * way_count + way_count = omega arith in
            absurd (omega (arith, less, far, product, s_way))
        | inr le ↦ le
      ] in
      record {
        set = set;
        way = λ le.
            let same : t.item % sets ≡ s.item % sets = omega (arith, set, le) in
            let places : t.item % sets * way_count ≡ s.item % sets * way_count = ap (λ k. k * way_count) same in
            omega (arith, less, places);
      }

  -- what is looked at when an entry is read
  pub set-passes : (bound : ℕ) (s : StandingValue) (ss : List StandingValue) → Stands s → bound ≤ place_of s → AllBelow bound ss → not_before sets s.item (last_of ss) ≡ true
  set-passes bound s [] stands le below = refl
  set-passes bound s (t ∷ ts) stands le below = le-leb _ _ ((order-of t s (omega (arith, le, below.1)) below.0.way stands.way).set)

  pub way-passes : (bound : ℕ) (s : StandingValue) (ss : List StandingValue) → Stands s → bound ≤ place_of s → AllBelow bound ss → way_not_before sets s.item s.entry.way (last_of ss) ≡ true
  way-passes bound s [] stands le below = refl
  way-passes bound s (t ∷ ts) stands le below =
      let order = order-of t s (omega (arith, le, below.1)) below.0.way stands.way in
      elim (cases_lt (t.item % sets) (s.item % sets)) [
        | inl less ↦ ap (λ b. b || nat_le t.entry.way s.entry.way) (lt-ltb (t.item % sets) (s.item % sets) less)
        | inr le ↦ or_right (nat_lt (t.item % sets) (s.item % sets)) (nat_le t.entry.way s.entry.way) (le-leb _ _ (order.way le))
      ]

  -- each place is behind those of the entries that were read before
  abbrev pub Descending : List StandingValue → Type 0
  Descending [] = Unit {0}
  Descending (s ∷ ss) = Stands s × AllBelow (place_of s) ss × Descending ss

  pub onto-descends : (least : ℕ) (ss st : List StandingValue) → Ascending least st → AllBelow least ss → Descending ss → Descending (onto ss st)
  onto-descends least ss [] order below descends = descends
  onto-descends least ss (s ∷ st) order below descends =
      let here = below-more least (place_of s) ss order.1 below in
      let next : AllBelow (place_of s + 1) (s ∷ ss) = (order.0, omega arith, below-more least (place_of s + 1) ss (omega (arith, order.1)) below) in
      onto-descends (place_of s + 1) (s ∷ ss) st order.2 next (order.0, here, descends)

  -- so no two have one item, and no two one place
  other-item : (s : StandingValue) (ss : List StandingValue) → Stands s → AllBelow (place_of s) ss → list_any (nat_eq s.item) (map standing_item ss) ≡ false
  other-item s [] stands below = refl
  other-item s (t ∷ ss) stands below =
      let here : nat_eq s.item t.item ≡ false = false_from_ne_true _ (λ e.
      let same : s.item ≡ t.item = eqb-true _ _ e in
      let entries : Some s.entry ≡ Some t.entry = sym stands.there ∙ ap (λ x. way_at x ways) same ∙ below.0.there in
      let entry : s.entry ≡ t.entry = cc in
      let way : s.entry.way ≡ t.entry.way = ap (λ e. e.way) entry in
      let place : s.item % sets * way_count ≡ t.item % sets * way_count = ap (λ x. x % sets * way_count) same in
      omega (arith, below.1, way, place)) in
      rw here (other-item s ss stands below.2)

  other-place : (s : StandingValue) (ss : List StandingValue) → AllBelow (place_of s) ss → list_any (same_place sets s) ss ≡ false
  other-place s [] below = refl
  other-place s (t ∷ ss) below =
      let here : same_place sets s t ≡ false = false_from_ne_true _ (λ e.
      let p = and_parts (nat_eq (s.item % sets) (t.item % sets)) (nat_eq s.entry.way t.entry.way) e in
      let place : s.item % sets * way_count ≡ t.item % sets * way_count = ap (λ k. k * way_count) (eqb-true _ _ p.0) in
      omega (arith, below.1, eqb-true _ _ p.1, place)) in
      rw here (other-place s ss below.2)

  pub items-differ : (ss : List StandingValue) → Descending ss → are_distinct (map standing_item ss) ≡ true
  items-differ [] descends = refl
  items-differ (s ∷ ss) descends = and_from _ _ (not_from_false _ (other-item s ss descends.0 descends.1)) (items-differ ss descends.2)

  pub places-all-differ : (ss : List StandingValue) → Descending ss → places_differ sets ss ≡ true
  places-all-differ [] descends = refl
  places-all-differ (s ∷ ss) descends = and_from _ _ (not_from_false _ (other-place s ss descends.1)) (places-all-differ ss descends.2)

  -- ---- put in by their items

  put-at : (x : ℕ) (ss : List StandingValue) → x < length ways → Descending ss → way_at x (ways_of (length ways) ss) ≡ (if list_any (is_item x) ss then way_at x ways else None)
  put-at x [] inside descends = get_or-replicate (length ways) x None None inside
  put-at x (s ∷ ss) inside descends =
      elim (nat_eq x s.item) as (λ b. nat_eq x s.item ≡ b → way_at x (slice_set (ways_of (length ways) ss) s.item (Some s.entry)) ≡ (if b || list_any (is_item x) ss then way_at x ways else None)) [
        | true ↦ λ e.
            let same : x ≡ s.item = eqb-true x s.item e in
            let size = ways-many (length ways) ss in
            ap (λ y. way_at y (slice_set (ways_of (length ways) ss) s.item (Some s.entry))) same ∙ get_or-set_same (ways_of (length ways) ss) s.item (Some s.entry) None (omega (arith, size, descends.0.inside))
            ∙ sym descends.0.there ∙ ap (λ y. way_at y ways) (sym same)
        | false ↦ λ e. get_or-set_other (ways_of (length ways) ss) s.item x (Some s.entry) None (eqb-false x s.item e) ∙ put-at x ss inside descends.2
      ] refl

  module _ (some_sets : 0 < sets) (alone : (x : ℕ) (e : WayValue) → x < length ways → way_at x ways ≡ Some e → (e.way < way_count) × (all_from (same_if_there sets x e.way) 0 ways ≡ true)) where
    turned : (set way x y : ℕ) (o : Option WayValue) → set % sets ≡ x % sets → stands_in sets set way y o ≡ true → stands_in sets x way y o ≡ true
    turned set way x y None same e = e
    turned set way x y (Some entry) same e = subst (λ k. (nat_eq (y % sets) k && nat_eq entry.way way) ≡ true) same e

    -- an entry is listed at its place
    listed-at : (x : ℕ) (e : WayValue) → x < length ways → way_at x ways ≡ Some e → standing_at sets ways (x % sets) e.way ≡ Some (record { item = x; entry = e })
    unfolding standing_at item_in_way
    listed-at x e inside is =
        let set = x % sets in
        let whole : set % sets ≡ x % sets = mod-mod x sets in
        let stands_here : stands_in sets set e.way x (way_at x ways) ≡ true = ap (stands_in sets set e.way x) is ∙ and_from _ _ (eq-eqb (x % sets) (set % sets) (sym whole)) (eq-eqb e.way e.way refl) in
        let some = some-found (stands_in sets set e.way) 0 x ways None inside (subst (λ y. stands_in sets set e.way y (way_at x ways) ≡ true) (sym (zero-add x)) stands_here) in
        elim (find_from (stands_in sets set e.way) 0 ways) as (λ o. find_from (stands_in sets set e.way) 0 ways ≡ o → is_some o ≡ true → standing_of sets ways o ≡ Some (record { item = x; entry = e })) [
          | None ↦ λ found some. absurd (true≢false (sym some))
          | Some y ↦ λ found some.
              let f = found-from (stands_in sets set e.way) 0 ways None y found in
              let number : 0 + f.place ≡ y = sym f.is in
              let place : f.place ≡ y = omega (arith, number) in
              let y_inside : y < length ways = omega (arith, f.inside, place) in
              let y_stands = turned set e.way x y (way_at y ways) whole (subst (λ z. stands_in sets set e.way y (way_at z ways) ≡ true) place f.passes) in
              let only = all-from-at (same_if_there sets x e.way) 0 y ways None ((alone x e inside is).1) y_inside in
              let same : x ≡ y = eqb-true x y (implied (stands_in sets x e.way y (way_at y ways)) (nat_eq x y) (subst (λ z. same_if_there sets x e.way z (way_at y ways) ≡ true) (zero-add y) only) y_stands) in
              ap (λ z. standing_of sets ways (Some z)) (sym same) ∙ ap (option_map (λ e. record { item = x; entry = e })) is
        ] refl some

    listed-item : (x : ℕ) (e : WayValue) → x < length ways → way_at x ways ≡ Some e → list_any (is_item x) (standing sets ways way_count) ≡ true
    listed-item x e inside is =
        let here : list_any (is_item x) (at_way (x % sets) e.way) ≡ true = ap (λ o. list_any (is_item x) (option_to_list o)) (listed-at x e inside is) ∙ ap (λ b. b || false) (eq-eqb x x refl) in
        let way : e.way < 0 + way_count = omega (arith, (alone x e inside is).0) in
        let set : x % sets < 0 + sets = omega arith in
        let row = any-along (is_item x) (at_way (x % sets)) e.way 0 way_count (omega arith) way here in
        ap (list_any (is_item x)) listed-flat ∙ any-along (is_item x) in_set (x % sets) 0 sets (omega arith) set row

    pub listed-back : ways_of (length ways) (onto [] (standing sets ways way_count)) ≡ ways
    listed-back =
        let ss = onto [] (standing sets ways way_count) in
        let descends = onto-descends 0 [] (standing sets ways way_count) listed-ascend tt tt in
        let size = ways-many (length ways) ss in
        ext_get_or None (ways_of (length ways) ss) ways size (λ x l.
        let inside : x < length ways = omega (arith, l, size) in
        put-at x ss inside descends ∙
        (elim (way_at x ways) as (λ o. way_at x ways ≡ o → (if list_any (is_item x) ss then o else None) ≡ o) [
          | None ↦ λ is. none-either (list_any (is_item x) ss)
          | Some e ↦ λ is. ap (λ b. if b then Some e else None) (any-onto (is_item x) [] (standing sets ways way_count) (listed-item x e inside is))
        ] refl))
