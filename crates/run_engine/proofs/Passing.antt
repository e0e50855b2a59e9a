-- Leaves that are known to have no way left for the items of a set, and stay so while items are placed one by one.
-- Letters: x and y are items, o what is placed or where, v is a leaf, ls are leaves, e is an entry, w a way.
use Rattle.std.proofs.Common.{◌≡◌, ◌<◌, ◌≤◌, ◌⊎◌, inl, inr, ℕ, zero, suc, ◌+◌, ◌%◌, Bool, true, false, List, [], ◌∷◌, length, replicate, Option, Some, None, refl, sym, ap, subst, ◌∙◌, arith, All}
use Rattle.std.specs.Prelude.{is_some, is_none, nat_eq, find, option_map, slice_index_or, slice_set, if◌then◌else◌, ◌&&◌}
use Rattle.std.specs.List.{AllByRecursion, range_with_len}
use Rattle.std.proofs.lemmas.List.{get_or-set_other}
use Rattle.std.proofs.lemmas.List.Elements.{All-from_recursion, recursion_from_All}
use Rattle.std.proofs.lemmas.Nat.{mod_below}
use native.Mathlib.Decide.{ℕ_discrete}
use Rattle.run_engine.specs.DdmTypes.declared.sizes.LeafState.{LeafState}
use Rattle.run_engine.specs.TreeModel.State.Lists.{find_from, map_from}
use Rattle.run_engine.specs.TreeModel.State.Values.{LeafSizes, LeafValue, WayValue}
use Rattle.run_engine.specs.TreeModel.State.Blank.{no_leaf}
use Rattle.run_engine.specs.TreeModel.State.Leaf.{entry_at, enters_free, free_way, item_in_way, leaf_entry, stands_in, way_at, way_entry, with_fate}
use Rattle.run_engine.specs.TreeModel.Start.Nodes.{has_way, leaf_for, placed, placed_at, placed_in, placed_items}
use Rattle.run_engine.proofs.TreeModel.Children.{map_from-length}
use Rattle.run_engine.proofs.TreeModel.Tests.{first_some-none_first}
use Rattle.run_engine.specs.declared.leaves.Passed.{Passed}
use Rattle.run_engine.specs.Placement.{ArePassed, HasSets, TakesItem, in_turn}

-- ---- items of one set find the same ways

find-same : (f g : ℕ → Bool) → ((n : ℕ) → f n ≡ g n) → (ns : List ℕ) → find f ns ≡ find g ns
find-same f g same [] = refl
find-same f g same (n ∷ ns) = rw (same n, find-same f g same ns) refl

module _ (sets x y : ℕ) (same : x % sets ≡ y % sets) where
  stands-same : (way z : ℕ) (o : Option WayValue) → stands_in sets x way z o ≡ stands_in sets y way z o
  stands-same way z None = refl
  stands-same way z (Some e) = ap (λ set. nat_eq (z % sets) set && nat_eq e.way way) same

  found-same : (way z : ℕ) (ways : List (Option WayValue)) → find_from (stands_in sets x way) z ways ≡ find_from (stands_in sets y way) z ways
  found-same way z [] = refl
  found-same way z (o ∷ ways) = rw (stands-same way z o, found-same way (z + 1) ways) refl

  item-same : (way : ℕ) (ways : List (Option WayValue)) → item_in_way sets x way ways ≡ item_in_way sets y way ways
  unfolding item_in_way
  item-same way ways = found-same way 0 ways

way-same : (sizes : LeafSizes) (x y : ℕ) (ways : List (Option WayValue)) → x % sizes.sets ≡ y % sizes.sets → free_way sizes x ways ≡ free_way sizes y ways
unfolding free_way
way-same sizes x y ways same = find-same (λ way. is_none (item_in_way sizes.sets x way ways)) (λ way. is_none (item_in_way sizes.sets y way ways)) (λ way. ap is_none (item-same sizes.sets x y same way ways)) (range_with_len 0 sizes.way_count)

-- ---- a full set stays full when an item comes into the leaf

or-else : (b : Bool) (z : ℕ) (o : Option ℕ) → is_some o ≡ true → is_some (if b then Some z else o) ≡ true
or-else true z o some = refl
or-else false z o some = some

or-both : (b : Bool) (z : ℕ) (o u : Option ℕ) → (is_some o ≡ true → is_some u ≡ true) → is_some (if b then Some z else o) ≡ true → is_some (if b then Some z else u) ≡ true
or-both true z o u more some = refl
or-both false z o u more some = more some

module _ (sets x way : ℕ) (e : WayValue) where
  found-more : (z y : ℕ) (ways : List (Option WayValue)) → way_at y ways ≡ None → is_some (find_from (stands_in sets x way) z ways) ≡ true → is_some (find_from (stands_in sets x way) z (slice_set ways y (Some e))) ≡ true
  found-more z y [] absent found = found
  found-more z zero (o ∷ ways) absent found =
      or-else (stands_in sets x way z (Some e)) z (find_from (stands_in sets x way) (z + 1) ways) (subst (λ u. is_some (find_from (stands_in sets x way) z (u ∷ ways)) ≡ true) absent found)
  found-more z (suc y) (o ∷ ways) absent found =
      or-both (stands_in sets x way z o) z (find_from (stands_in sets x way) (z + 1) ways) (find_from (stands_in sets x way) (z + 1) (slice_set ways y (Some e))) (found-more (z + 1) y ways absent) found

find-more : (f g : ℕ → Bool) → ((n : ℕ) → f n ≡ false → g n ≡ false) → (ns : List ℕ) → find f ns ≡ None → find g ns ≡ None
find-more f g more [] none = refl
find-more f g more (n ∷ ns) none = by (find-more f g more ns) (f n) refl none
  where
    by : (find f ns ≡ None → find g ns ≡ None) → (b : Bool) → f n ≡ b → (if b then Some n else find f ns) ≡ None → find g (n ∷ ns) ≡ None
    by later true is some = cc
    by later false is rest = ap (λ b. if b then Some n else find g ns) (more n is) ∙ later rest

way-more : (sizes : LeafSizes) (x y : ℕ) (e : WayValue) (ways : List (Option WayValue)) → way_at y ways ≡ None → free_way sizes x ways ≡ None → free_way sizes x (slice_set ways y (Some e)) ≡ None
unfolding free_way item_in_way
way-more sizes x y e ways absent none = find-more (λ way. is_none (item_in_way sizes.sets x way ways)) (λ way. is_none (item_in_way sizes.sets x way (slice_set ways y (Some e)))) (λ way taken. not-none _ (found-more sizes.sets x way e 0 y ways absent (some-of _ taken))) (range_with_len 0 sizes.way_count) none
  where
    some-of : (o : Option ℕ) → is_none o ≡ false → is_some o ≡ true
    some-of None is = cc
    some-of (Some z) is = refl

    not-none : (o : Option ℕ) → is_some o ≡ true → is_none o ≡ false
    not-none None is = cc
    not-none (Some z) is = refl

-- ---- one leaf

-- a leaf has no way left for the item
abbrev IsFull : ℕ → LeafValue → Type 0
IsFull x v = is_some (free_way v.sizes x v.ways) ≡ false

full-none : (o : Option ℕ) → is_some o ≡ false → o ≡ None
full-none None full = refl
full-none (Some way) full = cc

absent-way : (y : ℕ) (v : LeafValue) → leaf_entry y v ≡ None → way_at y v.ways ≡ None
unfolding entry_at
absent-way y v absent = not-there (way_at y v.ways) (first_some-none_first (option_map way_entry (way_at y v.ways)) _ absent)
  where
    not-there : (o : Option WayValue) → option_map way_entry o ≡ None → o ≡ None
    not-there None none = refl
    not-there (Some e) none = cc

module _ (y : ℕ) (words : List ℕ) where
  module _ (x : ℕ) where
    enters-full : (o : Option ℕ) (v : LeafValue) → leaf_entry y v ≡ None → IsFull x v → IsFull x (with_fate y (enters_free LeafState.Exclusive words o) v)
    enters-full None v absent full = full
    enters-full (Some way) v absent full = ap is_some (way-more v.sizes x y (record { way = way; state = LeafState.Exclusive; words = words }) v.ways (absent-way y v absent) (full-none (free_way v.sizes x v.ways) full))

    at-full : (b : Bool) (v : LeafValue) → TakesItem y v → IsFull x v → IsFull x (if b then placed y words v else v)
    at-full true v takes full = enters-full (free_way v.sizes y v.ways) v takes.absent full
    at-full false v takes full = full

    each-full : (leaf i k : ℕ) (ls : List LeafValue) → AllByRecursion (TakesItem y) ls → IsFull x (slice_index_or ls k no_leaf) → IsFull x (slice_index_or (map_from (placed_at leaf y words) i ls) k no_leaf)
    each-full leaf i k [] takes full = full
    each-full leaf i zero (v ∷ ls) takes full = at-full (nat_eq i leaf) v takes.0 full
    each-full leaf i (suc k) (v ∷ ls) takes full = each-full leaf (i + 1) k ls takes.1 full

    in-full : (o : Option ℕ) (k : ℕ) (ls : List LeafValue) → AllByRecursion (TakesItem y) ls → has_way ls x k ≡ false → has_way (placed_in y words ls o) x k ≡ false
    in-full None k ls takes full = full
    in-full (Some leaf) k ls takes full = each-full leaf 0 k ls takes full

  -- ---- all leaves

  pub length-in : (o : Option ℕ) (ls : List LeafValue) → length (placed_in y words ls o) ≡ length ls
  length-in None ls = refl
  length-in (Some leaf) ls = map_from-length (placed_at leaf y words) 0 ls

  passed-more : (x count : ℕ) (o : Option ℕ) (ls : List LeafValue) → All (TakesItem y) ls → ArePassed x count ls → ArePassed x count (placed_in y words ls o)
  passed-more x count o ls takes passed k below =
      subst (λ n. has_way (placed_in y words ls o) x (in_turn x n k) ≡ false) (sym (length-in o ls)) (in-full x o (in_turn x (length ls) k) ls (recursion_from_All (TakesItem y) ls takes) (passed k below))

  sets-at : (sets : ℕ) (b : Bool) (v : LeafValue) → HasSets sets v → HasSets sets (if b then placed y words v else v)
  sets-at sets true v has = has
  sets-at sets false v has = has

  each-sets : (sets leaf i : ℕ) (ls : List LeafValue) → AllByRecursion (HasSets sets) ls → AllByRecursion (HasSets sets) (map_from (placed_at leaf y words) i ls)
  each-sets sets leaf i [] all = tt
  each-sets sets leaf i (v ∷ ls) all = (sets-at sets (nat_eq i leaf) v all.0, each-sets sets leaf (i + 1) ls all.1)

  pub sets-in : (sets : ℕ) (o : Option ℕ) (ls : List LeafValue) → All (HasSets sets) ls → All (HasSets sets) (placed_in y words ls o)
  sets-in sets None ls all = all
  sets-in sets (Some leaf) ls all = All-from_recursion (HasSets sets) (map_from (placed_at leaf y words) 0 ls) (each-sets sets leaf 0 ls (recursion_from_All (HasSets sets) ls all))

-- ---- one leaf more is passed

pub one-more : (x k : ℕ) (ls : List LeafValue) → ArePassed x k ls → has_way ls x (in_turn x (length ls) k) ≡ false → ArePassed x (k + 1) ls
one-more x k ls passed full j below = by (ℕ_discrete j k)
  where
    by : Dec (j ≡ k) → has_way ls x (in_turn x (length ls) j) ≡ false
    by (yes is) = ap (λ i. has_way ls x (in_turn x (length ls) i)) is ∙ full
    by (no other) = passed j (omega (arith, below, other))

-- ---- what is known of a set

-- so many leaves, in cyclic order from this one on, have no way left for its items
pub record IsKnown (sets set : ℕ) (p : Passed) (ls : List LeafValue) : Type 0 where
  pub inside : p.leaves ≤ length ls
  pub passed : (x : ℕ) → x % sets ≡ set → x % length ls ≡ p.own → ArePassed x p.leaves ls

abbrev pub nothing_passed : Passed
nothing_passed = record { own = 0; leaves = 0 }

abbrev pub AreKnown : ℕ → List Passed → List LeafValue → Type 0
AreKnown sets table ls = (set : ℕ) → IsKnown sets set (slice_index_or table set nothing_passed) ls

nothing-known : (sets set : ℕ) (ls : List LeafValue) → IsKnown sets set nothing_passed ls
nothing-known sets set ls = record { inside = omega arith; passed = λ x in_set from k below. absurd (omega (arith, below)) }

pub none-known : (sets n : ℕ) (ls : List LeafValue) → AreKnown sets (replicate n nothing_passed) ls
none-known sets n ls set = subst (λ p. IsKnown sets set p ls) (sym (nothing-at n set)) (nothing-known sets set ls)
  where
    nothing-at : (n k : ℕ) → slice_index_or (replicate n nothing_passed) k nothing_passed ≡ nothing_passed
    nothing-at zero k = refl
    nothing-at (suc n) zero = refl
    nothing-at (suc n) (suc k) = nothing-at n k

-- where an item's search may begin
abbrev pub MayBegin : ℕ → ℕ → List LeafValue → Type 0
MayBegin x first ls = (first ≤ length ls) × ArePassed x first ls

-- behind the leaves that are known to have no way for the items of its set with its own leaf
pub begins-behind : (sets x first : ℕ) (p : Passed) (ls : List LeafValue) → IsKnown sets (x % sets) p ls → p.own ≡ x % length ls → first ≡ p.leaves → MayBegin x first ls
begins-behind sets x first p ls known own is = subst (λ k. MayBegin x k ls) (sym is) (known.inside, known.passed x refl (sym own))

-- at its own leaf
pub begins-own : (x first : ℕ) (ls : List LeafValue) → first ≡ 0 → MayBegin x first ls
begins-own x first ls is = (omega (arith, is), λ k below. absurd (omega (arith, below, is)))

sets-there : (sets k : ℕ) (ls : List LeafValue) → AllByRecursion (HasSets sets) ls → k < length ls → (slice_index_or ls k no_leaf).sizes.sets ≡ sets
sets-there sets k [] all inside = absurd (omega (arith, inside))
sets-there sets zero (v ∷ ls) all inside = all.0
sets-there sets (suc k) (v ∷ ls) all inside = sets-there sets k ls all.1 (omega (arith, inside))

has-same : (sets x y k : ℕ) (ls : List LeafValue) → All (HasSets sets) ls → k < length ls → x % sets ≡ y % sets → has_way ls x k ≡ has_way ls y k
has-same sets x y k ls all inside same =
    let there = sets-there sets k ls (recursion_from_All (HasSets sets) ls all) inside in
    let v = slice_index_or ls k no_leaf in
    ap is_some (way-same v.sizes x y v.ways (subst (λ n. x % n ≡ y % n) (sym there) same))

module _ (sets y : ℕ) (words : List ℕ) (ls : List LeafValue) (all : All (HasSets sets) ls) (takes : All (TakesItem y) ls) where
  abbrev after : List LeafValue
  after = placed_in y words ls (leaf_for ls y)

  known-more : (set : ℕ) (p : Passed) → IsKnown sets set p ls → IsKnown sets set p after
  known-more set p known = record {
    inside = omega (arith, known.inside, length-in y words (leaf_for ls y) ls);
    passed = λ x in_set from. passed-more y words x p.leaves (leaf_for ls y) ls takes (known.passed x in_set (ap (λ n. x % n) (sym (length-in y words (leaf_for ls y) ls)) ∙ from));
  }

  -- as many leaves as were passed for an item are so for each of its set with the same own leaf
  known-here : (own leaves : ℕ) → own ≡ y % length ls → leaves ≤ length ls → ArePassed y leaves ls → IsKnown sets (y % sets) (record { own = own; leaves = leaves }) ls
  known-here own leaves own_is inside passed = record {
    inside = inside;
    passed = λ x in_set from k below.
        let some : 0 < length ls = omega (arith, below, inside) in
        let there = mod_below (x % length ls + k) (length ls) some in
        has-same sets x y (in_turn x (length ls) k) ls all there in_set ∙ ap (λ first. has_way ls y ((first + k) % length ls)) (from ∙ own_is) ∙ passed k below;
  }

  pub known-next : (table : List Passed) (place own leaves : ℕ) → AreKnown sets table ls → place ≡ y % sets → own ≡ y % length ls → leaves ≤ length ls → ArePassed y leaves ls → AreKnown sets (slice_set table place (record { own = own; leaves = leaves })) after
  known-next table place own leaves known place_is own_is inside passed set = known-more set _ (by (ℕ_discrete set place) (inside-or table place))
    where
      put : Passed
      put = record { own = own; leaves = leaves }

      inside-or : (table : List Passed) (k : ℕ) → (slice_index_or (slice_set table k put) k nothing_passed ≡ put) ⊎ (slice_index_or (slice_set table k put) k nothing_passed ≡ nothing_passed)
      inside-or [] k = inr refl
      inside-or (p ∷ table) zero = inl refl
      inside-or (p ∷ table) (suc k) = inside-or table k

      by : Dec (set ≡ place) → (slice_index_or (slice_set table place put) place nothing_passed ≡ put) ⊎ (slice_index_or (slice_set table place put) place nothing_passed ≡ nothing_passed) → IsKnown sets set (slice_index_or (slice_set table place put) set nothing_passed) ls
      by (yes is) (inl here) = subst (λ p. IsKnown sets set p ls) (sym (ap (λ k. slice_index_or (slice_set table place put) k nothing_passed) is ∙ here)) (subst (λ s. IsKnown sets s put ls) (sym (is ∙ place_is)) (known-here own leaves own_is inside passed))
      by (yes is) (inr none) = subst (λ p. IsKnown sets set p ls) (sym (ap (λ k. slice_index_or (slice_set table place put) k nothing_passed) is ∙ none)) (nothing-known sets set ls)
      by (no other) w = subst (λ p. IsKnown sets set p ls) (sym (get_or-set_other table place set put nothing_passed other)) (known set)

-- ---- without leaves nothing is placed

pub placed-none : (x : ℕ) (words : List (List ℕ)) (ls : List LeafValue) → length ls ≡ 0 → ls ≡ placed_items x words ls
unfolding placed_items leaf_for
placed-none x words (v ∷ ls) none = cc
placed-none x [] [] none = refl
placed-none x (w ∷ words) [] none = placed-none (x + 1) words [] none
