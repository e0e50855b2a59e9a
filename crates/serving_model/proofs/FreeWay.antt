-- In a leaf with room each item that has no entry has a free way: the items of its set are no more than the ways, and
-- it is one of them.
-- Letters: n is how many items there are, x the item, v a leaf, y another item of its set.
use Rattle.std.proofs.Common.{◌≡◌, ◌≢◌, ℕ, zero, suc, ◌+◌, ◌*◌, ◌/◌, ◌%◌, ◌<◌, ◌≤◌, Bool, true, false, List, [], ◌∷◌, length, Option, Some, None, refl, sym, ap, subst, ◌∙◌, arith}
use Rattle.std.specs.Prelude.{◌||◌, if◌then◌else◌, nat_eq, nat_lt, is_none, is_some, find, eqb}
use Rattle.std.specs.List.{AllByRecursion, IsDistinct, list_any, range_with_len}
use Rattle.std.proofs.lemmas.Bool.{and_parts, true≢false, eqb-true, ne_eqb}
use native.Mathlib.Nat.{div-add-mod', mul_comm}
use Rattle.std.proofs.lemmas.Nat.{div_below}
use Rattle.std.proofs.lemmas.Map.Steps.{length-le_from_distinct_below}
use Rattle.serving_model.specs.TreeModel.State.Lists.{find_from}
use Rattle.serving_model.specs.TreeModel.State.Values.{WayValue, LeafValue}
use Rattle.serving_model.specs.TreeModel.State.Leaf.{way_at, stands_in, item_in_way, free_way}
use Rattle.serving_model.specs.TreeRules.Bus.Own.{IsLeafOk, has_ways}
use Rattle.bus_laws.proofs.HartFacts.{HasEntries, entries-from_rules}
use Rattle.bus_laws.proofs.DirParts.{lt-fact}
use Rattle.serving_model.proofs.TreeModel.Children.{found-passes, found-within}

module _ (n x : ℕ) (v : LeafValue) (within : x < n) (ok : IsLeafOk n v) (room : n ≤ v.sizes.sets * v.sizes.way_count) (none : way_at x v.ways ≡ None) where
  abbrev sets : ℕ
  sets = v.sizes.sets

  abbrev ways : ℕ
  ways = v.sizes.way_count

  some-set : 0 < sets
  some-set = lt-fact 0 sets (and_parts (nat_lt 0 sets) _ (ok.each has_ways)).0

  entries : HasEntries n v.sizes v.ways v.buffer
  entries = entries-from_rules n v ok

  -- the item that is in a way of the set
  record InWay (way : ℕ) : Type 0 where
    item : ℕ
    known : item < n
    same_set : item % sets ≡ x % sets
    entry : WayValue
    has : way_at item v.ways ≡ Some entry
    stands : entry.way ≡ way
    is : item_in_way sets x way v.ways ≡ Some item

  in-way : (way : ℕ) → is_none (item_in_way sets x way v.ways) ≡ false → InWay way
  unfolding item_in_way
  in-way way some = at (find_from (stands_in sets x way) 0 v.ways) refl some where
    at : (o : Option ℕ) → find_from (stands_in sets x way) 0 v.ways ≡ o → is_none o ≡ false → InWay way
    at None found h = absurd (true≢false h)
    at (Some y) found h = entry-at (way_at y v.ways) refl (found-passes (stands_in sets x way) y v.ways None found) where
      entry-at : (o : Option WayValue) → way_at y v.ways ≡ o → stands_in sets x way y (way_at y v.ways) ≡ true → InWay way
      entry-at None has t = absurd (true≢false (sym t ∙ ap (stands_in sets x way y) has))
      entry-at (Some e) has t =
          let both = and_parts (nat_eq (y % sets) (x % sets)) (nat_eq e.way way) (sym (ap (stands_in sets x way y) has) ∙ t) in
          record {
            item = y;
            known = subst (λ k. y < k) entries.count (found-within (stands_in sets x way) y v.ways None found);
            same_set = eqb-true _ _ both.0;
            entry = e;
            has = has;
            stands = eqb-true _ _ both.1;
            is = found;
          }

  -- an item is known by its place in its set
  same-item : (y z : ℕ) → y % sets ≡ z % sets → y / sets ≡ z / sets → y ≡ z
  same-item y z rest row = sym (div-add-mod' y sets) ∙ (ap (λ q. q * sets + y % sets) row ∙ (ap (λ r. z / sets * sets + r) rest ∙ div-add-mod' z sets))

  row-below : (y : ℕ) → y < n → y / sets < ways
  row-below y l = div_below y sets ways some-set (let turned : sets * ways ≡ ways * sets = mul_comm sets ways in omega (arith, l, room, turned))

  -- the place in its set of the item in a way
  abbrev row_of : Option ℕ → ℕ
  row_of None = 0
  row_of (Some y) = y / sets

  abbrev row : ℕ → ℕ
  row way = row_of (item_in_way sets x way v.ways)

  -- those of the first ways, and last x's own
  abbrev rows : ℕ → List ℕ
  rows zero = x / sets ∷ []
  rows (suc k) = row k ∷ rows k

  rows-many : (k : ℕ) → length (rows k) ≡ k + 1
  rows-many zero = refl
  rows-many (suc k) =
      let rest = rows-many k in
      omega (arith, rest)

  module _ (taken : (way : ℕ) → way < ways → is_none (item_in_way sets x way v.ways) ≡ false) where
    row-is : (way : ℕ) (l : way < ways) → row way ≡ (in-way way (taken way l)).item / sets
    row-is way l = ap row_of (in-way way (taken way l)).is

    -- no way has x, and no two ways have one item
    not-own : (way : ℕ) → way < ways → row way ≢ x / sets
    not-own way l same =
        let i = in-way way (taken way l) in
        let item : i.item ≡ x = same-item i.item x i.same_set (sym (row-is way l) ∙ same) in
        let has : way_at x v.ways ≡ Some i.entry = subst (λ y. way_at y v.ways ≡ Some i.entry) item i.has in
        cc

    not-same : (a b : ℕ) → a < ways → b < ways → a ≢ b → row a ≢ row b
    not-same a b la lb ne same =
        let i = in-way a (taken a la) in
        let j = in-way b (taken b lb) in
        let item : i.item ≡ j.item = same-item i.item j.item (i.same_set ∙ sym j.same_set) (sym (row-is a la) ∙ (same ∙ row-is b lb)) in
        let has : way_at j.item v.ways ≡ Some i.entry = subst (λ y. way_at y v.ways ≡ Some i.entry) item i.has in
        let other : way_at j.item v.ways ≡ Some j.entry = j.has in
        let entry : i.entry ≡ j.entry = cc in
        ne (sym i.stands ∙ (ap (λ (e : WayValue). e.way) entry ∙ j.stands))

    apart : (way : ℕ) → way < ways → (k : ℕ) → k ≤ way → AllByRecursion (λ y. eqb (row way) y ≡ false) (rows k)
    apart way l zero low = (ne_eqb _ _ (not-own way l), tt)
    apart way l (suc k) low = (ne_eqb _ _ (not-same way k l (omega (arith, l, low)) (λ same. omega (arith, low, same))), apart way l k (omega (arith, low)))

    distinct : (k : ℕ) → k ≤ ways → IsDistinct eqb (rows k)
    unfolding IsDistinct
    distinct zero l = (tt, tt)
    distinct (suc k) l = (apart k (omega (arith, l)) k (omega arith), distinct k (omega (arith, l)))

    bounded : (k : ℕ) → k ≤ ways → (q : ℕ) → list_any (eqb q) (rows k) ≡ true → q < ways
    bounded zero l q member = at (eqb q (x / sets)) refl member where
      at : (b : Bool) → eqb q (x / sets) ≡ b → (b || false) ≡ true → q < ways
      at true is h = subst (λ r. r < ways) (sym (eqb-true q (x / sets) is)) (row-below x within)
      at false is h = absurd (true≢false (sym h))
    bounded (suc k) l q member = at (eqb q (row k)) refl member (λ rest. bounded k (omega (arith, l)) q rest) where
      lk : k < ways
      lk = omega (arith, l)

      at : (b : Bool) → eqb q (row k) ≡ b → (b || list_any (eqb q) (rows k)) ≡ true → (list_any (eqb q) (rows k) ≡ true → q < ways) → q < ways
      at true is h rest =
          let i = in-way k (taken k lk) in
          subst (λ r. r < ways) (sym (eqb-true q (row k) is ∙ row-is k lk)) (row-below i.item i.known)
      at false is h rest = rest h

    too-many : ⊥
    too-many =
        let few = length-le_from_distinct_below (rows ways) ways (distinct ways (omega arith)) (λ q member. bounded ways (omega arith) q member) in
        let many = rows-many ways in
        omega (arith, few, many)

  find-none : (t : ℕ → Bool) (a len : ℕ) → find t (range_with_len a len) ≡ None → (k : ℕ) → k < len → t (a + k) ≡ false
  find-none t a zero e k l = absurd (omega (arith, l))
  find-none t a (suc len) e k l = at (t a) refl e (λ rest j lj. find-none t (a + 1) len rest j lj) k l where
    at : (b : Bool) → t a ≡ b → (if b then Some a else find t (range_with_len (a + 1) len)) ≡ None → (find t (range_with_len (a + 1) len) ≡ None → (j : ℕ) → j < len → t ((a + 1) + j) ≡ false) → (k : ℕ) → k < suc len → t (a + k) ≡ false
    at true is e rest k l = cc
    at false is e rest zero l =
        let same : a ≡ a + 0 = omega arith in
        subst (λ i. t i ≡ false) same is
    at false is e rest (suc j) l =
        let same : (a + 1) + j ≡ a + suc j = omega arith in
        subst (λ i. t i ≡ false) same (rest e j (omega (arith, l)))

  pub some-free : (o : Option ℕ) → free_way v.sizes x v.ways ≡ o → is_some o ≡ true
  unfolding free_way
  some-free (Some way) is = refl
  some-free None is = absurd (too-many (λ way l. subst (λ i. is_none (item_in_way sets x i v.ways) ≡ false) (let same : 0 + way ≡ way = omega arith in same) (find-none (λ way. is_none (item_in_way sets x way v.ways)) 0 ways is way l)))
