-- Entries that were read in order of their sets and ways stand in the ways, and are listed from there in that order.
-- Letters: s and t are entries with their items, ss those that were read, the last one first.
use Rattle.std.specs.Prelude.{◌≡◌, ℕ, zero, suc, ◌+◌, ◌%◌, ◌<◌, ◌≤◌, Bool, true, false, not, nat_eq, nat_lt, nat_le, ◌&&◌, List, [], ◌∷◌, ◌++◌, length, map, replicate, find, option_to_list, option_map, slice_set, slice_index_or, Option, Some, None, refl, if◌then◌else◌}
use Rattle.std.specs.List.{list_any, flat_map, range_with_len}
use Rattle.std.proofs.Common.{ap, sym, ◌∙◌, subst, arith, length-set, get_or-set_same, get_or-set_other, cond, inl, inr, zero-add}
use Rattle.std.proofs.Math.Path.{fun_ext}
use Rattle.std.proofs.Math.Nat.{mod-eq_of_lt}
use Rattle.std.proofs.lemmas.List.{length-replicate, get_or-replicate, get_or_past}
use Rattle.std.proofs.lemmas.Bool.{eqb-true, eqb-false, eq-eqb, ltb-true, leb-true, and_parts, and_from, or_cases, or_parts, not-true, cases_lt, false_from_ne_true}
use Rattle.spelling_laws.specs.TreeModel.State.Lists.{find_from}
use Rattle.spelling_laws.specs.TreeModel.State.Values.{WayValue}
use Rattle.spelling_laws.specs.TreeModel.State.Shape.{are_distinct}
use Rattle.spelling_laws.specs.TreeModel.State.Leaf.{way_at, stands_in, item_in_way}
use Rattle.spelling_laws.specs.StateWords.Parts.{StandingValue, standing_of, standing_at, standing_in, standing}
use Rattle.spelling_laws.specs.StateReading.Parts.{not_before, way_not_before, last_of, ways_with, standing_item, same_place, places_differ}
use Rattle.spelling_laws.proofs.Rows.{filter_map-flat, nothing-along, one-grows}

abbrev pub backwards : List StandingValue → List StandingValue
backwards [] = []
backwards (s ∷ ss) = backwards ss ++ s ∷ []

abbrev pub ways_of : ℕ → List StandingValue → List (Option WayValue)
ways_of n ss = ways_with ss (replicate n None)

pub ways-many : (n : ℕ) (ss : List StandingValue) → length (ways_of n ss) ≡ n
ways-many n [] = length-replicate n None
ways-many n (s ∷ ss) = length-set (ways_of n ss) s.item (Some s.entry) ∙ ways-many n ss

-- ---- a search in a list of which one place was set

module _ {X : Type 0} (t : ℕ → X → Bool) (j : ℕ) (o : X) where
  find-same : (a i : ℕ) (xs : List X) (d : X) → j ≡ a + i → t j o ≡ false → t j (slice_index_or xs i d) ≡ false → find_from t a (slice_set xs i o) ≡ find_from t a xs
  find-same a i [] d at new old = refl
  find-same a zero (x ∷ xs) d at new old =
      let here : j ≡ a = omega (arith, at) in
      let n : t a o ≡ false = subst (λ k. t k o ≡ false) here new in
      let b : t a x ≡ false = subst (λ k. t k x ≡ false) here old in
      rw (n, b) refl
  find-same a (suc i) (x ∷ xs) d at new old =
      let next : j ≡ a + 1 + i = omega (arith, at) in
      ap (λ r. if t a x then Some a else r) (find-same (a + 1) i xs d next new old)

  find-there : (a i : ℕ) (xs : List X) → j ≡ a + i → i < length xs → t j o ≡ true → find_from t a xs ≡ None → find_from t a (slice_set xs i o) ≡ Some j
  find-there a i [] at inside new none = absurd (omega (arith, inside))
  find-there a zero (x ∷ xs) at inside new none =
      let here : j ≡ a = omega (arith, at) in
      let n : t a o ≡ true = subst (λ k. t k o ≡ true) here new in
      rw n (ap (λ k. Some k) (sym here))
  find-there a (suc i) (x ∷ xs) at inside new none =
      elim (t a x) as (λ b. t a x ≡ b → (if b then Some a else find_from t (a + 1) xs) ≡ None → (if b then Some a else find_from t (a + 1) (slice_set xs i o)) ≡ Some j) [
        | true ↦ λ e none. cc
        | false ↦ λ e none. let next : j ≡ a + 1 + i = omega (arith, at) in find-there (a + 1) i xs next (omega (arith, inside)) new none
      ] refl none

module _ (sets n way_count : ℕ) where
  abbrev pub at_place : ℕ → ℕ → StandingValue → Bool
  at_place set way s = nat_eq (s.item % sets) (set % sets) && nat_eq s.entry.way way

  -- ---- entries in order

  pub record Precedes (t s : StandingValue) : Type 0 where
    pub set : t.item % sets ≤ s.item % sets
    pub way : s.item % sets ≤ t.item % sets → t.entry.way ≤ s.entry.way

  precedes-both : {r t s : StandingValue} → Precedes r t → Precedes t s → Precedes r s
  precedes-both {r} {t} {s} first second = record {
    set = omega (arith, first.set, second.set);
    way = λ le. omega (arith, first.way (omega (arith, le, first.set, second.set)), second.way (omega (arith, le, first.set, second.set)));
  }

  abbrev pub AllPrecede : StandingValue → List StandingValue → Type 0
  AllPrecede s [] = Unit {0}
  AllPrecede s (t ∷ ts) = Precedes t s × AllPrecede s ts

  all-precede : (t s : StandingValue) (ts : List StandingValue) → Precedes t s → AllPrecede t ts → AllPrecede s ts
  all-precede t s [] p all = tt
  all-precede t s (r ∷ ts) p all = (precedes-both all.0 p, all-precede t s ts p all.1)

  -- what was looked at when it was read
  pub record ReadAfter (s : StandingValue) (ss : List StandingValue) : Type 0 where
    pub inside : s.item < n
    pub way : s.entry.way < way_count
    pub set_fits : not_before sets s.item (last_of ss) ≡ true
    pub way_fits : way_not_before sets s.item s.entry.way (last_of ss) ≡ true

  abbrev pub InOrder : List StandingValue → Type 0
  InOrder [] = Unit {0}
  InOrder (s ∷ ss) = ReadAfter s ss × InOrder ss

  precedes-last : (t s : StandingValue) (ts : List StandingValue) → ReadAfter s (t ∷ ts) → Precedes t s
  precedes-last t s ts r = record {
    set = leb-true _ _ r.set_fits;
    way = λ le. elim (or_cases (nat_lt (t.item % sets) (s.item % sets)) (nat_le t.entry.way s.entry.way) r.way_fits) [
      | inl e ↦ absurd (omega (arith, le, ltb-true (t.item % sets) (s.item % sets) e))
      | inr e ↦ leb-true _ _ e
    ];
  }

  chain : (s : StandingValue) (ss : List StandingValue) → ReadAfter s ss → InOrder ss → AllPrecede s ss
  chain s [] r order = tt
  chain s (t ∷ ts) r order = let p = precedes-last t s ts r in (p, all-precede t s ts p (chain t ts order.0 order.1))

  -- ---- entries of which no two have one item or one place

  pub record Placed (s : StandingValue) (ss : List StandingValue) : Type 0 where
    pub inside : s.item < n
    pub way : s.entry.way < way_count
    pub fresh : list_any (nat_eq s.item) (map standing_item ss) ≡ false
    pub alone : list_any (same_place sets s) ss ≡ false
    pub order : AllPrecede s ss

  abbrev pub AllPlaced : List StandingValue → Type 0
  AllPlaced [] = Unit {0}
  AllPlaced (s ∷ ss) = Placed s ss × AllPlaced ss

  pub all-placed : (ss : List StandingValue) → InOrder ss → are_distinct (map standing_item ss) ≡ true → places_differ sets ss ≡ true → AllPlaced ss
  all-placed [] order differ places = tt
  all-placed (s ∷ ss) order differ places =
      let d = and_parts (not (list_any (nat_eq s.item) (map standing_item ss))) (are_distinct (map standing_item ss)) differ in
      let p = and_parts (not (list_any (same_place sets s) ss)) (places_differ sets ss) places in
      let r = order.0 in
      (record { inside = r.inside; way = r.way; fresh = not-true _ d.0; alone = not-true _ p.0; order = chain s ss r order.1 }, all-placed ss order.1 d.1 p.1)

  -- ---- what stands in a way of a set

  abbrev pub at : List StandingValue → ℕ → ℕ → Option StandingValue
  at ss set way = find (at_place set way) ss

  alone-there : (set way : ℕ) (s : StandingValue) (ss : List StandingValue) → list_any (same_place sets s) ss ≡ false → at_place set way s ≡ true → at ss set way ≡ None
  alone-there set way s [] alone there = refl
  alone-there set way s (t ∷ ss) alone there =
      let o = or_parts (same_place sets s t) (list_any (same_place sets s) ss) alone in
      let p = and_parts (nat_eq (s.item % sets) (set % sets)) (nat_eq s.entry.way way) there in
      let other : at_place set way t ≡ false = false_from_ne_true _ (λ e.
      let r = and_parts (nat_eq (t.item % sets) (set % sets)) (nat_eq t.entry.way way) e in
      let same_set : s.item % sets ≡ t.item % sets = eqb-true _ _ p.0 ∙ sym (eqb-true _ _ r.0) in
      let same_way : s.entry.way ≡ t.entry.way = eqb-true _ _ p.1 ∙ sym (eqb-true _ _ r.1) in
      let both : same_place sets s t ≡ true = and_from _ _ (eq-eqb _ _ same_set) (eq-eqb _ _ same_way) in
      let no = o.0 in cc) in
      rw other (alone-there set way s ss o.1 there)

  absent : (x : ℕ) (ss : List StandingValue) → list_any (nat_eq x) (map standing_item ss) ≡ false → way_at x (ways_of n ss) ≡ None
  absent x [] fresh =
      elim (cases_lt x n) [
        | inl l ↦ get_or-replicate n x None None l
        | inr le ↦ get_or_past (replicate n None) x None (omega (arith, le, length-replicate {A = Option WayValue} n None))
      ]
  absent x (s ∷ ss) fresh =
      let o = or_parts (nat_eq x s.item) (list_any (nat_eq x) (map standing_item ss)) fresh in
      get_or-set_other (ways_of n ss) s.item x (Some s.entry) None (eqb-false x s.item o.0) ∙ absent x ss o.1

  none-anywhere : (set way a m : ℕ) → find_from (stands_in sets set way) a (replicate m None) ≡ None
  none-anywhere set way a zero = refl
  none-anywhere set way a (suc m) = none-anywhere set way (a + 1) m

  item-there : (set way : ℕ) (ss : List StandingValue) → AllPlaced ss → item_in_way sets set way (ways_of n ss) ≡ option_map standing_item (at ss set way)
  unfolding item_in_way
  item-there set way [] all = none-anywhere set way 0 n
  item-there set way (s ∷ ss) all =
      let p = all.0 in
      let before = item-there set way ss all.1 in
      let number : s.item ≡ 0 + s.item = sym (zero-add s.item) in
      elim (at_place set way s) as (λ b. at_place set way s ≡ b → find_from (stands_in sets set way) 0 (slice_set (ways_of n ss) s.item (Some s.entry)) ≡ option_map standing_item (cond b (Some s) (at ss set way))) [
        | true ↦ λ e.
            let none = alone-there set way s ss p.alone e in
            find-there (stands_in sets set way) s.item (Some s.entry) 0 s.item (ways_of n ss) number (omega (arith, p.inside, ways-many n ss)) e (before ∙ ap (λ o. option_map standing_item o) none)
        | false ↦ λ e.
            let empty : stands_in sets set way s.item (slice_index_or (ways_of n ss) s.item None) ≡ false = ap (stands_in sets set way s.item) (absent s.item ss p.fresh) in
            find-same (stands_in sets set way) s.item (Some s.entry) 0 s.item (ways_of n ss) None number e empty ∙ before
      ] refl

  found-other : (p : StandingValue → Bool) (x : ℕ) (t : StandingValue) (ss : List StandingValue) → list_any (nat_eq x) (map standing_item ss) ≡ false → find p ss ≡ Some t → nat_eq x t.item ≡ false
  found-other p x t [] fresh is = cc
  found-other p x t (s ∷ ss) fresh is =
      let o = or_parts (nat_eq x s.item) (list_any (nat_eq x) (map standing_item ss)) fresh in
      elim (p s) as (λ b. cond b (Some s) (find p ss) ≡ Some t → nat_eq x t.item ≡ false) [
        | true ↦ λ is. let same : s ≡ t = cc in subst (λ t. nat_eq x t.item ≡ false) same o.0
        | false ↦ λ is. found-other p x t ss o.1 is
      ] is

  found-entry : (p : StandingValue → Bool) (ss : List StandingValue) → AllPlaced ss → standing_of sets (ways_of n ss) (option_map standing_item (find p ss)) ≡ find p ss
  found-entry p [] all = refl
  found-entry p (s ∷ ss) all =
      let placed = all.0 in
      let ways = ways_of n ss in
      let new = slice_set ways s.item (Some s.entry) in
      let before = found-entry p ss all.1 in
      let here : way_at s.item new ≡ Some s.entry = get_or-set_same ways s.item (Some s.entry) None (omega (arith, placed.inside, ways-many n ss)) in
      elim (p s) as (λ b. standing_of sets new (option_map standing_item (cond b (Some s) (find p ss))) ≡ cond b (Some s) (find p ss)) [
        | true ↦ ap (λ o. option_map (λ e. record { item = s.item; entry = e }) o) here
        | false ↦
            elim (find p ss) as (λ o. find p ss ≡ o → standing_of sets ways (option_map standing_item o) ≡ o → standing_of sets new (option_map standing_item o) ≡ o) [
              | None ↦ λ is e. refl
              | Some t ↦ λ is e.
                  let other : s.item ≡ t.item → ⊥ = eqb-false s.item t.item (found-other p s.item t ss placed.fresh is) in
                  let same : way_at t.item new ≡ way_at t.item ways = get_or-set_other ways s.item t.item (Some s.entry) None (λ q. other (sym q)) in
                  ap (λ o. option_map (λ e. record { item = t.item; entry = e }) o) same ∙ e
            ] refl before
      ]

  pub standing-there : (ss : List StandingValue) → AllPlaced ss → (set way : ℕ) → standing_at sets (ways_of n ss) set way ≡ at ss set way
  unfolding standing_at
  standing-there ss all set way = ap (standing_of sets (ways_of n ss)) (item-there set way ss all) ∙ found-entry (at_place set way) ss all

  -- ---- the listing by set and way

  none-at : (set way : ℕ) (s : StandingValue) (ss : List StandingValue) → AllPrecede s ss → list_any (same_place sets s) ss ≡ false → set % sets ≡ set → s.item % sets ≤ set → (set ≤ s.item % sets → s.entry.way ≤ way) → at ss set way ≡ None
  none-at set way s [] order alone whole after behind = refl
  none-at set way s (t ∷ ss) order alone whole after behind =
      let o = or_parts (same_place sets s t) (list_any (same_place sets s) ss) alone in
      let p = order.0 in
      let other : at_place set way t ≡ false = false_from_ne_true _ (λ e.
      let r = and_parts (nat_eq (t.item % sets) (set % sets)) (nat_eq t.entry.way way) e in
      let t_set : t.item % sets ≡ set = eqb-true _ _ r.0 ∙ whole in
      let t_way : t.entry.way ≡ way = eqb-true _ _ r.1 in
      let same_set : s.item % sets ≡ t.item % sets = omega (arith, t_set, p.set, after) in
      let below : s.entry.way ≤ way = behind (omega (arith, same_set, t_set)) in
      let above : t.entry.way ≤ s.entry.way = p.way (omega (arith, same_set)) in
      let same_way : s.entry.way ≡ t.entry.way = omega (arith, t_way, below, above) in
      let both : same_place sets s t ≡ true = and_from _ _ (eq-eqb _ _ same_set) (eq-eqb _ _ same_way) in
      let no = o.0 in cc) in
      rw other (none-at set way s ss order.1 o.1 whole after behind)

  module _ (some_sets : 0 < sets) where
    whole-set : (set : ℕ) → set < sets → set % sets ≡ set
    whole-set set l = mod-eq_of_lt l

    set-inside : (x : ℕ) → x % sets < sets
    set-inside x = omega arith

    -- where the new entry isn't
    elsewhere : (set way : ℕ) (s : StandingValue) (ss : List StandingValue) → (s.item % sets ≡ set % sets → s.entry.way ≡ way → ⊥) → at (s ∷ ss) set way ≡ at ss set way
    elsewhere set way s ss other =
        let no : at_place set way s ≡ false = false_from_ne_true _ (λ e.
        let r = and_parts (nat_eq (s.item % sets) (set % sets)) (nat_eq s.entry.way way) e in
        other (eqb-true _ _ r.0) (eqb-true _ _ r.1)) in
        rw no refl

    abbrev in_row : List StandingValue → ℕ → ℕ → List StandingValue
    in_row ss set way = option_to_list (at ss set way)

    abbrev row : List StandingValue → ℕ → List StandingValue
    row ss set = flat_map (in_row ss set) (range_with_len 0 way_count)

    row-grows : (s : StandingValue) (ss : List StandingValue) → Placed s ss → row (s ∷ ss) (s.item % sets) ≡ row ss (s.item % sets) ++ s ∷ []
    row-grows s ss p =
        let set = s.item % sets in
        let whole : set % sets ≡ set = whole-set set (set-inside s.item) in
        let past : (way : ℕ) → s.entry.way ≤ way → at ss set way ≡ None = λ way le. none-at set way s ss p.order p.alone whole (omega arith) (λ l. le) in
        let there : at_place set s.entry.way s ≡ true = and_from _ _ (eq-eqb _ _ (sym whole)) (eq-eqb s.entry.way s.entry.way refl) in
        let found : at (s ∷ ss) set s.entry.way ≡ Some s = rw there refl in
        one-grows (in_row ss set) (in_row (s ∷ ss) set) s.entry.way s 0 way_count way_count (omega arith) (omega arith) p.way
        (record {
          below = λ w l. ap (λ o. option_to_list o) (elsewhere set w s ss (λ e same. omega (arith, l, same)));
          here = ap (λ o. option_to_list o) found ∙ ap (λ o. option_to_list o ++ s ∷ []) (sym (past s.entry.way (omega arith)));
          old_past = λ w l bound. ap (λ o. option_to_list o) (past w (omega (arith, l)));
          new_past = λ w l bound. ap (λ o. option_to_list o) (elsewhere set w s ss (λ e same. omega (arith, l, same)) ∙ past w (omega (arith, l)));
        })

    rows-grow : (s : StandingValue) (ss : List StandingValue) → Placed s ss → flat_map (row (s ∷ ss)) (range_with_len 0 sets) ≡ flat_map (row ss) (range_with_len 0 sets) ++ s ∷ []
    rows-grow s ss p =
        let set = s.item % sets in
        let past : (w : ℕ) → set < w → w < sets → (way : ℕ) → at ss w way ≡ None = λ w l bound way. none-at w way s ss p.order p.alone (whole-set w bound) (omega (arith, l)) (λ le. absurd (omega (arith, l, le))) in
        let other : (w : ℕ) → w < sets → (s.item % sets ≡ w → ⊥) → (way : ℕ) → at (s ∷ ss) w way ≡ at ss w way = λ w bound ne way. elsewhere w way s ss (λ e same. ne (e ∙ whole-set w bound)) in
        one-grows (row ss) (row (s ∷ ss)) set s 0 sets sets (omega arith) (omega arith) (set-inside s.item)
        (record {
          below = λ w l. ap (λ f. flat_map f (range_with_len 0 way_count)) (fun_ext (λ way. ap (λ o. option_to_list o) (other w (omega (arith, l, set-inside s.item)) (λ e. omega (arith, l, e)) way)));
          here = row-grows s ss p;
          old_past = λ w l bound. nothing-along (in_row ss w) 0 way_count way_count (omega arith) (λ way le lt. ap (λ o. option_to_list o) (past w l bound way));
          new_past = λ w l bound. nothing-along (in_row (s ∷ ss) w) 0 way_count way_count (omega arith) (λ way le lt. ap (λ o. option_to_list o) (other w bound (λ e. omega (arith, l, e)) way ∙ past w l bound way));
        })

    none-listed : (set : ℕ) → row [] set ≡ []
    none-listed set = nothing-along (in_row [] set) 0 way_count way_count (omega arith) (λ way le lt. refl)

    pub rows-listed : (ss : List StandingValue) → AllPlaced ss → flat_map (row ss) (range_with_len 0 sets) ≡ backwards ss
    rows-listed [] all = nothing-along (row []) 0 sets sets (omega arith) (λ set le lt. none-listed set)
    rows-listed (s ∷ ss) all = rows-grow s ss all.0 ∙ ap (λ l. l ++ s ∷ []) (rows-listed ss all.1)

    pub standing-listed : (ss : List StandingValue) → AllPlaced ss → standing sets (ways_of n ss) way_count ≡ backwards ss
    unfolding standing standing_in
    standing-listed ss all =
        let each : (set : ℕ) → standing_in sets (ways_of n ss) way_count set ≡ row ss set = λ set.
        filter_map-flat (standing_at sets (ways_of n ss) set) (range_with_len 0 way_count) ∙ ap (λ f. flat_map f (range_with_len 0 way_count)) (fun_ext (λ way. ap (λ o. option_to_list o) (standing-there ss all set way))) in
        ap (λ f. flat_map f (range_with_len 0 sets)) (fun_ext each) ∙ rows-listed ss all
