-- Where at most one of a leaf's entries waits, an item whose entry waits is the first that does.
-- Letters: ss are the entries that stand in ways, bs those of the buffer, x and y items, n how many items there are.
use Rattle.std.specs.Prelude.{◌≡◌, ◌<◌, ◌≤◌, ℕ, ◌+◌, Bool, true, false, ◌&&◌, nat_eq, nat_le, List, [], ◌∷◌, ◌++◌, length, map, Option, Some, None, option_map, refl, if◌then◌else◌}
use Rattle.std.specs.List.{list_any, list_all, find, range_with_len, AllByRecursion}
use Rattle.std.proofs.Common.{sym, ap, ◌∙◌, arith, cond, true≢false}
use Rattle.std.proofs.lemmas.Bool.{and_parts, eqb-true, eq-eqb, leb-true, leb-false}
use Rattle.std.proofs.lemmas.Bool.Decides.{nat_tests}
use Rattle.std.proofs.lemmas.List.{get_or_past}
use Rattle.std.specs.Cmp.Derive.{both_true}
use Rattle.state_judging.specs.DdmTypes.declared.sizes.LeafState.{LeafState}
use Rattle.state_judging.specs.FlatModel.Flat.{has_reserved}
use Rattle.state_judging.specs.TreeModel.State.Lists.{first_some, find_from}
use Rattle.state_judging.specs.TreeModel.State.States.{is_waiting}
use Rattle.state_judging.specs.TreeModel.State.Values.{WayValue, BufferValue, LeafValue}
use Rattle.state_judging.specs.TreeModel.State.Leaf.{way_at, way_entry, buffer_entry, buffered, is_buffered, buffer_item, entry_at, entry_state, state_at, way_waits, buffer_waits, waiting_item}
use Rattle.state_judging.proofs.TreeModel.Children.{found-passes, none-passes}
use Rattle.state_judging.specs.TreeRules.Bus.Own.{state_waits, waits_alone}
use Rattle.state_judging.proofs.TreeRules.Implying.{implies-by}
use Rattle.state_judging.proofs.TreeRules.Lists.{range-from_each}
use Rattle.state_judging.specs.StateWords.Parts.{StandingValue}
use Rattle.state_reading.specs.Parts.{waiting_states, standing_state, buffer_state}
use Rattle.state_judging.proofs.Lists.{find-passes}
use Rattle.state_judging.proofs.WaysRead.{ways_of, AllWithin, Apart, found-in, one-item}

-- ---- how many wait

abbrev waiting_one : LeafState → ℕ
waiting_one s = if is_waiting s then 1 else 0

waiting-append : (ss ts : List LeafState) → waiting_states (ss ++ ts) ≡ waiting_states ss + waiting_states ts
waiting-append [] ts = omega arith
waiting-append (s ∷ ss) ts =
    let rest = waiting-append ss ts in
    omega (arith, rest)

waits-counts : (s : LeafState) → is_waiting s ≡ true → waiting_one s ≡ 1
waits-counts s e = rw e refl

counts-none : (s : LeafState) → waiting_one s ≡ 0 → is_waiting s ≡ false
counts-none s e =
    elim (is_waiting s) as (λ b. is_waiting s ≡ b → b ≡ false) [
      | true ↦ λ is.
          let one : waiting_one s ≡ 1 = waits-counts s is in
          absurd (omega (arith, one, e))
      | false ↦ λ is. refl
    ] refl

-- ---- entries in ways

abbrev both_wait : StandingValue → StandingValue → Bool
both_wait s t = is_waiting s.entry.state && is_waiting t.entry.state

both-swap : (s t : StandingValue) → both_wait s t ≡ true → both_wait t s ≡ true
both-swap s t e =
    let parts = and_parts (is_waiting s.entry.state) (is_waiting t.entry.state) e in
    both_true parts.1 parts.0

none-waits : (ss : List StandingValue) → waiting_states (map standing_state ss) ≡ 0 → AllByRecursion (λ (s : StandingValue). is_waiting s.entry.state ≡ false) ss
none-waits [] e = tt
none-waits (s ∷ ss) e = (counts-none s.entry.state (omega (arith, e)), none-waits ss (omega (arith, e)))

and-no : (a b : Bool) → b ≡ false → (a && b) ≡ false
and-no true b e = e
and-no false b e = refl

none-with : (s : StandingValue) (ss : List StandingValue) → AllByRecursion (λ (s : StandingValue). is_waiting s.entry.state ≡ false) ss → list_any (both_wait s) ss ≡ false
none-with s [] all = refl
none-with s (t ∷ ss) all = rw (and-no (is_waiting s.entry.state) (is_waiting t.entry.state) all.0) (none-with s ss all.1)

none-beside : (s : StandingValue) (ss : List StandingValue) → is_waiting s.entry.state ≡ false → list_any (both_wait s) ss ≡ false
none-beside s [] e = refl
none-beside s (t ∷ ss) e = rw e (none-beside s ss e)

waits-apart : (ss : List StandingValue) → waiting_states (map standing_state ss) ≤ 1 → Apart both_wait ss
waits-apart [] most = tt
waits-apart (s ∷ ss) most = (first, waits-apart ss (omega (arith, most)))
  where
    first : list_any (both_wait s) ss ≡ false
    first =
        elim (is_waiting s.entry.state) as (λ b. is_waiting s.entry.state ≡ b → list_any (both_wait s) ss ≡ false) [
          | true ↦ λ is.
              let one : waiting_one s.entry.state ≡ 1 = waits-counts s.entry.state is in
              none-with s ss (none-waits ss (omega (arith, one, most)))
          | false ↦ λ is. none-beside s ss is
        ] refl

-- ---- entries in the buffer

none-buffered : (bs : List BufferValue) → waiting_states (map buffer_state bs) ≡ 0 → (p : BufferValue → Bool) (b : BufferValue) → find p bs ≡ Some b → is_waiting b.state ≡ false
none-buffered [] e p b is = cc
none-buffered (c ∷ bs) e p b is =
    elim (p c) as (λ t. p c ≡ t → cond t (Some c) (find p bs) ≡ Some b → is_waiting b.state ≡ false) [
      | true ↦ λ own is.
          let same : c ≡ b = cc in
          rw same at (counts-none c.state (omega (arith, e)))
      | false ↦ λ own is. none-buffered bs (omega (arith, e)) p b is
    ] refl is

-- the one that is found by its item and waits is the first that waits
first-buffered : (bs : List BufferValue) → waiting_states (map buffer_state bs) ≤ 1 → (p : BufferValue → Bool) (b : BufferValue) → find p bs ≡ Some b → is_waiting b.state ≡ true → find buffer_waits bs ≡ Some b
first-buffered [] most p b is waits = cc
first-buffered (c ∷ bs) most p b is waits =
    elim (p c) as (λ t. p c ≡ t → cond t (Some c) (find p bs) ≡ Some b → find buffer_waits (c ∷ bs) ≡ Some b) [
      | true ↦ λ own is.
          let same : c ≡ b = cc in
          let here : is_waiting c.state ≡ true = rw same waits in
          rw here (ap Some same)
      | false ↦ λ own is. later is (λ most. first-buffered bs most p b is waits)
    ] refl is
  where
    later : find p bs ≡ Some b → (waiting_states (map buffer_state bs) ≤ 1 → find buffer_waits bs ≡ Some b) → find buffer_waits (c ∷ bs) ≡ Some b
    later found next =
        elim (is_waiting c.state) as (λ t. is_waiting c.state ≡ t → cond t (Some c) (find buffer_waits bs) ≡ Some b) [
          | true ↦ λ here.
              let one : waiting_one c.state ≡ 1 = waits-counts c.state here in
              absurd (true≢false (sym waits ∙ none-buffered bs (omega (arith, one, most)) p b found))
          | false ↦ λ here. next (omega (arith, most))
        ] refl

-- ---- the leaf

module _ (n : ℕ) (ss : List StandingValue) (bs : List BufferValue) (within : AllWithin n ss) (most : waiting_states (map standing_state ss ++ map buffer_state bs) ≤ 1) where
  abbrev W : List (Option WayValue)
  W = ways_of n ss

  standing-most : waiting_states (map standing_state ss) ≤ 1
  standing-most = let parts = waiting-append (map standing_state ss) (map buffer_state bs) in omega (arith, parts, most)

  -- two items that stand in ways and wait are one
  one-waits : (x y : ℕ) (e o : WayValue) → way_at x W ≡ Some e → way_at y W ≡ Some o → is_waiting e.state ≡ true → is_waiting o.state ≡ true → x ≡ y
  one-waits x y e o first second here there = one-item both_wait n both-swap ss within (waits-apart ss standing-most) x y e o first second (both_true here there)

  -- the item whose way is found to wait has an entry that waits
  found-waits : (k : ℕ) → find_from way_waits 0 W ≡ Some k → (o : WayValue) × (way_at k W ≡ Some o) × (is_waiting o.state ≡ true)
  found-waits k found = by_way (way_at k W) refl (found-passes way_waits k W None found)
    where
      by_way : (i : Option WayValue) → way_at k W ≡ i → way_waits k i ≡ true → (o : WayValue) × (way_at k W ≡ Some o) × (is_waiting o.state ≡ true)
      by_way None is waits = cc
      by_way (Some o) is waits = (o, is, waits)

  there-within : (x : ℕ) (e : WayValue) → way_at x W ≡ Some e → x < length W
  there-within x e is =
      elim (nat_le (length W) x) as (λ b. nat_le (length W) x ≡ b → x < length W) [
        | true ↦ λ past.
            let no : None ≡ Some e = sym (get_or_past W x None (leb-true (length W) x past)) ∙ is in
            cc
        | false ↦ λ past. leb-false (length W) x past
      ] refl

  in-way : (x : ℕ) (e : WayValue) → way_at x W ≡ Some e → is_waiting e.state ≡ true → (rest : Option ℕ) (f : Option ℕ) → find_from way_waits 0 W ≡ f → has_reserved (first_some f rest) x ≡ true
  in-way x e is waits rest (Some k) found =
      let o = found-waits k found in
      eq-eqb k x (one-waits k x o.0 e o.1 is o.2 waits)
  in-way x e is waits rest None found =
      let no : way_waits x (way_at x W) ≡ false = none-passes way_waits x W None found (there-within x e is) in
      absurd (true≢false (sym waits ∙ sym (ap (way_waits x) is) ∙ no))

  some-buffered : (p : BufferValue → Bool) (b : BufferValue) → find p bs ≡ Some b → is_waiting b.state ≡ true → waiting_states (map standing_state ss) ≡ 0
  some-buffered p b found waits =
      elim (nat_eq (waiting_states (map buffer_state bs)) 0) as (λ t. nat_eq (waiting_states (map buffer_state bs)) 0 ≡ t → waiting_states (map standing_state ss) ≡ 0) [
        | true ↦ λ none. absurd (true≢false (sym waits ∙ none-buffered bs (eqb-true (waiting_states (map buffer_state bs)) 0 none) p b found))
        | false ↦ λ some.
            let parts = waiting-append (map standing_state ss) (map buffer_state bs) in
            grind (arith, nat_tests, parts, most, some)
      ] refl

  in-buffer : (x : ℕ) (b : BufferValue) → buffered x bs ≡ Some b → is_waiting b.state ≡ true → (f : Option ℕ) → find_from way_waits 0 W ≡ f → has_reserved (first_some f (option_map buffer_item (find buffer_waits bs))) x ≡ true
  in-buffer x b is waits (Some k) found =
      let o = found-waits k found in
      let quiet = found-in n (λ y e. is_waiting e.state ≡ false) ss within (none-waits ss (some-buffered (is_buffered x) b is waits)) k o.0 o.1 in
      absurd (true≢false (sym o.2 ∙ quiet))
  in-buffer x b is waits None found =
      let first : find buffer_waits bs ≡ Some b = first-buffered bs buffer-most (is_buffered x) b is waits in
      let own : nat_eq x b.item ≡ true = find-passes (is_buffered x) bs b is in
      rw first (eq-eqb b.item x (sym (eqb-true x b.item own)))
    where
      buffer-most : waiting_states (map buffer_state bs) ≤ 1
      buffer-most = let parts = waiting-append (map standing_state ss) (map buffer_state bs) in omega (arith, parts, most)

  waits-first : (x : ℕ) → state_waits (option_map entry_state (entry_at x W bs)) ≡ true → has_reserved (waiting_item W bs) x ≡ true
  unfolding entry_at waiting_item
  waits-first x = by_way (way_at x W) refl (buffered x bs) refl
    where
      by_way : (o : Option WayValue) → way_at x W ≡ o → (b : Option BufferValue) → buffered x bs ≡ b → state_waits (option_map entry_state (first_some (option_map way_entry o) (option_map buffer_entry b))) ≡ true → has_reserved (first_some (find_from way_waits 0 W) (option_map buffer_item (find buffer_waits bs))) x ≡ true
      by_way (Some e) is b found waits = in-way x e is waits (option_map buffer_item (find buffer_waits bs)) (find_from way_waits 0 W) refl
      by_way None is (Some b) found waits = in-buffer x b found waits (find_from way_waits 0 W) refl
      by_way None is None found waits = cc

  pub waits-alone : (v : LeafValue) → v.ways ≡ W → v.buffer ≡ bs → list_all (waits_alone v) (range_with_len 0 n) ≡ true
  waits-alone v ways buffer = range-from_each (waits_alone v) n (λ x below. implies-by (state_waits (state_at x v)) _ (λ waits. rw (ways, buffer) (waits-first x (rw (ways, buffer) at waits))))
