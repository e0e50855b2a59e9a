-- A leaf that keeps what a leaf keeps passes what is looked at after it was read: no item stands twice, no place is taken twice, at most
-- one entry waits, and the slot asks for what its item's entry waits for.
use Rattle.std.specs.Prelude.{◌≡◌, ℕ, zero, suc, ◌+◌, ◌<◌, ◌≤◌, Bool, true, false, not, nat_eq, nat_lt, ◌&&◌, ◌||◌, List, [], ◌∷◌, ◌++◌, length, map, find, option_map, Option, Some, None, is_none, refl, if◌then◌else◌}
use Rattle.std.specs.List.{list_any, list_all, range_with_len}
use Rattle.std.proofs.Common.{ap, sym, ◌∙◌, subst, arith, append_assoc, inl, inr, true≢false, cond}
use Rattle.std.proofs.lemmas.List.{get_or_past}
use Rattle.std.proofs.lemmas.Bool.{eqb-true, eq-eqb, ltb-true, lt-ltb, le-leb, and_parts, and_from, or_parts, or_from, not-true, not_from_false, cases_lt, false_from_ne_true}
use Rattle.spelling_laws.specs.DdmTypes.declared.answers.TxKind.{TxKind}
use Rattle.spelling_laws.specs.DdmTypes.declared.sizes.LeafState.{LeafState}
use Rattle.spelling_laws.specs.TreeModel.State.Lists.{first_some}
use Rattle.spelling_laws.specs.TreeModel.State.States.{is_waiting}
use Rattle.spelling_laws.specs.TreeModel.State.Shape.{are_distinct}
use Rattle.spelling_laws.specs.TreeModel.State.Values.{RequestValue, WayValue, BufferValue, LeafValue}
use Rattle.spelling_laws.specs.TreeModel.State.Leaf.{way_at, buffer_item, is_buffered, buffered, way_entry, buffer_entry, entry_state, entry_at, state_at, waiting_item}
use Rattle.spelling_laws.specs.FlatModel.Flat.{has_reserved}
use Rattle.spelling_laws.specs.TreeRules.Bus.Own.{words_suit, buffer_fits, state_waits, waits_alone, request_suits, slot_suits, IsLeafOk, leaf_lists, buffer_fit, buffered_once, one_waiting, slot_fits}
use Rattle.spelling_laws.specs.StateWords.Parts.{StandingValue}
use Rattle.spelling_laws.specs.StateReading.Parts as reading
use Rattle.spelling_laws.specs.StateReading.Parts.{standing_item, item_of_buffer, places_differ, waiting_states, standing_state, buffer_state, slot_state_fits, is_whole_leaf}
use Rattle.state_judging.proofs.Lists.{same-test}
use Rattle.spelling_laws.proofs.Listed.{implied, Descending, items-differ, places-all-differ}

-- ---- lists of items

both-differ : (a b : List ℕ) → are_distinct a ≡ true → are_distinct b ≡ true → ((x : ℕ) → list_any (nat_eq x) a ≡ true → list_any (nat_eq x) b ≡ false) → are_distinct (a ++ b) ≡ true
both-differ [] b first second apart = second
both-differ (x ∷ a) b first second apart =
    let p = and_parts (not (list_any (nat_eq x) a)) (are_distinct a) first in
    let here : list_any (nat_eq x) b ≡ false = apart x (ap (λ t. t || list_any (nat_eq x) a) (eq-eqb x x refl)) in
    and_from _ _ (not_from_false _ (any-both x a b (not-true _ p.0) here)) (both-differ a b p.1 second (λ y there. apart y (later y there)))
  where
    any-both : (x : ℕ) (a b : List ℕ) → list_any (nat_eq x) a ≡ false → list_any (nat_eq x) b ≡ false → list_any (nat_eq x) (a ++ b) ≡ false
    any-both x [] b e f = f
    any-both x (y ∷ a) b e f = let o = or_parts (nat_eq x y) (list_any (nat_eq x) a) e in or_from _ _ o.0 (any-both x a b o.1 f)

    later : (y : ℕ) → list_any (nat_eq y) a ≡ true → (nat_eq y x || list_any (nat_eq y) a) ≡ true
    later y there = elim (nat_eq y x) as (λ t. (t || list_any (nat_eq y) a) ≡ true) [ true ↦ refl | false ↦ there ]

all-in-range : (t : ℕ → Bool) (x start count : ℕ) → list_all t (range_with_len start count) ≡ true → start ≤ x → x < start + count → t x ≡ true
all-in-range t x start zero all first last = absurd (omega (arith, first, last))
all-in-range t x start (suc count) all first last =
    let p = and_parts (t start) (list_all t (range_with_len (start + 1) count)) all in
    elim (cases_lt start x) [
      | inl less ↦ all-in-range t x (start + 1) count p.1 (omega (arith, less)) (omega (arith, last))
      | inr le ↦ let same : start ≡ x = omega (arith, first, le) in subst (λ y. t y ≡ true) same p.0
    ]

-- ---- entries that wait

module _ (waits : ℕ) where
  -- of items and their states: an entry that waits has this item
  abbrev pub AllWait : List ℕ → List LeafState → Type 0
  AllWait [] [] = Unit {0}
  AllWait [] (s ∷ ss) = ⊥
  AllWait (x ∷ xs) [] = ⊥
  AllWait (x ∷ xs) (s ∷ ss) = (is_waiting s ≡ true → x ≡ waits) × AllWait xs ss

  both-wait : (xs ys : List ℕ) (ss ts : List LeafState) → AllWait xs ss → AllWait ys ts → AllWait (xs ++ ys) (ss ++ ts)
  both-wait [] ys [] ts first second = second
  both-wait [] ys (s ∷ ss) ts first second = absurd first
  both-wait (x ∷ xs) ys [] ts first second = absurd first
  both-wait (x ∷ xs) ys (s ∷ ss) ts first second = (first.0, both-wait xs ys ss ts first.1 second)

  abbrev one_if : Bool → ℕ
  one_if b = if b then 1 else 0

  none-waits : (xs : List ℕ) (ss : List LeafState) → AllWait xs ss → list_any (nat_eq waits) xs ≡ false → waiting_states ss ≡ 0
  none-waits [] [] all none = refl
  none-waits [] (s ∷ ss) all none = absurd all
  none-waits (x ∷ xs) [] all none = absurd all
  none-waits (x ∷ xs) (s ∷ ss) all none =
      let o = or_parts (nat_eq waits x) (list_any (nat_eq waits) xs) none in
      let here : is_waiting s ≡ false = false_from_ne_true _ (λ e. true≢false (sym (eq-eqb waits x (sym (all.0 e))) ∙ o.0)) in
      let one = ap one_if here in
      omega (arith, one, none-waits xs ss all.1 o.1)

  one-waits : (xs : List ℕ) (ss : List LeafState) → AllWait xs ss → are_distinct xs ≡ true → waiting_states ss ≤ 1
  one-waits [] [] all differ = omega arith
  one-waits [] (s ∷ ss) all differ = absurd all
  one-waits (x ∷ xs) [] all differ = absurd all
  one-waits (x ∷ xs) (s ∷ ss) all differ =
      let p = and_parts (not (list_any (nat_eq x) xs)) (are_distinct xs) differ in
      elim (is_waiting s) as (λ b. is_waiting s ≡ b → one_if b + waiting_states ss ≤ 1) [
        | true ↦ λ e.
            let none = none-waits xs ss all.1 (subst (λ y. list_any (nat_eq y) xs ≡ false) (all.0 e) (not-true _ p.0)) in
            omega (arith, none)
        | false ↦ λ e. omega (arith, one-waits xs ss all.1 p.1)
      ] refl

-- ---- the leaf

abbrev or_zero : Option ℕ → ℕ
or_zero None = 0
or_zero (Some x) = x

is-reserved : (o : Option ℕ) (x : ℕ) → has_reserved o x ≡ true → x ≡ or_zero o
is-reserved None x e = cc
is-reserved (Some y) x e = sym (eqb-true y x e)

suits-fits : (kind : TxKind) (o : Option LeafState) → request_suits kind o ≡ slot_state_fits kind o
suits-fits TxKind.ReadTx None = refl
suits-fits TxKind.ReadTx (Some s) = refl
suits-fits TxKind.DataTx o = refl
suits-fits TxKind.EraseTx None = refl
suits-fits TxKind.EraseTx (Some s) = refl
suits-fits TxKind.ExclusiveTx o = refl
suits-fits TxKind.InjectTx o = refl
suits-fits TxKind.OutTx o = refl

none-suits : (kind : TxKind) → request_suits kind None ≡ true → ⊥
none-suits TxKind.ReadTx e = true≢false (sym e)
none-suits TxKind.DataTx e = true≢false (sym e)
none-suits TxKind.EraseTx e = true≢false (sym e)
none-suits TxKind.ExclusiveTx e = true≢false (sym e)
none-suits TxKind.InjectTx e = true≢false (sym e)
none-suits TxKind.OutTx e = true≢false (sym e)

is-none : {X : Type 0} (o : Option X) → is_none o ≡ true → o ≡ None
is-none None e = refl
is-none (Some x) e = cc

module _ (n : ℕ) (v : LeafValue) (ok : IsLeafOk n v) where
  pub ways-long : length v.ways ≡ n
  ways-long = eqb-true _ _ ((and_parts (nat_eq (length v.ways) n) _ (ok.each leaf_lists)).0)

  -- ---- its entries

  standing-is : (x : ℕ) (e : WayValue) → way_at x v.ways ≡ Some e → state_at x v ≡ Some e.state
  unfolding entry_at
  standing-is x e is = ap (λ o. option_map entry_state (first_some (option_map way_entry o) (option_map buffer_entry (buffered x v.buffer)))) is

  buffered-is : (x : ℕ) (e : BufferValue) → way_at x v.ways ≡ None → buffered x v.buffer ≡ Some e → state_at x v ≡ Some e.state
  unfolding entry_at
  buffered-is x e none is =
      ap (λ o. option_map entry_state (first_some (option_map way_entry o) (option_map buffer_entry (buffered x v.buffer)))) none ∙ ap (λ o. option_map entry_state (option_map buffer_entry o)) is

  nothing-is : (x : ℕ) → way_at x v.ways ≡ None → buffered x v.buffer ≡ None → state_at x v ≡ None
  unfolding entry_at
  nothing-is x none is =
      ap (λ o. option_map entry_state (first_some (option_map way_entry o) (option_map buffer_entry (buffered x v.buffer)))) none ∙ ap (λ o. option_map entry_state (option_map buffer_entry o)) is

  found-behind : (before : List BufferValue) (e : BufferValue) (after : List BufferValue) → are_distinct (map buffer_item (before ++ e ∷ after)) ≡ true → find (is_buffered e.item) (before ++ e ∷ after) ≡ Some e
  found-behind [] e after differ = ap (λ b. cond b (Some e) (find (is_buffered e.item) after)) (eq-eqb e.item e.item refl)
  found-behind (b ∷ before) e after differ =
      let p = and_parts (not (list_any (nat_eq b.item) (map buffer_item (before ++ e ∷ after)))) (are_distinct (map buffer_item (before ++ e ∷ after))) differ in
      let other : nat_eq e.item b.item ≡ false = same-test e.item b.item ∙ among before (not-true _ p.0) in
      ap (λ t. cond t (Some b) (find (is_buffered e.item) (before ++ e ∷ after))) other ∙ found-behind before e after p.1
    where
      among : (before : List BufferValue) → list_any (nat_eq b.item) (map buffer_item (before ++ e ∷ after)) ≡ false → nat_eq b.item e.item ≡ false
      among [] none = (or_parts (nat_eq b.item e.item) (list_any (nat_eq b.item) (map buffer_item after)) none).0
      among (c ∷ before) none = among before ((or_parts (nat_eq b.item c.item) (list_any (nat_eq b.item) (map buffer_item (before ++ e ∷ after))) none).1)

  abbrev waiter : ℕ
  waiter = or_zero (waiting_item v.ways v.buffer)

  waits-there : (x : ℕ) (s : LeafState) → x < n → state_at x v ≡ Some s → is_waiting s ≡ true → x ≡ waiter
  waits-there x s inside is e =
      let alone = all-in-range (waits_alone v) x 0 n (ok.each one_waiting) (omega arith) (omega (arith, inside)) in
      let waiting : state_waits (state_at x v) ≡ true = ap state_waits is ∙ e in
      is-reserved (waiting_item v.ways v.buffer) x (implied (state_waits (state_at x v)) (has_reserved (waiting_item v.ways v.buffer) x) alone waiting)

  standing-wait : (ss : List StandingValue) → Descending v.sizes.sets v.sizes.way_count v.ways ss → AllWait waiter (map standing_item ss) (map standing_state ss)
  standing-wait [] descends = tt
  standing-wait (s ∷ ss) descends =
      let here = descends.0 in
      ((λ e. waits-there s.item s.entry.state (omega (arith, here.inside, ways-long)) (standing-is s.item s.entry here.there) e), standing-wait ss descends.2)

  record BufferOk (e : BufferValue) : Type 0 where
    inside : e.item < n
    apart : way_at e.item v.ways ≡ None

  buffer-ok : (e : BufferValue) → buffer_fits n v e ≡ true → BufferOk e
  buffer-ok e fits =
      let p = and_parts (nat_lt e.item n) (is_none (way_at e.item v.ways) && words_suit e.state e.words) fits in
      let q = and_parts (is_none (way_at e.item v.ways)) (words_suit e.state e.words) p.1 in
      record { inside = ltb-true e.item n p.0; apart = is-none (way_at e.item v.ways) q.0 }

  buffer-wait : (before after : List BufferValue) → before ++ after ≡ v.buffer → list_all (buffer_fits n v) after ≡ true → AllWait waiter (map item_of_buffer after) (map buffer_state after)
  buffer-wait before [] is fit = tt
  buffer-wait before (e ∷ after) is fit =
      let p = and_parts (buffer_fits n v e) (list_all (buffer_fits n v) after) fit in
      let b = buffer-ok e p.0 in
      let found : buffered e.item v.buffer ≡ Some e = subst (λ l. find (is_buffered e.item) l ≡ Some e) is (found-behind before e after (subst (λ l. are_distinct (map buffer_item l) ≡ true) (sym is) (ok.each buffered_once))) in
      ((λ w. waits-there e.item e.state b.inside (buffered-is e.item e b.apart found) w), buffer-wait (before ++ e ∷ []) after (append_assoc before (e ∷ []) after ∙ is) p.1)

  -- ---- items of the buffer stand in no way

  buffer-apart : (x : ℕ) (es : List BufferValue) → list_all (buffer_fits n v) es ≡ true → list_any (nat_eq x) (map item_of_buffer es) ≡ true → way_at x v.ways ≡ None
  buffer-apart x [] fit there = cc
  buffer-apart x (e ∷ es) fit there =
      let p = and_parts (buffer_fits n v e) (list_all (buffer_fits n v) es) fit in
      elim (nat_eq x e.item) as (λ b. nat_eq x e.item ≡ b → (b || list_any (nat_eq x) (map item_of_buffer es)) ≡ true → way_at x v.ways ≡ None) [
        | true ↦ λ same there. ap (λ y. way_at y v.ways) (eqb-true x e.item same) ∙ (buffer-ok e p.0).apart
        | false ↦ λ same there. buffer-apart x es p.1 there
      ] refl there

  stands-there : (x : ℕ) (ss : List StandingValue) → Descending v.sizes.sets v.sizes.way_count v.ways ss → list_any (nat_eq x) (map standing_item ss) ≡ true → way_at x v.ways ≡ None → ⊥
  stands-there x [] descends there none = true≢false (sym there)
  stands-there x (s ∷ ss) descends there none =
      elim (nat_eq x s.item) as (λ b. nat_eq x s.item ≡ b → (b || list_any (nat_eq x) (map standing_item ss)) ≡ true → ⊥) [
        | true ↦ λ same there. let no : None ≡ Some s.entry = sym none ∙ ap (λ y. way_at y v.ways) (eqb-true x s.item same) ∙ descends.0.there in cc
        | false ↦ λ same there. stands-there x ss descends.2 there none
      ] refl there

  apart : (ss : List StandingValue) → Descending v.sizes.sets v.sizes.way_count v.ways ss → (x : ℕ) → list_any (nat_eq x) (map standing_item ss) ≡ true → list_any (nat_eq x) (map item_of_buffer v.buffer) ≡ false
  apart ss descends x there = false_from_ne_true _ (λ e. stands-there x ss descends there (buffer-apart x v.buffer (ok.each buffer_fit) e))

  -- ---- the slot

  slot-whole : (slot : Option RequestValue) → slot_suits v slot ≡ true → reading.slot_fits v slot ≡ true
  slot-whole None suits = refl
  slot-whole (Some r) suits = sym (suits-fits r.kind (state_at r.item v)) ∙ suits

  found-inside : (x : ℕ) (es : List BufferValue) → list_all (buffer_fits n v) es ≡ true → n ≤ x → find (is_buffered x) es ≡ None
  found-inside x [] fit past = refl
  found-inside x (e ∷ es) fit past =
      let p = and_parts (buffer_fits n v e) (list_all (buffer_fits n v) es) fit in
      let b = buffer-ok e p.0 in
      let other : nat_eq x e.item ≡ false = false_from_ne_true _ (λ same. let is : x ≡ e.item = eqb-true x e.item same in omega (arith, is, b.inside, past)) in
      ap (λ t. cond t (Some e) (find (is_buffered x) es)) other ∙ found-inside x es p.1 past

  pub slot-inside : (r : RequestValue) → v.slot ≡ Some r → nat_lt r.item n ≡ true
  slot-inside r is =
      elim (cases_lt r.item n) [
        | inl less ↦ lt-ltb r.item n less
        | inr past ↦
            let no_entry : state_at r.item v ≡ None = nothing-is r.item (get_or_past v.ways r.item None (omega (arith, past, ways-long))) (found-inside r.item v.buffer (ok.each buffer_fit) past) in
            let suits : request_suits r.kind (state_at r.item v) ≡ true = subst (λ s. slot_suits v s ≡ true) is (ok.each slot_fits) in
            absurd (none-suits r.kind (subst (λ o. request_suits r.kind o ≡ true) no_entry suits))
      ]

  pub leaf-whole : (ss : List StandingValue) → Descending v.sizes.sets v.sizes.way_count v.ways ss → is_whole_leaf ss v ≡ true
  leaf-whole ss descends =
      let differ = both-differ (map standing_item ss) (map item_of_buffer v.buffer) (items-differ v.sizes.sets v.sizes.way_count v.ways ss descends) (ok.each buffered_once) (apart ss descends) in
      let all = both-wait waiter (map standing_item ss) (map item_of_buffer v.buffer) (map standing_state ss) (map buffer_state v.buffer) (standing-wait ss descends) (buffer-wait [] v.buffer refl (ok.each buffer_fit)) in
      let few = one-waits waiter (map standing_item ss ++ map item_of_buffer v.buffer) (map standing_state ss ++ map buffer_state v.buffer) all differ in
      and_from _ _ differ (and_from _ _ (places-all-differ v.sizes.sets v.sizes.way_count v.ways ss descends) (and_from _ _ (le-leb _ _ few) (slot-whole v.slot (ok.each slot_fits))))
