-- A leaf of which one item's entry, its request, its replies and its reservation change: it keeps its rules, and is seen so.
use Rattle.std.proofs.Common.{◌≡◌, ◌≢◌, ℕ, ◌%◌, ◌<◌, ◌≤◌, true, false, List, length, Option, Some, None, refl, sym, ap, subst, ◌∙◌, arith}
use Rattle.std.specs.Prelude.{not, ◌&&◌, nat_eq, option_map, is_none, if◌then◌else◌}
use Rattle.std.specs.List.{list_all, range_with_len}
use Rattle.std.specs.Cmp.Derive.{both_true}
use native.Mathlib.Decide.{ℕ_discrete}
use Rattle.std.proofs.lemmas.Bool.{ne_eqb, eq-eqb}
use Rattle.bus_laws.specs.DdmTypes.declared.answers.TxKind.{TxKind}
use Rattle.bus_laws.specs.DdmTypes.declared.answers.TxKind.TheVariants.{ReadTx, EraseTx}
use Rattle.bus_laws.specs.DdmTypes.declared.sizes.LeafState.{LeafState}
use Rattle.bus_laws.specs.TreeModel.State.Lists.{find_from}
use Rattle.bus_laws.proofs.TreeModel.Children.{none-passes}
use Rattle.bus_laws.specs.TreeModel.State.States.{entry_hold, is_reading, is_upgrading}
use Rattle.bus_laws.specs.TreeModel.State.Values.{WayValue, LeafSizes, RequestValue, CopyValue, LeafValue, leaf_node}
use Rattle.bus_laws.specs.TreeModel.State.Leaf.{Fate, stays, ends, becomes, enters, slot_has, words_of_item, leaf_entry, entry_state, state_at, ways_after, buffer_after, leaf_hold, way_at, stands_in, item_in_way, free_way}
use Rattle.bus_laws.proofs.TreeModel.LeafRooms.{leaf_within-facts, leaf_within-test, ways_after-length, buffer_after-length}
use Rattle.tree_rules.specs.Bus.Faces.{ChildFace, in_state, leaf_face}
use Rattle.tree_rules.specs.Bus.Own.{has_ways, leaf_lists, IsLeafOk, words_suit, state_waits, request_suits, slot_suits, copy_fits, reserves_below}
use Rattle.bus_laws.proofs.HartFacts.{find-holds, way-within, HasEntries, entries-from_rules, state_in, rules-from_entries, one-waits}
use Rattle.bus_laws.proofs.HartChanges.{entry_with, entry-becomes, entry-becomes_other, entries-become_suited, entry-enters, entry-enters_other, entries-enter}
use Rattle.bus_laws.proofs.HartTurns.{free_way-inside}
use Rattle.bus_laws.proofs.LeafEnds.{entry-ends, entry-ends_other, entries-end}
use Rattle.bus_laws.proofs.ItemLists.{nat_eq-same}
use Rattle.bus_laws.proofs.Told.{IsTold}

-- ---- the entries after one of them got its fate

-- the item's entry has this state then
pub record IsFated (n x : ℕ) (v : LeafValue) (f : Fate) (o : Option LeafState) : Type 0 where
  pub entries : HasEntries n v.sizes (ways_after x f v.ways) (buffer_after x f v.ways v.buffer)
  pub here : state_in x (ways_after x f v.ways) (buffer_after x f v.ways v.buffer) ≡ o
  pub others : (y : ℕ) → y ≢ x → state_in y (ways_after x f v.ways) (buffer_after x f v.ways v.buffer) ≡ state_at y v

module _ (n x : ℕ) (v : LeafValue) (ok : IsLeafOk n v) where
  abbrev has : HasEntries n v.sizes v.ways v.buffer
  has = entries-from_rules n v ok

  pub fated-stays : IsFated n x v stays (state_at x v)
  fated-stays = record { entries = has; here = refl; others = λ y ne. refl }

  pub fated-ends : IsFated n x v ends None
  fated-ends = record {
    entries = entries-end x v.ways v.buffer n v.sizes has;
    here = ap (option_map entry_state) (entry-ends x v.ways v.buffer);
    others = λ y ne. ap (option_map entry_state) (entry-ends_other x v.ways v.buffer y ne);
  }

  pub fated-becomes : (s : LeafState) (w : List ℕ) (old : LeafState) → state_at x v ≡ Some old → words_suit s w ≡ true → IsFated n x v (becomes s w) (Some s)
  fated-becomes s w old was suits = record {
    entries = entries-become_suited x s w n v.sizes v.ways v.buffer suits has;
    here = ap (option_map entry_state) (entry-becomes x s w v.ways v.buffer) ∙ with-state (leaf_entry x v) was;
    others = λ y ne. ap (option_map entry_state) (entry-becomes_other x s w v.ways v.buffer y ne);
  } where
    with-state : (o : Option _) → option_map entry_state o ≡ Some old → option_map entry_state (option_map (entry_with s w) o) ≡ Some s
    with-state None e = cc
    with-state (Some e) is = refl

is_none-fact : {X : Type 0} (o : Option X) → is_none o ≡ true → o ≡ None
is_none-fact None h = refl
is_none-fact (Some x) h = cc

-- a free way: nobody stands in it
way-free : (sizes : LeafSizes) (x way : ℕ) (ways : List (Option WayValue)) → free_way sizes x ways ≡ Some way → (y : ℕ) (e : WayValue) → way_at y ways ≡ Some e → y % sizes.sets ≡ x % sizes.sets → e.way ≢ way
unfolding free_way item_in_way
way-free sizes x way ways found y e there set same =
    let none : is_none (find_from (stands_in sizes.sets x way) 0 ways) ≡ true = (find-holds (λ (k : ℕ). Unit {0}) (λ way. is_none (item_in_way sizes.sets x way ways)) (range_with_len 0 sizes.way_count) way (λ k d l. tt) found).1 in
    let fails : stands_in sizes.sets x way y (way_at y ways) ≡ false = none-passes (stands_in sizes.sets x way) y ways None (is_none-fact _ none) (way-within y ways e there) in
    let stands : stands_in sizes.sets x way y (way_at y ways) ≡ true = rw there (both_true (eq-eqb _ _ set) (eq-eqb _ _ same)) in
    cc

pub fated-enters : (n x : ℕ) (v : LeafValue) (ok : IsLeafOk n v) (s : LeafState) (w : List ℕ) (way : ℕ) → x < n → leaf_entry x v ≡ None → free_way v.sizes x v.ways ≡ Some way → words_suit s w ≡ true → IsFated n x v (enters way s w) (Some s)
fated-enters n x v ok s w way known absent found suits =
    let before = entries-from_rules n v ok in
    let inside : x < length v.ways = subst (λ k. x < k) (sym before.count) known in
    record {
      entries = entries-enter x way s w n v.sizes v.ways v.buffer before known absent (free_way-inside v.sizes x way v.ways found) suits (way-free v.sizes x way v.ways found);
      here = ap (option_map entry_state) (entry-enters x way s w v.ways v.buffer inside);
      others = λ y ne. ap (option_map entry_state) (entry-enters_other x way s w v.ways v.buffer y ne);
    }

-- ---- the rules after

-- the state of each entry after it: the item's is o
abbrev state_now : ℕ → Option LeafState → LeafValue → ℕ → Option LeafState
state_now x o v y = if nat_eq y x then o else state_at y v

now-here : (x : ℕ) (o : Option LeafState) (v : LeafValue) → state_now x o v x ≡ o
now-here x o v = rw (nat_eq-same x) refl

now-other : (x y : ℕ) (o : Option LeafState) (v : LeafValue) → y ≢ x → state_now x o v y ≡ state_at y v
now-other x y o v ne = rw (ne_eqb y x ne) refl

-- what is asked for then suits the state of its item
abbrev pub SlotSuits : ℕ → Option LeafState → LeafValue → Option RequestValue → Type 0
SlotSuits x o v slot = (r : RequestValue) → slot ≡ Some r → request_suits r.kind (state_now x o v r.item) ≡ true

-- the rest of a change: the request, the replies and the reservation suit
pub record LeafChange (n x : ℕ) (v : LeafValue) (o : Option LeafState) (slot : Option RequestValue) (replies : List CopyValue) (reservation : Option ℕ) : Type 0 where
  -- it waits only where it did before
  pub waits : state_waits o ≡ true → state_waits (state_at x v) ≡ true
  pub suits : SlotSuits x o v slot
  -- of other items the same is asked for
  pub asks : (y : ℕ) (kind : TxKind) → y ≢ x → slot_has kind y slot ≡ slot_has kind y v.slot
  pub copies : list_all (copy_fits n) replies ≡ true
  pub room : length replies ≤ v.sizes.reply_room
  pub copies_of : (y : ℕ) → y ≢ x → words_of_item y replies ≡ words_of_item y v.replies
  pub reserves : reserves_below n reservation ≡ true

-- a leaf's face by the state of the entry
abbrev pub state_face : ℕ → Option LeafState → Option RequestValue → ℕ → ChildFace
state_face x o slot copies = record {
  hold = entry_hold o;
  reads = in_state is_reading o && not (slot_has ReadTx x slot);
  erases = in_state is_upgrading o && not (slot_has EraseTx x slot);
  replies = copies;
  answers = false;
}

pub leaf_face-is : (x : ℕ) (v : LeafValue) → leaf_face x v ≡ state_face x (state_at x v) v.slot (length (words_of_item x v.replies))
unfolding leaf_hold
leaf_face-is x v = refl

module _ (n x : ℕ) (v : LeafValue) (f : Fate) (o : Option LeafState) (slot : Option RequestValue) (replies : List CopyValue) (reservation : Option ℕ) (ok : IsLeafOk n v) (fated : IsFated n x v f o) (c : LeafChange n x v o slot replies reservation) where
  abbrev after : LeafValue
  after = record v { ways = ways_after x f v.ways; buffer = buffer_after x f v.ways v.buffer; slot = slot; replies = replies; reservation = reservation }

  state-after : (y : ℕ) → state_at y after ≡ state_now x o v y
  state-after y = at (ℕ_discrete y x) where
    at : Dec (y ≡ x) → state_at y after ≡ state_now x o v y
    at (yes same) = subst (λ z. state_at z after ≡ state_now x o v z) (sym same) (fated.here ∙ sym (now-here x o v))
    at (no other) = fated.others y other ∙ sym (now-other x y o v other)

  waits-before : (y : ℕ) → state_waits (state_at y after) ≡ true → state_waits (state_at y v) ≡ true
  waits-before y e = at (ℕ_discrete y x) where
    at : Dec (y ≡ x) → state_waits (state_at y v) ≡ true
    at (yes same) = subst (λ z. state_waits (state_at z v) ≡ true) (sym same) (c.waits (subst (λ o. state_waits o ≡ true) fated.here (subst (λ z. state_waits (state_at z after) ≡ true) same e)))
    at (no other) = subst (λ o. state_waits o ≡ true) (fated.others y other) e

  slot-after : (s : Option RequestValue) → slot ≡ s → slot_suits after s ≡ true
  slot-after None e = refl
  slot-after (Some r) e = subst (λ o. request_suits r.kind o ≡ true) (sym (state-after r.item)) (c.suits r e)

  after-ok : IsLeafOk n after
  after-ok =
      let w = leaf_within-facts n v (ok.each leaf_lists) in
      rules-from_entries n after (record {
        sets = ok.each has_ways;
        lists = leaf_within-test n after (record { ways = ways_after-length x f v.ways ∙ w.ways; buffer = omega (arith, buffer_after-length x f v.ways v.buffer, w.buffer); replies = c.room });
        entries = fated.entries;
        waiting = λ y z wait_y wait_z. one-waits n v ok y z (waits-before y wait_y) (waits-before z wait_z);
        slot = slot-after slot refl;
        replies = c.copies;
        reservation = c.reserves;
      })

  face-other : (y : ℕ) → y ≢ x → leaf_face y after ≡ leaf_face y v
  face-other y ne =
      let reads = c.asks y ReadTx ne in
      let erases = c.asks y EraseTx ne in
      let state = fated.others y ne in
      let copies = c.copies_of y ne in
      leaf_face-is y after ∙ rw (state, reads, erases, copies) (sym (leaf_face-is y v))

  pub leaf-told : IsTold n x (leaf_node v) (leaf_node after) (state_face x o slot (length (words_of_item x replies)))
  leaf-told = record {
    ok = after-ok;
    here = leaf_face-is x after ∙ ap (λ o. state_face x o slot (length (words_of_item x replies))) fated.here;
    others = face-other;
  }
