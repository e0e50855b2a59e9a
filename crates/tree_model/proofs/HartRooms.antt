-- A hart's turn keeps the lists of its leaf within their rooms.
use Rattle.std.proofs.Common.{◌≡◌, ℕ, ◌+◌, ◌%◌, ◌<◌, ◌≤◌, Bool, true, false, List, [], ◌∷◌, length, Option, Some, None, Result, Ok, Err, refl, subst, ◌∙◌, arith, length-append}
use Rattle.std.specs.Prelude.{is_none, find}
use Rattle.std.specs.List.{range_with_len}
use Rattle.std.proofs.lemmas.Bool.{leb-false}
use Rattle.std.proofs.lemmas.List.{length-set}
use Rattle.tree_model.specs.DdmTypes.declared.operations.HaltCause.{HaltCause}
use Rattle.tree_model.specs.DdmTypes.declared.sizes.LeafState.{LeafState}
use Rattle.tree_model.specs.DdmTypes.declared.keys.Key.{Key}
use Rattle.tree_model.specs.DdmTypes.ItemTable.{ItemTable}
use Rattle.tree_model.specs.DdmTypes.CodeMap.{CodeWord}
use Rattle.flat_model.specs.Hart.{ask_of}
use Rattle.flat_model.specs.Flat.{Change, Stored}
use Rattle.tree_model.specs.State.Values.{WayValue, BufferValue, LeafSizes, LeafValue}
use Rattle.tree_model.specs.State.Leaf.{way_at, item_in_way, free_way, becomes, enters, blank, buffer_full, waiting_item}
use Rattle.tree_model.specs.State.Rooms.{leaf_within}
use Rattle.tree_model.specs.Turns.HartTurn.{Deed, has_halted, waits_for, halts, completes, fetches, upgrades, finds_buffer_full, Need, no_need, a_copy, no_other_copy, time, need_of, change_here, deed_of_change, replaces, deed_to_fetch, deed_by_need, deed_unless_waiting, deed_unless_halted, deed_of, ways_stored, buffer_stored, moved_entry, ways_without, moved_to_buffer, leaf_after_deed, leaf_step}
use Rattle.tree_model.proofs.LeafRooms.{LeafWithin, leaf_within-facts, leaf_within-test, ways_after-length, buffer_after-length}

-- ---- a free way has no item

find-passes : {X : Type 0} (t : X → Bool) (xs : List X) (x : X) → find t xs ≡ Some x → t x ≡ true
find-passes t [] x e = cc
find-passes t (y ∷ ys) x e =
    elim (t y) as (λ b. t y ≡ b → t x ≡ true) [
      | true ↦ λ passes.
          let here : Some y ≡ Some x = rw passes at e in
          let same : y ≡ x = cc in
          subst (λ z. t z ≡ true) same passes
      | false ↦ λ fails. find-passes t ys x (rw fails at e)
    ] refl

is_none-true : {X : Type 0} (o : Option X) → is_none o ≡ true → o ≡ None
is_none-true None e = refl
is_none-true (Some x) e = cc

pub free_way-free : (sizes : LeafSizes) (x way : ℕ) (ways : List (Option WayValue)) → free_way sizes x ways ≡ Some way → item_in_way sizes.sets x way ways ≡ None
unfolding free_way
free_way-free sizes x way ways e = is_none-true _ (find-passes (λ way. is_none (item_in_way sizes.sets x way ways)) (range_with_len 0 sizes.way_count) way e)

-- ---- what moves to the buffer has a place there

moved-length : (o : Option ℕ) (ways : List (Option WayValue)) → length (moved_to_buffer o ways) ≤ 1
moved-length None ways = omega arith
moved-length (Some y) ways = moved_entry-length y (way_at y ways)
  where
    moved_entry-length : (y : ℕ) (o : Option WayValue) → length (moved_entry y o) ≤ 1
    moved_entry-length y None = omega arith
    moved_entry-length y (Some e) = omega arith

-- the item in this way of x's set is none, or the buffer has a place
abbrev way_fits : LeafValue → ℕ → ℕ → Type 0
way_fits v x way = length v.buffer + length (moved_to_buffer (item_in_way v.sizes.sets x way v.ways) v.ways) ≤ v.sizes.buffer_room

-- each way that a deed fetches an item into fits
record DeedFits (v : LeafValue) (d : Deed) : Type 0 where
  fits : (x : ℕ) (state : LeafState) (way : ℕ) → d ≡ fetches x state way → way_fits v x way

module _ (n : ℕ) (v : LeafValue) (w : LeafWithin n v) where
  fetches-fits : (x : ℕ) (state : LeafState) (way : ℕ) → way_fits v x way → DeedFits v (fetches x state way)
  fetches-fits x state way ok = record {
    fits = λ y other there e.
        let item : x ≡ y = cc in
        let place : way ≡ there = cc in
        subst (λ z. way_fits v z there) item (subst (λ z. way_fits v x z) place ok);
  }

  replaces-fits : (x : ℕ) (state : LeafState) (way : ℕ) (full : Bool) → buffer_full v ≡ full → DeedFits v (replaces x state way full)
  replaces-fits x state way true e = record { fits = λ y other there e. cc }
  replaces-fits x state way false e =
      let place : length v.buffer < v.sizes.buffer_room = leb-false _ _ e in
      fetches-fits x state way (omega (arith, moved-length (item_in_way v.sizes.sets x way v.ways) v.ways))

  deed_to_fetch-fits : (x : ℕ) (state : LeafState) (victim : ℕ) (o : Option ℕ) → free_way v.sizes x v.ways ≡ o → DeedFits v (deed_to_fetch x state victim v o)
  deed_to_fetch-fits x state victim (Some way) e =
      let free = free_way-free v.sizes x way v.ways e in
      fetches-fits x state way (rw free (omega (arith, w.buffer)))
  deed_to_fetch-fits x state victim None e = replaces-fits x state (victim % v.sizes.way_count) (buffer_full v) refl

  module _ (code : List CodeWord) (items : ItemTable) (victim : ℕ) where
    deed_of_change-fits : (r : Result Change HaltCause) → DeedFits v (deed_of_change r)
    deed_of_change-fits (Ok c) = record { fits = λ y other there e. cc }
    deed_of_change-fits (Err cause) = record { fits = λ y other there e. cc }

    deed_by_need-fits : (need : Need) → DeedFits v (deed_by_need code items victim v need)
    deed_by_need-fits no_need = deed_of_change-fits (change_here code items v)
    deed_by_need-fits (a_copy x state) = deed_to_fetch-fits x state victim (free_way v.sizes x v.ways) refl
    deed_by_need-fits (no_other_copy x words) = record { fits = λ y other there e. cc }
    deed_by_need-fits (time x) = record { fits = λ y other there e. cc }

    deed_unless_waiting-fits : (o : Option ℕ) → DeedFits v (deed_unless_waiting code items victim v o)
    deed_unless_waiting-fits (Some x) = record { fits = λ y other there e. cc }
    deed_unless_waiting-fits None = deed_by_need-fits (need_of (ask_of code items v.hart) v)

    deed_unless_halted-fits : (o : Option HaltCause) → DeedFits v (deed_unless_halted code items victim v o)
    deed_unless_halted-fits (Some cause) = record { fits = λ y other there e. cc }
    deed_unless_halted-fits None = deed_unless_waiting-fits (waiting_item v.ways v.buffer)

    deed_of-fits : DeedFits v (deed_of code items victim v)
    unfolding deed_of
    deed_of-fits = deed_unless_halted-fits v.hart.halt

  -- ---- the leaf after it

  ways_stored-length : (s : Option Stored) (ways : List (Option WayValue)) → length (ways_stored s ways) ≡ length ways
  ways_stored-length None ways = refl
  ways_stored-length (Some s) ways = ways_after-length s.item (becomes LeafState.Exclusive s.words) ways

  buffer_stored-length : (s : Option Stored) (ways : List (Option WayValue)) (buffer : List BufferValue) → length (buffer_stored s ways buffer) ≤ length buffer
  buffer_stored-length None ways buffer = omega arith
  buffer_stored-length (Some s) ways buffer = buffer_after-length s.item (becomes LeafState.Exclusive s.words) ways buffer

  ways_without-length : (o : Option ℕ) (ways : List (Option WayValue)) → length (ways_without o ways) ≡ length ways
  ways_without-length None ways = refl
  ways_without-length (Some y) ways = length-set ways y None

  after-within : (d : Deed) → DeedFits v d → LeafWithin n (leaf_after_deed v d)
  after-within (has_halted cause) fit = w
  after-within (waits_for x) fit = w
  after-within (halts cause) fit = record { ways = w.ways; buffer = w.buffer; replies = w.replies }
  after-within (completes c) fit = record { ways = ways_stored-length c.stored v.ways ∙ w.ways; buffer = omega (arith, buffer_stored-length c.stored v.ways v.buffer, w.buffer); replies = w.replies }
  after-within (fetches x state way) fit =
      let moved = moved_to_buffer (item_in_way v.sizes.sets x way v.ways) v.ways in
      let place : length v.buffer + length moved ≤ v.sizes.buffer_room = fit.fits x state way refl in
      record {
        ways = ways_after-length x (enters way state (blank v.sizes.width)) (ways_without (item_in_way v.sizes.sets x way v.ways) v.ways) ∙ (ways_without-length (item_in_way v.sizes.sets x way v.ways) v.ways ∙ w.ways);
        buffer = omega (arith, length-append v.buffer moved);
        replies = w.replies;
      }
  after-within (upgrades x words) fit = record { ways = ways_after-length x (becomes LeafState.Waiting words) v.ways ∙ w.ways; buffer = omega (arith, buffer_after-length x (becomes LeafState.Waiting words) v.ways v.buffer, w.buffer); replies = w.replies }
  after-within finds_buffer_full fit = w

pub leaf_step-within : (n : ℕ) (code : List CodeWord) (items : ItemTable) (now : Key) (victim : ℕ) (v : LeafValue) → leaf_within n v ≡ true → leaf_within n (leaf_step code items now victim v).leaf ≡ true
unfolding leaf_step
leaf_step-within n code items now victim v e =
    let w = leaf_within-facts n v e in
    leaf_within-test n _ (after-within n v w (deed_of code items victim v) (deed_of-fits n v w code items victim))
