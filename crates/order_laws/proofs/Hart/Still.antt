-- A leaf's turn that doesn't complete: its copies and holds stay, and its hart too, but for a halt that its instruction asks for.
use Rattle.std.proofs.Common.{◌≡◌, ◌≢◌, ℕ, ◌%◌, ◌<◌, Bool, true, false, ◌⊎◌, inl, inr, List, ◌++◌, length, Option, Some, None, Ok, Err, Result, option_map, slice_set, refl, sym, ap, subst, ◌∙◌}
use Rattle.std.specs.Prelude.{nat_eq}
use Rattle.std.proofs.lemmas.Bool.{true≢false}
use Rattle.std.proofs.lemmas.Bool.Decides.{eqb_tells}
use Rattle.std.proofs.lemmas.List.{append-nil, length-set}
use Rattle.order_laws.specs.DdmTypes.declared.operations.HaltCause.{HaltCause}
use Rattle.order_laws.specs.DdmTypes.declared.sizes.LeafState.{LeafState}
use Rattle.order_laws.specs.DdmTypes.declared.keys.Key.{Key}
use Rattle.order_laws.specs.DdmTypes.ItemTable.{ItemTable, item_count}
use Rattle.order_laws.specs.DdmTypes.CodeMap.{CodeWord}
use Rattle.order_laws.specs.FlatModel.declared.Ask.{Ask}
use Rattle.order_laws.specs.FlatModel.declared.Ask.TheVariants.{Plain, Put, NeedsShared, NeedsExclusive, Conditional, Halt}
use Rattle.order_laws.specs.FlatModel.Hart.{Finished, ask_of, finish_of}
use Rattle.order_laws.specs.FlatModel.Flat.{Change, has_reserved, change_by, asked_item}
use Rattle.order_laws.proofs.FlatModel.Items.{asks_inside}
use Rattle.order_laws.specs.TreeModel.State.States.{is_reading}
use Rattle.order_laws.specs.TreeModel.State.Values.{WayValue, LeafValue}
use Rattle.order_laws.specs.TreeModel.State.Leaf.{blank, LeafEntry, way_at, entry_at, leaf_entry, leaf_hold, waiting_item, item_in_way, stands_in, free_way, buffer_full}
use Rattle.order_laws.specs.TreeModel.Turns.HartTurn.{Deed, has_halted, waits_for, halts, completes, fetches, upgrades, finds_buffer_full, Need, no_need, a_copy, no_other_copy, time, need_to_read, need_to_write, need_in_state, need_of, words_here, change_here, deed_of_change, replaces, deed_to_fetch, deed_by_need, deed_unless_waiting, deed_unless_halted, deed_of, answer_of_deed, leaf_after_deed, leaf_step, ways_without, moved_entry, moved_to_buffer}
use Rattle.order_laws.proofs.TreeModel.Children.{found-passes}
use Rattle.order_laws.specs.TreeRules.Bus.Own.{IsLeafOk}
use Rattle.bus_laws.proofs.HartFacts.{HasEntries, entries-from_rules}
use Rattle.bus_laws.proofs.HartChanges.{entry_with, entry-becomes, entry-becomes_other, entry-moved, entry-enters, entry-enters_other}
use Rattle.order_laws.proofs.Hart.Retiring.{IsAtHand, has_retired, halt_made}
use Rattle.order_laws.proofs.Hart.LeafTurned.{SameHeld, same_entry}

-- ---- entries that come or wait for an exclusive

-- an item without an entry is being read: no copy and no hold yet
reading_held : (x : ℕ) (v w : LeafValue) (state : LeafState) (words : List ℕ) → is_reading state ≡ true → leaf_entry x v ≡ None → leaf_entry x w ≡ Some (record { state = state; words = words }) → SameHeld x v w
unfolding leaf_hold
reading_held x v w LeafState.Reading words h before after = record { copies = λ place clock. rw (before, after) refl; hold = rw (before, after) refl }
reading_held x v w LeafState.ReadingWaiting words h before after = record { copies = λ place clock. rw (before, after) refl; hold = rw (before, after) refl }
reading_held x v w LeafState.Shared words h before after = absurd (let wrong : ⊥ = cc in wrong)
reading_held x v w LeafState.Exclusive words h before after = absurd (let wrong : ⊥ = cc in wrong)
reading_held x v w LeafState.Waiting words h before after = absurd (let wrong : ⊥ = cc in wrong)

-- one that waits to be the only one has its words
upgrading_held : (x : ℕ) (v w : LeafValue) (words : List ℕ) → leaf_entry x v ≡ Some (record { state = LeafState.Shared; words = words }) → leaf_entry x w ≡ Some (record { state = LeafState.Waiting; words = words }) → SameHeld x v w
unfolding leaf_hold
upgrading_held x v w words before after = record { copies = λ place clock. rw (before, after) refl; hold = rw (before, after) refl }

module _ (code : List CodeWord) (items : ItemTable) where
  -- the hart stays, or its instruction asks for its halt
  pub record HasHalted (v w : LeafValue) : Type 0 where
    pub cause : HaltCause
    pub running : v.hart.halt ≡ None
    pub asks : ask_of code items v.hart ≡ Halt cause
    pub hart : w.hart ≡ record v.hart { halt = Some cause }

  pub record Stays (v w : LeafValue) : Type 0 where
    pub number : w.number ≡ v.number
    pub done : w.done ≡ v.done
    pub replies : w.replies ≡ v.replies
    pub reservation : w.reservation ≡ v.reservation
    pub held : (x : ℕ) → SameHeld x v w
    pub hart : (w.hart ≡ v.hart) ⊎ HasHalted v w

  pub stays_itself : (v w : LeafValue) → w ≡ v → Stays v w
  stays_itself v w e = record {
    number = ap (λ (u : LeafValue). u.number) e;
    done = ap (λ (u : LeafValue). u.done) e;
    replies = ap (λ (u : LeafValue). u.replies) e;
    reservation = ap (λ (u : LeafValue). u.reservation) e;
    held = λ x. same_entry x v w (ap (leaf_entry x) e);
    hart = inl (ap (λ (u : LeafValue). u.hart) e);
  }

  module _ (victim : ℕ) (v : LeafValue) where
    -- ---- what is fetched isn't there, and what is upgraded is Shared

    abbrev NeedFits : Need → Type 0
    NeedFits no_need = Unit {0}
    NeedFits (a_copy x state) = (x < item_count items) × (leaf_entry x v ≡ None) × (is_reading state ≡ true)
    NeedFits (no_other_copy x words) = leaf_entry x v ≡ Some (record { state = LeafState.Shared; words = words })
    NeedFits (time x) = Unit {0}

    abbrev DeedFits : Deed → Type 0
    DeedFits (has_halted cause) = Unit {0}
    DeedFits (waits_for x) = Unit {0}
    DeedFits (halts cause) = Unit {0}
    DeedFits (completes c) = Unit {0}
    DeedFits (fetches x state way) = (x < item_count items) × (leaf_entry x v ≡ None) × (is_reading state ≡ true)
    DeedFits (upgrades x words) = leaf_entry x v ≡ Some (record { state = LeafState.Shared; words = words })
    DeedFits finds_buffer_full = Unit {0}

    read_fits : (x : ℕ) → x < item_count items → (o : Option LeafEntry) → leaf_entry x v ≡ o → NeedFits (need_to_read x o)
    read_fits x known None e = (known, e, refl)
    read_fits x known (Some e) k = tt

    state_fits : (x : ℕ) (words : List ℕ) (s : LeafState) → leaf_entry x v ≡ Some (record { state = s; words = words }) → NeedFits (need_in_state x words s)
    state_fits x words LeafState.Exclusive k = tt
    state_fits x words LeafState.Shared k = k
    state_fits x words LeafState.Waiting k = tt
    state_fits x words LeafState.Reading k = tt
    state_fits x words LeafState.ReadingWaiting k = tt

    write_fits : (x : ℕ) → x < item_count items → (o : Option LeafEntry) → leaf_entry x v ≡ o → NeedFits (need_to_write x o)
    write_fits x known None e = (known, e, refl)
    write_fits x known (Some e) k = state_fits x e.words e.state k

    need_fits : (ask : Ask) → ask_of code items v.hart ≡ ask → NeedFits (need_of ask v)
    need_fits Plain asked = tt
    need_fits (Put byte) asked = tt
    need_fits (NeedsShared x lr) asked = read_fits x (asks_inside code items v.hart x (ap asked_item asked)) (leaf_entry x v) refl
    need_fits (NeedsExclusive x) asked = write_fits x (asks_inside code items v.hart x (ap asked_item asked)) (leaf_entry x v) refl
    need_fits (Conditional x) asked = go (has_reserved v.reservation x) refl where
      go : (t : Bool) → has_reserved v.reservation x ≡ t → NeedFits (need_of (Conditional x) v)
      go true e = rw e (write_fits x (asks_inside code items v.hart x (ap asked_item asked)) (leaf_entry x v) refl)
      go false e = rw e tt
    need_fits (Halt cause) asked = tt

    room_fits : (x : ℕ) (state : LeafState) (way : ℕ) (t : Bool) → DeedFits (fetches x state way) → DeedFits (replaces x state way t)
    room_fits x state way true f = tt
    room_fits x state way false f = f

    way_fits : (x : ℕ) (state : LeafState) (o : Option ℕ) → NeedFits (a_copy x state) → DeedFits (deed_to_fetch x state victim v o)
    way_fits x state (Some way) f = f
    way_fits x state None f = room_fits x state (victim % v.sizes.way_count) (buffer_full v) f

    change_fits : (r : Result Change HaltCause) → DeedFits (deed_of_change r)
    change_fits (Ok c) = tt
    change_fits (Err cause) = tt

    by_need_fits : (n : Need) → NeedFits n → DeedFits (deed_by_need code items victim v n)
    by_need_fits no_need f = change_fits (change_here code items v)
    by_need_fits (a_copy x state) f = way_fits x state (free_way v.sizes x v.ways) f
    by_need_fits (no_other_copy x words) f = f
    by_need_fits (time x) f = tt

    by_waiting_fits : (o : Option ℕ) → DeedFits (deed_unless_waiting code items victim v o)
    by_waiting_fits None = by_need_fits (need_of (ask_of code items v.hart) v) (need_fits (ask_of code items v.hart) refl)
    by_waiting_fits (Some x) = tt

    by_halt_fits : (o : Option HaltCause) → DeedFits (deed_unless_halted code items victim v o)
    by_halt_fits None = by_waiting_fits (waiting_item v.ways v.buffer)
    by_halt_fits (Some cause) = tt

    deed_fits : DeedFits (deed_of code items victim v)
    unfolding deed_of
    deed_fits = by_halt_fits v.hart.halt

    -- ---- the leaf after each deed

    halts_by : (ask : Ask) (cause : HaltCause) (words : ℕ → List ℕ) (finish : List ℕ → Bool → Finished) → change_by ask v.reservation finish words true ≡ Err cause → ask ≡ Halt cause
    halts_by Plain cause words finish e = absurd (let wrong : ⊥ = cc in wrong)
    halts_by (Put byte) cause words finish e = absurd (let wrong : ⊥ = cc in wrong)
    halts_by (NeedsShared x lr) cause words finish e = absurd (let wrong : ⊥ = cc in wrong)
    halts_by (NeedsExclusive x) cause words finish e = absurd (let wrong : ⊥ = cc in wrong)
    halts_by (Conditional x) cause words finish e = absurd (let wrong : ⊥ = cc in wrong)
    halts_by (Halt other) cause words finish e = let same : other ≡ cause = cc in ap Halt same

    halt_asked : (cause : HaltCause) → change_here code items v ≡ Err cause → ask_of code items v.hart ≡ Halt cause
    unfolding change_here
    halt_asked cause e = halts_by (ask_of code items v.hart) cause (words_here v) (finish_of code items v.hart) e

    halting : (cause : HaltCause) → deed_of code items victim v ≡ halts cause → Stays v (leaf_after_deed v (halts cause))
    halting cause e =
        let m : IsAtHand code items v × (change_here code items v ≡ Err cause) = halt_made code items victim v cause e in
        record { number = refl; done = refl; replies = refl; reservation = refl; held = λ x. same_entry x v (leaf_after_deed v (halts cause)) refl; hart = inr (record { cause = cause; running = m.0.running; asks = halt_asked cause m.1; hart = refl }) }

    module _ (ok : IsLeafOk (item_count items) v) where
      has : HasEntries (item_count items) v.sizes v.ways v.buffer
      has = entries-from_rules (item_count items) v ok

      -- the item that stood in the way is in the buffer
      cleared : (x way : ℕ) (o : Option ℕ) → item_in_way v.sizes.sets x way v.ways ≡ o → (z : ℕ) → entry_at z (ways_without o v.ways) (v.buffer ++ moved_to_buffer o v.ways) ≡ entry_at z v.ways v.buffer
      unfolding item_in_way
      cleared x way None found z = ap (entry_at z v.ways) (append-nil v.buffer)
      cleared x way (Some y) found z = go (way_at y v.ways) refl where
        passes : stands_in v.sizes.sets x way y (way_at y v.ways) ≡ true
        passes = found-passes (stands_in v.sizes.sets x way) y v.ways None found

        go : (o : Option WayValue) → way_at y v.ways ≡ o → entry_at z (slice_set v.ways y None) (v.buffer ++ moved_entry y (way_at y v.ways)) ≡ entry_at z v.ways v.buffer
        go None k = absurd (true≢false (sym passes ∙ ap (stands_in v.sizes.sets x way y) k))
        go (Some e) k = ap (λ q. entry_at z (slice_set v.ways y None) (v.buffer ++ moved_entry y q)) k ∙ entry-moved (item_count items) v.sizes v.ways v.buffer y e k has z

      fetching : (x : ℕ) (state : LeafState) (way : ℕ) → DeedFits (fetches x state way) → Stays v (leaf_after_deed v (fetches x state way))
      fetching x state way fits = record { number = refl; done = refl; replies = refl; reservation = refl; held = λ y. at y (eqb_tells y x); hart = inl refl } where
        same : (z : ℕ) → entry_at z (ways_without (item_in_way v.sizes.sets x way v.ways) v.ways) (v.buffer ++ moved_to_buffer (item_in_way v.sizes.sets x way v.ways) v.ways) ≡ entry_at z v.ways v.buffer
        same z = cleared x way (item_in_way v.sizes.sets x way v.ways) refl z

        inside : x < length (ways_without (item_in_way v.sizes.sets x way v.ways) v.ways)
        inside = subst (λ n. x < n) (sym (kept (item_in_way v.sizes.sets x way v.ways) ∙ has.count)) fits.0 where
          kept : (o : Option ℕ) → length (ways_without o v.ways) ≡ length v.ways
          kept None = refl
          kept (Some y) = length-set v.ways y None

        now : leaf_entry x (leaf_after_deed v (fetches x state way)) ≡ Some (record { state = state; words = blank v.sizes.width })
        now = entry-enters x way state (blank v.sizes.width) (ways_without (item_in_way v.sizes.sets x way v.ways) v.ways) (v.buffer ++ moved_to_buffer (item_in_way v.sizes.sets x way v.ways) v.ways) inside

        at : (y : ℕ) → ((nat_eq y x ≡ true) × (y ≡ x)) ⊎ ((nat_eq y x ≡ false) × (y ≢ x)) → SameHeld y v (leaf_after_deed v (fetches x state way))
        at y (inl t) = subst (λ z. SameHeld z v (leaf_after_deed v (fetches x state way))) (sym t.1) (reading_held x v (leaf_after_deed v (fetches x state way)) state (blank v.sizes.width) fits.2 fits.1 now)
        at y (inr t) = same_entry y v (leaf_after_deed v (fetches x state way)) (entry-enters_other x way state (blank v.sizes.width) (ways_without (item_in_way v.sizes.sets x way v.ways) v.ways) (v.buffer ++ moved_to_buffer (item_in_way v.sizes.sets x way v.ways) v.ways) y t.1 ∙ same y)

    upgrading : (x : ℕ) (words : List ℕ) → DeedFits (upgrades x words) → Stays v (leaf_after_deed v (upgrades x words))
    upgrading x words fits = record { number = refl; done = refl; replies = refl; reservation = refl; held = λ y. at y (eqb_tells y x); hart = inl refl } where
      at : (y : ℕ) → ((nat_eq y x ≡ true) × (y ≡ x)) ⊎ ((nat_eq y x ≡ false) × (y ≢ x)) → SameHeld y v (leaf_after_deed v (upgrades x words))
      at y (inl t) = subst (λ z. SameHeld z v (leaf_after_deed v (upgrades x words))) (sym t.1) (upgrading_held x v (leaf_after_deed v (upgrades x words)) words fits (entry-becomes x LeafState.Waiting words v.ways v.buffer ∙ ap (option_map (entry_with LeafState.Waiting words)) fits))
      at y (inr t) = same_entry y v (leaf_after_deed v (upgrades x words)) (entry-becomes_other x LeafState.Waiting words v.ways v.buffer y t.1)

    -- a turn that doesn't complete
    pub stays_after : (now : Key) → IsLeafOk (item_count items) v → has_retired (leaf_step code items now victim v).answer ≡ false → Stays v (leaf_step code items now victim v).leaf
    unfolding leaf_step
    stays_after now ok none = go (deed_of code items victim v) refl deed_fits none where
      go : (d : Deed) → deed_of code items victim v ≡ d → DeedFits d → has_retired (answer_of_deed now v d) ≡ false → Stays v (leaf_after_deed v d)
      go (has_halted cause) e f n = stays_itself v v refl
      go (waits_for x) e f n = stays_itself v v refl
      go (halts cause) e f n = halting cause e
      go (completes c) e f n = absurd (true≢false n)
      go (fetches x state way) e f n = fetching ok x state way f
      go (upgrades x words) e f n = upgrading x words f
      go finds_buffer_full e f n = stays_itself v v refl
