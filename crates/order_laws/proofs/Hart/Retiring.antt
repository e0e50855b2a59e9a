-- A leaf's turn that completes an instruction or halts its hart: what that rests on, and the leaf after it.
use Rattle.std.proofs.Common.{◌≡◌, ℕ, Bool, true, false, List, Option, Some, None, Ok, Err, Result, refl, sym, ap, ◌∙◌}
use Rattle.std.proofs.lemmas.Bool.{true≢false}
use Rattle.std.specs.Prelude.{◌%◌}
use Rattle.order_laws.specs.DdmTypes.declared.answers.TurnAnswer.{TurnAnswer}
use Rattle.order_laws.specs.DdmTypes.declared.operations.Effect.{Effect}
use Rattle.order_laws.specs.DdmTypes.declared.operations.HaltCause.{HaltCause}
use Rattle.order_laws.specs.DdmTypes.declared.operations.Op.{Op}
use Rattle.order_laws.specs.DdmTypes.declared.sizes.LeafState.{LeafState}
use Rattle.order_laws.specs.DdmTypes.declared.keys.Key.{Key}
use Rattle.order_laws.specs.DdmTypes.ItemTable.{ItemTable}
use Rattle.order_laws.specs.DdmTypes.CodeMap.{CodeWord}
use Rattle.order_laws.specs.FlatModel.Hart.{ask_of}
use Rattle.order_laws.specs.FlatModel.Flat.{Change}
use Rattle.order_laws.specs.TreeModel.State.Values.{LeafValue}
use Rattle.order_laws.specs.TreeModel.State.Leaf.{waiting_item, free_way, buffer_full}
use Rattle.order_laws.specs.TreeModel.Turns.HartTurn.{Deed, has_halted, waits_for, halts, completes, fetches, upgrades, finds_buffer_full, Need, no_need, a_copy, no_other_copy, time, need_of, change_here, deed_of_change, replaces, deed_to_fetch, deed_by_need, deed_unless_waiting, deed_unless_halted, deed_of, answer_of_deed, leaf_after_deed, leaf_step}

abbrev pub op_of : Key → LeafValue → Effect → Op
op_of now v effect = record { key = now; hart = v.number; pc = v.hart.pc; effect = effect }

-- of an answer, the operation that completed
abbrev op_in : Op → TurnAnswer → Op
op_in other (TurnAnswer.Retired op) = op
op_in other _ = other

abbrev pub has_retired : TurnAnswer → Bool
has_retired (TurnAnswer.Retired op) = true
has_retired _ = false

-- a deed is done by the instruction itself, and what it needs is at hand
abbrev is_done : Deed → Bool
is_done (has_halted cause) = false
is_done (waits_for x) = false
is_done (halts cause) = true
is_done (completes c) = true
is_done (fetches x state way) = false
is_done (upgrades x words) = false
is_done finds_buffer_full = false

module _ (code : List CodeWord) (items : ItemTable) where
  -- the hart runs, nothing waits, and all that the instruction needs is at hand
  pub record IsAtHand (v : LeafValue) : Type 0 where
    pub running : v.hart.halt ≡ None
    pub awake : waiting_item v.ways v.buffer ≡ None
    pub met : need_of (ask_of code items v.hart) v ≡ no_need

  module _ (victim : ℕ) (v : LeafValue) where
    -- a done deed is what the instruction makes
    record IsMade (d : Deed) : Type 0 where
      at_hand : IsAtHand v
      is : deed_of_change (change_here code items v) ≡ d

    not_done : (d e : Deed) → is_done d ≡ false → d ≡ e → is_done e ≡ true → ⊥
    not_done d e h is done = true≢false (sym done ∙ sym (ap is_done is) ∙ h)

    by_room : (x : ℕ) (state : LeafState) (way : ℕ) (t : Bool) → is_done (replaces x state way t) ≡ false
    by_room x state way true = refl
    by_room x state way false = refl

    by_way : (x : ℕ) (state : LeafState) (o : Option ℕ) → is_done (deed_to_fetch x state victim v o) ≡ false
    by_way x state (Some way) = refl
    by_way x state None = by_room x state (victim % v.sizes.way_count) (buffer_full v)

    by_need : (d : Deed) → is_done d ≡ true → v.hart.halt ≡ None → waiting_item v.ways v.buffer ≡ None → (n : Need) → need_of (ask_of code items v.hart) v ≡ n → deed_by_need code items victim v n ≡ d → IsMade d
    by_need d done r w no_need k e = record { at_hand = record { running = r; awake = w; met = k }; is = e }
    by_need d done r w (a_copy x state) k e = absurd (not_done _ d (by_way x state (free_way v.sizes x v.ways)) e done)
    by_need d done r w (no_other_copy x words) k e = absurd (not_done _ d refl e done)
    by_need d done r w (time x) k e = absurd (not_done _ d refl e done)

    by_waiting : (d : Deed) → is_done d ≡ true → v.hart.halt ≡ None → (o : Option ℕ) → waiting_item v.ways v.buffer ≡ o → deed_unless_waiting code items victim v o ≡ d → IsMade d
    by_waiting d done r None k e = by_need d done r k (need_of (ask_of code items v.hart) v) refl e
    by_waiting d done r (Some x) k e = absurd (not_done _ d refl e done)

    by_halt : (d : Deed) → is_done d ≡ true → (o : Option HaltCause) → v.hart.halt ≡ o → deed_unless_halted code items victim v o ≡ d → IsMade d
    by_halt d done None k e = by_waiting d done k (waiting_item v.ways v.buffer) refl e
    by_halt d done (Some cause) k e = absurd (not_done _ d refl e done)

    made : (d : Deed) → is_done d ≡ true → deed_of code items victim v ≡ d → IsMade d
    unfolding deed_of
    made d done e = by_halt d done v.hart.halt refl e

    change_of : (r : Result Change HaltCause) (c : Change) → deed_of_change r ≡ completes c → r ≡ Ok c
    change_of (Ok d) c e = cc
    change_of (Err cause) c e = cc

    cause_of : (r : Result Change HaltCause) (cause : HaltCause) → deed_of_change r ≡ halts cause → r ≡ Err cause
    cause_of (Ok d) cause e = cc
    cause_of (Err other) cause e = cc

    -- the instruction itself halts its hart
    pub halt_made : (cause : HaltCause) → deed_of code items victim v ≡ halts cause → IsAtHand v × (change_here code items v ≡ Err cause)
    halt_made cause e =
        let m : IsMade (halts cause) = made (halts cause) refl e in
        (m.at_hand, cause_of (change_here code items v) cause m.is)

  -- ---- a turn that completes

  pub record Retires (now : Key) (v : LeafValue) (op : Op) (w : LeafValue) : Type 0 where
    pub at_hand : IsAtHand v
    pub change : Change
    pub made : change_here code items v ≡ Ok change
    pub op_is : op ≡ op_of now v change.effect
    pub leaf_is : w ≡ leaf_after_deed v (completes change)

  module _ (now : Key) (victim : ℕ) (v : LeafValue) where
    no_answer : (d : Deed) (op : Op) → has_retired (answer_of_deed now v d) ≡ false → answer_of_deed now v d ≡ TurnAnswer.Retired op → ⊥
    no_answer d op e h = true≢false (sym (ap has_retired h) ∙ e)

    pub retires : (op : Op) → (leaf_step code items now victim v).answer ≡ TurnAnswer.Retired op → Retires now v op (leaf_step code items now victim v).leaf
    unfolding leaf_step
    retires op h = go (deed_of code items victim v) refl h where
      go : (d : Deed) → deed_of code items victim v ≡ d → answer_of_deed now v d ≡ TurnAnswer.Retired op → Retires now v op (leaf_after_deed v (deed_of code items victim v))
      go (has_halted cause) k e = absurd (no_answer (has_halted cause) op refl e)
      go (waits_for x) k e = absurd (no_answer (waits_for x) op refl e)
      go (halts cause) k e = absurd (no_answer (halts cause) op refl e)
      go (completes c) k e =
          let m : IsMade victim v (completes c) = made victim v (completes c) refl k in
          record { at_hand = m.at_hand; change = c; made = change_of victim v (change_here code items v) c m.is; op_is = sym (ap (op_in op) e); leaf_is = ap (leaf_after_deed v) k }
      go (fetches x state way) k e = absurd (no_answer (fetches x state way) op refl e)
      go (upgrades x words) k e = absurd (no_answer (upgrades x words) op refl e)
      go finds_buffer_full k e = absurd (no_answer finds_buffer_full op refl e)
