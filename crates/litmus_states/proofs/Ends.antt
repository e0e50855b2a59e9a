-- The state of a machine whose witness is one run of the flat machine, and whose harts are all at their breakpoints.
-- Letters: s is a flat machine, m a machine, v a leaf, x an item, k a thread, h a hart's number.
use Rattle.std.proofs.Common.{◌≡◌, ℕ, ◌+◌, ◌<◌, ◌≤◌, Bool, true, false, List, [], ◌∷◌, length, map, get_or, Option, Some, None, Err, refl, sym, ap, subst, ◌∙◌, arith, zero-add}
use Rattle.std.specs.Prelude.{IfSome, nat_lt, slice_index}
use Rattle.std.specs.List.{range_with_len}
use Rattle.std.specs.Option.{option_map_or}
use Rattle.std.proofs.lemmas.Bool.Decides.{nat_tests}
use Rattle.std.proofs.Math.Path.{ap₂}
use Rattle.std.proofs.lemmas.List.{get_or_past, length-map}
use Rattle.std.proofs.lemmas.List.FromFn.{length-range_with_len}
use Rattle.std.proofs.lemmas.List.Quantifiers.{position-Some}
use Rattle.outcome_model.specs.DdmTypes.ItemTable.{item_at, item_count, no_row, row_has}
use Rattle.outcome_model.specs.DdmTypes.declared.operations.HaltCause.{HaltCause}
use Rattle.outcome_model.specs.FlatModel.Flat.{FlatHart, FlatMachine, flat_hart, flat_step, item_words, no_flat_hart}
use Rattle.outcome_model.specs.FlatModel.Hart.{HartValue, register}
use Rattle.outcome_model.specs.TreeRules.Order.Ops.{flat_now}
use Rattle.outcome_model.specs.TreeRules.Witness.{IsHartOf, IsWitnessed}
use Rattle.outcome_model.specs.Halted.{all_halted}
use Rattle.recording_model.specs.TreeModel.State.Blank.{no_hart}
use Rattle.recording_model.specs.TreeModel.State.Shape.{skeleton, leaf_numbers_of}
use Rattle.recording_model.specs.TreeModel.State.Values.{LeafValue, MachineValue, root_of}
use Rattle.recording_model.specs.TreeModel.Turns.Found.{FoundValue}
use Rattle.recording_model.specs.TreeModel.Turns.Machine.{machine_leaves}
use Rattle.recording_model.specs.TreeModel.Turns.Witness.{sorted_ops}
use Rattle.litmus_model.specs.declared.parts.Target.{Target}
use Rattle.litmus_model.specs.declared.parts.Target.TheVariants.{Register, Location}
use Rattle.litmus_model.specs.Image.{address_of}
use Rattle.litmus_model.specs.Test.{Test}
use Rattle.litmus_states.specs.Laws.{IsLegalState, flat_word}
use Rattle.litmus_states.specs.States.{first_word, hart_in, has_faulted, hart_on, item_word, observed_word, observed_words}
use Rattle.litmus_states.proofs.FlatHarts.{after-harts}
use Rattle.litmus_states.proofs.Lists.{LeafAt, all-stopped, leaf-at, number_of, numbers-in}

module _ (s : FlatMachine) (m : MachineValue) (w : IsWitnessed s m) (numbered : leaf_numbers_of (skeleton (root_of m)) [] ≡ range_with_len 0 (length s.harts)) where
  abbrev now : FlatMachine
  now = flat_now s m

  leaf_numbers : map number_of (machine_leaves m) ≡ range_with_len 0 (length s.harts)
  leaf_numbers = numbers-in (root_of m) [] ∙ numbered

  -- ---- each hart is at its breakpoint

  abbrev Stopped : LeafValue → Type 0
  Stopped v = IsHartOf s m v × (v.hart.halt ≡ Some HaltCause.Breakpoint)

  next-halts : (h : ℕ) (v : LeafValue) → v.number ≡ h → Stopped v → (sc_ok : Bool) → flat_step m.code m.items now h sc_ok ≡ Err HaltCause.Breakpoint
  next-halts h v number stopped sc_ok =
      let here : IfSome (Some HaltCause.Breakpoint) (λ cause. (sc : Bool) → flat_step m.code m.items now v.number sc ≡ Err cause) =
      subst (λ (o : Option HaltCause). IfSome o (λ cause. (sc : Bool) → flat_step m.code m.items now v.number sc ≡ Err cause)) stopped.1 stopped.0.halt in
      ap (λ (k : ℕ). flat_step m.code m.items now k sc_ok) (sym number) ∙ here sc_ok

  ended : has_faulted m ≡ false → all_halted m ≡ true → (h : ℕ) → h < length s.harts → (sc_ok : Bool) → flat_step m.code m.items now h sc_ok ≡ Err HaltCause.Breakpoint
  unfolding has_faulted all_halted
  ended no_fault halted h inside sc_ok =
      let stopped = all-stopped (IsHartOf s m) (machine_leaves m) w.harts no_fault halted in
      let at : LeafAt Stopped (machine_leaves m) h (0 + h) = leaf-at Stopped (machine_leaves m) 0 (length s.harts) h stopped leaf_numbers inside in
      next-halts h at.leaf (at.numbered ∙ zero-add h) at.has sc_ok

  -- ---- words

  hart-word : (h r : ℕ) → register (hart_on h m) r ≡ register (flat_hart now h).hart r
  unfolding hart_on
  hart-word h r = by_test (nat_lt h (length s.harts)) refl where
    inside : h < length s.harts → register (get_or (map hart_in (machine_leaves m)) h no_hart) r ≡ register (flat_hart now h).hart r
    inside below =
        let at : LeafAt (IsHartOf s m) (machine_leaves m) h (0 + h) = leaf-at (IsHartOf s m) (machine_leaves m) 0 (length s.harts) h w.harts leaf_numbers below in
        ap (λ (k : HartValue). register k r) at.there ∙ ap (λ (k : HartValue). register k r) (sym at.has.hart) ∙ ap (λ (k : ℕ). register (flat_hart now k).hart r) (at.numbered ∙ zero-add h)

    none : length s.harts ≤ h → register (get_or (map hart_in (machine_leaves m)) h no_hart) r ≡ register (flat_hart now h).hart r
    none past =
        let counted : length (machine_leaves m) ≡ length s.harts = sym (length-map (machine_leaves m) number_of) ∙ ap length leaf_numbers ∙ length-range_with_len 0 (length s.harts) in
        let long = length-map (machine_leaves m) hart_in in
        let kept = after-harts m.code m.items s (sorted_ops m.ops) in
        ap (λ (k : HartValue). register k r) (get_or_past (map hart_in (machine_leaves m)) h no_hart (omega (arith, counted, long, past)))
        ∙ ap (λ (k : FlatHart). register k.hart r) (sym (get_or_past now.harts h no_flat_hart (omega (arith, kept, past))))

    by_test : (b : Bool) → nat_lt h (length s.harts) ≡ b → register (get_or (map hart_in (machine_leaves m)) h no_hart) r ≡ register (flat_hart now h).hart r
    by_test true e = inside (grind (arith, nat_tests))
    by_test false e = none (grind (arith, nat_tests))

  copy-word : (x : ℕ) → x < item_count m.items → item_word x m ≡ slice_index (item_words now x) 0
  unfolding item_word
  copy-word x inside =
      let copy = w.copies x inside in
      ap (λ (o : Option FoundValue). option_map_or first_word o 0) copy.is ∙ ap (λ (ws : List ℕ). slice_index ws 0) copy.words

  item-word : (at : Option ℕ) → ((x : ℕ) → at ≡ Some x → x < item_count m.items) → option_map_or (λ x. item_word x m) at 0 ≡ option_map_or (λ x. slice_index (item_words now x) 0) at 0
  item-word None inside = refl
  item-word (Some x) inside = copy-word x (inside x refl)

  there : (address x : ℕ) → item_at m.items address ≡ Some x → x < item_count m.items
  unfolding item_at
  there address x is = (position-Some (row_has m.items.size address) m.items.rows x no_row is).0

  module _ (test : Test) (item_bytes : ℕ) (places : List ℕ) where
    one-word : (target : Target) → observed_word test item_bytes places m target ≡ flat_word test item_bytes places m.code m.items now target
    unfolding observed_word
    one-word (Register k r) = hart-word (slice_index places k) r
    one-word (Location name) = item-word (item_at m.items (address_of test item_bytes name)) (there (address_of test item_bytes name))

    all-words : (targets : List Target) → map (observed_word test item_bytes places m) targets ≡ map (flat_word test item_bytes places m.code m.items now) targets
    all-words [] = refl
    all-words (target ∷ targets) = ap₂ (λ (w : ℕ) (ws : List ℕ). w ∷ ws) (one-word target) (all-words targets)

    pub state-legal : has_faulted m ≡ false → all_halted m ≡ true → IsLegalState test item_bytes places m.code m.items s (observed_words test item_bytes places m)
    unfolding observed_words
    state-legal no_fault halted = record {
      ops = sorted_ops m.ops;
      legal = w.legal;
      ended = ended no_fault halted;
      words_are = all-words test.observed;
    }
