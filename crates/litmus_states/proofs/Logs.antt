-- Each state of a log is one of a legal run of the flat machine.
-- Letters: t is a tree, i an image, m its machine, l a line.
use Rattle.std.proofs.Common.{◌≡◌, ℕ, Bool, true, false, cond, List, [], ◌∷◌, length, map, Ok, refl, sym, ap, subst, ◌∙◌}
use Rattle.std.specs.List.{AllByRecursion, range_with_len}
use Rattle.std.proofs.lemmas.List.FromFn.{length-map-range_with_len}
use Rattle.headline.proofs.BusLaws.StartKept.{start-numbered}
use Rattle.headline.proofs.Runs.{run-witnessed}
use Rattle.headline.proofs.StartOrder.{start-orderly}
use Rattle.outcome_model.specs.BusLaws.IsTree.{IsTree}
use Rattle.outcome_model.specs.FlatModel.Flat.{FlatMachine, flat_hart_start, flat_start}
use Rattle.outcome_model.specs.Halted.{all_halted}
use Rattle.outcome_model.specs.Table.{OutcomeLine}
use Rattle.outcome_model.proofs.TableLaws.{tables-right}
use Rattle.outcome_model.proofs.Tables.{table-each}
use Rattle.outcome_model.proofs.TreeModel.FrameKept.{run-frame}
use Rattle.recording_model.specs.DdmTypes.declared.turns.Turn.{Turn}
use Rattle.recording_model.specs.TreeModel.State.Shape.{Frame, frame_of, leaf_numbers_of}
use Rattle.recording_model.specs.TreeModel.State.Values.{MachineValue}
use Rattle.recording_model.specs.TreeModel.Turns.Machine.{run_of}
use Rattle.recording_model.specs.TreeModel.Start.Sources.{ImageValue, TreeValue, leaf_count, start_of_harts}
use Rattle.recording_model.specs.TreeModel.Start.Machine.{flat_start_of, start_of}
use Rattle.recording_model.specs.TextModel.Schedule.{ShapeView}
use Rattle.recording_model.specs.declared.SeedKind.{SeedKind}
use Rattle.recording_model.specs.Recording.{Recording, drawn_limit, recording_of}
use Rattle.recording_model.specs.LetBy.{seed_draws}
use Rattle.recording_model.proofs.Recordings.{left-out-changes-nothing}
use Rattle.litmus_model.specs.StatesText.{StateLine}
use Rattle.litmus_model.specs.Test.{Test}
use Rattle.litmus_states.specs.Laws.{IsLegalState, StatesAreCounted, StatesAreLegal}
use Rattle.litmus_states.specs.States.{faulted_end, has_faulted, observed_words, seed_end, state_by, state_of, states_in, states_table, test_end, test_ends, unfinished_end}
use Rattle.litmus_states.proofs.Ends.{state-legal}
use Rattle.litmus_states.proofs.Lists.{all-joined}

module _ (t : TreeValue) (i : ImageValue) (m : MachineValue) (tree : IsTree t) (built : start_of t i ≡ Ok m) (test : Test) (item_bytes : ℕ) (places : List ℕ) where
  abbrev legal : List ℕ → Type 0
  legal words = IsLegalState test item_bytes places m.code m.items (flat_start_of t i) words

  -- the state that an end is of, if it is of one, is legal
  abbrev good_by : ℕ → ℕ → List ℕ → Type 0
  good_by times seed end = AllByRecursion (λ (l : StateLine). legal l.words) (state_by times seed end)

  abbrev good : List ℕ → Type 0
  good end = (times seed : ℕ) → good_by times seed end

  hart_count : length (flat_start_of t i).harts ≡ leaf_count t
  unfolding flat_start
  hart_count = length-map-range_with_len (flat_hart_start (start_of_harts t i)) 0 (leaf_count t)

  -- ---- the machine after any turns

  ran-legal : (ts : List Turn) → has_faulted (run_of ts m).machine ≡ false → all_halted (run_of ts m).machine ≡ true → legal (observed_words test item_bytes places (run_of ts m).machine)
  ran-legal ts no_fault halted =
      let s : FlatMachine = flat_start_of t i in
      let after : MachineValue = (run_of ts m).machine in
      let words : List ℕ = observed_words test item_bytes places after in
      let frame : frame_of after ≡ frame_of m = run-frame ts m in
      let numbered = ap (λ (f : Frame). leaf_numbers_of f.bones []) frame ∙ start-numbered t i m tree built ∙ ap (range_with_len 0) (sym hart_count) in
      let here : IsLegalState test item_bytes places after.code after.items s words =
      state-legal s after (run-witnessed s ts m (start-orderly t i m tree built)).machine numbered test item_bytes places no_fault halted in
      subst (λ (f : Frame). IsLegalState test item_bytes places f.code f.items s words) frame here

  ran-good : (ts : List Turn) → good (test_end test item_bytes places (run_of ts m).machine)
  unfolding test_end
  ran-good ts times seed = by_fault (has_faulted (run_of ts m).machine) refl where
    by_halt : (b : Bool) → all_halted (run_of ts m).machine ≡ b → has_faulted (run_of ts m).machine ≡ false
        → good_by times seed (cond b (0 ∷ observed_words test item_bytes places (run_of ts m).machine) unfinished_end)
    by_halt true halted no_fault = (ran-legal ts no_fault halted, tt)
    by_halt false halted no_fault = tt

    by_fault : (b : Bool) → has_faulted (run_of ts m).machine ≡ b
        → good_by times seed (cond b faulted_end (cond (all_halted (run_of ts m).machine) (0 ∷ observed_words test item_bytes places (run_of ts m).machine) unfinished_end))
    by_fault true fault = tt
    by_fault false no_fault = by_halt (all_halted (run_of ts m).machine) refl no_fault

  -- ---- the ends of seeds

  seed-good : (kind : SeedKind) (shape : ShapeView) (turns seed : ℕ) → good (seed_end test item_bytes places kind shape turns m seed)
  unfolding recording_of
  seed-good kind shape turns seed =
      let r : Recording = recording_of kind shape seed turns m in
      let same = left-out-changes-nothing turns (seed_draws kind shape seed drawn_limit) m in
      subst (λ (k : MachineValue). good (test_end test item_bytes places k)) same.recorded (ran-good r.turns)

  seeds-good : (kind : SeedKind) (shape : ShapeView) (turns : ℕ) (seeds : List ℕ) → AllByRecursion good (map (seed_end test item_bytes places kind shape turns m) seeds)
  seeds-good kind shape turns [] = tt
  seeds-good kind shape turns (seed ∷ seeds) = (seed-good kind shape turns seed, seeds-good kind shape turns seeds)

  lines-legal : (lines : List OutcomeLine) → AllByRecursion (λ (l : OutcomeLine). good l.outcome) lines → AllByRecursion (λ (l : StateLine). legal l.words) (states_in lines)
  unfolding states_in
  lines-legal [] all = tt
  lines-legal (l ∷ ls) all = all-joined (λ (k : StateLine). legal k.words) (state_of l) (states_in ls) (all.0 l.times l.seed) (lines-legal ls all.1)

pub states-legal : StatesAreLegal
unfolding states_table
states-legal t i m tree built test item_bytes places kind shape turns first count =
    lines-legal t i m tree built test item_bytes places (states_table test item_bytes places kind shape turns m first count)
    (table-each (good t i m tree built test item_bytes places) first (test_ends test item_bytes places kind shape turns m first count)
    (seeds-good t i m tree built test item_bytes places kind shape turns (range_with_len first count)))

pub states-counted : StatesAreCounted
unfolding states_table
states-counted test item_bytes places kind shape turns m first count = tables-right first (test_ends test item_bytes places kind shape turns m first count)
