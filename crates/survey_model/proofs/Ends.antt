-- The end of a recorded run is that of a legal run of the flat machine.
use Rattle.std.proofs.Common.{◌≡◌, ℕ, List, [], ◌∷◌, length, map, Ok, refl, sym, ap, subst, ◌∙◌}
use Rattle.std.specs.List.{AllByRecursion, range_with_len}
use Rattle.std.proofs.lemmas.List.FromFn.{length-map-range_with_len}
use Rattle.headline.proofs.BusLaws.StartKept.{start-numbered}
use Rattle.headline.proofs.Runs.{run-witnessed}
use Rattle.headline.proofs.StartOrder.{start-orderly}
use Rattle.outcome_model.specs.BusLaws.IsTree.{IsTree}
use Rattle.outcome_model.specs.FlatModel.Flat.{FlatMachine, flat_hart_start, flat_start}
use Rattle.outcome_model.specs.FlatOutcome.{IsLegalOutcome}
use Rattle.outcome_model.specs.Outcome.{outcome_of}
use Rattle.outcome_model.proofs.Legal.{witnessed-legal}
use Rattle.outcome_model.proofs.Tables.{table-each}
use Rattle.outcome_model.proofs.TreeModel.FrameKept.{run-frame}
use Rattle.recording_model.specs.DdmTypes.declared.turns.Turn.{Turn}
use Rattle.recording_model.specs.TreeModel.State.Shape.{Frame, frame_of, leaf_numbers_of}
use Rattle.recording_model.specs.TreeModel.State.Values.{MachineValue}
use Rattle.recording_model.specs.TreeModel.Turns.Machine.{run_of}
use Rattle.recording_model.specs.TreeModel.Start.Sources.{ImageValue, TreeValue, leaf_count, start_of_harts}
use Rattle.recording_model.specs.TreeModel.Start.Machine.{flat_start_of, start_of}
use Rattle.recording_model.specs.TextModel.Schedule.{ShapeView}
use Rattle.recording_model.specs.declared.SeedKind.{SeedKind}
use Rattle.recording_model.specs.Recording.{Recording, drawn_limit, recording_of}
use Rattle.recording_model.specs.LetBy.{seed_draws}
use Rattle.recording_model.proofs.Recordings.{left-out-changes-nothing}
use Rattle.survey_model.specs.Laws.{IsLegalEnd, SurveyedEndsAreLegal}
use Rattle.survey_model.specs.Survey.{run_end, seed_end, seed_ends, survey_table}

module _ (t : TreeValue) (i : ImageValue) (m : MachineValue) (tree : IsTree t) (built : start_of t i ≡ Ok m) where
  -- ---- the machine after any turns

  hart_count : length (flat_start_of t i).harts ≡ leaf_count t
  unfolding flat_start
  hart_count = length-map-range_with_len (flat_hart_start (start_of_harts t i)) 0 (leaf_count t)

  ran-legal : (ts : List Turn) → IsLegalOutcome m.code m.items (flat_start_of t i) (outcome_of (run_of ts m).machine)
  ran-legal ts =
      let s : FlatMachine = flat_start_of t i in
      let after : MachineValue = (run_of ts m).machine in
      let frame : frame_of after ≡ frame_of m = run-frame ts m in
      let numbered = ap (λ (f : Frame). leaf_numbers_of f.bones []) frame ∙ start-numbered t i m tree built ∙ ap (range_with_len 0) (sym hart_count) in
      let here : IsLegalOutcome after.code after.items s (outcome_of after) = witnessed-legal s after (run-witnessed s ts m (start-orderly t i m tree built)).machine numbered in
      subst (λ (f : Frame). IsLegalOutcome f.code f.items s (outcome_of after)) frame here

  -- ---- the ends of seeds

  abbrev legal : List ℕ → Type 0
  legal o = IsLegalEnd m.code m.items (flat_start_of t i) o

  seed-legal : (kind : SeedKind) (shape : ShapeView) (turns seed : ℕ) → legal (seed_end kind shape turns m seed)
  unfolding run_end recording_of
  seed-legal kind shape turns seed =
      let r : Recording = recording_of kind shape seed turns m in
      let same = left-out-changes-nothing turns (seed_draws kind shape seed drawn_limit) m in
      record {
        end = r.end;
        outcome = outcome_of r.machine;
        text = refl;
        legal = subst (λ (k : MachineValue). IsLegalOutcome m.code m.items (flat_start_of t i) (outcome_of k)) same.recorded (ran-legal r.turns);
      }

  seeds-legal : (kind : SeedKind) (shape : ShapeView) (turns : ℕ) (seeds : List ℕ) → AllByRecursion legal (map (seed_end kind shape turns m) seeds)
  seeds-legal kind shape turns [] = tt
  seeds-legal kind shape turns (seed ∷ seeds) = (seed-legal kind shape turns seed, seeds-legal kind shape turns seeds)

pub surveyed-legal : SurveyedEndsAreLegal
unfolding survey_table
surveyed-legal t i m tree built kind shape turns first count =
    table-each (legal t i m tree built) first (seed_ends kind shape turns m first count) (seeds-legal t i m tree built kind shape turns (range_with_len first count))
