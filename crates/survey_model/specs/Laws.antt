-- What a survey says, in the words of its reader.
-- Letters: t is a tree, i an image, m its machine, s a flat machine, o the end of a run.
-- To be believed: it is what is claimed of every survey.
use Rattle.std.specs.Prelude.{◌≡◌, ℕ, List, Ok}
use Rattle.std.specs.List.{AllByRecursion}
use Rattle.outcome_model.specs.DdmTypes.CodeMap.{CodeWord}
use Rattle.outcome_model.specs.DdmTypes.ItemTable.{ItemTable}
use Rattle.outcome_model.specs.FlatModel.Flat.{FlatMachine}
use Rattle.outcome_model.specs.BusLaws.IsTree.{IsTree}
use Rattle.outcome_model.specs.FlatOutcome.{IsLegalOutcome}
use Rattle.outcome_model.specs.Table.{OutcomeLine}
use Rattle.outcome_model.specs.TableLaws.{IsTable}
use Rattle.recording_model.specs.TreeModel.State.Values.{MachineValue}
use Rattle.recording_model.specs.TreeModel.Start.Sources.{ImageValue, TreeValue}
use Rattle.recording_model.specs.TreeModel.Start.Machine.{flat_start_of, start_of}
use Rattle.recording_model.specs.TextModel.Schedule.{ShapeView}
use Rattle.recording_model.specs.declared.RunEnd.{RunEnd}
use Rattle.recording_model.specs.declared.SeedKind.{SeedKind}
use Rattle.survey_model.specs.Survey.{seed_ends, survey_table, worded}

-- ---- each line

-- after the word of its end, it is the outcome of a legal run from s
pub record IsLegalEnd (code : List CodeWord) (items : ItemTable) (s : FlatMachine) (o : List ℕ) : Type 0 where
  pub end : RunEnd
  pub outcome : List ℕ
  pub text : o ≡ worded end outcome
  pub legal : IsLegalOutcome code items s outcome

-- each line of a survey from the start
abbrev pub SurveyedEndsAreLegal : Type 0
SurveyedEndsAreLegal = (t : TreeValue) (i : ImageValue) (m : MachineValue) → IsTree t → start_of t i ≡ Ok m
    → (kind : SeedKind) (shape : ShapeView) (turns first count : ℕ)
    → AllByRecursion (λ (l : OutcomeLine). IsLegalEnd m.code m.items (flat_start_of t i) l.outcome)
    (survey_table kind shape turns m first count)

-- ---- the table

-- exactly the ends that its seeds gave, each once, with how many gave it and the smallest of them, in order
abbrev pub SurveysAreRight : Type 0
SurveysAreRight = (kind : SeedKind) (shape : ShapeView) (turns : ℕ) (m : MachineValue) (first count : ℕ)
    → IsTable first (seed_ends kind shape turns m first count) (survey_table kind shape turns m first count)
