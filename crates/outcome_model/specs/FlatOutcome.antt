-- The outcome of a legal run of the flat machine, and that each outcome of a table is one.
-- Letters: s is a flat machine, o an outcome, e a hart's end, t a tree, i an image.
-- To be believed: it is what is claimed of every outcome.
use Rattle.std.specs.Prelude.{◌≡◌, ℕ, Bool, List, map, length, None, Ok, Err, IfSome}
use Rattle.std.specs.List.{AllByRecursion, range_with_len}
use Rattle.outcome_model.specs.DdmTypes.declared.operations.Op.{Op}
use Rattle.outcome_model.specs.DdmTypes.CodeMap.{CodeWord}
use Rattle.outcome_model.specs.DdmTypes.ItemTable.{ItemTable}
use Rattle.outcome_model.specs.FlatModel.Flat.{FlatMachine, flat_hart, flat_step}
use Rattle.outcome_model.specs.FlatModel.Legal.{Legal, flat_after}
use Rattle.outcome_model.specs.TreeModel.State.Values.{MachineValue}
use Rattle.outcome_model.specs.TreeModel.Start.Sources.{ImageValue, TreeValue}
use Rattle.outcome_model.specs.TreeModel.Start.Machine.{flat_start_of, start_of}
use Rattle.text_model.specs.Schedule.{ShapeView}
use Rattle.outcome_model.specs.BusLaws.IsTree.{IsTree}
use Rattle.outcome_model.specs.Outcome.{HartEnd, ends_text}
use Rattle.outcome_model.specs.Outcomes.{outcome_table}
use Rattle.outcome_model.specs.Table.{OutcomeLine}

-- how a hart ends after these operations: they haven't halted it, and if it halted, it did so at its next step
pub record EndsSo (code : List CodeWord) (items : ItemTable) (after : FlatMachine) (e : HartEnd) : Type 0 where
  pub running : (flat_hart after e.number).hart.halt ≡ None
  pub halted : IfSome e.halt (λ cause. (sc_ok : Bool) → flat_step code items after e.number sc_ok ≡ Err cause)

-- there are operations that are legal from s, and the outcome says how its harts end after them and what they put out
pub record IsLegalOutcome (code : List CodeWord) (items : ItemTable) (s : FlatMachine) (o : List ℕ) : Type 0 where
  pub ops : List Op
  pub legal : Legal code items s ops
  -- each hart of the machine once, from hart 0 on
  pub ends : List HartEnd
  pub numbers : map (λ (e : HartEnd). e.number) ends ≡ range_with_len 0 (length s.harts)
  pub stand : AllByRecursion (EndsSo code items (flat_after code items s ops)) ends
  pub text : o ≡ ends_text ops ends

-- each line of a table of seeds from the start
abbrev pub OutcomesAreLegal : Type 0
OutcomesAreLegal =
    (t : TreeValue) (i : ImageValue) (m : MachineValue) → IsTree t → start_of t i ≡ Ok m →
    (shape : ShapeView) (turns first count : ℕ)
    → AllByRecursion (λ (l : OutcomeLine). IsLegalOutcome m.code m.items (flat_start_of t i) l.outcome)
    (outcome_table shape turns m first count)
