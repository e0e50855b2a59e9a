-- The witness that a run prints.
-- Letters: t is a tree, i an image.
-- To be believed: it is what is claimed of every run.
use Rattle.std.specs.Prelude.{◌≡◌, ℕ, ◌≤◌, List, ◌++◌, length, None, Ok, codes}
use Rattle.witness_laws.specs.DdmTypes.declared.turns.Turn.{Turn}
use Rattle.witness_laws.specs.DdmTypes.declared.operations.Op.{Op}
use Rattle.witness_laws.specs.TreeModel.Start.Sources.{ImageValue, TreeValue}
use Rattle.witness_laws.specs.TreeModel.Start.Machine.{start_machine, start_refusal}
use Rattle.witness_laws.specs.TreeModel.Turns.Machine.{run_of}
use Rattle.witness_laws.specs.TreeModel.Turns.Witness.{sorted_ops}
use Rattle.witness_laws.specs.TextModel.Report.{op_lines}
use Rattle.witness_laws.specs.TextModel.Run.{report_text_of}
use Rattle.witness_laws.specs.BusLaws.IsTree.{IsTree}
use Rattle.value_laws.specs.Images.{IsOfBytes}
use Rattle.witness_check.specs.Reader.{setting_of}
use Rattle.witness_check.specs.Start.{check_of}
use Rattle.witness_check.specs.Witness.{IsAccepted}

-- the operations of a run from a tree and an image
abbrev pub ops_of_run : TreeValue → ImageValue → List Turn → List Op
ops_of_run t i turns = (run_of turns (start_machine t i)).machine.ops

-- their lines, in the order of their keys
abbrev pub printed_witness : TreeValue → ImageValue → List Turn → List ℕ
printed_witness t i turns = op_lines (length t.levels) (sorted_ops (ops_of_run t i turns))

-- the report of a run ends with these lines, and one line more
abbrev pub ReportsEndWithTheWitness : Type 0
ReportsEndWithTheWitness = (t : TreeValue) (i : ImageValue) (turns : List Turn)
    → (front : List ℕ) × (report_text_of (length t.levels) turns (start_machine t i) ≡ front ++ printed_witness t i turns ++ codes "end\n")

-- they are accepted as a witness for the same tree and image, a line for each operation
abbrev pub PrintedWitnessesAreAccepted : Type 0
PrintedWitnessesAreAccepted =
    (t : TreeValue) (i : ImageValue) (turns : List Turn) → IsTree t → IsOfBytes i → start_refusal t i ≡ None →
    length turns ≤ 1048576
    → IsAccepted (setting_of t i) (printed_witness t i turns) (length (ops_of_run t i turns))

-- so that the checker comes to their number
abbrev pub PrintedWitnessesAreJudgedLegal : Type 0
PrintedWitnessesAreJudgedLegal =
    (t : TreeValue) (i : ImageValue) (turns : List Turn) → IsTree t → IsOfBytes i → start_refusal t i ≡ None →
    length turns ≤ 1048576
    → check_of (setting_of t i) (printed_witness t i turns) ≡ Ok (length (ops_of_run t i turns))
