-- The witness of a run of accepted files is accepted for the same files.
-- Letters: t is a tree, i an image.
-- To be believed: it is what is claimed of every run.
use Rattle.std.specs.Prelude.{◌≡◌, ◌⊎◌, ℕ, ◌≤◌, List, length, None, Ok}
use Rattle.witness_laws.specs.DdmTypes.declared.turns.Turn.{Turn}
use Rattle.witness_laws.specs.TreeModel.Start.Sources.{TreeValue, ImageValue}
use Rattle.witness_laws.specs.TreeModel.Start.Machine.{start_refusal}
use Rattle.file_laws.specs.TextModel.Schedule.{schedule_of, turn_limit}
use Rattle.file_laws.specs.TextModel.Seeded.{seeded_turns}
use Rattle.file_laws.specs.ScheduleLog.Shapes.{shape_view}
use Rattle.witness_check.specs.ElfLoad.ElfFile.{image_of}
use Rattle.file_laws.specs.TreeConfig.TreeFile.{tree_of}
use Rattle.witness_check.specs.Reader.{setting_of}
use Rattle.witness_check.specs.Start.{check_of}
use Rattle.witness_check.specs.Witness.{IsAccepted}
use Rattle.witness_laws.specs.Printed.{ops_of_run, printed_witness}
use Rattle.file_laws.specs.Images.{AreBytes}

-- the tree and the image of two files that are accepted, from which a machine is made
pub record AreOfFiles (tree image : List ℕ) (t : TreeValue) (i : ImageValue) : Type 0 where
  pub tree_is : tree_of tree ≡ Ok t
  pub bytes : AreBytes image
  pub image_is : image_of t.item_bytes image ≡ Ok i
  pub starts : start_refusal t i ≡ None

-- the turns of a schedule that is accepted for the tree
abbrev pub AreWritten : TreeValue → List Turn → Type 0
AreWritten t turns = (schedule : List ℕ) × (schedule_of (shape_view t.levels) 0 schedule ≡ Ok turns)

-- or of a seed
abbrev pub AreSeeded : TreeValue → List Turn → Type 0
AreSeeded t turns = (seed : ℕ) × (count : ℕ) × (count ≤ turn_limit) × (turns ≡ seeded_turns (shape_view t.levels) seed count)

-- so the checker comes to the number of its lines
pub record IsChecked (t : TreeValue) (i : ImageValue) (turns : List Turn) : Type 0 where
  pub accepted : IsAccepted (setting_of t i) (printed_witness t i turns) (length (ops_of_run t i turns))
  pub judged : check_of (setting_of t i) (printed_witness t i turns) ≡ Ok (length (ops_of_run t i turns))

abbrev pub WitnessesOfFilesAreChecked : Type 0
WitnessesOfFilesAreChecked =
    (tree image : List ℕ) (t : TreeValue) (i : ImageValue) → AreOfFiles tree image t i → (turns : List Turn) →
    AreWritten t turns ⊎ AreSeeded t turns → IsChecked t i turns
