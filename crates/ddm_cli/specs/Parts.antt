-- What a run is made from: the tree, the image and the schedule of three files; and what a witness is judged for.
use Rattle.std.specs.Prelude.{◌≡◌, ℕ, List, Option, Some, None, is_none, Result, Ok, Err, if◌then◌else◌, option_and_then, IfSome}
use Rattle.std.specs.Result.{result_ok}
use Rattle.ddm_cli.specs.DdmTypes.declared.turns.Turn.{Turn}
use Rattle.ddm_cli.specs.DdmTypes.ItemTable.{item_count}
use Rattle.ddm_cli.specs.TreeModel.Start.Sources.{TreeValue, ImageValue}
use Rattle.ddm_cli.specs.TreeModel.Start.Memory.{start_items}
use Rattle.ddm_cli.specs.TreeModel.Start.Machine.{start_machine, start_refusal}
use Rattle.ddm_cli.specs.DdmTree.Machine.{MachineState}
use Rattle.ddm_cli.specs.ElfLoad.ElfFile.{image_of}
use Rattle.ddm_cli.specs.ElfLoad.declared.refusal.ImageRefusal.{ImageRefusal}
use Rattle.ddm_cli.specs.TreeConfig.TreeFile.{tree_of}
use Rattle.run_engine.specs.Started.{started}
use Rattle.checkpoint.specs.Resumed.{Resumed, resumed}
use Rattle.ddm_cli.specs.TextModel.Schedule.{schedule_of}
use Rattle.ddm_cli.specs.TextModel.Seeded.{seeded_turns}
use Rattle.ddm_cli.specs.ScheduleLog.Shapes.{shape_view}
use Rattle.witness_check.specs.Reader.{ReaderView, begun, setting_of}
use Rattle.witness_check.specs.Start as check
use Rattle.witness_check.specs.Start.{Setting}
use Rattle.ddm_cli.specs.Lists.{list_refused}
use Rattle.ddm_cli.specs.Told.{ScheduleGiven, written, paged, seeded}
use Rattle.ddm_words.specs.declared.command.Prints.{Prints}

-- what a machine is made from
pub record Parts : Type 0 where
  pub tree : TreeValue
  pub image : ImageValue

-- the tree of a file that is accepted
unfoldable pub tree_at : List ℕ → Option TreeValue
tree_at file = result_ok (tree_of file)

abbrev pub if_started : TreeValue → Result ImageValue ImageRefusal → Option Parts
if_started t (Ok i) = if is_none (start_refusal t i) then Some (record { tree = t; image = i }) else None
if_started t (Err r) = None

-- with the image of a file that is accepted for the tree and with which the machine has a start
unfoldable pub parts_in : TreeValue → List ℕ → Option Parts
parts_in t file = if_started t (image_of t.item_bytes file)

-- the parts that a tree file and an image file give
unfoldable pub parts_of : List ℕ → List ℕ → Option Parts
parts_of tree image = option_and_then (λ t. parts_in t image) (tree_at tree)

-- how many items its machine has
abbrev pub items_of : Parts → ℕ
items_of p = item_count (start_items p.tree p.image)

abbrev pub if_large : Prints → Parts → Option Parts
if_large prints p = if is_none (list_refused prints p.tree.sizes (items_of p)) then Some p else None

-- those whose lists are large enough for what is to be printed
unfoldable pub parts_for : Prints → List ℕ → List ℕ → Option Parts
parts_for prints tree image = option_and_then (if_large prints) (parts_of tree image)

-- the machine of a tree and an image, before its first turn
pub record IsStart (t : TreeValue) (i : ImageValue) (s : MachineState) : Type 0 where
  pub accepted : start_refusal t i ≡ None
  pub machine : s ≡ started t i

abbrev pub HasStart : TreeValue → MachineState → Type 0
HasStart t s = (i : ImageValue) × IsStart t i s

-- the machine and the counts of a checkpoint that is accepted for these parts
unfoldable pub resumed_at : Parts → List ℕ → Option Resumed
resumed_at p checkpoint = result_ok (resumed (start_machine p.tree p.image) checkpoint)

-- the turns of a schedule file that is accepted for a tree with these levels, where so many turns were made before
unfoldable pub turns_at : List (List ℕ) → ℕ → List ℕ → Option (List Turn)
turns_at levels made file = result_ok (schedule_of (shape_view levels) made file)

-- A page has 100,000 turns at most: its schedule is read as if so many turns had been made before that no more are left.
abbrev pub before_page : ℕ
before_page = 948576

-- the turns of a schedule, a seeded one too
abbrev pub turns_of : List (List ℕ) → ScheduleGiven → Option (List Turn)
turns_of levels (written file) = turns_at levels 0 file
turns_of levels (paged file) = turns_at levels before_page file
turns_of levels (seeded seed count) = Some (seeded_turns (shape_view levels) seed count)

-- ---- what a witness is judged for

abbrev pub if_judged : TreeValue → Result ImageValue ImageRefusal → Option Setting
if_judged t (Ok i) = if is_none (check.start_refusal (setting_of t i)) then Some (setting_of t i) else None
if_judged t (Err r) = None

-- the flat machine's setting of an image file that is accepted for the tree, where it has a start
unfoldable pub setting_in : TreeValue → List ℕ → Option Setting
setting_in t file = if_judged t (image_of t.item_bytes file)

-- the setting that a tree file and an image file give
unfoldable pub setting_at : List ℕ → List ℕ → Option Setting
setting_at tree image = option_and_then (λ t. setting_in t image) (tree_at tree)

-- a reader of a witness begins with a setting: that of the image file, where it is told
pub record BeginsFor (t : TreeValue) (told : Option (List ℕ)) (reader : ReaderView) : Type 0 where
  pub setting : Setting
  pub begins : reader ≡ begun setting
  pub starts : check.start_refusal setting ≡ None
  pub is : IfSome told (λ file. setting_in t file ≡ Some setting)
