-- Why a file gave nothing, by the status that says so. A file of which nothing is told may be of any kind.
use Rattle.std.specs.Prelude.{◌≡◌, ℕ, List, Option, Some, None, IsSome, IfSome, IsSomeAnd, IsOkAnd, Result, Err}
use Rattle.ddm_cli.specs.DdmOutside.Causes.{Rose}
use Rattle.ddm_cli.specs.ReportCrate.declared.roles.FileRole.TheVariants.{ImageFile, TreeFile, ScheduleFile, WitnessFile, CheckpointFile}
use Rattle.ddm_cli.specs.TreeModel.Start.Sources.{TreeValue, ImageValue}
use Rattle.ddm_cli.specs.TreeModel.State.Values.{MachineValue}
use Rattle.ddm_cli.specs.ElfLoad.ElfFile.{image_of}
use Rattle.ddm_cli.specs.ElfLoad.declared.refusal.ImageRefusal.{ImageRefusal}
use Rattle.ddm_cli.specs.TreeConfig.TreeFile.{tree_of}
use Rattle.ddm_cli.specs.TreeConfig.declared.refusal.TreeKey.{TreeKey}
use Rattle.run_engine.specs.Build.{build_refusal}
use Rattle.run_engine.specs.declared.refusal.BuildRefusal.{BuildRefusal}
use Rattle.run_engine.specs.declared.refusal.BuildRefusal.TheVariants.{NoPlace}
use Rattle.checkpoint.specs.Resumed.{resumed}
use Rattle.checkpoint.specs.declared.ResumeRefusal.{ResumeRefusal}
use Rattle.ddm_cli.specs.TextModel.Schedule.{schedule_of}
use Rattle.ddm_cli.specs.TextModel.declared.ScheduleRefusal.{ScheduleRefusal}
use Rattle.ddm_cli.specs.ScheduleLog.Shapes.{shape_view}
use Rattle.witness_check.specs.Reader.{ReaderView, begun}
use Rattle.witness_check.specs.Start as check
use Rattle.witness_check.specs.Start.{Setting, check_of}
use Rattle.witness_check.specs.declared.refusal.CheckRefusal.{CheckRefusal}
use Rattle.ddm_cli.specs.Lists.{list_refused}
use Rattle.ddm_cli.specs.Parts.{before_page, items_of, parts_in}
use Rattle.ddm_cli.specs.Told.{ScheduleGiven, written, paged, seeded}
use Rattle.ddm_words.specs.declared.command.Prints.{Prints}
use Rattle.ddm_cli.specs.declared.status.Status.{Status}
use Rattle.ddm_cli.specs.declared.status.Status.TheVariants.{ImageLoad, ImageBuild, Tree, Schedule, Witness}
use Rattle.ddm_cli.specs.declared.status.Status.TheVariants.{Checkpoint, SmallLists, ReadFault, NoMemory}

-- where a file is told, it is accepted
abbrev pub Accepts : {A B : Type 0} → (A → Option B) → Option A → Type 0
Accepts judge told = IfSome told (λ file. IsSome (judge file))

-- where it is told, it is accepted as this
abbrev pub AcceptedAs : {A B : Type 0} → (A → Option B) → Option A → B → Type 0
AcceptedAs judge told b = IfSome told (λ file. judge file ≡ Some b)

-- ---- the tree

abbrev pub TreeCause : Option (List ℕ) → ℕ → ℕ → Status → Type 0
TreeCause told before now (Tree r) = IfSome told (λ file. tree_of file ≡ Err r)
TreeCause told before now (ReadFault TreeFile) = Rose before now
TreeCause told before now NoMemory = Unit {0}
TreeCause told before now _ = ⊥

-- ---- the image, for a tree

abbrev pub IsUnloaded : TreeValue → ImageRefusal → List ℕ → Type 0
IsUnloaded t r file = image_of t.item_bytes file ≡ Err r

-- why there is no image
abbrev pub NoImage : TreeValue → Option (List ℕ) → ℕ → ℕ → Status → Type 0
NoImage t told before now (ImageLoad r) = IfSome told (IsUnloaded t r)
NoImage t told before now (ReadFault ImageFile) = Rose before now
NoImage t told before now NoMemory = Unit {0}
NoImage t told before now _ = ⊥

-- why there is no machine of a tree and an image
abbrev pub BuildCause : TreeValue → ImageValue → Status → Type 0
BuildCause t i (ImageBuild r) = build_refusal t i ≡ Some r
BuildCause t i NoMemory = Unit {0}
BuildCause t i _ = ⊥

-- the image is accepted, and the machine has no start
abbrev pub IsUnstarted : TreeValue → BuildRefusal → List ℕ → Type 0
IsUnstarted t r file = IsOkAnd (image_of t.item_bytes file) (λ i. build_refusal t i ≡ Some r)

abbrev pub ImageCause : TreeValue → Option (List ℕ) → ℕ → ℕ → Status → Type 0
ImageCause t told before now (ImageBuild r) = IfSome told (IsUnstarted t r)
ImageCause t told before now s = NoImage t told before now s

-- ---- the schedule, for a tree with these levels

-- a schedule file is refused in this line, where so many turns were made before
abbrev pub IsUnscheduled : List (List ℕ) → ℕ → ℕ → ScheduleRefusal → List ℕ → Type 0
IsUnscheduled levels made line r file = schedule_of (shape_view levels) made file ≡ Err (line, r)

-- a seeded schedule never is
abbrev pub IsRefused : List (List ℕ) → ℕ → ScheduleRefusal → ScheduleGiven → Type 0
IsRefused levels line r (written file) = IsUnscheduled levels 0 line r file
IsRefused levels line r (paged file) = IsUnscheduled levels before_page line r file
IsRefused levels line r (seeded seed count) = ⊥

-- what is said of a schedule, with the way it is refused
abbrev pub ScheduleCause : {A : Type 0} → (ℕ → ScheduleRefusal → A → Type 0) → Option A → ℕ → ℕ → Status → Type 0
ScheduleCause refused told before now (Schedule line r) = IfSome told (refused line r)
ScheduleCause refused told before now (ReadFault ScheduleFile) = Rose before now
ScheduleCause refused told before now NoMemory = Unit {0}
ScheduleCause refused told before now _ = ⊥

-- ---- the checkpoint, for a machine before its first turn

abbrev pub IsUnresumed : MachineValue → ResumeRefusal → List ℕ → Type 0
IsUnresumed m r file = resumed m file ≡ Err r

abbrev pub CheckpointCause : MachineValue → Option (List ℕ) → ℕ → ℕ → Status → Type 0
CheckpointCause m told before now (Checkpoint r) = IfSome told (IsUnresumed m r)
CheckpointCause m told before now (ReadFault CheckpointFile) = Rose before now
CheckpointCause m told before now NoMemory = Unit {0}
CheckpointCause m told before now _ = ⊥

-- ---- the lists, which are judged before the schedule

-- the machine has a start, and this is the first of its lists that is too small for what is to be printed
abbrev pub HasSmallList : Prints → TreeKey → TreeValue → List ℕ → Type 0
HasSmallList prints key t file = IsSomeAnd (parts_in t file) (λ p. list_refused prints t.sizes (items_of p) ≡ Some key)

-- why nothing is printed of turns of a machine with so many items
abbrev pub RanCause : Prints → TreeValue → ℕ → Option ScheduleGiven → ℕ → ℕ → Status → Type 0
RanCause prints t items told before now (SmallLists key) = list_refused prints t.sizes items ≡ Some key
RanCause prints t items told before now s =
    (list_refused prints t.sizes items ≡ None) × ScheduleCause (IsRefused t.levels) told before now s

-- ---- the image and the witness, where a witness is judged

-- whether leaves have places for all items isn't asked
abbrev pub IsOfStart : BuildRefusal → Type 0
IsOfStart (NoPlace i) = ⊥
IsOfStart r = Unit {0}

-- why the flat machine of a tree and an image has no start
abbrev pub SettingCause : TreeValue → ImageValue → Status → Type 0
SettingCause t i (ImageBuild r) = IsOfStart r × (build_refusal t i ≡ Some r)
SettingCause t i NoMemory = Unit {0}
SettingCause t i _ = ⊥

-- the image is accepted, and its flat machine has no start
abbrev pub HasNoSetting : TreeValue → BuildRefusal → List ℕ → Type 0
HasNoSetting t r file = IsOfStart r × IsUnstarted t r file

abbrev pub JudgedImageCause : TreeValue → Option (List ℕ) → ℕ → ℕ → Status → Type 0
JudgedImageCause t told before now (ImageBuild r) = IfSome told (HasNoSetting t r)
JudgedImageCause t told before now s = NoImage t told before now s

-- the text comes to this answer from the setting with which a reader of it began
abbrev pub ComesTo : ReaderView → Result ℕ CheckRefusal → List ℕ → Type 0
ComesTo first answer text = (s : Setting) → first ≡ begun s → check.start_refusal s ≡ None → check_of s text ≡ answer

abbrev pub WitnessCause : ReaderView → Option (List ℕ) → ℕ → ℕ → Status → Type 0
WitnessCause first told before now (Witness r) = IfSome told (ComesTo first (Err r))
WitnessCause first told before now (ReadFault WitnessFile) = Rose before now
WitnessCause first told before now _ = ⊥
