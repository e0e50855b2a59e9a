-- What several commands print of one run.
-- Letters: t is a tree, p what a tree and an image give, m a machine.
-- To be believed: it is what is claimed of the commands.
use Rattle.std.specs.Prelude.{◌≡◌, ℕ, ◌+◌, ◌*◌, ◌≤◌, List, ◌++◌, length, Some, codes, ⊤}
use Rattle.ddm_cli.specs.DdmTypes.declared.turns.Turn.{Turn}
use Rattle.ddm_cli.specs.TreeModel.Start.Sources.{TreeValue}
use Rattle.ddm_cli.specs.TreeModel.Start.Machine.{start_machine}
use Rattle.ddm_cli.specs.TreeModel.State.Values.{MachineValue}
use Rattle.ddm_cli.specs.TreeModel.Turns.Machine.{run_of}
use Rattle.ddm_cli.specs.DdmTree.Machine.{without_ops}
use Rattle.ddm_cli.specs.TextModel.Run.{counts_of}
use Rattle.ddm_cli.specs.TextModel.Schedule.{turn_limit}
use Rattle.ddm_cli.specs.TextModel.declared.RunCounts.{RunCounts}
use Rattle.checkpoint.specs.Saved.{saved}
use Rattle.ddm_cli.specs.FileLaws.Images.{AreBytes}
use Rattle.ddm_cli.specs.Parts.{Parts, parts_of, resumed_at, tree_at, turns_at, turns_of}
use Rattle.ddm_cli.specs.Printed.{legal_line}
use Rattle.ddm_cli.specs.Told.{ScheduleGiven, written, paged, seeded}
use Rattle.ddm_cli.specs.Top.{list_at, resumed_text, text_at, text_of, verdict_of}
use Rattle.ddm_words.specs.declared.command.Prints.{Prints}
use Rattle.ddm_words.specs.declared.command.Prints.TheVariants.{Report, Checkpoint}

-- a seed is given with as many turns as words may ask for
abbrev pub IsAskable : ScheduleGiven → Type 0
IsAskable (written file) = ⊤
IsAskable (paged file) = ⊤
IsAskable (seeded seed count) = count ≤ turn_limit

-- ---- a seed, and the schedule of its turns

-- whatever is printed of a run, it is the same of both, for every tree that is accepted and every image
abbrev pub SeedsPrintTheSame : Type 0
SeedsPrintTheSame = (prints : Prints) (tree image : List ℕ) (t : TreeValue) (seed count : ℕ) → tree_at tree ≡ Some t → count ≤ turn_limit
    → text_of prints tree image (written (list_at seed count t)) ≡ text_of prints tree image (seeded seed count)

-- ---- a run, and the check of its witness

-- the report ends with a witness, and one line more, and the check of that witness prints how many lines it has
pub record HasCheckedWitness (tree image report : List ℕ) : Type 0 where
  pub front : List ℕ
  pub witness : List ℕ
  pub lines : ℕ
  pub report_is : report ≡ front ++ witness ++ codes "end\n"
  pub verdict : verdict_of tree image witness ≡ Some (legal_line lines)

-- so it is of every report of a tree, an image and a schedule that are accepted
abbrev pub ReportsPassTheCheck : Type 0
ReportsPassTheCheck =
    (tree image : List ℕ) (schedule : ScheduleGiven) (report : List ℕ) → AreBytes image → IsAskable schedule →
    text_of Report tree image schedule ≡ Some report → HasCheckedWitness tree image report

-- ---- a run that is saved and goes on

-- the file gives the machine and the counts of the first turns, and with it the rest of the turns print what all of them print at once
pub record IsWholeRun (tree image : List ℕ) (p : Parts) (file : List ℕ) (first : List Turn) (rest : List ℕ)
    (more : List Turn) : Type 0 where
  pub state :
      let run = run_of first (start_machine p.tree p.image) in
      resumed_at p file ≡ Some (record { machine = run.machine; counts = counts_of run.answers })
  pub text : resumed_text tree image file rest ≡ Some (text_at Report p (first ++ more))
  pub of_all :
      (all : ScheduleGiven) → turns_of p.tree.levels all ≡ Some (first ++ more) →
      text_of Report tree image all ≡ resumed_text tree image file rest

-- so it is of the checkpoint of each schedule, and each schedule of the rest that is accepted after its turns
abbrev pub SavedRunsAreWhole : Type 0
SavedRunsAreWhole =
    (tree image : List ℕ) (p : Parts) (schedule : ScheduleGiven) (first : List Turn) (rest : List ℕ)
    (more : List Turn) → AreBytes image → IsAskable schedule → parts_of tree image ≡ Some p
    → turns_of p.tree.levels schedule ≡ Some first → turns_at p.tree.levels (length first) rest ≡ Some more
    → IsWholeRun tree image p (text_at Checkpoint p first) first rest more

-- a checkpoint is as long as that of the same machine without its operations, and 60 bytes for each of them
abbrev pub CheckpointsGrowByOperations : Type 0
CheckpointsGrowByOperations = (m : MachineValue) (c : RunCounts) → length (saved m c) ≡ length (saved (without_ops m) c) + 60 * length m.ops
