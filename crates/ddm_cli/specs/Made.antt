-- What turns came to that were made piece by piece.
-- Letters: s is a machine before them.
use Rattle.std.specs.Prelude.{◌≡◌, ℕ, ◌+◌, ◌≤◌, All, Bool, true, false, List, [], length, Option, if◌then◌else◌}
use Rattle.ddm_cli.specs.DdmTypes.declared.turns.Turn.{Turn}
use Rattle.ddm_cli.specs.TreeModel.State.Values.{MachineValue}
use Rattle.ddm_cli.specs.TreeModel.Turns.Machine.{run_of}
use Rattle.ddm_cli.specs.TextModel.declared.RunCounts.{RunCounts}
use Rattle.ddm_cli.specs.TextModel.ReadBack.{IsTurnOf}
use Rattle.ddm_cli.specs.TextModel.Run.{counts_of}
use Rattle.ddm_cli.specs.TextModel.Trace.{trace_from}
use Rattle.ddm_cli.specs.AnyRuns.Run.{AreBelow, NameParts}
use Rattle.ddm_cli.specs.ScheduleLog.Shapes.{shape_view}
use Rattle.ddm_cli.specs.DdmTree.Machine.{MachineState, without_ops}
use Rattle.ddm_cli.specs.Causes.{AcceptedAs}
use Rattle.ddm_cli.specs.declared.making.Made.{Made}

-- the counts of turns and of more turns
abbrev pub counts_plus : RunCounts → RunCounts → RunCounts
counts_plus c d =
    record {
      turns = c.turns + d.turns;
      retired = c.retired + d.retired;
      granted = c.granted + d.granted;
      busy = c.busy + d.busy;
    }

-- they fit into words
pub record CanCount (c d : RunCounts) : Type 0 where
  pub turns : c.turns + d.turns ≤ 4294967295
  pub retired : c.retired + d.retired ≤ 4294967295
  pub granted : c.granted + d.granted ≤ 4294967295
  pub busy : c.busy + d.busy ≤ 4294967295

-- A machine can go on with turns of a tree with these levels, where the turns so far came to this: each turn of the tree names a part
-- of it, and all of them can be counted.
pub record CanGoOn (levels : List (List ℕ)) (first : RunCounts) (s : MachineState) : Type 0 where
  pub names : (turns : List Turn) → All (IsTurnOf (shape_view levels)) turns → NameParts turns s.machine
  pub few : s.turns ≤ 1048576
  pub counted : AreBelow 1048577 first

-- a machine, without its operations where they are forgotten
abbrev pub kept_of : Bool → MachineValue → MachineValue
kept_of true m = without_ops m
kept_of false m = m

-- These turns were made of a machine, whose turns before came to `first`: machine and counts are those of their run, but for operations
-- that are forgotten, and for a trace their lines are kept, of which the first one is counted after those turns.
pub record HasMade (first : RunCounts) (keep forgets : Bool) (s after : MachineState) (made : Made) (turns : List Turn) : Type 0 where
  pub machine : kept_of forgets after.machine ≡ kept_of forgets (run_of turns s.machine).machine
  pub number : after.turns ≡ s.turns + length turns
  pub counts : made.counts ≡ counts_plus first (counts_of (run_of turns s.machine).answers)
  pub trace_kept : made.trace.items ≡ (if keep then trace_from first.turns turns (run_of turns s.machine).answers else [])

-- and they are all that the schedule has, where it is told
pub record HasAllMade {A : Type 0} (judge : A → Option (List Turn)) (told : Option A) (first : RunCounts)
    (keep forgets : Bool) (s after : MachineState) (made : Made) : Type 0 where
  pub turns : List Turn
  pub accepted : AcceptedAs judge told turns
  pub all : HasMade first keep forgets s after made turns
