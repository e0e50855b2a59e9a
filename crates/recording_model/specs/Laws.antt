-- What is claimed of every recorded run.
-- Letters: t is a turn, d a drawn turn, m a machine, r a recorded run.
-- To be believed: it is what is claimed of them.
use Rattle.std.specs.Prelude.{◌≡◌, ◌⊎◌, ◌≤◌, ◌<◌, ℕ, true, false, List, ◌++◌, All, length, take}
use Rattle.std.specs.List.{AllByRecursion}
use Rattle.recording_model.specs.DdmTypes.declared.turns.Turn.{Turn}
use Rattle.recording_model.specs.TreeModel.State.Values.{MachineValue}
use Rattle.recording_model.specs.TreeModel.Turns.Machine.{run_of, turn_of}
use Rattle.recording_model.specs.TextModel.ReadBack.{IsReadBack, IsSmallShape, IsTurnOf}
use Rattle.recording_model.specs.TextModel.Report.{report_of}
use Rattle.recording_model.specs.TextModel.Run.{counts_of, report_text_of, view_of}
use Rattle.recording_model.specs.TextModel.Schedule.{ShapeView}
use Rattle.outcome_model.specs.Halted.{all_halted}
use Rattle.recording_model.specs.declared.RunEnd.{RunEnd}
use Rattle.recording_model.specs.declared.SeedKind.{SeedKind}
use Rattle.recording_model.specs.Doing.{does_something}
use Rattle.recording_model.specs.LetBy.{Draw}
use Rattle.recording_model.specs.Recording.{Recording, draw_does, drawn_limit, idle_limit, made_turns, recording_from}
use Rattle.recording_model.specs.Recording.{recording_of, recording_within}

-- a turn that does nothing leaves the whole machine as it is
abbrev pub DoesNothing : Type 0
DoesNothing = (t : Turn) (m : MachineValue) → does_something t m ≡ false → (turn_of t m).machine ≡ m

-- ---- what was left out

-- Of the recorded turns as many completed an instruction, and as many were granted, as of all turns that were made. None of them was
-- busy.
pub record SameCounts (recorded made : List Turn) (m : MachineValue) : Type 0 where
  pub retired : (counts_of (run_of recorded m).answers).retired ≡ (counts_of (run_of made m).answers).retired
  pub granted : (counts_of (run_of recorded m).answers).granted ≡ (counts_of (run_of made m).answers).granted
  pub busy : (counts_of (run_of recorded m).answers).busy ≡ 0

-- The machine at the end is that after all turns that were made, and that after the recorded ones alone: the same tree, operations and
-- traffic.
pub record SameMachine (m : MachineValue) (r : Recording) : Type 0 where
  pub made : (run_of (made_turns r.drawn) m).machine ≡ r.machine
  pub recorded : (run_of r.turns m).machine ≡ r.machine
  pub counts : SameCounts r.turns (made_turns r.drawn) m

-- whatever turns are drawn, and whichever of them are let by
abbrev pub LeftOutChangesNothing : Type 0
LeftOutChangesNothing = (turns : ℕ) (draws : List Draw) (m : MachineValue) → SameMachine m (recording_from turns 0 draws m)

-- ---- the recorded turns as a schedule

-- the schedule is read back for the tree, and the report of its run is that of the machine at the end
pub record RunsAgain (shape : ShapeView) (m : MachineValue) (r : Recording) : Type 0 where
  pub read_back : IsReadBack shape 0 r.turns
  pub report : (depth : ℕ) → report_text_of depth r.turns m ≡ report_of (view_of depth (counts_of (run_of r.turns m).answers) r.machine)

abbrev pub ScheduleRunsAgain : Type 0
ScheduleRunsAgain = (shape : ShapeView) (turns : ℕ) (draws : List Draw) (m : MachineValue) → IsSmallShape shape → turns ≤ 1048576
    → All (λ (d : Draw). IsTurnOf shape d.turn) draws → RunsAgain shape m (recording_from turns 0 draws m)

-- ---- the end

-- the last turns that were drawn do nothing: as many as make a run stuck
pub record IsStuck (r : Recording) : Type 0 where
  pub earlier : List Draw
  pub last : List Draw
  pub drawn : r.drawn ≡ earlier ++ last
  pub many : length last ≡ idle_limit
  pub idle : AllByRecursion (λ d. draw_does d r.machine ≡ false) last

-- every hart has halted; as many turns are recorded as were asked for; the run is stuck; or there was no turn left to be drawn
abbrev pub EndsSo : RunEnd → ℕ → List Draw → Recording → Type 0
EndsSo RunEnd.Halted turns draws r = all_halted r.machine ≡ true
EndsSo RunEnd.Turns turns draws r = length r.turns ≡ turns
EndsSo RunEnd.Stuck turns draws r = IsStuck r
EndsSo RunEnd.Drawn turns draws r = r.drawn ≡ draws

-- no more turns are recorded than were asked for, and where they are fewer there is one of three causes
pub record IsEnded (turns : ℕ) (draws : List Draw) (r : Recording) : Type 0 where
  pub first : take (length r.drawn) draws ≡ r.drawn
  pub most : length r.turns ≤ turns
  pub end : EndsSo r.end turns draws r
  pub fewer : length r.turns < turns → (all_halted r.machine ≡ true) ⊎ (IsStuck r ⊎ (r.drawn ≡ draws))

abbrev pub EndsRightly : Type 0
EndsRightly = (turns : ℕ) (draws : List Draw) (m : MachineValue) → IsEnded turns draws (recording_from turns 0 draws m)

-- a run that ends within a seed's first turns, before all of these were drawn, is the run of the seed
abbrev pub FirstTurnsSuffice : Type 0
FirstTurnsSuffice = (kind : SeedKind) (shape : ShapeView) (seed turns count : ℕ) (m : MachineValue) → count ≤ drawn_limit
    → ((recording_within count kind shape seed turns m).end ≡ RunEnd.Drawn → ⊥)
    → recording_of kind shape seed turns m ≡ recording_within count kind shape seed turns m
