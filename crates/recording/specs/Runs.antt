-- What a recorded run needs of its machine, and what is kept of it while it goes on.
-- Letters: m is a machine, s one as the code has it, p how far a run is.
-- To be believed with the contracts: they speak of it.
use Rattle.std.specs.Prelude.{◌≡◌, ◌≤◌, ℕ, ◌+◌, ◌-◌, Bool, true, false, not, nat_eq, List, All, Option, Some, None}
use Rattle.std.specs.Prelude.{length, map, slice_index_or, if◌then◌else◌}
use Rattle.ddm_types.specs.declared.answers.TurnAnswer.{TurnAnswer}
use Rattle.ddm_types.specs.declared.turns.Turn.{Turn}
use Rattle.tree_model.specs.State.Shape.{tree_counts}
use Rattle.tree_model.specs.State.Values.{MachineValue}
use Rattle.tree_model.specs.Turns.Machine.{machine_leaves, names_part, turn_of}
use Rattle.any_runs.specs.DdmTree.Machine.{MachineState}
use Rattle.any_runs.specs.Run.{NameParts}
use Rattle.outcome_model.specs.Halted.{all_halted, has_halted}
use Rattle.recording_model.specs.TextModel.ReadBack.{IsTurnOf}
use Rattle.recording_model.specs.TextModel.Schedule.{ShapeView}
use Rattle.recording_model.specs.Doing.{had_halted}
use Rattle.recording_model.specs.LetBy.{Draw}
use Rattle.recording_model.specs.Recording.{Recording, drawn_limit, idle_limit, recording_from}
use Rattle.recording_model.specs.declared.RunEnd.{RunEnd}
use Rattle.recording.specs.declared.making.Came.{Came}
use Rattle.recording.specs.declared.progress.Progress.{Progress}

-- the run of these drawn turns, of which so many may be recorded
abbrev pub recorded : ℕ → List Draw → MachineState → Recording
recorded most draws s = recording_from most 0 draws s.machine

-- ---- what it needs

-- each drawn turn names a part of the machine, so many turns more can be counted, and there is room for the operations of those that
-- are recorded
pub record CanRecord (most : ℕ) (draws : List Draw) (s : MachineState) : Type 0 where
  pub known : All (λ (d : Draw). names_part d.turn s.machine ≡ true) draws
  pub few : s.turns + length draws ≤ 4294967295
  pub spare : most ≤ s.spare

-- the parts of a tree, and of how many harts it can be kept whether they have halted
pub record RecorderView : Type 0 where
  pub shape : ShapeView
  pub harts : ℕ

-- a machine at its start has these parts, and can make all turns of a seed
pub record IsStart (shape : ShapeView) (s : MachineState) : Type 0 where
  pub parts : (ts : List Turn) → All (IsTurnOf shape) ts → NameParts ts s.machine
  pub few : s.turns + drawn_limit ≤ 4294967295

-- the machine has these parts, it can make all turns of a seed, and there is room for the operations of those that are recorded
pub record CanBegin (most : ℕ) (r : RecorderView) (s : MachineState) : Type 0 where
  pub parts : (ts : List Turn) → All (IsTurnOf r.shape) ts → NameParts ts s.machine
  pub harts : r.harts ≡ (tree_counts s.machine).leaves
  pub few : s.turns + drawn_limit ≤ 4294967295
  pub spare : most ≤ s.spare

-- ---- harts that have halted

-- for each hart of a machine, by its number, whether it has halted
abbrev pub flags_of : MachineValue → List Bool
flags_of m = map has_halted (machine_leaves m)

-- these are so of the machine, and whether all have halted
pub record AreHalted (flags : List Bool) (all : Bool) (m : MachineValue) : Type 0 where
  pub each : flags ≡ flags_of m
  pub every : all ≡ all_halted m

-- the flag of the hart whose turn it is; a bus has none
abbrev pub flag_of : Turn → List Bool → Bool
flag_of (Turn.Hart hart victim) flags = slice_index_or flags hart false
flag_of (Turn.Down bus) flags = false
flag_of (Turn.Request bus child) flags = false
flag_of (Turn.Reply bus child) flags = false
flag_of (Turn.Leave bus child choice) flags = false

-- a turn that answers so halts its hart, which had halted before or not
abbrev pub does_halt : TurnAnswer → Bool → Bool
does_halt (TurnAnswer.Retired op) halted = false
does_halt (TurnAnswer.Issued kind x) halted = false
does_halt (TurnAnswer.Waiting x) halted = false
does_halt (TurnAnswer.Halted cause) halted = not halted
does_halt (TurnAnswer.Granted entry) halted = false
does_halt TurnAnswer.Empty halted = false
does_halt (TurnAnswer.Busy cause) halted = false

-- ---- what a drawn turn comes to

-- one that was made and answers so, where its hart had halted before or not
abbrev pub came_by : TurnAnswer → Bool → Came
came_by (TurnAnswer.Retired op) halted = Came.ToDoing
came_by (TurnAnswer.Issued kind x) halted = Came.ToDoing
came_by (TurnAnswer.Waiting x) halted = Came.ToNothing
came_by (TurnAnswer.Halted cause) true = Came.ToNothing
came_by (TurnAnswer.Halted cause) false = Came.ToDoing
came_by (TurnAnswer.Granted entry) halted = Came.ToDoing
came_by TurnAnswer.Empty halted = Came.ToNothing
came_by (TurnAnswer.Busy cause) halted = Came.ToBusy

abbrev pub came_to : Draw → MachineValue → Came
came_to d m = if d.let_by then came_by (turn_of d.turn m).answer (had_halted d.turn m) else Came.ToNothing

abbrev pub is_done : Came → Bool
is_done Came.ToNothing = false
is_done Came.ToBusy = false
is_done Came.ToDoing = true

-- ---- how far a run is

-- why it ends before the next turn is drawn, if it does
abbrev pub end_now : Bool → Progress → Option RunEnd
end_now all p =
    if all then Some RunEnd.Halted
    else (if nat_eq p.left 0 then Some RunEnd.Turns
    else (if nat_eq p.idle idle_limit then Some RunEnd.Stuck
    else (if nat_eq p.draws 0 then Some RunEnd.Drawn
    else None)))

-- after one more drawn turn, which did something or didn't
abbrev pub noted : Bool → Progress → Progress
noted did p = record { left = if did then p.left - 1 else p.left; idle = if did then 0 else p.idle + 1; draws = p.draws - 1 }
