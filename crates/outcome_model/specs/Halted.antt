-- That every hart of a machine has halted, and that its outcome then stays.
-- Letters: m is a machine.
-- To be believed: it is what is claimed of every run.
use Rattle.std.specs.Prelude.{◌≡◌, Bool, true, List, ◌++◌, is_some}
use Rattle.std.specs.List.{list_all}
use Rattle.outcome_model.specs.DdmTypes.declared.turns.Turn.{Turn}
use Rattle.outcome_model.specs.TreeModel.State.Values.{LeafValue, MachineValue}
use Rattle.outcome_model.specs.TreeModel.Turns.Machine.{machine_leaves, run_of, turn_of}
use Rattle.outcome_model.specs.Outcome.{outcome_of}

abbrev pub has_halted : LeafValue → Bool
has_halted v = is_some v.hart.halt

-- each of its harts has halted
unfoldable pub all_halted : MachineValue → Bool
all_halted m = list_all has_halted (machine_leaves m)

-- then no turn changes its outcome, nor that they have halted
abbrev pub HaltedStays : Type 0
HaltedStays =
    (t : Turn) (m : MachineValue) → all_halted m ≡ true →
    (outcome_of (turn_of t m).machine ≡ outcome_of m) × (all_halted (turn_of t m).machine ≡ true)

-- so a run may end there
abbrev pub LaterTurnsChangeNoOutcome : Type 0
LaterTurnsChangeNoOutcome = (ts later : List Turn) (m : MachineValue) → all_halted (run_of ts m).machine ≡ true
    → outcome_of (run_of (ts ++ later) m).machine ≡ outcome_of (run_of ts m).machine
