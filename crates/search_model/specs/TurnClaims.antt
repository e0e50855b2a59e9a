-- What is claimed of the turns that are tried, and of the states that they lead to.
-- Letters: m is a machine, t and u are turns, ts a list of them.
-- To be believed: it is what is claimed of every machine.
use Rattle.std.specs.Prelude.{◌≡◌, Bool, true, false, List, []}
use Rattle.search_model.specs.DdmTypes.declared.turns.Turn.{Turn}
use Rattle.tree_model.specs.State.Values.{MachineValue}
use Rattle.tree_model.specs.Turns.Machine.{run_of, turn_of}
use Rattle.recording_model.specs.Doing.{does_something}
use Rattle.time_laws.specs.Forget.{Alike}
use Rattle.search_laws.specs.Space.{state_after, IsOneOf}
use Rattle.search_laws.specs.Rules.{QuietFirst}
use Rattle.search_model.specs.Tried.{doing_turns, quiet_turns}
use Rattle.search_model.specs.Machines.{space_by, quiet_space, has_ways}

-- a state of a search is the machine after a run
abbrev pub StatesAreRuns : Type 0
StatesAreRuns = (same : MachineValue → MachineValue → Bool) (turns : MachineValue → List Turn) (ts : List Turn) (m : MachineValue)
    → state_after (space_by same turns) ts m ≡ (run_of ts m).machine

-- one of the turns that are tried answers the same and leaves the same
pub record IsTried (t : Turn) (m : MachineValue) : Type 0 where
  pub turn : Turn
  pub tried : IsOneOf (doing_turns m) turn
  pub same : turn_of turn m ≡ turn_of t m

-- whatever victim or choice it has
abbrev pub EachTurnIsTried : Type 0
EachTurnIsTried = (t : Turn) (m : MachineValue) → has_ways m ≡ true → does_something t m ≡ true → IsTried t m

-- so where none is tried, none does anything
abbrev pub NoOtherTurnIsLeft : Type 0
NoOtherTurnIsLeft = (t : Turn) (m : MachineValue) → has_ways m ≡ true → doing_turns m ≡ [] → does_something t m ≡ false

-- where a hart has a quiet turn, it may be tried alone
abbrev pub QuietTurnsGoFirst : Type 0
QuietTurnsGoFirst = (same : MachineValue → MachineValue → Bool)
    → QuietFirst (quiet_space same) Alike (λ m t. IsOneOf (quiet_turns m) t) (λ m. has_ways m ≡ true)
