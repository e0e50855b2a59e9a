-- The machines that a search goes through, as states and turns. How two of them are compared is left to whoever searches: the test
-- must be true exactly of machines that are alike.
-- Letters: m and n are machines.
-- To be believed: it is what is searched.
use Rattle.std.specs.Prelude.{◌≡◌, ℕ, Bool, true, nat_eq, nat_lt, List}
use Rattle.std.specs.List.{list_all}
use Rattle.std.specs.Cmp.Lexicographic.{pointwise}
use Rattle.search_model.specs.DdmTypes.declared.turns.Turn.{Turn}
use Rattle.tree_model.specs.State.Values.{LeafValue, MachineValue}
use Rattle.tree_model.specs.Turns.Machine.{machine_leaves, turn_of}
use Rattle.time_laws.specs.Forget.{Alike}
use Rattle.outcome_model.specs.Halted.{all_halted}
use Rattle.outcome_model.specs.Outcome.{outcome_of}
use Rattle.search_laws.specs.Space.{Space}
use Rattle.search_model.specs.Tried.{doing_turns, tried_turns}

-- a test of whether two machines are in one state
pub record IsStateTest (same : MachineValue → MachineValue → Bool) : Type 0 where
  pub alike : (m n : MachineValue) → same m n ≡ true → Alike m n
  pub finds : (m n : MachineValue) → Alike m n → same m n ≡ true

module _ (same : MachineValue → MachineValue → Bool) where
  abbrev pub space_by : (MachineValue → List Turn) → Space MachineValue Turn (List ℕ)
  space_by turns = record {
    step = λ t m. (turn_of t m).machine;
    choices = turns;
    ended = all_halted;
    outcome = outcome_of;
    same = same;
    same_outcome = pointwise nat_eq;
  }

  -- with all turns that do something
  abbrev pub whole_space : Space MachineValue Turn (List ℕ)
  whole_space = space_by doing_turns

  -- with quiet turns first
  abbrev pub quiet_space : Space MachineValue Turn (List ℕ)
  quiet_space = space_by tried_turns

abbrev pub has_way : LeafValue → Bool
has_way v = nat_lt 0 v.sizes.way_count

-- each leaf has a way
unfoldable pub has_ways : MachineValue → Bool
has_ways m = list_all has_way (machine_leaves m)
