-- What is claimed of the search of a machine.
-- Letters: m is the machine that it begins with.
-- To be believed: it is what is claimed of every search.
use Rattle.std.specs.Prelude.{◌≡◌, ℕ, ◌<◌, Bool, true, false}
use Rattle.tree_model.specs.State.Values.{MachineValue}
use Rattle.outcome_model.specs.Halted.{all_halted}
use Rattle.search_laws.specs.Search.{searched}
use Rattle.search_laws.specs.Claims.{IsRight}
use Rattle.search_model.specs.Machines.{IsStateTest, whole_space, quiet_space, has_ways}

-- that of all turns that do something: its lines are shortest ways, and all there are
abbrev pub WholeSearchIsRight : Type 0
WholeSearchIsRight = (same : MachineValue → MachineValue → Bool) → IsStateTest same → (most : ℕ) (m : MachineValue)
    → 0 < most → has_ways m ≡ true → all_halted m ≡ false → IsRight (whole_space same) m (searched (whole_space same) most m)

-- that with quiet turns first: the same is found
abbrev pub QuietSearchIsRight : Type 0
QuietSearchIsRight = (same : MachineValue → MachineValue → Bool) → IsStateTest same → (most : ℕ) (m : MachineValue)
    → 0 < most → has_ways m ≡ true → all_halted m ≡ false → IsRight (quiet_space same) m (searched (quiet_space same) most m)
