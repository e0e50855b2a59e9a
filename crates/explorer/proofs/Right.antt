-- The search that is made is right.
-- Letters: m is the machine that is begun with.
use Rattle.std.proofs.Common.{◌≡◌, ℕ, ◌<◌, true, false, sym, subst}
use Rattle.tree_model.specs.State.Values.{MachineValue}
use Rattle.outcome_model.specs.Halted.{all_halted}
use Rattle.search_laws.specs.Claims.{IsRight}
use Rattle.search_laws.specs.Search.{searched}
use Rattle.search_model.specs.Explored.{MachineSearch}
use Rattle.search_model.specs.Machines.{has_ways, quiet_space, IsStateTest}
use Rattle.search_model.proofs.QuietFirst.{quiet-right}
use Rattle.state_keys.specs.Same.{same_state}
use Rattle.state_keys.proofs.Told.{same-alike, alike-same}

exact : IsStateTest same_state
exact = record { alike = same-alike; finds = alike-same }

pub search-right : (most : ℕ) (m : MachineValue) (s : MachineSearch) → s ≡ searched (quiet_space same_state) most m → 0 < most → has_ways m ≡ true → all_halted m ≡ false → IsRight (quiet_space same_state) m s
search-right most m s is some ways runs = subst (IsRight (quiet_space same_state) m) (sym is) (quiet-right same_state exact most m some ways runs)
