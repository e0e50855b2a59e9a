-- Machines whose still can be taken.
-- Letters: m is a machine.
-- To be believed with the contracts: it says which machines a call takes.
use Rattle.std.specs.Prelude.{◌≡◌, ℕ, ◌*◌, ◌<◌, List, length, Some, slice_index}
use Rattle.film.specs.FilmParts.Values.{HasForm}
use Rattle.film.specs.TreeModel.State.Shape.{tree_counts}
use Rattle.film.specs.TreeModel.State.Values.{MachineValue}
use Rattle.film.specs.TreeModel.Turns.Machine.{ask_bus}

-- Its values have the form of a run's, an item has the words that the table of items says, and of each bus it is known how many buses
-- are above it.
pub record IsFilmed (levels : List ℕ) (m : MachineValue) : Type 0 where
  pub most : ℕ
  pub form : HasForm most m
  pub width : m.items.size ≡ 4 * m.top.sizes.width
  pub counted : length levels ≡ (tree_counts m).buses
  pub known : (bus : ℕ) → bus < length levels → ask_bus bus (λ w d ns. d.level) 0 m ≡ Some (slice_index levels bus)
