-- The page of a run: its film in the page, whose bytes are constants; and the machines of which pages are made.
-- Letters: t is a tree, m a machine.
-- To be believed: it is what is printed.
use Rattle.std.specs.Prelude.{◌≡◌, ℕ, ◌<◌, List, ◌++◌, None, length, true}
use Rattle.page_bytes.specs.Page.{page_back, page_front}
use Rattle.film_runs.specs.BusLaws.IsTree.{IsTree}
use Rattle.film_runs.specs.DdmTypes.declared.turns.Turn.{Turn}
use Rattle.film_runs.specs.FilmModel.Film.{film_of}
use Rattle.film_runs.specs.TreeModel.Start.Machine.{start_machine, start_refusal}
use Rattle.film_runs.specs.TreeModel.Start.Sources.{ImageValue, TreeValue, bus_widths}
use Rattle.film_runs.specs.TreeModel.State.Values.{MachineValue, root_of}
use Rattle.film_runs.specs.TreeModel.Turns.Tree.{bus_of_number, has_node}
use Rattle.film_runs.specs.ValueLaws.Images.{IsOfBytes}

unfoldable pub page_of : TreeValue → List Turn → MachineValue → List ℕ
page_of t turns m = page_front ++ film_of t turns m ++ page_back

-- the machine of a tree and an image of bytes, before its first turn; each bus of the tree is there
pub record IsFirst (t : TreeValue) (m : MachineValue) : Type 0 where
  pub image : ImageValue
  pub tree : IsTree t
  pub bytes : IsOfBytes image
  pub accepted : start_refusal t image ≡ None
  pub is : m ≡ start_machine t image
  pub buses : (bus : ℕ) → bus < length (bus_widths t) → has_node (bus_of_number bus) (root_of m) ≡ true
