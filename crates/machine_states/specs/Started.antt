-- The machine of an accepted tree and an image, before its first turn.
-- Letters: t is a tree, m a machine.
-- To be believed with the contracts: they speak of it.
use Rattle.std.specs.Prelude.{◌≡◌, ◌≤◌, Ok}
use Rattle.tree_model.specs.Start.Machine.{start_of}
use Rattle.tree_model.specs.Start.Sources.{ImageValue, TreeValue}
use Rattle.tree_model.specs.State.Values.{MachineValue}
use Rattle.any_runs.specs.BusLaws.IsTree.{IsTree}
use Rattle.value_laws.specs.Images.{IsOfBytes}

-- each place of a buffer or of a parking can be named by a byte
pub record HasSmallRooms (t : TreeValue) : Type 0 where
  pub buffer : t.sizes.buffer ≤ 255
  pub parking : t.sizes.parking ≤ 255

pub record IsStarted (m : MachineValue) : Type 0 where
  pub tree : TreeValue
  pub image : ImageValue
  pub accepted : IsTree tree
  pub rooms : HasSmallRooms tree
  pub of_bytes : IsOfBytes image
  pub built : start_of tree image ≡ Ok m
