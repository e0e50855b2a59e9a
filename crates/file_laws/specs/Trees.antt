-- What a tree file gives that is accepted.
-- Letters: t is a tree.
-- To be believed: it is what is claimed of every tree file.
use Rattle.std.specs.Prelude.{◌≡◌, ℕ, List, Ok}
use Rattle.file_laws.specs.TreeModel.Start.Sources.{TreeValue}
use Rattle.file_laws.specs.BusLaws.IsTree.{IsTree}
use Rattle.tree_config.specs.Levels.{IsShape}
use Rattle.tree_config.specs.Ranges.{IsInRange}
use Rattle.tree_config.specs.TreeFile.{tree_of}
use Rattle.spelling_laws.specs.Small.{HasSmallSizes}

-- a tree whose levels have a shape and whose numbers are in their ranges: one that a machine can have, and whose sizes are words
pub record IsFileTree (t : TreeValue) : Type 0 where
  pub shape : IsShape t.levels
  pub range : IsInRange t
  pub tree : IsTree t
  pub small : HasSmallSizes t

abbrev pub AcceptedTreesAreTrees : Type 0
AcceptedTreesAreTrees = (file : List ℕ) (t : TreeValue) → tree_of file ≡ Ok t → IsFileTree t
