-- Where a node stands in the tree, and the time there.
-- A path is the list of child numbers from the top. The bus of a directory has the directory's path.
-- Letters: c is a spot, w a place with or without a bus above, d a directory.
-- To be believed: it is what the machine is.
use Rattle.std.specs.Prelude.{ℕ, List, [], ◌∷◌, ◌++◌}
use Rattle.tree_model.specs.DdmTypes.declared.keys.Stamp.{Stamp}
use Rattle.tree_model.specs.DdmTypes.declared.keys.Key.{Key}
use Rattle.tree_model.specs.DdmTypes.Keys.{stamp_zero, key_on}
use Rattle.tree_model.specs.State.Values.{DirValue}
use Rattle.tree_model.specs.State.Directory.{stamp_of}

-- a child of a bus: the path of the bus, the child's number, and the bus's present stamp
pub record Spot : Type 0 where
  pub above : List ℕ
  pub number : ℕ
  pub present : Stamp

-- the top, which is no child of a bus, or a child
pub data Where : Type 0 where
  at_top : Where
  at_child : Spot → Where

abbrev pub spot_path : Spot → List ℕ
spot_path c = c.above ++ c.number ∷ []

abbrev pub where_path : Where → List ℕ
where_path at_top = []
where_path (at_child c) = spot_path c

-- the present stamp of the bus above; above the top there is none, and its numbers are 0
abbrev pub stamp_above : Where → Stamp
stamp_above at_top = stamp_zero
stamp_above (at_child c) = c.present

-- child i of a directory with this path
abbrev pub spot_in : List ℕ → DirValue → ℕ → Spot
spot_in path d i = record { above = path; number = i; present = stamp_of d }

-- The key of an instruction that completes now at a leaf: the numbers of the present stamp of its bus, each followed by the
-- child number on the leaf's path, and last how many instructions its hart had completed before.
abbrev pub key_at_leaf : Where → ℕ → Key
key_at_leaf w done = key_on (stamp_above w) (where_path w) done
