-- The leaves and directories of a machine, each with the spot at which it hangs.
-- To be believed where a rule is relied on; the order of the witness needs no reader here.
use Rattle.std.specs.Prelude.{ℕ, ◌+◌, List, [], ◌∷◌, ◌++◌}
use Rattle.tree_model.specs.State.Values.{LeafValue, DirValue, Node, Nodes, leaf_node, dir_node, no_nodes, more_nodes, MachineValue}
use Rattle.tree_model.specs.State.Place.{Spot, spot_path, spot_in}
use Rattle.tree_rules.specs.Order.Moments.{moment_at, spot_moment}

pub record LeafAt : Type 0 where
  pub spot : Spot
  pub leaf : LeafValue

abbrev pub leaf_path : LeafAt → List ℕ
leaf_path a = spot_path a.spot

-- the numbers of the key that an instruction completing at it now would have
abbrev pub leaf_now : LeafAt → List ℕ
leaf_now a = spot_moment a.spot ++ a.spot.number ∷ a.leaf.done ∷ []

abbrev mutual
  pub leaves_in : Spot → Node → List LeafAt
  leaves_in c (leaf_node v) = record { spot = c; leaf = v } ∷ []
  leaves_in c (dir_node d ns) = placed_leaves (spot_path c) d 0 ns

  -- under child i of a directory with this path, and the children behind it
  pub placed_leaves : List ℕ → DirValue → ℕ → Nodes → List LeafAt
  placed_leaves path d i no_nodes = []
  placed_leaves path d i (more_nodes n ns) = leaves_in (spot_in path d i) n ++ placed_leaves path d (i + 1) ns

-- from left to right
unfoldable pub leaves_at : MachineValue → List LeafAt
leaves_at m = placed_leaves [] m.top 0 m.kids

pub record DirAt : Type 0 where
  pub spot : Spot
  pub dir : DirValue

abbrev pub dir_path : DirAt → List ℕ
dir_path c = spot_path c.spot

-- the last stamp that the directory's own bus took over, as a moment on the bus above it, and the present moment there
abbrev pub taken_moment : DirAt → List ℕ
taken_moment c = moment_at c.spot.above c.dir.epoch

abbrev pub present_moment : DirAt → List ℕ
present_moment c = spot_moment c.spot

abbrev mutual
  pub dirs_in : Spot → Node → List DirAt
  dirs_in c (leaf_node v) = []
  dirs_in c (dir_node d ns) = record { spot = c; dir = d } ∷ placed_dirs (spot_path c) d 0 ns

  -- under child i of a directory with this path, and the children behind it
  pub placed_dirs : List ℕ → DirValue → ℕ → Nodes → List DirAt
  placed_dirs path d i no_nodes = []
  placed_dirs path d i (more_nodes n ns) = dirs_in (spot_in path d i) n ++ placed_dirs path d (i + 1) ns

-- without the top
unfoldable pub dirs_at : MachineValue → List DirAt
dirs_at m = placed_dirs [] m.top 0 m.kids
