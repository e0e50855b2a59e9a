-- The rules of a bus at one bus, at every bus of a machine, and after every turn of a run, as facts and as tests.
-- To be believed where a rule is relied on; the order of the witness needs no reader here.
use Rattle.std.specs.Prelude.{◌≡◌, ℕ, ◌+◌, ◌<◌, Bool, true, ◌&&◌, nat_eq, List, [], ◌∷◌, length, IsTrue, ⊤}
use Rattle.std.specs.List.{list_all, range_with_len}
use Rattle.tree_rules.specs.DdmTypes.declared.turns.Turn.{Turn}
use Rattle.tree_rules.specs.DdmTypes.ItemTable.{item_count}
use Rattle.tree_model.specs.State.Values.{DirValue, Node, Nodes, leaf_node, dir_node, no_nodes, more_nodes, children, MachineValue, root_of}
use Rattle.tree_model.specs.Turns.Machine.{turn_of}
use Rattle.tree_rules.specs.Bus.Faces.{parent_face, faces_of}
use Rattle.tree_rules.specs.Bus.Own.{IsLeafOk, leaf_holds, IsDirOk, dir_holds, IsTopOk, top_is_ok}
use Rattle.tree_rules.specs.Bus.Item.{bits_of, ItemRules, item_holds, kept_place, top_holds}

-- ---- one bus

-- the places kept for these items
abbrev pub kept_places : DirValue → List ℕ → ℕ
kept_places d [] = 0
kept_places d (x ∷ xs) = kept_place (parent_face x d) + kept_places d xs

pub record IsBusOk (n : ℕ) (p : DirValue) (ns : List Node) : Type 0 where
  -- what the parent keeps by itself
  pub own : IsDirOk n (length ns) p
  -- 0 to 9, for each item
  pub rules : (x : ℕ) → x < n → ItemRules (parent_face x p) (faces_of x ns)
  -- 10: as many places are reserved as are kept for the items
  pub reserved : p.reserved ≡ kept_places p (range_with_len 0 n)

abbrev pub item_holds_at : DirValue → List Node → ℕ → Bool
item_holds_at p ns x = item_holds (parent_face x p) (bits_of (parent_face x p) (faces_of x ns))

abbrev pub bus_holds : ℕ → DirValue → List Node → Bool
bus_holds n p ns =
    dir_holds n (length ns) p
    && (list_all (item_holds_at p ns) (range_with_len 0 n)
    && nat_eq p.reserved (kept_places p (range_with_len 0 n)))

-- a child of a bus: a leaf by itself, a directory with its own bus
abbrev pub IsChildOk : ℕ → Node → Type 0
IsChildOk n (leaf_node v) = IsLeafOk n v
IsChildOk n (dir_node d ns) = IsBusOk n d (children ns)

-- ---- every bus

abbrev mutual
  -- the leaf, or the bus of the directory and every bus below it
  pub IsTreeOk : ℕ → Node → Type 0
  IsTreeOk n (leaf_node v) = IsLeafOk n v
  IsTreeOk n (dir_node d ns) = IsBusOk n d (children ns) × AreTreesOk n ns

  pub AreTreesOk : ℕ → Nodes → Type 0
  AreTreesOk n no_nodes = ⊤
  AreTreesOk n (more_nodes m ns) = IsTreeOk n m × AreTreesOk n ns

abbrev mutual
  pub tree_holds : ℕ → Node → Bool
  tree_holds n (leaf_node v) = leaf_holds n v
  tree_holds n (dir_node d ns) = bus_holds n d (children ns) && trees_hold n ns

  pub trees_hold : ℕ → Nodes → Bool
  trees_hold n no_nodes = true
  trees_hold n (more_nodes m ns) = tree_holds n m && trees_hold n ns

-- ---- a machine

abbrev pub items_of_machine : MachineValue → ℕ
items_of_machine m = item_count m.items

-- rule 11 of an item
abbrev pub held_at_top : MachineValue → ℕ → Bool
held_at_top m x = top_holds (parent_face x m.top) (bits_of (parent_face x m.top) (faces_of x (children m.kids)))

pub record IsMachineOk (m : MachineValue) : Type 0 where
  pub tree : IsTreeOk (items_of_machine m) (root_of m)
  pub top : IsTopOk m.top
  -- 11: of each item there is a holder on the top's bus, no copy is parked there, and only exclusives come down there
  pub held : (x : ℕ) → x < items_of_machine m → IsTrue (held_at_top m x)

abbrev pub machine_holds : MachineValue → Bool
machine_holds m =
    tree_holds (items_of_machine m) (root_of m)
    && (top_is_ok m.top && list_all (held_at_top m) (range_with_len 0 (items_of_machine m)))

-- ---- a run: in the machine and after every turn

unfoldable pub run_holds : List Turn → MachineValue → Bool
run_holds [] m = machine_holds m
run_holds (t ∷ ts) m = machine_holds m && run_holds ts (turn_of t m).machine
