-- The leaves before the first turn hold what is placed in them, and so do the directories over nodes that do.
use Rattle.std.proofs.Common.{◌≡◌, ℕ, true, List, [], ◌∷◌, map, length}
use Rattle.std.specs.Prelude.{sum}
use Rattle.std.specs.List.{list_all}
use Rattle.start_parts.specs.DdmTypes.ItemTable.{item_count}
use Rattle.start_parts.specs.TreeModel.State.Values.{LeafSizes, LeafValue, DirSizes, Node, leaf_node}
use Rattle.start_parts.specs.TreeModel.Start.Sources.{TreeValue, ImageValue, width_of}
use Rattle.start_parts.specs.TreeModel.Start.Memory.{start_items}
use Rattle.start_parts.specs.TreeModel.Start.Nodes.{leaf_sizes, cut_in, dirs_over}
use Rattle.start_parts.specs.TreeModel.Start.Machine.{start_leaves}
use Rattle.start_parts.specs.BusLaws.IsTree.{is_width}
use Rattle.start_parts.specs.Held.{IsHeld, AreHeld}
use Rattle.start_parts.proofs.NewLeaves.{AreNewLeaves, leaf-held, leaves-new}
use Rattle.start_parts.proofs.HeldBelow.{dir-held}
use Rattle.start_parts.proofs.Levels.{dirs-each}

each-held : (items : ℕ) (sizes : LeafSizes) (vs : List LeafValue) → AreNewLeaves items sizes vs → AreHeld items (map leaf_node vs)
each-held items sizes [] h = tt
each-held items sizes (v ∷ vs) h = (leaf-held items sizes v h.0, each-held items sizes vs h.1)

pub leaves-held : (t : TreeValue) (i : ImageValue) → AreHeld (item_count (start_items t i)) (map leaf_node (start_leaves t i))
leaves-held t i = each-held (item_count (start_items t i)) (leaf_sizes t.sizes t.way_count (width_of t)) (start_leaves t i) (leaves-new t i)

pub dirs-held : (items : ℕ) (sizes : DirSizes) (level bus : ℕ) (l : List ℕ) (ns : List Node) → list_all is_width l ≡ true → length ns ≡ sum l → AreHeld items ns → AreHeld items (dirs_over sizes level bus (cut_in l ns))
dirs-held items sizes level bus l ns wide count held = dirs-each sizes (IsHeld items) (dir-held items sizes) level bus l ns wide count held
