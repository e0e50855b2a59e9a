-- The machine of a tree whose sizes have room, before its first turn, has room.
-- Letters: n is how many items there are, v is a leaf, vs are leaves, m a node, ns are nodes, t is a tree, i an image.
use Rattle.std.proofs.Common.{◌≡◌, ℕ, ◌+◌, true, List, [], ◌∷◌, map, take, drop, length, Option, Some, None, Ok, refl, sym, ap, subst, ◌∙◌}
use Rattle.std.specs.Prelude.{◌*◌, ◌&&◌, nat_eq, nat_lt, nat_le, Bool, false, Result, if◌then◌else◌}
use Rattle.std.specs.List.{AllByRecursion, range_with_len}
use Rattle.std.specs.Cmp.Derive.{both_true}
use Rattle.std.proofs.lemmas.Bool.{and_parts}
use Rattle.serving_model.specs.DdmTypes.ItemTable.{item_count}
use Rattle.serving_model.specs.TreeModel.State.Lists.{map_from}
use Rattle.serving_model.specs.TreeModel.State.Values.{LeafSizes, LeafValue, DirSizes, Node, leaf_node, nodes, MachineValue}
use Rattle.serving_model.specs.TreeModel.State.Shape.{skeleton, skeletons}
use Rattle.serving_model.specs.TreeModel.Start.Sources.{ImageValue, TreeValue, leaf_count, width_of}
use Rattle.serving_model.specs.TreeModel.Start.Memory.{start_items, start_words}
use Rattle.serving_model.specs.TreeModel.Start.Nodes.{leaf_sizes, dir_sizes, leaf_for, placed, placed_at, placed_in, placed_items, cut_in, dirs_over, under_levels}
use Rattle.serving_model.specs.TreeModel.Start.Machine.{StartRefusal, start_leaf, start_leaves, start_machine, start_refusal, start_or, start_of}
use Rattle.serving_model.specs.Rest.{leaf_has_room, dir_has_room, tree_has_room, trees_have_room, has_room, sizes_have_room}
use Rattle.bus_laws.proofs.StartLevels.{each-take, each-drop}

-- ---- leaves keep their sizes while the items are placed

module _ (sizes : LeafSizes) where
  abbrev HasSizes : LeafValue → Type 0
  HasSizes v = v.sizes ≡ sizes

  placed-sizes : (x : ℕ) (ws : List ℕ) (v : LeafValue) → HasSizes v → HasSizes (placed x ws v)
  placed-sizes x ws v has = has

  at-sizes : (leaf x : ℕ) (ws : List ℕ) (i : ℕ) (vs : List LeafValue) → AllByRecursion HasSizes vs → AllByRecursion HasSizes (map_from (placed_at leaf x ws) i vs)
  at-sizes leaf x ws i [] each = tt
  at-sizes leaf x ws i (v ∷ vs) each = (here (nat_eq i leaf), at-sizes leaf x ws (i + 1) vs each.1) where
    here : (t : Bool) → HasSizes (if t then placed x ws v else v)
    here true = placed-sizes x ws v each.0
    here false = each.0

  items-sizes : (x : ℕ) (rest : List (List ℕ)) (vs : List LeafValue) → AllByRecursion HasSizes vs → AllByRecursion HasSizes (placed_items x rest vs)
  unfolding placed_items
  items-sizes x [] vs each = each
  items-sizes x (ws ∷ rest) vs each = items-sizes (x + 1) rest (placed_in x ws vs (leaf_for vs x)) (by_leaf (leaf_for vs x)) where
    by_leaf : (o : Option ℕ) → AllByRecursion HasSizes (placed_in x ws vs o)
    by_leaf None = each
    by_leaf (Some leaf) = at-sizes leaf x ws 0 vs each

-- ---- nodes with room

module _ (n : ℕ) where
  abbrev HasRoom : Node → Type 0
  HasRoom m = tree_has_room n (skeleton m) ≡ true

  leaves-room : (sizes : LeafSizes) → leaf_has_room n sizes ≡ true → (vs : List LeafValue) → AllByRecursion (HasSizes sizes) vs → AllByRecursion HasRoom (map leaf_node vs)
  leaves-room sizes room [] each = tt
  leaves-room sizes room (v ∷ vs) each = (ap (leaf_has_room n) each.0 ∙ room, leaves-room sizes room vs each.1)

  nodes-room : (ns : List Node) → AllByRecursion HasRoom ns → trees_have_room n (skeletons (nodes ns)) ≡ true
  nodes-room [] each = refl
  nodes-room (m ∷ ns) each = both_true each.0 (nodes-room ns each.1)

  module _ (sizes : DirSizes) (room : dir_has_room sizes ≡ true) where
    dirs-room : (level bus : ℕ) (l : List ℕ) (ns : List Node) → AllByRecursion HasRoom ns → AllByRecursion HasRoom (dirs_over sizes level bus (cut_in l ns))
    dirs-room level bus [] ns each = tt
    dirs-room level bus (k ∷ l) ns each =
        (both_true room (nodes-room (take k ns) (each-take HasRoom k ns each)), dirs-room level (bus + 1) l (drop k ns) (each-drop HasRoom k ns each))

    levels-room : (level bus : ℕ) (ls : List (List ℕ)) (leaves : List Node) → AllByRecursion HasRoom leaves → AllByRecursion HasRoom (under_levels sizes level bus ls leaves)
    levels-room level bus [] leaves each = each
    levels-room level bus (l ∷ ls) leaves each = dirs-room level bus l (under_levels sizes (level + 1) (bus + length l) ls leaves) (levels-room (level + 1) (bus + length l) ls leaves each)

-- ---- the machine

module _ (t : TreeValue) (i : ImageValue) where
  abbrev sizes_here : LeafSizes
  sizes_here = leaf_sizes t.sizes t.way_count (width_of t)

  new-sizes : (js : List ℕ) → AllByRecursion (HasSizes sizes_here) (map (start_leaf t i) js)
  new-sizes [] = tt
  new-sizes (j ∷ js) = (refl, new-sizes js)

  pub start-room : (m : MachineValue) → start_of t i ≡ Ok m → sizes_have_room t (item_count m.items) ≡ true → has_room m ≡ true
  unfolding start_of start_machine
  start-room m built room = subst (λ k. has_room k ≡ true) same (both_true lists.0 kids) where
    made : (o : Option StartRefusal) → start_or o t i ≡ Ok m → start_machine t i ≡ m
    made None e = one e where
      one : {a b : MachineValue} → (let r : Result MachineValue StartRefusal = Ok a in r ≡ Ok b) → a ≡ b
      one e = cc
    made (Some r) e = cc

    same : start_machine t i ≡ m
    same = made (start_refusal t i) built

    here : sizes_have_room t (item_count (start_items t i)) ≡ true
    here = subst (λ (k : MachineValue). sizes_have_room t (item_count k.items) ≡ true) (sym same) room

    parts : (nat_le (item_count (start_items t i)) (t.sizes.sets * t.way_count) ≡ true) × ((nat_lt 0 t.sizes.down && (nat_lt 0 t.sizes.requests && nat_lt 0 t.sizes.replies)) ≡ true)
    parts = and_parts (nat_le (item_count (start_items t i)) (t.sizes.sets * t.way_count)) _ here

    lists : (nat_lt 0 t.sizes.down ≡ true) × ((nat_lt 0 t.sizes.requests && nat_lt 0 t.sizes.replies) ≡ true)
    lists = and_parts (nat_lt 0 t.sizes.down) _ parts.1

    kids : trees_have_room (item_count (start_items t i)) (skeletons (nodes (under_levels (dir_sizes t.sizes (width_of t)) 1 1 (drop 1 t.levels) (map leaf_node (start_leaves t i))))) ≡ true
    kids =
        let k = item_count (start_items t i) in
        nodes-room k (under_levels (dir_sizes t.sizes (width_of t)) 1 1 (drop 1 t.levels) (map leaf_node (start_leaves t i)))
        (levels-room k (dir_sizes t.sizes (width_of t)) parts.1 1 1 (drop 1 t.levels) (map leaf_node (start_leaves t i))
        (leaves-room k sizes_here (both_true parts.0 (and_parts (nat_lt 0 t.sizes.requests) _ lists.1).1) (start_leaves t i)
        (items-sizes sizes_here 0 (start_words t i) (map (start_leaf t i) (range_with_len 0 (leaf_count t))) (new-sizes (range_with_len 0 (leaf_count t))))))
