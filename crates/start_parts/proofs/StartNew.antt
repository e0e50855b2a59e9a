-- The start's machine is a new machine, and what each of its nodes holds.
use Rattle.std.proofs.Common.{◌≡◌, ℕ, suc, ◌+◌, true, List, [], ◌∷◌, map, length, drop, None, Ok, refl, sym, ap, subst, ◌∙◌, arith}
use Rattle.std.specs.Prelude.{nat_eq, sum}
use Rattle.std.specs.Cmp.Derive.{both_true}
use Rattle.std.proofs.lemmas.Bool.{eqb-true, eq-eqb, le-leb, and_parts}
use Rattle.std.proofs.lemmas.List.{length-map, length-replicate}
use Rattle.start_parts.specs.DdmTypes.declared.sizes.TreeCounts.{TreeCounts}
use Rattle.start_parts.specs.DdmTypes.ItemTable.{item_count}
use Rattle.start_parts.specs.TreeModel.State.Values.{LeafValue, DirSizes, Node, leaf_node, nodes, root_of}
use Rattle.start_parts.specs.TreeModel.State.Rooms.{all_within}
use Rattle.start_parts.specs.TreeModel.State.Shape.{IsShaped, skeleton, skeletons, first_levels, buses_among, leaf_numbers_among, are_below, traffic_counted, tree_counts}
use Rattle.start_parts.specs.TreeModel.Turns.Machine.{no_traffic}
use Rattle.start_parts.specs.TreeModel.Start.Sources.{TreeValue, ImageValue, leaf_count, bus_widths, width_of}
use Rattle.start_parts.specs.TreeModel.Start.Memory.{start_items}
use Rattle.start_parts.specs.TreeModel.Start.Nodes.{leaf_sizes, dir_sizes, top_sizes, held_exclusive, under_levels}
use Rattle.start_parts.specs.TreeModel.Start.Machine.{flat_start_of, start_leaves, start_machine, start_refusal, start_of}
use Rattle.start_parts.specs.BusLaws.IsTree.{IsTree}
use Rattle.start_parts.proofs.BusLaws.StartLevels.{leaf_total}
use Rattle.start_parts.specs.OrderLaws.EveryTurn.{IsOrderly}
use Rattle.start_parts.proofs.HeadlineCrate.StartOrder.{start-orderly}
use Rattle.cluster.specs.DdmTree.Counts.{counts_within}
use Rattle.cluster.specs.DdmTree.Machine.{IsNew}
use Rattle.cluster.proofs.DdmTree.RulesKept.{rules-of}
use Rattle.cluster.specs.DdmTree.Ready.{words_are}
use Rattle.start_parts.specs.Counts.{counts_of}
use Rattle.start_parts.specs.Held.{AreHeld}
use Rattle.start_parts.proofs.Made.{start_kids}
use Rattle.start_parts.proofs.NewLeaves.{leaves-new, leaves-length}
use Rattle.start_parts.proofs.NewNodes.{AreNewNodes, rooms-among, words-among, counts-among, held-among, dir-new, leaves-new-nodes, IsNewNode}
use Rattle.start_parts.proofs.Levels.{HasFirst, has-first, levels-numbers, levels-first, levels-each}

-- ---- leaves as nodes

leaf-numbers : (vs : List LeafValue) → length (leaf_numbers_among (skeletons (nodes (map leaf_node vs))) []) ≡ length vs
leaf-numbers [] = refl
leaf-numbers (v ∷ vs) = ap suc (leaf-numbers vs)

leaf-first : (vs : List LeafValue) → first_levels (skeletons (nodes (map leaf_node vs))) ≡ 0
leaf-first [] = refl
leaf-first (v ∷ vs) = refl

-- ---- the nodes under bus 0

module _ (t : TreeValue) (i : ImageValue) (tree : IsTree t) where
  abbrev items : ℕ
  items = item_count (start_items t i)

  abbrev leaves : List Node
  leaves = map leaf_node (start_leaves t i)

  abbrev sizes : DirSizes
  sizes = dir_sizes t.sizes (width_of t)

  abbrev below : HasFirst t → List Node
  below f = under_levels sizes 1 1 f.others leaves

  kids-below : (f : HasFirst t) → start_kids t i ≡ below f
  kids-below f = ap (λ levels. under_levels sizes 1 1 (drop 1 levels) leaves) f.are

  leaves-total : (f : HasFirst t) → length leaves ≡ leaf_total (sum f.first) f.others
  leaves-total f = length-map (start_leaves t i) leaf_node ∙ leaves-length t i ∙ f.leaves

  pub kids-new : AreNewNodes items (width_of t) (start_kids t i)
  kids-new =
      let f = has-first t tree in
      subst (AreNewNodes items (width_of t)) (sym (kids-below f))
      (levels-each sizes leaves (IsNewNode items (width_of t)) (dir-new items (width_of t) sizes refl) 1 1 (sum f.first) f.others f.under f.wide (leaves-total f) (leaves-new-nodes items (width_of t) (leaf_sizes t.sizes t.way_count (width_of t)) refl (start_leaves t i) (leaves-new t i)))

  pub kids-held : AreHeld items (start_kids t i)
  kids-held = held-among items (width_of t) (start_kids t i) kids-new

  kids-numbers : length (leaf_numbers_among (skeletons (nodes (start_kids t i))) []) ≡ leaf_count t
  kids-numbers =
      let f = has-first t tree in
      ap (λ ks. length (leaf_numbers_among (skeletons (nodes ks)) [])) (kids-below f) ∙ ap length (levels-numbers sizes leaves 1 1 (sum f.first) f.others [] f.under (leaves-total f)) ∙ leaf-numbers (start_leaves t i) ∙ leaves-length t i

  kids-depth : first_levels (skeletons (nodes (start_kids t i))) + 1 ≡ length t.levels
  kids-depth =
      let f = has-first t tree in
      let first : first_levels (skeletons (nodes (start_kids t i))) ≡ length f.others = ap (λ ks. first_levels (skeletons (nodes ks))) (kids-below f) ∙ levels-first sizes leaves 1 1 (sum f.first) f.others f.some f.under f.wide (leaf-first (start_leaves t i)) in
      let levels : length t.levels ≡ length (f.first ∷ f.others) = ap length f.are in
      omega (arith, first, levels)

  -- ---- the machine

  start-rooms : all_within (item_count (start_machine t i).items) (root_of (start_machine t i)) ≡ true
  unfolding start_machine
  start-rooms =
      let top = top_sizes t.sizes.down (width_of t) in
      both_true (both_true (eq-eqb _ _ (length-replicate items held_exclusive)) (both_true (le-leb 0 top.down_room (omega arith)) refl)) (rooms-among items (width_of t) (start_kids t i) kids-new)

  start-words : words_are (width_of t) (skeleton (root_of (start_machine t i))) ≡ true
  unfolding start_machine
  start-words = both_true (eq-eqb (width_of t) (width_of t) refl) (words-among items (width_of t) (start_kids t i) kids-new)

  start-uncounted : counts_within 0 (root_of (start_machine t i)) ≡ true
  unfolding start_machine
  start-uncounted = counts-among items (width_of t) (start_kids t i) kids-new

  start-numbers : IsShaped (start_machine t i) → tree_counts (start_machine t i) ≡ counts_of t
  unfolding start_machine
  start-numbers shaped =
      let counted = and_parts (nat_eq (length (0 ∷ buses_among (skeletons (nodes (start_kids t i))) [])) (length (map (λ (w : ℕ). no_traffic) (bus_widths t)))) (are_below (length (map (λ (w : ℕ). no_traffic) (bus_widths t))) (0 ∷ buses_among (skeletons (nodes (start_kids t i))) [])) (shaped.each traffic_counted) in
      same _ _ _ _ _ _ kids-numbers (eqb-true _ _ counted.0 ∙ length-map (bus_widths t) (λ (w : ℕ). no_traffic)) kids-depth
    where
      same : (a b c x y z : ℕ) → a ≡ x → b ≡ y → c ≡ z → (let f : TreeCounts = record { leaves = a; buses = b; depth = c } in f) ≡ record { leaves = x; buses = y; depth = z }
      same a b c x y z first second third = rw (first, second, third) refl

start-built : (t : TreeValue) (i : ImageValue) → start_refusal t i ≡ None → start_of t i ≡ Ok (start_machine t i)
unfolding start_of
start-built t i none = rw none refl

start-is_orderly : (t : TreeValue) (i : ImageValue) → IsTree t → start_refusal t i ≡ None → IsOrderly (flat_start_of t i) (start_machine t i)
start-is_orderly t i tree none = start-orderly t i (start_machine t i) tree (start-built t i none)

pub start-new : (t : TreeValue) (i : ImageValue) → IsTree t → start_refusal t i ≡ None → IsNew (width_of t) (start_machine t i) (counts_of t)
start-new t i tree none =
    let is = start-is_orderly t i tree none in record {
      shaped = is.shaped;
      rules = rules-of (start_machine t i) is.buses is.timed;
      rooms = start-rooms t i tree;
      words = start-words t i tree;
      uncounted = start-uncounted t i tree;
      numbers = start-numbers t i tree is.shaped;
    }
