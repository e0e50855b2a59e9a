-- One level of buses over the level below it.
use Rattle.std.proofs.Common.{◌≡◌, ◌<◌, ◌≤◌, ℕ, zero, suc, ◌+◌, true, List, [], ◌∷◌, length, map, drop, sum, Some, sym, ap, ◌∙◌, arith, add-one, All}
use Rattle.std.specs.Prelude.{nat_le, slice_get, slice_index_or}
use Rattle.std.specs.List.{AllByRecursion, flat_map, list_all}
use Rattle.std.proofs.lemmas.Bool.{leb-true}
use Rattle.std.proofs.lemmas.List.{length-append}
use Rattle.std.proofs.lemmas.List.Elements.{All-from_recursion}
use Rattle.run_engine.specs.DdmTypes.ItemTable.{item_count}
use Rattle.run_engine.specs.TreeModel.State.Values.{Node, leaf_node}
use Rattle.run_engine.specs.TreeModel.Start.Nodes.{cut_in, dir_sizes, dirs_over, under_levels}
use Rattle.run_engine.specs.TreeModel.Start.Machine.{start_leaves}
use Rattle.run_engine.specs.TreeModel.Start.Memory.{start_items}
use Rattle.run_engine.specs.TreeModel.Start.Sources.{TreeValue, ImageValue, width_of}
use Rattle.run_engine.proofs.TreeModel.Tests.{and-first, and-second}
use Rattle.tree_config.specs.Levels.{IsShape}
use Rattle.tree_config.specs.Ranges.{IsInRange}
use Rattle.tree_config.proofs.Counts.{IsShape-buses}
use Rattle.run_engine.specs.BusLaws.IsTree.{is_width}
use Rattle.run_engine.specs.DdmTree.Holders.{IsHolder}
use Rattle.run_engine.specs.StartParts.Held.{AreHeld}
use Rattle.run_engine.proofs.StartParts.EachLevel.{level-count, level-held, level-wide}
use Rattle.run_engine.specs.Started.{nodes_at}
use Rattle.run_engine.proofs.TreeStart.{tree-is}

-- ---- a level of a list of levels

level-here : (k : ℕ) (levels : List (List ℕ)) (l : List ℕ) → Some l ≡ slice_get levels k → drop k levels ≡ l ∷ drop (suc k) levels
level-here k [] l is = cc
level-here zero (m ∷ ms) l is =
    let same : m ≡ l = cc in
    ap (λ n. n ∷ ms) same
level-here (suc k) (m ∷ ms) l is = level-here k ms l is

pub level-drop : (k : ℕ) (levels : List (List ℕ)) (l : List ℕ) → Some l ≡ slice_get levels k → drop k levels ≡ l ∷ drop (k + 1) levels
level-drop k levels l is = level-here k levels l is ∙ ap (λ j. l ∷ drop j levels) (sym (add-one k))

pub level-at : (k : ℕ) (levels : List (List ℕ)) (l : List ℕ) → Some l ≡ slice_get levels k → slice_index_or levels k [] ≡ l
level-at k [] l is = cc
level-at zero (m ∷ ms) l is = cc
level-at (suc k) (m ∷ ms) l is = level-at k ms l is

level-short : (k : ℕ) (levels : List (List ℕ)) (l : List ℕ) → Some l ≡ slice_get levels k → length l ≤ length (flat_map (λ (ns : List ℕ). ns) levels)
level-short k [] l is = cc
level-short zero (m ∷ ms) l is =
    let same : m ≡ l = cc in
    let whole = length-append m (flat_map (λ (ns : List ℕ). ns) ms) in
    omega (arith, whole, ap length same)
level-short (suc k) (m ∷ ms) l is =
    let rest = level-short k ms l is in
    let whole = length-append m (flat_map (λ (ns : List ℕ). ns) ms) in
    omega (arith, whole, rest)

pub level-few : (k : ℕ) (levels : List (List ℕ)) (l : List ℕ) → IsShape levels → Some l ≡ slice_get levels k → length l ≤ 256
level-few k levels l shape is =
    let few = IsShape-buses levels shape in
    let short = level-short k levels l is in
    omega (arith, few, short)

-- ---- each bus has a child, and each child what is placed below it

each-some : (l : List ℕ) → list_all is_width l ≡ true → AllByRecursion (λ w. 0 < w) l
each-some [] wide = tt
each-some (w ∷ ws) wide =
    let some = leb-true 1 w (and-first _ (nat_le w 16) (and-first (is_width w) (list_all is_width ws) wide)) in
    (omega (arith, some), each-some ws (and-second (is_width w) _ wide))

each-holder : (items : ℕ) (ns : List Node) → AreHeld items ns → AllByRecursion (IsHolder items) ns
each-holder items [] held = tt
each-holder items (n ∷ ns) held = (record { count = held.0.count; holds = λ x l. held.0.agrees x }, each-holder items ns held.1)

module _ (t : TreeValue) (i : ImageValue) (shape : IsShape t.levels) (range : IsInRange t) (k first : ℕ) (l : List ℕ) (is : Some l ≡ slice_get t.levels k) where
  pub widths-some : All (λ w. 0 < w) l
  widths-some = All-from_recursion (λ w. 0 < w) l (each-some l (level-wide t (tree-is t shape range) k l (drop (k + 1) t.levels) (level-drop k t.levels l is)))

  pub widths-whole : length (nodes_at t i (k + 1) (first + length l)) ≡ sum l
  widths-whole = level-count t i (tree-is t shape range) k l (drop (k + 1) t.levels) (level-drop k t.levels l is) (dir_sizes t.sizes (width_of t)) (k + 1) (first + length l)

  pub nodes-hold : All (IsHolder (item_count (start_items t i))) (nodes_at t i (k + 1) (first + length l))
  nodes-hold = All-from_recursion (IsHolder (item_count (start_items t i))) (nodes_at t i (k + 1) (first + length l)) (each-holder (item_count (start_items t i)) (nodes_at t i (k + 1) (first + length l)) (level-held t i (tree-is t shape range) k l (drop (k + 1) t.levels) (level-drop k t.levels l is) (dir_sizes t.sizes (width_of t)) (k + 1) (first + length l)))

  pub level-nodes : dirs_over (dir_sizes t.sizes (width_of t)) k first (cut_in l (nodes_at t i (k + 1) (first + length l))) ≡ nodes_at t i k first
  level-nodes = sym (ap (λ ls. under_levels (dir_sizes t.sizes (width_of t)) k first ls (map leaf_node (start_leaves t i))) (level-drop k t.levels l is))
