-- The judgement of a text by its scans is that of the shape that it reads as.
use Rattle.std.proofs.Common.{ℕ, ◌≡◌, ◌<◌, ◌≤◌, ◌∙◌, true, false, not, List, [], ◌∷◌, map, Option, Some, None, Result, Ok, Err, ap, sym, refl, is_some, append-nil, arith}
use Rattle.std.specs.Prelude.{nat_eq, nat_lt, slice_index}
use Rattle.std.specs.List.{list_any, range_with_len}
use Rattle.std.proofs.lemmas.Bool.{false≢true}
use Rattle.std.proofs.lemmas.Bool.Decides.{nat_tests}
use Rattle.tree_config.specs.declared.refusal.TreeRefusal.TheVariants as refusal
use Rattle.tree_config.specs.declared.shape_text.Progress.TheVariants as progress
use Rattle.tree_config.specs.ShapeText.{Tree, leaf_tree, group_tree, node_text, nothing_read, read_from, shape_of}
use Rattle.tree_config.specs.ShapeScan.{depths_in, place_from, widths_in}
use Rattle.tree_config.specs.ShapeJudged.{text_depth, judged_levels, judged_text}
use Rattle.tree_config.specs.Levels.{depth_of, leaf_depths, leaves_of, levels_of, widths_at, widths_of, IsShape}
use Rattle.tree_config.specs.TreeFile.{judged_tree, judged_reading, levels_in}
use Rattle.tree_config.proofs.Even.{IsShape-levels_of, depth_of-group}
use Rattle.tree_config.proofs.GrammarScans.{err_ok, place_from-of, place_of, shape_of-text}
use Rattle.tree_config.proofs.TreeScans.{depths_in-node, widths_in-group}

-- ---- the scans of a tree's text

depths_in-text : (t : Tree) → depths_in 0 (node_text t []) ≡ leaf_depths 0 t
unfolding depths_in
depths_in-text t = depths_in-node 0 t [] ∙ append-nil (leaf_depths 0 t)

widths_in-text : (t : Tree) (level : ℕ) → widths_in level 0 0 (node_text t []) ≡ widths_at level t
unfolding widths_in
widths_in-text t level = widths_in-group level 0 level t [] (omega arith) ∙ append-nil (widths_at level t)

map-text : (t : Tree) (ns : List ℕ) → map (λ level. widths_in level 0 0 (node_text t [])) ns ≡ map (λ level. widths_at level t) ns
map-text t [] = refl
map-text t (n ∷ ns) = rw (widths_in-text t n, map-text t ns)

judged_text-text : (t : Tree) → judged_text (node_text t []) ≡ judged_tree t
judged_text-text t = rw (depths_in-text t, map-text t (range_with_len 0 (depth_of t)))

-- ---- what a text without a bad place reads as

abbrev pub Reads : List ℕ → Type 0
Reads text = (t : Tree) × (shape_of text ≡ Ok t)

err_some : {A : Type 0} {x : A} → Some x ≡ None → ⊥
err_some h = false≢true (sym (ap is_some h))

reads_from : (r : Result Tree ℕ) → place_of r ≡ None → (t : Tree) × (r ≡ Ok t)
reads_from (Ok t) h = (t, refl)
reads_from (Err place) h = absurd (err_some h)

Reads-from : (text : List ℕ) → place_from progress.Nothing 0 text ≡ None → Reads text
Reads-from text h = reads_from (shape_of text) (sym (place_from-of nothing_read 0 text) ∙ h)

-- a text without a bad place is judged by its scans
pub levels_in-judged : (text : List ℕ) → place_from progress.Nothing 0 text ≡ None → levels_in text ≡ judged_text text
unfolding levels_in
levels_in-judged text h =
    let (t, is) = Reads-from text h in
    let same : text ≡ node_text t [] = shape_of-text text t is in
    ap judged_reading is ∙ sym (judged_text-text t) ∙ ap judged_text (sym same)

bad_from : (r : Result Tree ℕ) (place : ℕ) → place_of r ≡ Some place → judged_reading r ≡ Err (refusal.BadShape place)
bad_from (Ok t) place h = absurd (err_some (sym h))
bad_from (Err p) place h = ap (λ o. Err (refusal.BadShape (place_or o))) h where
  place_or : Option ℕ → ℕ
  place_or None = 0
  place_or (Some n) = n

-- a bad place is the refusal
pub levels_in-bad : (text : List ℕ) (place : ℕ) → place_from progress.Nothing 0 text ≡ Some place → levels_in text ≡ Err (refusal.BadShape place)
unfolding levels_in
levels_in-bad text place h = bad_from (shape_of text) place (sym (place_from-of nothing_read 0 text) ∙ h)

-- ---- the judgement, test by test

above : (a b : ℕ) → a < b → nat_lt a b ≡ true
above a b h = grind (arith, nat_tests)

not_above : (a b : ℕ) → b ≤ a → nat_lt a b ≡ false
not_above a b h = grind (arith, nat_tests)

at_most : (a b : ℕ) → nat_lt a b ≡ false → b ≤ a
at_most a b h = grind (arith, nat_tests)

group_depth : (t : Tree) → shape_of (node_text t []) ≡ Ok t → 1 ≤ depth_of t
unfolding read_from
group_depth leaf_tree h = absurd (err_ok h)
group_depth (group_tree t ts) h = depth_of-group t ts

module _ (text : List ℕ) (shape : place_from progress.Nothing 0 text ≡ None) (depth : ℕ) (deep : depth ≡ text_depth text) where
  pub levels_in-uneven : list_any (λ d. not (nat_eq d depth)) (depths_in 0 text) ≡ true → levels_in text ≡ Err refusal.Uneven
  levels_in-uneven uneven = levels_in-judged text shape ∙ rw (rw deep at uneven)

  module _ (even : list_any (λ d. not (nat_eq d depth)) (depths_in 0 text) ≡ false) where
    pub levels_in-deep : 4 < depth → levels_in text ≡ Err refusal.TooDeep
    levels_in-deep over = levels_in-judged text shape ∙ rw (rw deep at even, above 4 (text_depth text) (rw deep at over))

    module _ (shallow : depth ≤ 4) (levels : List (List ℕ)) (are : levels ≡ map (λ level. widths_in level 0 0 text) (range_with_len 0 depth)) where
      levels_in-levels : levels_in text ≡ judged_levels levels
      levels_in-levels = levels_in-judged text shape ∙ rw (rw deep at even, not_above 4 (text_depth text) (rw deep at shallow), are, deep)

      pub levels_in-wide : list_any (nat_lt 16) (widths_of levels) ≡ true → levels_in text ≡ Err refusal.TooWide
      levels_in-wide wide = levels_in-levels ∙ rw wide

      module _ (narrow : list_any (nat_lt 16) (widths_of levels) ≡ false) where
        pub levels_in-crowded : nat_lt 64 (leaves_of levels) ≡ true → levels_in text ≡ Err refusal.TooManyLeaves
        levels_in-crowded many = levels_in-levels ∙ rw (narrow, many)

        module _ (few : nat_lt 64 (leaves_of levels) ≡ false) where
          pub levels_in-accepted : levels_in text ≡ Ok levels
          levels_in-accepted = levels_in-levels ∙ rw (narrow, few)

          pub IsShape-accepted : IsShape levels
          IsShape-accepted =
              let (t, is) = Reads-from text shape in
              let same : text ≡ node_text t [] = shape_of-text text t is in
              let depths : depths_in 0 text ≡ leaf_depths 0 t = ap (depths_in 0) same ∙ depths_in-text t in
              let tall : depth ≡ depth_of t = deep ∙ ap (λ ds. slice_index ds 0) depths in
              let all : levels ≡ levels_of t = are ∙ ap (λ bs. map (λ level. widths_in level 0 0 bs) (range_with_len 0 depth)) same ∙ map-text t (range_with_len 0 depth) ∙ ap (λ d. map (λ level. widths_at level t) (range_with_len 0 d)) tall in
              rw all (IsShape-levels_of t (group_depth t (ap shape_of (sym same) ∙ is)) (rw (tall, depths) at even) (rw tall at shallow) (rw all at narrow) (at_most 64 (leaves_of (levels_of t)) (rw all at few)))
