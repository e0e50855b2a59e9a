-- The levels of a tree whose leaves all have one depth.
use Rattle.std.proofs.Common.{ℕ, zero, suc, ◌≡◌, ◌+◌, ◌<◌, ◌≤◌, ◌∙◌, Bool, true, false, not, ◌&&◌, ◌||◌, List, [], ◌∷◌, ◌++◌, map, length, sum, ap, sym, refl, add-one, zero-add, append_assoc, length-append, arith}
use Rattle.std.specs.Prelude.{nat_eq, nat_le, nat_lt, slice_index}
use Rattle.std.specs.List.{list_all, list_any, range_with_len}
use Rattle.std.proofs.lemmas.Bool.{and_parts, false≢true}
use Rattle.std.proofs.lemmas.Bool.Decides.{nat_tests}
use Rattle.std.proofs.lemmas.List.Folds.{list_all-append, list_any-append}
use Rattle.std.proofs.lemmas.List.FromFn.{length-map-range_with_len}
use Rattle.std.proofs.lemmas.List.Sums.{sum_by-append}
use Rattle.tree_config.specs.ShapeText.{Tree, Trees, leaf_tree, group_tree, no_trees, more_trees}
use Rattle.tree_config.specs.Levels.{leaf_depths, all_leaf_depths, tree_count, widths_at, all_widths_at, depth_of, is_uneven, levels_of, widths_of, leaves_of, is_width, AreUnder, IsShape}

-- ---- each leaf has this depth

abbrev mutual
  pub AllAt : ℕ → ℕ → Tree → Type 0
  AllAt depth d leaf_tree = d ≡ depth
  AllAt depth d (group_tree t ts) = AllAt depth (d + 1) t × EachAt depth (d + 1) ts

  pub EachAt : ℕ → ℕ → Trees → Type 0
  EachAt depth d no_trees = Unit {0}
  EachAt depth d (more_trees t ts) = AllAt depth d t × EachAt depth d ts

neither : (a b : Bool) → (a || b) ≡ false → (a ≡ false) × (b ≡ false)
neither true b h = absurd (false≢true (sym h))
neither false b h = (refl, h)

abbrev other_than : ℕ → ℕ → Bool
other_than depth d = not (nat_eq d depth)

not_other : (d depth : ℕ) → not (nat_eq d depth) ≡ false → d ≡ depth
not_other d depth h = grind (arith, nat_tests)

mutual
  AllAt-from : (depth d : ℕ) (t : Tree) → list_any (other_than depth) (leaf_depths d t) ≡ false → AllAt depth d t
  AllAt-from depth d leaf_tree h = not_other d depth (neither _ false h).0
  AllAt-from depth d (group_tree t ts) h =
      let (here, more) = neither (list_any (other_than depth) (leaf_depths (d + 1) t)) (list_any (other_than depth) (all_leaf_depths (d + 1) ts)) (rw (list_any-append (other_than depth) (leaf_depths (d + 1) t) (all_leaf_depths (d + 1) ts)) at h) in
      (AllAt-from depth (d + 1) t here, EachAt-from depth (d + 1) ts more)

  EachAt-from : (depth d : ℕ) (ts : Trees) → list_any (other_than depth) (all_leaf_depths d ts) ≡ false → EachAt depth d ts
  EachAt-from depth d no_trees h = tt
  EachAt-from depth d (more_trees t ts) h =
      let (here, more) = neither (list_any (other_than depth) (leaf_depths d t)) (list_any (other_than depth) (all_leaf_depths d ts)) (rw (list_any-append (other_than depth) (leaf_depths d t) (all_leaf_depths d ts)) at h) in
      (AllAt-from depth d t here, EachAt-from depth d ts more)

-- ---- each level has as many groups as the level above it has nodes

first_group : (depth d : ℕ) (t : Tree) → AllAt depth d t → d < depth → length (widths_at 0 t) ≡ 1
first_group depth d leaf_tree at h = absurd (omega (arith, at, h))
first_group depth d (group_tree t ts) at h = refl

first_groups : (depth d : ℕ) (ts : Trees) → EachAt depth d ts → d < depth → length (all_widths_at 0 ts) ≡ tree_count ts
first_groups depth d no_trees at h = refl
first_groups depth d (more_trees t ts) at h =
    omega (arith, length-append (widths_at 0 t) (all_widths_at 0 ts), first_group depth d t at.0 h, first_groups depth d ts at.1 h)

sum-append : (xs ys : List ℕ) → sum (xs ++ ys) ≡ sum xs + sum ys
sum-append xs ys = sum_by-append (λ x. x) xs ys

mutual
  next_level : (depth d n : ℕ) (t : Tree) → AllAt depth d t → n + 1 + d < depth → length (widths_at (suc n) t) ≡ sum (widths_at n t)
  next_level depth d n leaf_tree at h = refl
  next_level depth d zero (group_tree t ts) at h =
      let single : sum ((1 + tree_count ts) ∷ []) ≡ 1 + tree_count ts = zero-add (1 + tree_count ts) in
      let deeper : d + 1 < depth = omega (arith, h) in
      omega (arith, single, length-append (widths_at 0 t) (all_widths_at 0 ts), first_group depth (d + 1) t at.0 deeper, first_groups depth (d + 1) ts at.1 deeper)
  next_level depth d (suc n) (group_tree t ts) at h =
      let deeper : n + 1 + (d + 1) < depth = omega (arith, h) in
      omega (arith, length-append (widths_at (suc n) t) (all_widths_at (suc n) ts), sum-append (widths_at n t) (all_widths_at n ts), next_level depth (d + 1) n t at.0 deeper, next_levels depth (d + 1) n ts at.1 deeper)

  next_levels : (depth d n : ℕ) (ts : Trees) → EachAt depth d ts → n + 1 + d < depth → length (all_widths_at (suc n) ts) ≡ sum (all_widths_at n ts)
  next_levels depth d n no_trees at h = refl
  next_levels depth d n (more_trees t ts) at h =
      omega (arith, length-append (widths_at (suc n) t) (all_widths_at (suc n) ts), sum-append (widths_at n t) (all_widths_at n ts), next_level depth d n t at.0 h, next_levels depth d n ts at.1 h)

AreUnder-from : (t : Tree) (depth : ℕ) → AllAt depth 0 t → (k m n : ℕ) → k + m ≡ depth → (0 < m → length (widths_at k t) ≡ n) → AreUnder n (map (λ j. widths_at j t) (range_with_len k m))
AreUnder-from t depth at k zero n same first = tt
AreUnder-from t depth at k (suc m) n same first = (
  first (omega arith),
  AreUnder-from t depth at (k + 1) m (sum (widths_at k t)) (omega (arith, same))
      (λ more. let below : k + 1 + 0 < depth = omega (arith, same, more) in ap (λ j. length (widths_at j t)) (add-one k) ∙ next_level depth 0 k t at below),
)

-- ---- each group has a node

one_more : (n : ℕ) → (nat_le 1 (1 + n) && true) ≡ true
one_more n = grind (arith, nat_tests)

both_all : (test : ℕ → Bool) (xs ys : List ℕ) → list_all test xs ≡ true → list_all test ys ≡ true → list_all test (xs ++ ys) ≡ true
both_all test xs ys hx hy = list_all-append test xs ys ∙ rw (hx, hy)

mutual
  some_node : (n : ℕ) (t : Tree) → list_all (nat_le 1) (widths_at n t) ≡ true
  some_node n leaf_tree = refl
  some_node zero (group_tree t ts) = one_more (tree_count ts)
  some_node (suc n) (group_tree t ts) = both_all (nat_le 1) (widths_at n t) (all_widths_at n ts) (some_node n t) (some_nodes n ts)

  some_nodes : (n : ℕ) (ts : Trees) → list_all (nat_le 1) (all_widths_at n ts) ≡ true
  some_nodes n no_trees = refl
  some_nodes n (more_trees t ts) = both_all (nat_le 1) (widths_at n t) (all_widths_at n ts) (some_node n t) (some_nodes n ts)

some_in_levels : (t : Tree) (k m : ℕ) → list_all (nat_le 1) (widths_of (map (λ j. widths_at j t) (range_with_len k m))) ≡ true
some_in_levels t k zero = refl
some_in_levels t k (suc m) = both_all (nat_le 1) (widths_at k t) (widths_of (map (λ j. widths_at j t) (range_with_len (k + 1) m))) (some_node k t) (some_in_levels t (k + 1) m)

width_from : (n : ℕ) → nat_le 1 n ≡ true → nat_lt 16 n ≡ false → is_width n ≡ true
width_from n some few = grind (arith, nat_tests)

widths_from_tests : (xs : List ℕ) → list_all (nat_le 1) xs ≡ true → list_any (nat_lt 16) xs ≡ false → list_all is_width xs ≡ true
widths_from_tests [] some few = refl
widths_from_tests (x ∷ xs) some few =
    let (here, more) = and_parts (nat_le 1 x) (list_all (nat_le 1) xs) some in
    let (small, others) = neither (nat_lt 16 x) (list_any (nat_lt 16) xs) few in
    rw (width_from x here small, widths_from_tests xs more others)

-- ---- a group is round each leaf of a group

first_at_least : (d : ℕ) (t : Tree) (rest : List ℕ) → d ≤ slice_index (leaf_depths d t ++ rest) 0
first_at_least d leaf_tree rest = omega arith
first_at_least d (group_tree t ts) rest =
    let deeper : d + 1 ≤ slice_index ((leaf_depths (d + 1) t ++ all_leaf_depths (d + 1) ts) ++ rest) 0 =
    rw (append_assoc (leaf_depths (d + 1) t) (all_leaf_depths (d + 1) ts) rest) (first_at_least (d + 1) t (all_leaf_depths (d + 1) ts ++ rest)) in
    omega (arith, deeper)

pub depth_of-group : (t : Tree) (ts : Trees) → 1 ≤ depth_of (group_tree t ts)
depth_of-group t ts = first_at_least 1 t (all_leaf_depths 1 ts)

-- ---- the levels of a tree that is accepted

levels_count : (t : Tree) → length (levels_of t) ≡ depth_of t
levels_count t = length-map-range_with_len (λ j. widths_at j t) 0 (depth_of t)

pub IsShape-levels_of : (t : Tree) → 1 ≤ depth_of t → is_uneven t ≡ false → depth_of t ≤ 4 → list_any (nat_lt 16) (widths_of (levels_of t)) ≡ false → leaves_of (levels_of t) ≤ 64 → IsShape (levels_of t)
IsShape-levels_of t some even shallow narrow few =
    let at : AllAt (depth_of t) 0 t = AllAt-from (depth_of t) 0 t even in
    record {
      some = rw (levels_count t) some;
      depth = rw (levels_count t) shallow;
      under = AreUnder-from t (depth_of t) at 0 (depth_of t) 1 (omega arith) (λ more. first_group (depth_of t) 0 t at more);
      widths = widths_from_tests (widths_of (levels_of t)) (some_in_levels t 0 (depth_of t)) narrow;
      leaves = few;
    }
