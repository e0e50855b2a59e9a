-- What the scans find in the text of a tree.
use Rattle.std.proofs.Common.{ℕ, zero, suc, ◌≡◌, ◌+◌, ◌-◌, ◌<◌, ◌∙◌, true, false, List, ◌∷◌, ◌++◌, ap, sym, refl, add-zero, append_assoc, arith}
use Rattle.std.specs.Prelude.{nat_eq}
use Rattle.std.proofs.lemmas.Bool.Decides.{nat_tests}
use Rattle.tree_config.specs.ShapeText.{Tree, Trees, leaf_tree, group_tree, no_trees, more_trees, leaf_byte, open_byte, close_byte, node_text, nodes_text}
use Rattle.tree_config.specs.ShapeScan.{depths_in, widths_in}
use Rattle.tree_config.specs.Levels.{leaf_depths, all_leaf_depths, tree_count, widths_at, all_widths_at}

back_up : (d : ℕ) → d + 1 - 1 ≡ d
back_up d = omega arith

depths_in-close : (d : ℕ) (rest : List ℕ) → depths_in (d + 1) (close_byte ∷ rest) ≡ depths_in d rest
unfolding depths_in
depths_in-close d rest = ap (λ n. depths_in n rest) (back_up d)

mutual
  unfolding depths_in

  pub depths_in-node : (d : ℕ) (t : Tree) (rest : List ℕ) → depths_in d (node_text t rest) ≡ leaf_depths d t ++ depths_in d rest
  depths_in-node d leaf_tree rest = refl
  depths_in-node d (group_tree t ts) rest =
      depths_in-node (d + 1) t (nodes_text ts (close_byte ∷ rest))
      ∙ ap (λ ds. leaf_depths (d + 1) t ++ ds) (depths_in-nodes (d + 1) ts (close_byte ∷ rest) ∙ ap (λ ds. all_leaf_depths (d + 1) ts ++ ds) (depths_in-close d rest))
      ∙ sym (append_assoc (leaf_depths (d + 1) t) (all_leaf_depths (d + 1) ts) (depths_in d rest))

  pub depths_in-nodes : (d : ℕ) (ts : Trees) (rest : List ℕ) → depths_in d (nodes_text ts rest) ≡ all_leaf_depths d ts ++ depths_in d rest
  depths_in-nodes d no_trees rest = refl
  depths_in-nodes d (more_trees t ts) rest =
      depths_in-node d t (nodes_text ts rest)
      ∙ ap (λ ds. leaf_depths d t ++ ds) (depths_in-nodes d ts rest)
      ∙ sym (append_assoc (leaf_depths d t) (all_leaf_depths d ts) (depths_in d rest))

-- ---- the nodes of the groups of one level

nat_eq-same : (a b : ℕ) → a ≡ b → nat_eq a b ≡ true
nat_eq-same a b h = grind (arith, nat_tests)

nat_eq-other : (a b : ℕ) → (a ≡ b → ⊥) → nat_eq a b ≡ false
nat_eq-other a b h = grind (arith, nat_tests)

module _ (level : ℕ) where
  leaf_counted : (d c : ℕ) (rest : List ℕ) → d ≡ level + 1 → widths_in level d c (leaf_byte ∷ rest) ≡ widths_in level d (c + 1) rest
  unfolding widths_in
  leaf_counted d c rest h = let e = nat_eq-same d (level + 1) h in rw e

  leaf_passed : (d c : ℕ) (rest : List ℕ) → (d ≡ level + 1 → ⊥) → widths_in level d c (leaf_byte ∷ rest) ≡ widths_in level d c rest
  unfolding widths_in
  leaf_passed d c rest h = let e = nat_eq-other d (level + 1) h in rw e

  open_counted : (d c : ℕ) (rest : List ℕ) → d ≡ level + 1 → widths_in level d c (open_byte ∷ rest) ≡ widths_in level (d + 1) (c + 1) rest
  unfolding widths_in
  open_counted d c rest h = let e = nat_eq-same d (level + 1) h in rw e

  open_passed : (d c : ℕ) (rest : List ℕ) → (d ≡ level + 1 → ⊥) → widths_in level d c (open_byte ∷ rest) ≡ widths_in level (d + 1) c rest
  unfolding widths_in
  open_passed d c rest h = let e = nat_eq-other d (level + 1) h in rw e

  close_ends : (d c : ℕ) (rest : List ℕ) → d ≡ level → widths_in level (d + 1) c (close_byte ∷ rest) ≡ c ∷ widths_in level d 0 rest
  unfolding widths_in
  close_ends d c rest h = let e = nat_eq-same (d + 1) (level + 1) (omega (arith, h)) in rw (e, back_up d)

  close_passed : (d c : ℕ) (rest : List ℕ) → (d ≡ level → ⊥) → widths_in level (d + 1) c (close_byte ∷ rest) ≡ widths_in level d c rest
  unfolding widths_in
  close_passed d c rest h = let e = nat_eq-other (d + 1) (level + 1) (λ same. h (omega (arith, same))) in rw (e, back_up d)

  -- below the level's nodes nothing counts
  mutual
    widths_in-deep : (d c : ℕ) (t : Tree) (rest : List ℕ) → level + 1 < d → widths_in level d c (node_text t rest) ≡ widths_in level d c rest
    widths_in-deep d c leaf_tree rest h = leaf_passed d c rest (λ same. omega (arith, h, same))
    widths_in-deep d c (group_tree t ts) rest h =
        open_passed d c (node_text t (nodes_text ts (close_byte ∷ rest))) (λ same. omega (arith, h, same))
        ∙ widths_in-deep (d + 1) c t (nodes_text ts (close_byte ∷ rest)) (omega (arith, h))
        ∙ widths_in-all_deep (d + 1) c ts (close_byte ∷ rest) (omega (arith, h))
        ∙ close_passed d c rest (λ same. omega (arith, h, same))

    widths_in-all_deep : (d c : ℕ) (ts : Trees) (rest : List ℕ) → level + 1 < d → widths_in level d c (nodes_text ts rest) ≡ widths_in level d c rest
    widths_in-all_deep d c no_trees rest h = refl
    widths_in-all_deep d c (more_trees t ts) rest h = widths_in-deep d c t (nodes_text ts rest) h ∙ widths_in-all_deep d c ts rest h

  -- each of the level's nodes counts once
  widths_in-node : (d c : ℕ) (t : Tree) (rest : List ℕ) → d ≡ level + 1 → widths_in level d c (node_text t rest) ≡ widths_in level d (c + 1) rest
  widths_in-node d c leaf_tree rest h = leaf_counted d c rest h
  widths_in-node d c (group_tree t ts) rest h =
      open_counted d c (node_text t (nodes_text ts (close_byte ∷ rest))) h
      ∙ widths_in-deep (d + 1) (c + 1) t (nodes_text ts (close_byte ∷ rest)) (omega (arith, h))
      ∙ widths_in-all_deep (d + 1) (c + 1) ts (close_byte ∷ rest) (omega (arith, h))
      ∙ close_passed d (c + 1) rest (λ same. omega (arith, h, same))

  widths_in-nodes : (d c : ℕ) (ts : Trees) (rest : List ℕ) → d ≡ level + 1 → widths_in level d c (nodes_text ts rest) ≡ widths_in level d (c + tree_count ts) rest
  widths_in-nodes d c no_trees rest h = ap (λ n. widths_in level d n rest) (sym (add-zero c))
  widths_in-nodes d c (more_trees t ts) rest h =
      let same : (c + 1) + tree_count ts ≡ c + (1 + tree_count ts) = omega arith in
      widths_in-node d c t (nodes_text ts rest) h ∙ widths_in-nodes d (c + 1) ts rest h ∙ ap (λ n. widths_in level d n rest) same

  -- above the level: the groups of the level in the node
  mutual
    pub widths_in-group : (d n : ℕ) (t : Tree) (rest : List ℕ) → level ≡ d + n → widths_in level d 0 (node_text t rest) ≡ widths_at n t ++ widths_in level d 0 rest
    widths_in-group d n leaf_tree rest h = leaf_passed d 0 rest (λ same. omega (arith, h, same))
    widths_in-group d zero (group_tree t ts) rest h =
        open_passed d 0 (node_text t (nodes_text ts (close_byte ∷ rest))) (λ same. omega (arith, h, same))
        ∙ widths_in-node (d + 1) 0 t (nodes_text ts (close_byte ∷ rest)) (omega (arith, h))
        ∙ widths_in-nodes (d + 1) 1 ts (close_byte ∷ rest) (omega (arith, h))
        ∙ close_ends d (1 + tree_count ts) rest (omega (arith, h))
    widths_in-group d (suc n) (group_tree t ts) rest h =
        open_passed d 0 (node_text t (nodes_text ts (close_byte ∷ rest))) (λ same. omega (arith, h, same))
        ∙ widths_in-group (d + 1) n t (nodes_text ts (close_byte ∷ rest)) (omega (arith, h))
        ∙ ap (λ ws. widths_at n t ++ ws) (widths_in-groups (d + 1) n ts (close_byte ∷ rest) (omega (arith, h)) ∙ ap (λ ws. all_widths_at n ts ++ ws) (close_passed d 0 rest (λ same. omega (arith, h, same))))
        ∙ sym (append_assoc (widths_at n t) (all_widths_at n ts) (widths_in level d 0 rest))

    pub widths_in-groups : (d n : ℕ) (ts : Trees) (rest : List ℕ) → level ≡ d + n → widths_in level d 0 (nodes_text ts rest) ≡ all_widths_at n ts ++ widths_in level d 0 rest
    widths_in-groups d n no_trees rest h = refl
    widths_in-groups d n (more_trees t ts) rest h =
        widths_in-group d n t (nodes_text ts rest) h
        ∙ ap (λ ws. widths_at n t ++ ws) (widths_in-groups d n ts rest h)
        ∙ sym (append_assoc (widths_at n t) (all_widths_at n ts) (widths_in level d 0 rest))
