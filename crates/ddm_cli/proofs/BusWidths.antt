-- The nodes under the top before the first turn: each bus has as many children as the tree says, and each bus and leaf of the
-- tree is there.
use Rattle.std.proofs.Common.{◌≡◌, ℕ, zero, suc, ◌+◌, ◌<◌, ◌≤◌, Bool, true, false, List, [], ◌∷◌, ◌++◌, length, take, drop, map, Some, refl, sym, ap, ◌∙◌, add-one, add-zero, length-append, arith, cond}
use Rattle.std.specs.Prelude.{◌||◌, nat_eq, nat_lt, slice_get, sum, ⊤}
use Rattle.std.specs.List.{AllByRecursion, flat_map}
use Rattle.std.proofs.lemmas.Bool.{eqb-true, ltb-true}
use Rattle.std.proofs.lemmas.Bool.Decides.{nat_tests}
use Rattle.std.proofs.lemmas.List.{length-take-le, length-drop}
use Rattle.std.proofs.lemmas.List.Concat.{flat_map-cons}
use Rattle.ddm_cli.specs.TreeModel.State.Values.{LeafValue, DirSizes, DirValue, Node, Nodes, leaf_node, dir_node, no_nodes, more_nodes, nodes, children}
use Rattle.ddm_cli.specs.TreeModel.State.Place.{Where, at_child, where_path, spot_in}
use Rattle.ddm_cli.specs.TreeModel.Start.Nodes.{cut_in, dirs_over, under_levels}
use Rattle.ddm_cli.specs.TreeModel.Turns.Tree.{Name, bus_of_number, has_node, has_among, of_dir, read_in, read_among}
use Rattle.ddm_cli.proofs.TreeModel.Children.{children-nodes}
use Rattle.ddm_cli.specs.BusLaws.IsTree.{AreUnder}
use Rattle.ddm_cli.proofs.BusLaws.StartLevels.{leaf_total, sum-more}
use Rattle.ddm_cli.proofs.StartParts.Levels.{levels-length}

-- ---- parts of a list

pub drop_cons : (n : ℕ) (xs : List ℕ) (x : ℕ) (rest : List ℕ) → drop n xs ≡ x ∷ rest → (slice_get xs n ≡ Some x) × (drop (suc n) xs ≡ rest)
drop_cons zero [] x rest e = absurd (cc e)
drop_cons zero (y ∷ ys) x rest e = (cc e, cc e)
drop_cons (suc n) [] x rest e = absurd (cc e)
drop_cons (suc n) (y ∷ ys) x rest e = drop_cons n ys x rest e

drop_behind : (n : ℕ) (xs l rest : List ℕ) → drop n xs ≡ l ++ rest → drop (n + length l) xs ≡ rest
drop_behind n xs [] rest e = ap (λ (k : ℕ). drop k xs) (add-zero n) ∙ e
drop_behind n xs (x ∷ l) rest e =
    let more : n + length (x ∷ l) ≡ suc n + length l = omega arith in
    ap (λ (k : ℕ). drop k xs) more ∙ drop_behind (suc n) xs l rest (drop_cons n xs x (l ++ rest) e).1

abbrev pub flat : List (List ℕ) → List ℕ
flat ls = flat_map (λ l. l) ls

pub flat_cons : (l : List ℕ) (ls : List (List ℕ)) → flat (l ∷ ls) ≡ l ++ flat ls
flat_cons l ls = flat_map-cons (λ (k : List ℕ). k) l ls

or_first : (a b : Bool) → a ≡ true → (a || b) ≡ true
or_first a b e = rw e refl

pub or_second : (a b : Bool) → b ≡ true → (a || b) ≡ true
or_second true b e = refl
or_second false b e = e

-- ---- a node by its name, over a level of buses

module _ (name : Name) where
  has_parts : (k : ℕ) (ns : List Node) → has_among name (nodes ns) ≡ (has_among name (nodes (take k ns)) || has_among name (nodes (drop k ns)))
  has_parts zero ns = refl
  has_parts (suc k) [] = refl
  has_parts (suc k) (n ∷ ns) =
      elim (has_node name n) as (λ b. (b || has_among name (nodes ns)) ≡ ((b || has_among name (nodes (take k ns))) || has_among name (nodes (drop k ns)))) [ true ↦ refl | false ↦ has_parts k ns ]

  module _ (sizes : DirSizes) where
    dirs_have : (level bus : ℕ) (l : List ℕ) (ns : List Node) → length ns ≡ sum l → has_among name (nodes ns) ≡ true → has_among name (nodes (dirs_over sizes level bus (cut_in l ns))) ≡ true
    dirs_have level bus [] [] count has = cc
    dirs_have level bus [] (n ∷ ns) count has = absurd (omega arith)
    dirs_have level bus (k ∷ l) ns count has =
        elim (has_among name (nodes (take k ns))) as (λ b. has_among name (nodes (take k ns)) ≡ b → (b || has_among name (nodes (drop k ns))) ≡ true → has_among name (nodes (dirs_over sizes level bus (cut_in (k ∷ l) ns))) ≡ true) [
          | true ↦ λ is has. or_first _ _ (or_second _ _ is)
          | false ↦ λ is has.
              let rest : length (drop k ns) ≡ sum l = omega (arith, count, sum-more k l, length-drop k ns) in
              or_second _ _ (dirs_have level (bus + 1) l (drop k ns) rest has)
        ] refl (sym (has_parts k ns) ∙ has)

    pub levels_have : (level bus c : ℕ) (ls : List (List ℕ)) (leaves : List Node) → AreUnder c ls → length leaves ≡ leaf_total c ls → has_among name (nodes leaves) ≡ true → has_among name (nodes (under_levels sizes level bus ls leaves)) ≡ true
    levels_have level bus c [] leaves under count has = has
    levels_have level bus c (l ∷ ls) leaves under count has =
        dirs_have level bus l (under_levels sizes (level + 1) (bus + length l) ls leaves) (levels-length sizes leaves (level + 1) (bus + length l) (sum l) ls under.1 count)
        (levels_have (level + 1) (bus + length l) (sum l) ls leaves under.1 count has)

-- ---- each bus of the tree is there

module _ (b : ℕ) (sizes : DirSizes) where
  dirs_named : (level bus : ℕ) (l : List ℕ) (ns : List Node) → bus ≤ b → b < bus + length l → has_among (bus_of_number b) (nodes (dirs_over sizes level bus (cut_in l ns))) ≡ true
  dirs_named level bus [] ns low high = absurd (omega (arith, low, high))
  dirs_named level bus (k ∷ l) ns low high =
      elim (nat_eq bus b) as (λ own. nat_eq bus b ≡ own → has_among (bus_of_number b) (nodes (dirs_over sizes level bus (cut_in (k ∷ l) ns))) ≡ true) [
        | true ↦ λ is. or_first _ _ (or_first _ _ is)
        | false ↦ λ is.
            let other : bus < b = grind (arith, nat_tests, low, is) in
            or_second _ _ (dirs_named level (bus + 1) l (drop k ns) (omega (arith, other)) (omega (arith, high)))
      ] refl

  pub levels_named : (level bus c : ℕ) (ls : List (List ℕ)) (leaves : List Node) → AreUnder c ls → length leaves ≡ leaf_total c ls → bus ≤ b → b < bus + length (flat ls)
      → has_among (bus_of_number b) (nodes (under_levels sizes level bus ls leaves)) ≡ true
  levels_named level bus c [] leaves under count low high = absurd (omega (arith, low, high))
  levels_named level bus c (l ∷ ls) leaves under count low high =
      let below = under_levels sizes (level + 1) (bus + length l) ls leaves in
      elim (nat_lt b (bus + length l)) as (λ own. nat_lt b (bus + length l) ≡ own → has_among (bus_of_number b) (nodes (under_levels sizes level bus (l ∷ ls) leaves)) ≡ true) [
        | true ↦ λ is. dirs_named level bus l below low (ltb-true _ _ is)
        | false ↦ λ is.
            let past : bus + length l ≤ b = grind (arith, nat_tests, is) in
            let total : length (flat (l ∷ ls)) ≡ length l + length (flat ls) = ap length (flat_cons l ls) ∙ length-append l (flat ls) in
            dirs_have (bus_of_number b) sizes level bus l below (levels-length sizes leaves (level + 1) (bus + length l) (sum l) ls under.1 count)
            (levels_named (level + 1) (bus + length l) (sum l) ls leaves under.1 count past (omega (arith, high, total)))
      ] refl

-- ---- each bus has as many children as the tree says

module _ (widths : List ℕ) where
  abbrev mutual
    -- each bus of this part of the tree
    pub HasWidths : Node → Type 0
    HasWidths (leaf_node v) = ⊤
    HasWidths (dir_node d ns) = (slice_get widths d.bus ≡ Some (length (children ns))) × HaveWidths ns

    pub HaveWidths : Nodes → Type 0
    HaveWidths no_nodes = ⊤
    HaveWidths (more_nodes n ns) = HasWidths n × HaveWidths ns

  pub each_have : (ns : List Node) → AllByRecursion HasWidths ns → HaveWidths (nodes ns)
  each_have [] h = tt
  each_have (n ∷ ns) h = (h.0, each_have ns h.1)

  each_take : (k : ℕ) (ns : List Node) → AllByRecursion HasWidths ns → AllByRecursion HasWidths (take k ns)
  each_take zero ns h = tt
  each_take (suc k) [] h = tt
  each_take (suc k) (n ∷ ns) h = (h.0, each_take k ns h.1)

  each_drop : (k : ℕ) (ns : List Node) → AllByRecursion HasWidths ns → AllByRecursion HasWidths (drop k ns)
  each_drop zero ns h = h
  each_drop (suc k) [] h = tt
  each_drop (suc k) (n ∷ ns) h = each_drop k ns h.1

  leaves_wide : (vs : List LeafValue) → AllByRecursion HasWidths (map leaf_node vs)
  leaves_wide [] = tt
  leaves_wide (v ∷ vs) = (tt, leaves_wide vs)

  module _ (sizes : DirSizes) where
    dirs_wide : (level bus : ℕ) (l rest : List ℕ) (ns : List Node) → drop bus widths ≡ l ++ rest → length ns ≡ sum l → AllByRecursion HasWidths ns → AllByRecursion HasWidths (dirs_over sizes level bus (cut_in l ns))
    dirs_wide level bus [] rest ns are count each = tt
    dirs_wide level bus (k ∷ l) rest ns are count each =
        let parts = drop_cons bus widths k (l ++ rest) are in
        let mine : length (take k ns) ≡ k = length-take-le k ns (omega (arith, count, sum-more k l)) in
        let others : length (drop k ns) ≡ sum l = omega (arith, count, sum-more k l, length-drop k ns) in
        let behind : drop (bus + 1) widths ≡ l ++ rest = ap (λ (n : ℕ). drop n widths) (add-one bus) ∙ parts.1 in (
          (parts.0 ∙ ap Some (sym (ap length (children-nodes (take k ns)) ∙ mine)), each_have (take k ns) (each_take k ns each)),
          dirs_wide level (bus + 1) l rest (drop k ns) behind others (each_drop k ns each),
        )

    levels_wide : (level bus c : ℕ) (ls : List (List ℕ)) (leaves : List Node) → drop bus widths ≡ flat ls → AreUnder c ls → length leaves ≡ leaf_total c ls → AllByRecursion HasWidths leaves → AllByRecursion HasWidths (under_levels sizes level bus ls leaves)
    levels_wide level bus c [] leaves are under count each = each
    levels_wide level bus c (l ∷ ls) leaves are under count each =
        let split = are ∙ flat_cons l ls in
        dirs_wide level bus l (flat ls) (under_levels sizes (level + 1) (bus + length l) ls leaves) split (levels-length sizes leaves (level + 1) (bus + length l) (sum l) ls under.1 count)
        (levels_wide (level + 1) (bus + length l) (sum l) ls leaves (drop_behind bus widths l (flat ls) split) under.1 count each)

    -- over leaves
    pub kids_wide : (level bus c : ℕ) (ls : List (List ℕ)) (vs : List LeafValue) → drop bus widths ≡ flat ls → AreUnder c ls → length (map leaf_node vs) ≡ leaf_total c ls → HaveWidths (nodes (under_levels sizes level bus ls (map leaf_node vs)))
    kids_wide level bus c ls vs are under count = each_have _ (levels_wide level bus c ls (map leaf_node vs) are under count (leaves_wide vs))

  -- ---- what is read of a bus

  module _ (b : ℕ) where
    abbrev kid_count : Where → Node → ℕ
    kid_count = of_dir (λ w d ns. length ns) 0

    mutual
      pub width_read : (w : Where) (n : Node) (count : ℕ) → HasWidths n → read_in (bus_of_number b) kid_count w n ≡ Some count → slice_get widths b ≡ Some count
      width_read w (leaf_node v) count h e = cc
      width_read w (dir_node d ns) count h e =
          elim (nat_eq d.bus b) as (λ own. nat_eq d.bus b ≡ own → cond own (Some (length (children ns))) (read_among (bus_of_number b) kid_count (where_path w) d 0 ns) ≡ Some count → slice_get widths b ≡ Some count) [
            | true ↦ λ is e. ap (slice_get widths) (sym (eqb-true d.bus b is)) ∙ h.0 ∙ e
            | false ↦ λ is e. width_read_among (where_path w) d 0 ns count h.1 e
          ] refl e

      width_read_among : (path : List ℕ) (d : DirValue) (i : ℕ) (ns : Nodes) (count : ℕ) → HaveWidths ns → read_among (bus_of_number b) kid_count path d i ns ≡ Some count → slice_get widths b ≡ Some count
      width_read_among path d i no_nodes count h e = cc
      width_read_among path d i (more_nodes n ns) count h e =
          elim (has_node (bus_of_number b) n) as (λ here. cond here (read_in (bus_of_number b) kid_count (at_child (spot_in path d i)) n) (read_among (bus_of_number b) kid_count path d (i + 1) ns) ≡ Some count → slice_get widths b ≡ Some count) [
            | true ↦ λ e. width_read (at_child (spot_in path d i)) n count h.0 e
            | false ↦ λ e. width_read_among path d (i + 1) ns count h.1 e
          ] e
