-- Each directory before the first turn knows how many buses are above its own: those of its level.
-- Letters: d is a directory, n a node, ns are nodes, l is the numbers of children of the buses of a level, w is where a node is.
use Rattle.std.proofs.Common.{◌≡◌, ℕ, zero, suc, ◌+◌, true, false, List, [], ◌∷◌, ◌++◌, length, take, drop, map, Some, refl, sym, ap, subst, ◌∙◌, add-one, add-zero, arith, cond}
use Rattle.std.specs.Prelude.{nat_eq, slice_get, slice_index, ⊤}
use Rattle.std.specs.List.{AllByRecursion}
use Rattle.std.proofs.lemmas.Bool.{eqb-true}
use Rattle.film_runs.specs.TreeModel.State.Values.{LeafValue, DirSizes, DirValue, Node, Nodes, leaf_node, dir_node, no_nodes, more_nodes, nodes, root_of}
use Rattle.film_runs.specs.TreeModel.State.Place.{Where, at_top, at_child, where_path, spot_in}
use Rattle.film_runs.specs.TreeModel.Start.Sources.{TreeValue, ImageValue, width_of}
use Rattle.film_runs.specs.TreeModel.Start.Nodes.{cut_in, dir_sizes, dirs_over, under_levels}
use Rattle.film_runs.specs.TreeModel.Start.Machine.{start_leaves, start_machine}
use Rattle.film_runs.specs.TreeModel.Turns.Machine.{ask_bus}
use Rattle.film_runs.specs.TreeModel.Turns.Tree.{bus_of_number, has_node, of_dir, read_in, read_among}
use Rattle.film_runs.specs.Levels.{bus_levels, levels_from}

-- ---- parts of a list

drop_cons : (k : ℕ) (xs : List ℕ) (x : ℕ) (rest : List ℕ) → drop k xs ≡ x ∷ rest → (slice_get xs k ≡ Some x) × (drop (suc k) xs ≡ rest)
drop_cons zero [] x rest e = absurd (cc e)
drop_cons zero (y ∷ ys) x rest e = (cc e, cc e)
drop_cons (suc k) [] x rest e = absurd (cc e)
drop_cons (suc k) (y ∷ ys) x rest e = drop_cons k ys x rest e

drop_behind : (above k : ℕ) (xs l rest : List ℕ) → drop k xs ≡ map (λ (width : ℕ). above) l ++ rest → drop (k + length l) xs ≡ rest
drop_behind above k xs [] rest e = ap (λ (n : ℕ). drop n xs) (add-zero k) ∙ e
drop_behind above k xs (x ∷ l) rest e =
    let more : k + length (x ∷ l) ≡ suc k + length l = omega arith in
    ap (λ (n : ℕ). drop n xs) more ∙ drop_behind above (suc k) xs l rest (drop_cons k xs above (map (λ (width : ℕ). above) l ++ rest) e).1

index_got : (xs : List ℕ) (k x : ℕ) → slice_get xs k ≡ Some x → slice_index xs k ≡ x
index_got [] k x e = cc
index_got (y ∷ ys) zero x e = cc
index_got (y ∷ ys) (suc k) x e = index_got ys k x e

-- ---- a part of the tree whose directories know this

module _ (levels : List ℕ) where
  abbrev mutual
    HasLevels : Node → Type 0
    HasLevels (leaf_node v) = ⊤
    HasLevels (dir_node d ns) = (slice_get levels d.bus ≡ Some d.level) × HaveLevels ns

    HaveLevels : Nodes → Type 0
    HaveLevels no_nodes = ⊤
    HaveLevels (more_nodes n ns) = HasLevels n × HaveLevels ns

  each_have : (ns : List Node) → AllByRecursion HasLevels ns → HaveLevels (nodes ns)
  each_have [] h = tt
  each_have (n ∷ ns) h = (h.0, each_have ns h.1)

  each_take : (k : ℕ) (ns : List Node) → AllByRecursion HasLevels ns → AllByRecursion HasLevels (take k ns)
  each_take zero ns h = tt
  each_take (suc k) [] h = tt
  each_take (suc k) (n ∷ ns) h = (h.0, each_take k ns h.1)

  each_drop : (k : ℕ) (ns : List Node) → AllByRecursion HasLevels ns → AllByRecursion HasLevels (drop k ns)
  each_drop zero ns h = h
  each_drop (suc k) [] h = tt
  each_drop (suc k) (n ∷ ns) h = each_drop k ns h.1

  leaves_have : (vs : List LeafValue) → AllByRecursion HasLevels (map leaf_node vs)
  leaves_have [] = tt
  leaves_have (v ∷ vs) = (tt, leaves_have vs)

  module _ (sizes : DirSizes) where
    dirs_have : (above bus : ℕ) (l rest : List ℕ) (ns : List Node) → drop bus levels ≡ map (λ (width : ℕ). above) l ++ rest → AllByRecursion HasLevels ns → AllByRecursion HasLevels (dirs_over sizes above bus (cut_in l ns))
    dirs_have above bus [] rest ns are each = tt
    dirs_have above bus (k ∷ l) rest ns are each =
        let parts = drop_cons bus levels above (map (λ (width : ℕ). above) l ++ rest) are in (
          (parts.0, each_have (take k ns) (each_take k ns each)),
          dirs_have above (bus + 1) l rest (drop k ns) (ap (λ (n : ℕ). drop n levels) (add-one bus) ∙ parts.1) (each_drop k ns each),
        )

    levels_have : (above bus : ℕ) (ls : List (List ℕ)) (leaves : List Node) → drop bus levels ≡ levels_from above ls → AllByRecursion HasLevels leaves → AllByRecursion HasLevels (under_levels sizes above bus ls leaves)
    levels_have above bus [] leaves are each = each
    levels_have above bus (l ∷ ls) leaves are each =
        dirs_have above bus l (levels_from (above + 1) ls) (under_levels sizes (above + 1) (bus + length l) ls leaves) are
        (levels_have (above + 1) (bus + length l) ls leaves (drop_behind above bus levels l (levels_from (above + 1) ls) are) each)

    kids_have : (ls : List (List ℕ)) (vs : List LeafValue) → drop 1 levels ≡ levels_from 1 ls → HaveLevels (nodes (under_levels sizes 1 1 ls (map leaf_node vs)))
    kids_have ls vs are = each_have _ (levels_have 1 1 ls (map leaf_node vs) are (leaves_have vs))

  -- ---- what is read of a bus

  module _ (bus : ℕ) where
    abbrev level_of : Where → Node → ℕ
    level_of = of_dir (λ w d ns. d.level) 0

    mutual
      level_read : (w : Where) (n : Node) (level : ℕ) → HasLevels n → read_in (bus_of_number bus) level_of w n ≡ Some level → slice_get levels bus ≡ Some level
      level_read w (leaf_node v) level h e = cc
      level_read w (dir_node d ns) level h e =
          elim (nat_eq d.bus bus) as (λ own. nat_eq d.bus bus ≡ own → cond own (Some d.level) (read_among (bus_of_number bus) level_of (where_path w) d 0 ns) ≡ Some level → slice_get levels bus ≡ Some level) [
            | true ↦ λ is e. ap (slice_get levels) (sym (eqb-true d.bus bus is)) ∙ h.0 ∙ e
            | false ↦ λ is e. level_read_among (where_path w) d 0 ns level h.1 e
          ] refl e

      level_read_among : (path : List ℕ) (d : DirValue) (i : ℕ) (ns : Nodes) (level : ℕ) → HaveLevels ns → read_among (bus_of_number bus) level_of path d i ns ≡ Some level → slice_get levels bus ≡ Some level
      level_read_among path d i no_nodes level h e = cc
      level_read_among path d i (more_nodes n ns) level h e =
          elim (has_node (bus_of_number bus) n) as (λ here. cond here (read_in (bus_of_number bus) level_of (at_child (spot_in path d i)) n) (read_among (bus_of_number bus) level_of path d (i + 1) ns) ≡ Some level → slice_get levels bus ≡ Some level) [
            | true ↦ λ e. level_read (at_child (spot_in path d i)) n level h.0 e
            | false ↦ λ e. level_read_among path d (i + 1) ns level h.1 e
          ] e

-- ---- the machine before its first turn

abbrev start_kids : TreeValue → ImageValue → List Node
start_kids t i = under_levels (dir_sizes t.sizes (width_of t)) 1 1 (drop 1 t.levels) (map leaf_node (start_leaves t i))

-- there is one bus at the top
abbrev pub IsOneBus : List (List ℕ) → Type 0
IsOneBus [] = ⊥
IsOneBus (l ∷ ls) = length l ≡ 1

start_kids_have : (t : TreeValue) (i : ImageValue) (l : List ℕ) (ls : List (List ℕ)) → t.levels ≡ l ∷ ls → bus_levels t ≡ 0 ∷ levels_from 1 ls → HaveLevels (bus_levels t) (nodes (start_kids t i))
start_kids_have t i l ls are levels =
    subst (λ (ks : List (List ℕ)). HaveLevels (bus_levels t) (nodes (under_levels (dir_sizes t.sizes (width_of t)) 1 1 ks (map leaf_node (start_leaves t i))))) (sym (ap (drop 1) are))
    (kids_have (bus_levels t) (dir_sizes t.sizes (width_of t)) ls (start_leaves t i) (ap (drop 1) levels))

start_has : (t : TreeValue) (i : ImageValue) → IsOneBus t.levels → HasLevels (bus_levels t) (root_of (start_machine t i))
unfolding start_machine
start_has t i = by t.levels refl where
  by : (ls : List (List ℕ)) → t.levels ≡ ls → IsOneBus ls → HasLevels (bus_levels t) (root_of (start_machine t i))
  by [] are one = absurd one
  by ([] ∷ ls) are one = absurd (omega (arith, one))
  by ((w ∷ []) ∷ ls) are one =
      let levels : bus_levels t ≡ 0 ∷ levels_from 1 ls = ap (levels_from 0) are in
      (rw levels refl, start_kids_have t i (w ∷ []) ls are levels)
  by ((w ∷ v ∷ l) ∷ ls) are one = absurd (omega (arith, one))

pub level_is : (t : TreeValue) (i : ImageValue) (bus level : ℕ) → IsOneBus t.levels → ask_bus bus (λ w d ns. d.level) 0 (start_machine t i) ≡ Some level → slice_index (bus_levels t) bus ≡ level
level_is t i bus level one is = index_got (bus_levels t) bus level (level_read (bus_levels t) bus at_top (root_of (start_machine t i)) level (start_has t i one) is)
