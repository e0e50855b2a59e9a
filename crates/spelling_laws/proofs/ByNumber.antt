-- The leaves and directories of a tree as lists: each one is found by its number, and what holds of each in the list holds of each in the
-- tree.
-- Letters: n is a node, ns are nodes, o is a directory with the number of its children.
use Rattle.std.specs.Prelude.{◌≡◌, ℕ, zero, suc, ◌+◌, ◌<◌, Bool, true, false, not, nat_eq, nat_lt, List, [], ◌∷◌, ◌++◌, length, map, find, Option, Some, None, is_some, slice_index_or, refl, if◌then◌else◌}
use Rattle.std.specs.List.{AllByRecursion, list_any, range_with_len}
use Rattle.std.proofs.Common.{ap, sym, ◌∙◌, subst, arith, append_assoc, length-append, cond}
use Rattle.std.proofs.lemmas.List.{get_or_at, ext_get_or}
use Rattle.std.proofs.lemmas.Bool.{eqb-true, eq-eqb, ltb-true, and_parts, or_parts, not-true}
use Rattle.spelling_laws.specs.TreeModel.State.Lists.{first_some}
use Rattle.spelling_laws.specs.TreeModel.State.Values.{LeafValue, DirValue, Node, Nodes, leaf_node, dir_node, no_nodes, more_nodes, children, MachineValue, root_of}
use Rattle.spelling_laws.specs.TreeModel.State.Place.{Where, at_top, at_child, where_path, spot_in}
use Rattle.spelling_laws.specs.TreeModel.State.Shape.{IsShaped, skeleton, skeletons, buses_of, buses_among, are_distinct, are_below, count_from, buses_differ, traffic_counted}
use Rattle.spelling_laws.specs.TreeModel.Turns.Tree.{bus_of_number, has_node, of_dir, read_in, read_among}
use Rattle.spelling_laws.specs.TreeModel.Turns.Machine.{leaves_of, leaves_among, machine_leaves}
use Rattle.spelling_laws.proofs.TreeModel.NamedNode.{read_in-is_some}
use Rattle.spelling_laws.proofs.Refilled.{DirOver, bus_asked, number_of, leaves-counted}

abbrev pub over_bus : DirOver → ℕ
over_bus o = o.0.bus

abbrev mutual
  -- the directories of a part of the tree, each before those below it, before others
  pub dirs_of : Node → List DirOver → List DirOver
  dirs_of (leaf_node v) rest = rest
  dirs_of (dir_node d ns) rest = (d, length (children ns)) ∷ dirs_among ns rest

  pub dirs_among : Nodes → List DirOver → List DirOver
  dirs_among no_nodes rest = rest
  dirs_among (more_nodes n ns) rest = dirs_of n (dirs_among ns rest)

abbrev pub machine_dirs : MachineValue → List DirOver
machine_dirs m = dirs_of (root_of m) []

-- ---- the directory over a bus is the first one that has its number

module _ (other : DirOver) (k : ℕ) where
  abbrev named : List DirOver → Option DirOver
  named os = find (λ o. nat_eq o.0.bus k) os

  abbrev read : Where → Node → DirOver
  read = of_dir (λ w d ns. (d, length ns)) other

  part-first : (b : Bool) (here there rest : Option DirOver) → is_some here ≡ b → first_some here (first_some there rest) ≡ first_some (if b then here else there) rest
  part-first true None there rest e = cc
  part-first true (Some a) there rest e = refl
  part-first false None there rest e = refl
  part-first false (Some a) there rest e = cc

  own-first : (b : Bool) (o : DirOver) (below rest : Option DirOver) → cond b (Some o) (first_some below rest) ≡ first_some (if b then Some o else below) rest
  own-first true o below rest = refl
  own-first false o below rest = refl

  mutual
    named-in : (w : Where) (n : Node) (rest : List DirOver) → named (dirs_of n rest) ≡ first_some (read_in (bus_of_number k) read w n) (named rest)
    named-in w (leaf_node v) rest = refl
    named-in w (dir_node d ns) rest =
        let below = named-among (where_path w) d 0 ns rest in
        ap (λ r. cond (nat_eq d.bus k) (Some (d, length (children ns))) r) below ∙ own-first (nat_eq d.bus k) (d, length (children ns)) (read_among (bus_of_number k) read (where_path w) d 0 ns) (named rest)

    named-among : (path : List ℕ) (d : DirValue) (i : ℕ) (ns : Nodes) (rest : List DirOver) → named (dirs_among ns rest) ≡ first_some (read_among (bus_of_number k) read path d i ns) (named rest)
    named-among path d i no_nodes rest = refl
    named-among path d i (more_nodes n ns) rest =
        let w = at_child (spot_in path d i) in
        named-in w n (dirs_among ns rest) ∙ ap (first_some (read_in (bus_of_number k) read w n)) (named-among path d (i + 1) ns rest)
        ∙ part-first (has_node (bus_of_number k) n) (read_in (bus_of_number k) read w n) (read_among (bus_of_number k) read path d (i + 1) ns) (named rest) (read_in-is_some (bus_of_number k) read w n)

or-none : (o : Option DirOver) → first_some o None ≡ o
or-none None = refl
or-none (Some a) = refl

asked-named : (m : MachineValue) (k : ℕ) → find (λ o. nat_eq o.0.bus k) (machine_dirs m) ≡ bus_asked k m
asked-named m k = named-in (m.top, 0) k at_top (root_of m) [] ∙ or-none (bus_asked k m)

-- ---- their numbers

mutual
  buses-in : (n : Node) (rest : List DirOver) → buses_of (skeleton n) (map over_bus rest) ≡ map over_bus (dirs_of n rest)
  buses-in (leaf_node v) rest = refl
  buses-in (dir_node d ns) rest = ap (λ l. d.bus ∷ l) (buses-among ns rest)

  buses-among : (ns : Nodes) (rest : List DirOver) → buses_among (skeletons ns) (map over_bus rest) ≡ map over_bus (dirs_among ns rest)
  buses-among no_nodes rest = refl
  buses-among (more_nodes n ns) rest = ap (buses_of (skeleton n)) (buses-among ns rest) ∙ buses-in n (dirs_among ns rest)

found-behind : (before : List DirOver) (o : DirOver) (after : List DirOver) → are_distinct (map over_bus (before ++ o ∷ after)) ≡ true → find (λ p. nat_eq p.0.bus o.0.bus) (before ++ o ∷ after) ≡ Some o
found-behind [] o after differ = ap (λ b. cond b (Some o) (find (λ p. nat_eq p.0.bus o.0.bus) after)) (eq-eqb o.0.bus o.0.bus refl)
found-behind (b ∷ before) o after differ =
    let p = and_parts (not (list_any (nat_eq b.0.bus) (map over_bus (before ++ o ∷ after)))) (are_distinct (map over_bus (before ++ o ∷ after))) differ in
    ap (λ t. cond t (Some b) (find (λ p. nat_eq p.0.bus o.0.bus) (before ++ o ∷ after))) (among before (not-true _ p.0)) ∙ found-behind before o after p.1
  where
    among : (before : List DirOver) → list_any (nat_eq b.0.bus) (map over_bus (before ++ o ∷ after)) ≡ false → nat_eq b.0.bus o.0.bus ≡ false
    among [] none = (or_parts (nat_eq b.0.bus o.0.bus) (list_any (nat_eq b.0.bus) (map over_bus after)) none).0
    among (c ∷ before) none = among before ((or_parts (nat_eq b.0.bus c.0.bus) (list_any (nat_eq b.0.bus) (map over_bus (before ++ o ∷ after))) none).1)

-- it is found by its number, of which there is one below the bound
pub record DirFound (m : MachineValue) (o : DirOver) : Type 0 where
  pub asked : bus_asked o.0.bus m ≡ Some o
  pub below : o.0.bus < length m.traffic

dirs-found : (m : MachineValue) (before after : List DirOver) → before ++ after ≡ machine_dirs m → are_distinct (map over_bus (machine_dirs m)) ≡ true → are_below (length m.traffic) (map over_bus after) ≡ true → AllByRecursion (DirFound m) after
dirs-found m before [] is differ below = tt
dirs-found m before (o ∷ after) is differ below =
    let p = and_parts (nat_lt o.0.bus (length m.traffic)) (are_below (length m.traffic) (map over_bus after)) below in
    let found = found-behind before o after (subst (λ l. are_distinct (map over_bus l) ≡ true) (sym is) differ) in (
      record { asked = sym (asked-named m o.0.bus) ∙ subst (λ l. find (λ p. nat_eq p.0.bus o.0.bus) l ≡ Some o) is found; below = ltb-true o.0.bus (length m.traffic) p.0 },
      dirs-found m (before ++ o ∷ []) after (append_assoc before (o ∷ []) after ∙ is) differ p.1,
    )

pub all-dirs-found : (m : MachineValue) → IsShaped m → AllByRecursion (DirFound m) (machine_dirs m)
all-dirs-found m shaped =
    let same = buses-in (root_of m) [] in
    let counted = and_parts (nat_eq (length (buses_of (skeleton (root_of m)) [])) (length m.traffic)) (are_below (length m.traffic) (buses_of (skeleton (root_of m)) [])) (shaped.each traffic_counted) in
    dirs-found m [] (machine_dirs m) refl (ap are_distinct (sym same) ∙ shaped.each buses_differ) (ap (are_below (length m.traffic)) (sym same) ∙ counted.1)

-- ---- leaves

-- it stands at its number
abbrev pub IsPlaced : MachineValue → LeafValue → Type 0
IsPlaced m v = (d : LeafValue) → slice_index_or (machine_leaves m) v.number d ≡ v

leaves-placed : (m : MachineValue) (before after : List LeafValue) (j : ℕ) → length before ≡ j → before ++ after ≡ machine_leaves m → count_from j (map number_of after) ≡ true → AllByRecursion (IsPlaced m) after
leaves-placed m before [] j size is counted = tt
leaves-placed m before (v ∷ after) j size is counted =
    let p = and_parts (nat_eq v.number j) (count_from (j + 1) (map number_of after)) counted in
    let at : length before ≡ v.number = size ∙ sym (eqb-true v.number j p.0) in (
      (λ d. subst (λ l. slice_index_or l v.number d ≡ v) is (get_or_at before v after d v.number at)),
      leaves-placed m (before ++ v ∷ []) after (j + 1) (omega (arith, size, length-append before (v ∷ []))) (append_assoc before (v ∷ []) after ∙ is) p.1,
    )

pub all-leaves-placed : (m : MachineValue) → IsShaped m → AllByRecursion (IsPlaced m) (machine_leaves m)
all-leaves-placed m shaped = leaves-placed m [] (machine_leaves m) 0 refl refl (leaves-counted m shaped)

-- ---- from lists to the tree

module _ (P : LeafValue → Type 0) (Q : DirOver → Type 0) where
  abbrev mutual
    pub AllParts : Node → Type 0
    AllParts (leaf_node v) = P v
    AllParts (dir_node d ns) = Q (d, length (children ns)) × AllPartsAmong ns

    pub AllPartsAmong : Nodes → Type 0
    AllPartsAmong no_nodes = Unit {0}
    AllPartsAmong (more_nodes n ns) = AllParts n × AllPartsAmong ns

  mutual
    pub parts-from : (n : Node) (vs : List LeafValue) (os : List DirOver) → AllByRecursion P (leaves_of n vs) → AllByRecursion Q (dirs_of n os) → AllParts n × AllByRecursion P vs × AllByRecursion Q os
    parts-from (leaf_node v) vs os leaves dirs = (leaves.0, leaves.1, dirs)
    parts-from (dir_node d ns) vs os leaves dirs =
        let below = parts-among ns vs os leaves dirs.1 in
        ((dirs.0, below.0), below.1, below.2)

    pub parts-among : (ns : Nodes) (vs : List LeafValue) (os : List DirOver) → AllByRecursion P (leaves_among ns vs) → AllByRecursion Q (dirs_among ns os) → AllPartsAmong ns × AllByRecursion P vs × AllByRecursion Q os
    parts-among no_nodes vs os leaves dirs = (tt, leaves, dirs)
    parts-among (more_nodes n ns) vs os leaves dirs =
        let first = parts-from n (leaves_among ns vs) (dirs_among ns os) leaves dirs in
        let more = parts-among ns vs os first.1 first.2 in
        ((first.0, more.0), more.1, more.2)

  -- what holds of each part holds of a directory that was read
  module _ (k : ℕ) (other : DirOver) where
    mutual
      pub asked-has : (w : Where) (n : Node) (o : DirOver) → AllParts n → read_in (bus_of_number k) (of_dir (λ w d ns. (d, length ns)) other) w n ≡ Some o → Q o
      asked-has w (leaf_node v) o all e = cc
      asked-has w (dir_node d ns) o all e =
          elim (nat_eq d.bus k) as (λ b. (if b then Some (d, length (children ns)) else read_among (bus_of_number k) (of_dir (λ w d ns. (d, length ns)) other) (where_path w) d 0 ns) ≡ Some o → Q o) [
            | true ↦ λ e. let same : (d, length (children ns)) ≡ o = cc in subst Q same all.0
            | false ↦ λ e. asked-among (where_path w) d 0 ns o all.1 e
          ] e

      pub asked-among : (path : List ℕ) (d : DirValue) (i : ℕ) (ns : Nodes) (o : DirOver) → AllPartsAmong ns → read_among (bus_of_number k) (of_dir (λ w d ns. (d, length ns)) other) path d i ns ≡ Some o → Q o
      asked-among path d i no_nodes o all e = cc
      asked-among path d i (more_nodes n ns) o all e =
          elim (has_node (bus_of_number k) n) as (λ b. (if b then read_in (bus_of_number k) (of_dir (λ w d ns. (d, length ns)) other) (at_child (spot_in path d i)) n else read_among (bus_of_number k) (of_dir (λ w d ns. (d, length ns)) other) path d (i + 1) ns) ≡ Some o → Q o) [
            | true ↦ λ e. asked-has (at_child (spot_in path d i)) n o all.0 e
            | false ↦ λ e. asked-among path d (i + 1) ns o all.1 e
          ] e

-- ---- lists along a range

module _ {X : Type 0} (f : ℕ → X) where
  pub range-at : (start count i : ℕ) (d : X) → i < count → slice_index_or (map f (range_with_len start count)) i d ≡ f (start + i)
  range-at start zero i d inside = absurd (omega (arith, inside))
  range-at start (suc count) zero d inside = let at : start ≡ start + 0 = omega arith in ap f at
  range-at start (suc count) (suc i) d inside =
      let at : start + 1 + i ≡ start + suc i = omega arith in
      range-at (start + 1) count i d (omega (arith, inside)) ∙ ap f at

  pub range-many : (start count : ℕ) → length (map f (range_with_len start count)) ≡ count
  range-many start zero = refl
  range-many start (suc count) = omega (arith, range-many (start + 1) count)

pub range-all : {X : Type 0} (d : X) (xs : List X) → map (λ i. slice_index_or xs i d) (range_with_len 0 (length xs)) ≡ xs
range-all d xs =
    let size = range-many (λ i. slice_index_or xs i d) 0 (length xs) in
    ext_get_or d (map (λ i. slice_index_or xs i d) (range_with_len 0 (length xs))) xs size (λ i l.
    let inside : i < length xs = omega (arith, l, size) in
    let at : 0 + i ≡ i = omega arith in
    range-at (λ i. slice_index_or xs i d) 0 (length xs) i d inside ∙ ap (λ j. slice_index_or xs j d) at)
