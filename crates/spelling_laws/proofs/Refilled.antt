-- A tree whose leaves and directories were put in by their numbers: what is asked of it by number is what was put in.
-- Letters: n is a node, ns are nodes, w is where one stands, v a leaf, d a directory.
use Rattle.std.specs.Prelude.{◌≡◌, ℕ, ◌+◌, ◌<◌, Bool, true, false, nat_eq, ◌||◌, List, [], ◌∷◌, ◌++◌, length, map, Option, Some, None, option_map, is_some, slice_index_or, refl, if◌then◌else◌}
use Rattle.std.specs.List.{AllByRecursion}
use Rattle.std.proofs.Common.{ap, sym, ◌∙◌, subst, arith, append_assoc, length-append, true≢false}
use Rattle.std.proofs.lemmas.List.{get_or_at}
use Rattle.std.proofs.lemmas.Bool.{eqb-true, ltb-true, and_parts}
use Rattle.spelling_laws.specs.TreeModel.State.Values.{LeafValue, DirValue, Node, Nodes, leaf_node, dir_node, no_nodes, more_nodes, children, MachineValue, root_of}
use Rattle.spelling_laws.specs.TreeModel.State.Place.{Where, at_top, at_child, where_path, spot_in}
use Rattle.spelling_laws.specs.TreeModel.State.Shape.{IsShaped, skeleton, skeletons, leaf_numbers_of, leaf_numbers_among, count_from, leaves_numbered}
use Rattle.spelling_laws.specs.TreeModel.Turns.Tree.{Name, bus_of_number, is_named, has_node, has_among, read_in, read_among, of_dir}
use Rattle.spelling_laws.specs.TreeModel.Turns.Machine.{ask_bus, leaves_of, leaves_among, machine_leaves}
use Rattle.spelling_laws.proofs.TreeModel.NamedNode.{read_in-is_some}
use Rattle.spelling_laws.specs.StateReading.Machine.{refilled, refilled_among}
use Rattle.state_judging.specs.Read.{ways_exist, ways_exist_among}
use Rattle.state_judging.proofs.BusNumbers.{numbered-bus, buses-counted}

abbrev pub number_of : LeafValue → ℕ
number_of v = v.number

-- ---- what was read of a named node

module _ (name : Name) {A B : Type 0} where
  module _ (f : Where → Node → A) (g : Where → Node → B) (h : A → B) (same : (w : Where) (n : Node) → g w n ≡ h (f w n)) where
    mutual
      pub read-mapped : (w : Where) (n : Node) → read_in name g w n ≡ option_map h (read_in name f w n)
      read-mapped w (leaf_node v) = mapped-if (is_named name (leaf_node v)) (same w (leaf_node v))
        where
          mapped-if : (b : Bool) → g w (leaf_node v) ≡ h (f w (leaf_node v)) → (if b then Some (g w (leaf_node v)) else None) ≡ option_map h (if b then Some (f w (leaf_node v)) else None)
          mapped-if true e = ap (λ b. Some b) e
          mapped-if false e = refl
      read-mapped w (dir_node d ns) =
          elim (is_named name (dir_node d ns)) as (λ b. (if b then Some (g w (dir_node d ns)) else read_among name g (where_path w) d 0 ns) ≡ option_map h (if b then Some (f w (dir_node d ns)) else read_among name f (where_path w) d 0 ns)) [
            | true ↦ ap (λ b. Some b) (same w (dir_node d ns))
            | false ↦ read_among-mapped (where_path w) d 0 ns
          ]

      pub read_among-mapped : (path : List ℕ) (d : DirValue) (i : ℕ) (ns : Nodes) → read_among name g path d i ns ≡ option_map h (read_among name f path d i ns)
      read_among-mapped path d i no_nodes = refl
      read_among-mapped path d i (more_nodes n ns) =
          elim (has_node name n) as (λ b. (if b then read_in name g (at_child (spot_in path d i)) n else read_among name g path d (i + 1) ns) ≡ option_map h (if b then read_in name f (at_child (spot_in path d i)) n else read_among name f path d (i + 1) ns)) [
            | true ↦ read-mapped (at_child (spot_in path d i)) n
            | false ↦ read_among-mapped path d (i + 1) ns
          ]

module _ (name : Name) {A : Type 0} (f : Where → Node → A) (P : A → Type 0) (holds : (w : Where) (n : Node) → is_named name n ≡ true → P (f w n)) where
  mutual
    -- what holds of each node of this name holds of what was read
    pub read-holds : (w : Where) (n : Node) (a : A) → read_in name f w n ≡ Some a → P a
    read-holds w (leaf_node v) a e =
        elim (is_named name (leaf_node v)) as (λ b. is_named name (leaf_node v) ≡ b → (if b then Some (f w (leaf_node v)) else None) ≡ Some a → P a) [
          | true ↦ λ is e. let same : f w (leaf_node v) ≡ a = cc in subst P same (holds w (leaf_node v) is)
          | false ↦ λ is e. cc
        ] refl e
    read-holds w (dir_node d ns) a e =
        elim (is_named name (dir_node d ns)) as (λ b. is_named name (dir_node d ns) ≡ b → (if b then Some (f w (dir_node d ns)) else read_among name f (where_path w) d 0 ns) ≡ Some a → P a) [
          | true ↦ λ is e. let same : f w (dir_node d ns) ≡ a = cc in subst P same (holds w (dir_node d ns) is)
          | false ↦ λ is e. read_among-holds (where_path w) d 0 ns a e
        ] refl e

    read_among-holds : (path : List ℕ) (d : DirValue) (i : ℕ) (ns : Nodes) (a : A) → read_among name f path d i ns ≡ Some a → P a
    read_among-holds path d i no_nodes a e = cc
    read_among-holds path d i (more_nodes n ns) a e =
        elim (has_node name n) as (λ b. (if b then read_in name f (at_child (spot_in path d i)) n else read_among name f path d (i + 1) ns) ≡ Some a → P a) [
          | true ↦ λ e. read-holds (at_child (spot_in path d i)) n a e
          | false ↦ λ e. read_among-holds path d (i + 1) ns a e
        ] e

-- ---- the bus of a number

abbrev pub DirOver : Type 0
DirOver = DirValue × ℕ

-- the directory over it, and how many children it has
abbrev pub bus_asked : ℕ → MachineValue → Option DirOver
bus_asked bus m = ask_bus bus (λ w d ns. (d, length ns)) (m.top, 0) m

dir-named : (bus : ℕ) (o : DirOver) (w : Where) (n : Node) → is_named (bus_of_number bus) n ≡ true → (of_dir (λ w d ns. (d, length ns)) o w n).0.bus ≡ bus
dir-named bus o w (leaf_node v) e = absurd (true≢false (sym e))
dir-named bus o w (dir_node d ns) e = eqb-true d.bus bus e

pub record BusThere (bus : ℕ) (m : MachineValue) : Type 0 where
  pub over : DirOver
  pub asked : bus_asked bus m ≡ Some over
  pub number : over.0.bus ≡ bus

pub bus-there : (m : MachineValue) (bus : ℕ) → IsShaped m → bus < length m.traffic → BusThere bus m
bus-there m bus shaped l =
    let some : is_some (bus_asked bus m) ≡ true = read_in-is_some (bus_of_number bus) (of_dir (λ w d ns. (d, length ns)) (m.top, 0)) at_top (root_of m) ∙ numbered-bus m bus shaped (omega (arith, l, buses-counted m shaped)) in
    elim (bus_asked bus m) as (λ o. bus_asked bus m ≡ o → is_some o ≡ true → BusThere bus m) [
      | Some over ↦ λ is some. record {
        over = over;
        asked = is;
        number = read-holds (bus_of_number bus) (of_dir (λ w d ns. (d, length ns)) (m.top, 0)) (λ o. o.0.bus ≡ bus) (dir-named bus (m.top, 0)) at_top (root_of m) over is;
      }
      | None ↦ λ is some. absurd (true≢false (sym some))
    ] refl some

-- ---- a tree that was filled

module _ (leaves : List LeafValue) (dirs : List DirValue) where
  abbrev pub leaf_put : LeafValue → LeafValue
  leaf_put v = slice_index_or leaves v.number v

  abbrev pub dir_put : DirValue → DirValue
  dir_put d = slice_index_or dirs d.bus d

  mutual
    pub leaves-put : (n : Node) (rest : List LeafValue) → leaves_of (refilled leaves dirs n) (map leaf_put rest) ≡ map leaf_put (leaves_of n rest)
    leaves-put (leaf_node v) rest = refl
    leaves-put (dir_node d ns) rest = leaves_among-put ns rest

    pub leaves_among-put : (ns : Nodes) (rest : List LeafValue) → leaves_among (refilled_among leaves dirs ns) (map leaf_put rest) ≡ map leaf_put (leaves_among ns rest)
    leaves_among-put no_nodes rest = refl
    leaves_among-put (more_nodes n ns) rest = ap (leaves_of (refilled leaves dirs n)) (leaves_among-put ns rest) ∙ leaves-put n (leaves_among ns rest)

  module _ (keeps : (d : DirValue) → (dir_put d).bus ≡ d.bus) (bus : ℕ) where
    same-name : (d : DirValue) → nat_eq (dir_put d).bus bus ≡ nat_eq d.bus bus
    same-name d = ap (λ b. nat_eq b bus) (keeps d)

    mutual
      pub has-put : (n : Node) → has_node (bus_of_number bus) (refilled leaves dirs n) ≡ has_node (bus_of_number bus) n
      has-put (leaf_node v) = refl
      has-put (dir_node d ns) = ap (λ b. b || has_among (bus_of_number bus) (refilled_among leaves dirs ns)) (same-name d) ∙ ap (λ b. nat_eq d.bus bus || b) (has_among-put ns)

      pub has_among-put : (ns : Nodes) → has_among (bus_of_number bus) (refilled_among leaves dirs ns) ≡ has_among (bus_of_number bus) ns
      has_among-put no_nodes = refl
      has_among-put (more_nodes n ns) = ap (λ b. b || has_among (bus_of_number bus) (refilled_among leaves dirs ns)) (has-put n) ∙ ap (λ b. has_node (bus_of_number bus) n || b) (has_among-put ns)

    module _ {A : Type 0} (f : DirValue → A) (other : A) (o : DirOver) where
      abbrev put : DirOver → A
      put over = f (dir_put over.0)

      abbrev of_filled : Where → Node → A
      of_filled = of_dir (λ w d ns. f d) other

      abbrev of_empty : Where → Node → DirOver
      of_empty = of_dir (λ w d ns. (d, length ns)) o

      mutual
        pub read-put : (w u : Where) (n : Node) → read_in (bus_of_number bus) of_filled w (refilled leaves dirs n) ≡ option_map put (read_in (bus_of_number bus) of_empty u n)
        read-put w u (leaf_node v) = refl
        read-put w u (dir_node d ns) =
            let below = read_among-put (where_path w) (where_path u) (dir_put d) d 0 0 ns in
            ap (λ b. if b then Some (f (dir_put d)) else read_among (bus_of_number bus) of_filled (where_path w) (dir_put d) 0 (refilled_among leaves dirs ns)) (same-name d)
            ∙ (elim (nat_eq d.bus bus) as (λ b. (if b then Some (f (dir_put d)) else read_among (bus_of_number bus) of_filled (where_path w) (dir_put d) 0 (refilled_among leaves dirs ns)) ≡ option_map put (if b then Some (d, length (children ns)) else read_among (bus_of_number bus) of_empty (where_path u) d 0 ns)) [
              | true ↦ refl
              | false ↦ below
            ])

        pub read_among-put : (path other_path : List ℕ) (d e : DirValue) (i j : ℕ) (ns : Nodes) → read_among (bus_of_number bus) of_filled path d i (refilled_among leaves dirs ns) ≡ option_map put (read_among (bus_of_number bus) of_empty other_path e j ns)
        read_among-put path other_path d e i j no_nodes = refl
        read_among-put path other_path d e i j (more_nodes n ns) =
            let here = read-put (at_child (spot_in path d i)) (at_child (spot_in other_path e j)) n in
            let later = read_among-put path other_path d e (i + 1) (j + 1) ns in
            ap (λ b. if b then read_in (bus_of_number bus) of_filled (at_child (spot_in path d i)) (refilled leaves dirs n) else read_among (bus_of_number bus) of_filled path d (i + 1) (refilled_among leaves dirs ns)) (has-put n)
            ∙ (elim (has_node (bus_of_number bus) n) as (λ b. (if b then read_in (bus_of_number bus) of_filled (at_child (spot_in path d i)) (refilled leaves dirs n) else read_among (bus_of_number bus) of_filled path d (i + 1) (refilled_among leaves dirs ns))
            ≡ option_map put (if b then read_in (bus_of_number bus) of_empty (at_child (spot_in other_path e j)) n else read_among (bus_of_number bus) of_empty other_path e (j + 1) ns)) [
              | true ↦ here
              | false ↦ later
            ])

-- ---- the leaves of a tree

mutual
  pub numbers-in : (n : Node) (rest : List LeafValue) → leaf_numbers_of (skeleton n) (map number_of rest) ≡ map number_of (leaves_of n rest)
  numbers-in (leaf_node v) rest = refl
  numbers-in (dir_node d ns) rest = numbers-among ns rest

  pub numbers-among : (ns : Nodes) (rest : List LeafValue) → leaf_numbers_among (skeletons ns) (map number_of rest) ≡ map number_of (leaves_among ns rest)
  numbers-among no_nodes rest = refl
  numbers-among (more_nodes n ns) rest = ap (leaf_numbers_of (skeleton n)) (numbers-among ns rest) ∙ numbers-in n (leaves_among ns rest)

pub leaves-counted : (m : MachineValue) → IsShaped m → count_from 0 (map number_of (machine_leaves m)) ≡ true
leaves-counted m shaped = ap (count_from 0) (sym (numbers-in (root_of m) [])) ∙ shaped.each leaves_numbered

-- as many leaves as there are numbers stand at their numbers
pub all-put : (before leaves : List LeafValue) (vs : List LeafValue) (j : ℕ) → length before ≡ j → length leaves ≡ length vs → count_from j (map number_of vs) ≡ true → map (λ v. slice_index_or (before ++ leaves) v.number v) vs ≡ leaves
all-put before [] [] j size same counted = refl
all-put before (l ∷ leaves) [] j size same counted = absurd (omega (arith, same))
all-put before [] (v ∷ vs) j size same counted = absurd (omega (arith, same))
all-put before (l ∷ leaves) (v ∷ vs) j size same counted =
    let p = and_parts (nat_eq v.number j) (count_from (j + 1) (map number_of vs)) counted in
    let number : length before ≡ v.number = size ∙ sym (eqb-true v.number j p.0) in
    let here : slice_index_or (before ++ l ∷ leaves) v.number v ≡ l = get_or_at before l leaves v v.number number in
    let size_more : length (before ++ l ∷ []) ≡ j + 1 = omega (arith, size, length-append before (l ∷ [])) in
    let rest = all-put (before ++ l ∷ []) leaves vs (j + 1) size_more (omega (arith, same)) p.1 in
    ap (λ x. x ∷ map (λ v. slice_index_or (before ++ l ∷ leaves) v.number v) vs) here ∙ ap (λ xs. l ∷ xs) (ap (λ xs. map (λ v. slice_index_or xs v.number v) vs) (sym (append_assoc before (l ∷ []) leaves)) ∙ rest)

-- each leaf has a set
abbrev pub HasSets : LeafValue → Type 0
HasSets v = 0 < v.sizes.sets

mutual
  pub sets-there : (n : Node) (rest : List LeafValue) → ways_exist (skeleton n) ≡ true → AllByRecursion HasSets rest → AllByRecursion HasSets (leaves_of n rest)
  sets-there (leaf_node v) rest e all = (ltb-true 0 v.sizes.sets ((and_parts _ _ e).0), all)
  sets-there (dir_node d ns) rest e all = sets-among ns rest e all

  pub sets-among : (ns : Nodes) (rest : List LeafValue) → ways_exist_among (skeletons ns) ≡ true → AllByRecursion HasSets rest → AllByRecursion HasSets (leaves_among ns rest)
  sets-among no_nodes rest e all = all
  sets-among (more_nodes n ns) rest e all =
      let p = and_parts (ways_exist (skeleton n)) (ways_exist_among (skeletons ns)) e in
      sets-there n (leaves_among ns rest) p.0 (sets-among ns rest p.1 all)
