-- The stamps of the bus that a path leads to are broken just where those of the directory at the path's end aren't in order: no
-- other directory is over a bus of this number. The top keeps no stamps that could be broken.
-- Letters: c is where a node hangs, n a node, d a directory over the nodes ns, b the number of a bus.
use Rattle.std.proofs.Common.{◌≡◌, ℕ, ◌+◌, Bool, true, false, true≢false, not, ◌&&◌, ◌||◌, nat_eq, List, [], length, ◌<◌, arith, Option, Some, None, refl, sym, ap, ◌∙◌, subst, if◌then◌else◌}
use Rattle.std.specs.List.{list_any, AllByRecursion}
use Rattle.std.proofs.lemmas.Bool.{and_parts, eqb-true}
use Rattle.std.proofs.lemmas.List.Folds.{list_any-append}
use Rattle.ddm_tree.specs.DdmTypes.Keys.{stamp_zero}
use Rattle.ddm_tree.specs.TreeModel.State.Values.{DirValue, Node, Nodes, leaf_node, dir_node, no_nodes, more_nodes, MachineValue, root_of}
use Rattle.ddm_tree.specs.TreeModel.State.Place.{Spot, Where, at_top, at_child, stamp_above, spot_path, spot_in}
use Rattle.ddm_tree.specs.TreeModel.State.Shape.{IsShaped, skeleton, skeletons, buses_of, buses_among, are_distinct, buses_differ}
use Rattle.ddm_tree.specs.TreeModel.Turns.Tree.{bus_of_number, has_node, has_among, read_in, read_among}
use Rattle.ddm_tree.specs.TreeRules.Order.Places.{dirs_in, placed_dirs, dirs_at}
use Rattle.ddm_tree.proofs.OrderLists.Filters.{each-left, each-right}
use Rattle.ddm_tree.proofs.OrderLists.Levels.{IsLevelled, all_levelled}
use Rattle.state_judging.specs.Judged.{stamps_in_order, is_over, stamps_broken}
use Rattle.ddm_tree.specs.Path.{node_at, present_at}
use Rattle.ddm_tree.specs.Ready.{Leads}
use Rattle.ddm_tree.specs.Stamps.{node_stamps_fit}
use Rattle.ddm_tree.proofs.Along.{Along, along, where_end, where_end-present}
use Rattle.state_judging.proofs.EachBus.{numbered-among}
use Rattle.ddm_tree.proofs.StampsInOrder.{in_order-fits}

not-true : (t : Bool) → not t ≡ true → t ≡ false
not-true true e = absurd (true≢false (sym e))
not-true false e = refl

or-false : (s t : Bool) → (s || t) ≡ false → (s ≡ false) × (t ≡ false)
or-false true t e = absurd (true≢false e)
or-false false t e = (refl, e)

or-first : (s t : Bool) → s ≡ true → (s || t) ≡ true
or-first s t e = rw e refl

or-second : (t : Bool) → (t || true) ≡ true
or-second true = refl
or-second false = refl

-- what was read says that the stamps aren't in order
abbrev says_broken : Option Bool → Bool
says_broken None = false
says_broken (Some fit) = not fit

module _ (b : ℕ) where
  abbrev fits_at : Where → Node → Bool
  fits_at w n = node_stamps_fit (stamp_above w) n

  -- ---- the numbers of buses differ

  mutual
    apart : (n : Node) (rest : List ℕ) → are_distinct (buses_of (skeleton n) rest) ≡ true → list_any (nat_eq b) rest ≡ true → has_node (bus_of_number b) n ≡ false
    apart (leaf_node v) rest differ there = refl
    apart (dir_node d ns) rest differ there =
        let parts = and_parts (not (list_any (nat_eq d.bus) (buses_among (skeletons ns) rest))) _ differ in
        by (nat_eq d.bus b) refl (not-true _ parts.0) (apart_among ns rest parts.1 there) where
          by : (t : Bool) → nat_eq d.bus b ≡ t → list_any (nat_eq d.bus) (buses_among (skeletons ns) rest) ≡ false → has_among (bus_of_number b) ns ≡ false → (t || has_among (bus_of_number b) ns) ≡ false
          by true is none below =
              let behind : list_any (nat_eq b) (buses_among (skeletons ns) rest) ≡ true = numbered-among b ns rest ∙ rw there (or-second (has_among (bus_of_number b) ns)) in
              absurd (true≢false (sym behind ∙ subst (λ j. list_any (nat_eq j) (buses_among (skeletons ns) rest) ≡ false) (eqb-true d.bus b is) none))
          by false is none below = below

    apart_among : (ns : Nodes) (rest : List ℕ) → are_distinct (buses_among (skeletons ns) rest) ≡ true → list_any (nat_eq b) rest ≡ true → has_among (bus_of_number b) ns ≡ false
    apart_among no_nodes rest differ there = refl
    apart_among (more_nodes n ns) rest differ there =
        let behind : list_any (nat_eq b) (buses_among (skeletons ns) rest) ≡ true = numbered-among b ns rest ∙ rw there (or-second (has_among (bus_of_number b) ns)) in
        rw (apart n (buses_among (skeletons ns) rest) differ behind) (apart_among ns rest (distinct-behind n (buses_among (skeletons ns) rest) differ) there)

    distinct-behind : (n : Node) (rest : List ℕ) → are_distinct (buses_of (skeleton n) rest) ≡ true → are_distinct rest ≡ true
    distinct-behind (leaf_node v) rest differ = differ
    distinct-behind (dir_node d ns) rest differ = distinct-behind_among ns rest (and_parts (not (list_any (nat_eq d.bus) (buses_among (skeletons ns) rest))) _ differ).1

    distinct-behind_among : (ns : Nodes) (rest : List ℕ) → are_distinct (buses_among (skeletons ns) rest) ≡ true → are_distinct rest ≡ true
    distinct-behind_among no_nodes rest differ = differ
    distinct-behind_among (more_nodes n ns) rest differ = distinct-behind_among ns rest (distinct-behind n (buses_among (skeletons ns) rest) differ)

  -- a bus in one part is in none behind it
  alone : (n : Node) (ns : Nodes) (rest : List ℕ) → are_distinct (buses_of (skeleton n) (buses_among (skeletons ns) rest)) ≡ true → has_node (bus_of_number b) n ≡ true → has_among (bus_of_number b) ns ≡ false
  alone n ns rest differ here = by (has_among (bus_of_number b) ns) refl
    where
      by : (t : Bool) → has_among (bus_of_number b) ns ≡ t → t ≡ false
      by true there = absurd (true≢false (sym here ∙ apart n (buses_among (skeletons ns) rest) differ (numbered-among b ns rest ∙ or-first _ _ there)))
      by false there = refl

  -- a directory's own bus is none below it
  own-alone : (d : DirValue) (ns : Nodes) (rest : List ℕ) → are_distinct (buses_of (skeleton (dir_node d ns)) rest) ≡ true → nat_eq d.bus b ≡ true → has_among (bus_of_number b) ns ≡ false
  own-alone d ns rest differ is =
      let none = not-true _ (and_parts (not (list_any (nat_eq d.bus) (buses_among (skeletons ns) rest))) _ differ).0 in
      let other : list_any (nat_eq b) (buses_among (skeletons ns) rest) ≡ false = subst (λ j. list_any (nat_eq j) (buses_among (skeletons ns) rest) ≡ false) (eqb-true d.bus b is) none in
      (or-false _ _ (sym (numbered-among b ns rest) ∙ other)).0

  -- ---- where the bus isn't, nothing of it is broken

  mutual
    absent-in : (c : Spot) (n : Node) → has_node (bus_of_number b) n ≡ false → stamps_broken (dirs_in c n) b ≡ false
    absent-in c (leaf_node v) h = refl
    absent-in c (dir_node d ns) h =
        let parts = or-false (nat_eq d.bus b) (has_among (bus_of_number b) ns) h in
        let none : stamps_broken (placed_dirs (spot_path c) d 0 ns) b ≡ false = absent-among (spot_path c) d 0 ns parts.1 in
        rw (parts.0, none) refl

    absent-among : (path : List ℕ) (d : DirValue) (i : ℕ) (ns : Nodes) → has_among (bus_of_number b) ns ≡ false → stamps_broken (placed_dirs path d i ns) b ≡ false
    absent-among path d i no_nodes h = refl
    absent-among path d i (more_nodes n ns) h =
        let parts = or-false (has_node (bus_of_number b) n) (has_among (bus_of_number b) ns) h in
        let first : stamps_broken (dirs_in (spot_in path d i) n) b ≡ false = absent-in (spot_in path d i) n parts.0 in
        let others : stamps_broken (placed_dirs path d (i + 1) ns) b ≡ false = absent-among path d (i + 1) ns parts.1 in
        list_any-append (is_over b) (dirs_in (spot_in path d i) n) (placed_dirs path d (i + 1) ns) ∙ rw (first, others) refl

  -- ---- where it is, it is what is read there

  or-none : (s t : Bool) → t ≡ false → (s || t) ≡ s
  or-none true t e = refl
  or-none false t e = e

  module _ (d : DirValue) (ns : Nodes) where
    own-broken : (c : Spot) (rest : List ℕ) → are_distinct (buses_of (skeleton (dir_node d ns)) rest) ≡ true → IsLevelled (record { spot = c; dir = d }) → stamps_broken (placed_dirs (spot_path c) d 0 ns) b ≡ says_broken (read_among (bus_of_number b) fits_at (spot_path c) d 0 ns)
        → (t : Bool) → nat_eq d.bus b ≡ t → ((t && not (stamps_in_order (record { spot = c; dir = d }))) || stamps_broken (placed_dirs (spot_path c) d 0 ns) b) ≡ says_broken (if t then Some (fits_at (at_child c) (dir_node d ns)) else read_among (bus_of_number b) fits_at (spot_path c) d 0 ns)
    own-broken c rest differ levelled below true is = or-none (not (stamps_in_order (record { spot = c; dir = d }))) _ (absent-among (spot_path c) d 0 ns (own-alone d ns rest differ is)) ∙ ap not (in_order-fits (record { spot = c; dir = d }) levelled)
    own-broken c rest differ levelled below false is = below

  first-broken : (path : List ℕ) (d : DirValue) (i : ℕ) (n : Node) (ns : Nodes) (rest : List ℕ) → are_distinct (buses_of (skeleton n) (buses_among (skeletons ns) rest)) ≡ true
      → stamps_broken (dirs_in (spot_in path d i) n) b ≡ says_broken (read_in (bus_of_number b) fits_at (at_child (spot_in path d i)) n) → stamps_broken (placed_dirs path d (i + 1) ns) b ≡ says_broken (read_among (bus_of_number b) fits_at path d (i + 1) ns)
      → (t : Bool) → has_node (bus_of_number b) n ≡ t → (stamps_broken (dirs_in (spot_in path d i) n) b || stamps_broken (placed_dirs path d (i + 1) ns) b) ≡ says_broken (if t then read_in (bus_of_number b) fits_at (at_child (spot_in path d i)) n else read_among (bus_of_number b) fits_at path d (i + 1) ns)
  first-broken path d i n ns rest differ here behind true is = or-none (stamps_broken (dirs_in (spot_in path d i) n) b) _ (absent-among path d (i + 1) ns (alone n ns rest differ is)) ∙ here
  first-broken path d i n ns rest differ here behind false is =
      let first : stamps_broken (dirs_in (spot_in path d i) n) b ≡ false = absent-in (spot_in path d i) n is in
      rw first behind

  mutual
    broken-in : (c : Spot) (n : Node) (rest : List ℕ) → are_distinct (buses_of (skeleton n) rest) ≡ true → AllByRecursion IsLevelled (dirs_in c n) → stamps_broken (dirs_in c n) b ≡ says_broken (read_in (bus_of_number b) fits_at (at_child c) n)
    broken-in c (leaf_node v) rest differ levelled = refl
    broken-in c (dir_node d ns) rest differ levelled =
        own-broken d ns c rest differ levelled.0 (broken-among (spot_path c) d 0 ns rest (and_parts (not (list_any (nat_eq d.bus) (buses_among (skeletons ns) rest))) _ differ).1 levelled.1) (nat_eq d.bus b) refl

    broken-among : (path : List ℕ) (d : DirValue) (i : ℕ) (ns : Nodes) (rest : List ℕ) → are_distinct (buses_among (skeletons ns) rest) ≡ true → AllByRecursion IsLevelled (placed_dirs path d i ns) → stamps_broken (placed_dirs path d i ns) b ≡ says_broken (read_among (bus_of_number b) fits_at path d i ns)
    broken-among path d i no_nodes rest differ levelled = refl
    broken-among path d i (more_nodes n ns) rest differ levelled =
        let first = broken-in (spot_in path d i) n (buses_among (skeletons ns) rest) differ (each-left IsLevelled (dirs_in (spot_in path d i) n) (placed_dirs path d (i + 1) ns) levelled) in
        let others = broken-among path d (i + 1) ns rest (distinct-behind n (buses_among (skeletons ns) rest) differ) (each-right IsLevelled (dirs_in (spot_in path d i) n) (placed_dirs path d (i + 1) ns) levelled) in
        list_any-append (is_over b) (dirs_in (spot_in path d i) n) (placed_dirs path d (i + 1) ns) ∙ first-broken path d i n ns rest differ first others (has_node (bus_of_number b) n) refl

-- ---- of a machine

module _ (m : MachineValue) (b : ℕ) (path : List ℕ) (shaped : IsShaped m) (leads : Leads (bus_of_number b) path (root_of m)) where
  differ-kids : are_distinct (buses_among (skeletons m.kids) []) ≡ true
  differ-kids = (and_parts (not (list_any (nat_eq m.top.bus) (buses_among (skeletons m.kids) []))) _ (shaped.each buses_differ)).1

  at-end : Along (bus_of_number b) (fits_at b) (λ (w : Where) (n : Node). n) at_top path (root_of m)
  at-end = along (bus_of_number b) (fits_at b) (λ (w : Where) (n : Node). n) at_top path (root_of m) leads

  pub top-unbroken : path ≡ [] → false ≡ stamps_broken (dirs_at m) b
  unfolding dirs_at
  top-unbroken own =
      let is : nat_eq m.top.bus b ≡ true = rw own at at-end.named in
      sym (absent-among b [] m.top 0 m.kids (own-alone b m.top m.kids [] (shaped.each buses_differ) is))

  not-own : (own : Bool) (o : Option (List ℕ)) → 0 < length path → (if own then Some [] else o) ≡ Some path → own ≡ false
  not-own true o on e =
      let none : [] ≡ path = cc in
      absurd (omega (arith, ap length none))
  not-own false o on e = refl

  pub bus-broken : 0 < length path → not (node_stamps_fit (present_at path stamp_zero (root_of m)) (node_at path (root_of m))) ≡ stamps_broken (dirs_at m) b
  unfolding dirs_at
  bus-broken on =
      let other : nat_eq m.top.bus b ≡ false = not-own (nat_eq m.top.bus b) _ on leads in
      let below = broken-among b [] m.top 0 m.kids [] differ-kids (all_levelled m shaped) in
      let reads : read_among (bus_of_number b) (fits_at b) [] m.top 0 m.kids ≡ Some (fits_at b (where_end at_top path (root_of m)) (node_at path (root_of m))) = rw other at at-end.reads in
      ap (λ s. not (node_stamps_fit s (node_at path (root_of m)))) (sym (where_end-present at_top path (root_of m))) ∙ sym (below ∙ ap says_broken reads)
