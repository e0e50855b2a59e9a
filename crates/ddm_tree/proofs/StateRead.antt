-- The harts, the buses, the leaves and the operations, each read into the machine that those before them left, are the whole state that
-- the tables read into the machine before all of them.
-- Letters: m is the machine before, hs are the harts that were read, us the leaves, bs the buses, ds their directories, n is how many
-- items there are.
use Rattle.std.proofs.Common.{◌≡◌, ◌<◌, ◌≤◌, ℕ, suc, ◌+◌, ◌++◌, true, false, List, [], ◌∷◌, length, map, drop, Option, Some, refl, sym, ap, ◌∙◌, arith}
use Rattle.std.specs.Prelude.{nat_eq, slice_index_or, ◌||◌, Result, Ok, Err, if◌then◌else◌}
use Rattle.std.specs.List.{AllByRecursion, range_with_len}
use Rattle.std.proofs.lemmas.Bool.{and_parts, eqb-true}
use Rattle.std.proofs.lemmas.List.{append_assoc, get_or_at, length_push}
use Rattle.ddm_tree.specs.DdmTypes.declared.operations.Op.{Op}
use Rattle.ddm_tree.specs.DdmTypes.ItemTable.{item_count}
use Rattle.ddm_tree.specs.TreeModel.State.Place.{Where, at_top, at_child, where_path, spot_in}
use Rattle.ddm_tree.specs.TreeModel.State.Rooms.{all_within, all_within_among, dir_within}
use Rattle.ddm_tree.specs.TreeModel.State.Shape.{IsShaped, count_from, depth_of, frame_of, leaves_numbered, leaf_numbers_of, levels_of, tree_counts}
use Rattle.ddm_tree.specs.TreeModel.State.Values.{LeafValue, DirValue, Node, Nodes, leaf_node, dir_node, no_nodes, more_nodes, children, MachineValue, root_of}
use Rattle.ddm_tree.specs.TreeModel.Turns.Machine.{ask_bus, leaves_among, leaves_of, machine_leaves, with_root}
use Rattle.ddm_tree.specs.TreeModel.Turns.Tree.{bus_of_number, has_among, has_node, of_dir, read_among, read_in}
use Rattle.ddm_tree.proofs.TreeModel.Tests.{and-first, and-second}
use Rattle.ddm_tree.specs.StateReading.declared.StateRefusal.{StateRefusal}
use Rattle.ddm_tree.specs.StateReading.Reading.{Read, and_then, given, times, word_that}
use Rattle.ddm_tree.specs.StateReading.Parts.{read_leaf, read_op}
use Rattle.ddm_tree.specs.StateReading.Machine.{BusRead, bus_dir, bus_traffic, read_bus, read_bus_of, read_buses, read_each, read_words, refilled, refilled_among, refilled_machine}
use Rattle.ddm_tree.proofs.StateReading.Steps.{went_on, refused}
use Rattle.state_judging.specs.Read.{CanRead}
use Rattle.state_judging.proofs.Inverted.{Beside}
use Rattle.state_judging.proofs.LeafRead.{HartRead}
use Rattle.state_judging.proofs.LeavesRead.{AtLeaves, AtLeavesAmong, FromHart, all-leaves, at-numbers, harts-ok, leaves-ok, leaves-both, number_of, numbers-in}
use Rattle.ddm_tree.specs.Parts.{BusesAreRead, LeavesRead, OpsAreRead, leaf_read}
use Rattle.ddm_tree.proofs.Reading.{any-default}
use Rattle.ddm_tree.proofs.Refilled.{dir_by_bus, leaf_by_number, mapped, mapped_among, refilled-mapped}

-- ---- the same after the same

module _ {A B : Type 0} where
  then-same : (r : Result (Read A) StateRefusal) (f g : A → ℕ → List ℕ → Result (Read B) StateRefusal) → ((a : A) (k : ℕ) (ws : List ℕ) → f a k ws ≡ g a k ws) → and_then r f ≡ and_then r g
  then-same (Ok r) f g same = same r.value r.at r.rest
  then-same (Err e) f g same = refl

-- ---- buses, where leaves were replaced

abbrev dir_and_count : Where → DirValue → List Node → DirValue × ℕ
dir_and_count w d ns = (d, length ns)

abbrev some_count : DirValue → ℕ → Option (DirValue × ℕ)
some_count d count = Some (d, count)

module _ (hs : List LeafValue) where
  kids-many : (ns : Nodes) → length (children (refilled_among hs [] ns)) ≡ length (children ns)
  kids-many no_nodes = refl
  kids-many (more_nodes n ns) = ap suc (kids-many ns)

  module _ (k : ℕ) (other : DirValue × ℕ) where
    mutual
      there-same : (n : Node) → has_node (bus_of_number k) (refilled hs [] n) ≡ has_node (bus_of_number k) n
      there-same (leaf_node v) = refl
      there-same (dir_node d ns) = ap (λ b. nat_eq d.bus k || b) (there-same-among ns)

      there-same-among : (ns : Nodes) → has_among (bus_of_number k) (refilled_among hs [] ns) ≡ has_among (bus_of_number k) ns
      there-same-among no_nodes = refl
      there-same-among (more_nodes n ns) = rw (there-same n, there-same-among ns) refl

    mutual
      asked-same : (w : Where) (n : Node) → read_in (bus_of_number k) (of_dir dir_and_count other) w (refilled hs [] n) ≡ read_in (bus_of_number k) (of_dir dir_and_count other) w n
      asked-same w (leaf_node v) = refl
      asked-same w (dir_node d ns) =
          let here = ap (some_count d) (kids-many ns) in
          let below = asked-same-among (where_path w) d 0 ns in
          elim (nat_eq d.bus k) as (λ b. (if b then some_count d (length (children (refilled_among hs [] ns))) else read_among (bus_of_number k) (of_dir dir_and_count other) (where_path w) d 0 (refilled_among hs [] ns)) ≡ (if b then some_count d (length (children ns)) else read_among (bus_of_number k) (of_dir dir_and_count other) (where_path w) d 0 ns)) [
            | true ↦ here
            | false ↦ below
          ]

      asked-same-among : (path : List ℕ) (d : DirValue) (i : ℕ) (ns : Nodes) → read_among (bus_of_number k) (of_dir dir_and_count other) path d i (refilled_among hs [] ns) ≡ read_among (bus_of_number k) (of_dir dir_and_count other) path d i ns
      asked-same-among path d i no_nodes = refl
      asked-same-among path d i (more_nodes n ns) = rw (there-same n, asked-same (at_child (spot_in path d i)) n, asked-same-among path d (i + 1) ns) refl

module _ (n : ℕ) (m after : MachineValue) (same : (k : ℕ) → ask_bus k dir_and_count (after.top, 0) after ≡ ask_bus k dir_and_count (m.top, 0) m) where
  buses-same : (ks : List ℕ) (before : List BusRead) (k : ℕ) (ws : List ℕ) → read_buses n after ks before k ws ≡ read_buses n m ks before k ws
  buses-same [] before k ws = refl
  buses-same (bus ∷ ks) before k ws =
      ap (λ o. and_then (and_then (read_bus_of n o k ws) (λ b k ws. given (before ++ b) k ws)) (read_buses n after ks)) (same bus)
      ∙ then-same (read_bus n m before bus k ws) (read_buses n after ks) (read_buses n m ks) (buses-same ks)

-- ---- leaves, each at its number

module _ (f : LeafValue → LeafValue) (g : DirValue → DirValue) where
  mutual
    leaves-mapped : (n : Node) (rest : List LeafValue) → leaves_of (mapped f g n) (map f rest) ≡ map f (leaves_of n rest)
    leaves-mapped (leaf_node v) rest = refl
    leaves-mapped (dir_node d ns) rest = leaves-mapped-among ns rest

    leaves-mapped-among : (ns : Nodes) (rest : List LeafValue) → leaves_among (mapped_among f g ns) (map f rest) ≡ map f (leaves_among ns rest)
    leaves-mapped-among no_nodes rest = refl
    leaves-mapped-among (more_nodes n ns) rest = ap (leaves_of (mapped f g n)) (leaves-mapped-among ns rest) ∙ leaves-mapped n (leaves_among ns rest)

numbered-map : (before us vs : List LeafValue) (i : ℕ) → length before ≡ i → count_from i (map number_of vs) ≡ true → length us ≡ length vs → map (λ (v : LeafValue). slice_index_or (before ++ us) v.number v) vs ≡ us
numbered-map before [] [] i size counted many = refl
numbered-map before (u ∷ us) [] i size counted many = absurd (omega (arith, many))
numbered-map before [] (v ∷ vs) i size counted many = absurd (omega (arith, many))
numbered-map before (u ∷ us) (v ∷ vs) i size counted many =
    let parts = and_parts (nat_eq v.number i) (count_from (i + 1) (map number_of vs)) counted in
    let here : slice_index_or (before ++ u ∷ us) v.number v ≡ u = get_or_at before u us v v.number (size ∙ sym (eqb-true v.number i parts.0)) in
    let one_more : length (before ++ u ∷ []) ≡ i + 1 = length_push before u ∙ ap (λ j. j + 1) size in
    let rest = numbered-map (before ++ u ∷ []) us vs (i + 1) one_more parts.1 (omega (arith, many)) in
    let same : before ++ u ∷ us ≡ (before ++ u ∷ []) ++ us = sym (append_assoc before (u ∷ []) us) in
    rw here (ap (λ xs. u ∷ xs) (ap (λ all. map (λ (v : LeafValue). slice_index_or all v.number v) vs) same ∙ rest))

module _ (m : MachineValue) (shaped : IsShaped m) where
  counted : count_from 0 (map number_of (machine_leaves m)) ≡ true
  counted = ap (count_from 0) (sym (numbers-in (root_of m) [])) ∙ shaped.each leaves_numbered

  leaves-are : (us : List LeafValue) (ds : List DirValue) → length us ≡ length (machine_leaves m) → leaves_of (refilled us ds (root_of m)) [] ≡ us
  leaves-are us ds many =
      ap (λ n. leaves_of n []) (refilled-mapped us ds (root_of m)) ∙ leaves-mapped (leaf_by_number us ds) (dir_by_bus us ds) (root_of m) []
      ∙ numbered-map [] us (machine_leaves m) 0 refl counted many

numbered-below : (most i : ℕ) (vs : List LeafValue) → count_from i (map number_of vs) ≡ true → i + length vs ≤ most → AllByRecursion (λ (v : LeafValue). v.number < most) vs
numbered-below most i [] e l = tt
numbered-below most i (v ∷ vs) e l =
    let parts = and_parts (nat_eq v.number i) (count_from (i + 1) (map number_of vs)) e in
    (omega (arith, l, eqb-true v.number i parts.0), numbered-below most (i + 1) vs parts.1 (omega (arith, l)))

-- ---- what was replaced twice

mutual
  refilled-both : (hs : List LeafValue) (ds : List DirValue) (n : Node) → refilled [] ds (refilled hs [] n) ≡ refilled hs ds n
  refilled-both hs ds (leaf_node v) = refl
  refilled-both hs ds (dir_node d ns) = ap (dir_node (slice_index_or ds d.bus d)) (refilled-both-among hs ds ns)

  refilled-both-among : (hs : List LeafValue) (ds : List DirValue) (ns : Nodes) → refilled_among [] ds (refilled_among hs [] ns) ≡ refilled_among hs ds ns
  refilled-both-among hs ds no_nodes = refl
  refilled-both-among hs ds (more_nodes n ns) = rw (refilled-both hs ds n, refilled-both-among hs ds ns) refl

module _ (hs us : List LeafValue) (ds : List DirValue) where
  abbrev KeepsNumber : LeafValue → Type 0
  KeepsNumber v = ((slice_index_or hs v.number v).number ≡ v.number) × (v.number < length us)

  mutual
    refilled-again : (n : Node) → AtLeaves KeepsNumber n → refilled us [] (refilled hs ds n) ≡ refilled us ds n
    refilled-again (leaf_node v) keeps =
        let h = slice_index_or hs v.number v in
        ap leaf_node (ap (λ k. slice_index_or us k h) keeps.0 ∙ any-default us v.number h v keeps.1)
    refilled-again (dir_node d ns) keeps = ap (dir_node (slice_index_or ds d.bus d)) (refilled-again-among ns keeps)

    refilled-again-among : (ns : Nodes) → AtLeavesAmong KeepsNumber ns → refilled_among us [] (refilled_among hs ds ns) ≡ refilled_among us ds ns
    refilled-again-among no_nodes keeps = refl
    refilled-again-among (more_nodes n ns) keeps = rw (refilled-again n keeps.0, refilled-again-among ns keeps.1) refl

-- ---- as many places for items in each leaf

module _ (n : ℕ) where
  abbrev HasPlaces : LeafValue → Type 0
  HasPlaces v = length v.ways ≡ n

  mutual
    leaves-placed : (t : Node) (rest : List LeafValue) → all_within n t ≡ true → AllByRecursion HasPlaces rest → AllByRecursion HasPlaces (leaves_of t rest)
    leaves-placed (leaf_node v) rest e all = (eqb-true _ _ (and-first (nat_eq (length v.ways) n) _ e), all)
    leaves-placed (dir_node d ns) rest e all = leaves-placed-among ns rest (and-second (dir_within n d) _ e) all

    leaves-placed-among : (ns : Nodes) (rest : List LeafValue) → all_within_among n ns ≡ true → AllByRecursion HasPlaces rest → AllByRecursion HasPlaces (leaves_among ns rest)
    leaves-placed-among no_nodes rest e all = all
    leaves-placed-among (more_nodes t ns) rest e all = leaves-placed t (leaves_among ns rest) (and-first _ (all_within_among n ns) e) (leaves-placed-among ns rest (and-second (all_within n t) _ e) all)

  harts-placed : (vs hs : List LeafValue) → Beside HartRead vs hs → AllByRecursion HasPlaces vs → AllByRecursion HasPlaces hs
  harts-placed [] [] beside all = tt
  harts-placed [] (h ∷ hs) beside all = absurd beside
  harts-placed (v ∷ vs) [] beside all = tt
  harts-placed (v ∷ vs) (h ∷ hs) beside all = (ap length beside.0.ways ∙ all.0, harts-placed vs hs beside.1 all.1)

  each-same : (hs : List LeafValue) (k : ℕ) (ws : List ℕ) → AllByRecursion HasPlaces hs → read_each (leaf_read false) hs k ws ≡ read_each (read_leaf n) hs k ws
  unfolding read_each
  each-same [] k ws all = refl
  each-same (h ∷ hs) k ws all =
      ap (λ c. and_then (read_leaf c h k ws) (λ b k ws. and_then (read_each (leaf_read false) hs k ws) (λ more k ws. given (b ∷ more) k ws))) all.0
      ∙ then-same (read_leaf n h k ws) (λ b k ws. and_then (read_each (leaf_read false) hs k ws) (λ more k ws. given (b ∷ more) k ws)) (λ b k ws. and_then (read_each (read_leaf n) hs k ws) (λ more k ws. given (b ∷ more) k ws))
      (λ b k ws. ap (λ r. and_then r (λ more k ws. given (b ∷ more) k ws)) (each-same hs k ws all.1))

-- ---- step by step

beside-many : {A B : Type 0} (R : A → B → Type 0) (xs : List A) (ys : List B) → Beside R xs ys → length ys ≡ length xs
beside-many R [] [] beside = refl
beside-many R [] (y ∷ ys) beside = absurd beside
beside-many R (x ∷ xs) [] beside = absurd beside
beside-many R (x ∷ xs) (y ∷ ys) beside = ap suc (beside-many R xs ys beside.1)

module _ (m : MachineValue) (retired : ℕ) where
  abbrev n : ℕ
  n = item_count m.items

  abbrev w6 : List LeafValue → List BusRead → List LeafValue → List Op → ℕ → ℕ → List ℕ → Result (Read MachineValue) StateRefusal
  w6 harts buses leaves ops end k ws = given (refilled_machine m leaves buses ops) k ws

  abbrev w5 : List LeafValue → List BusRead → List LeafValue → List Op → ℕ → List ℕ → Result (Read MachineValue) StateRefusal
  w5 harts buses leaves ops k ws = and_then (word_that (λ w. nat_eq w 0x454d4444) k ws) (w6 harts buses leaves ops)

  abbrev w4 : List LeafValue → List BusRead → List LeafValue → ℕ → ℕ → List ℕ → Result (Read MachineValue) StateRefusal
  w4 harts buses leaves count k ws = and_then (times (read_op (depth_of m) (tree_counts m).leaves) count [] k ws) (w5 harts buses leaves)

  abbrev w3 : List LeafValue → List BusRead → List LeafValue → ℕ → List ℕ → Result (Read MachineValue) StateRefusal
  w3 harts buses leaves k ws = and_then (word_that (λ w. nat_eq w retired) k ws) (w4 harts buses leaves)

  abbrev w2 : List LeafValue → List BusRead → ℕ → List ℕ → Result (Read MachineValue) StateRefusal
  w2 harts buses k ws = and_then (read_each (read_leaf n) harts k ws) (w3 harts buses)

  abbrev w1 : List LeafValue → ℕ → List ℕ → Result (Read MachineValue) StateRefusal
  w1 harts k ws = and_then (read_buses n m (range_with_len 0 (length m.traffic)) [] k ws) (w2 harts)

  begun : (k : ℕ) (ws : List ℕ) → read_words m retired k ws ≡ and_then (read_each (leaf_read true) (machine_leaves m) k ws) w1
  unfolding read_words
  begun k ws = refl

  pub harts-refused : (k : ℕ) (ws : List ℕ) (e : StateRefusal) → read_each (leaf_read true) (machine_leaves m) k ws ≡ Err e → read_words m retired k ws ≡ Err e
  harts-refused k ws e is = begun k ws ∙ refused _ w1 e is

  module _ (can : CanRead m) (within : all_within n (root_of m) ≡ true) (words : List ℕ) (from : ℕ) (m1 : MachineValue) (at1 : ℕ) (r1 : LeavesRead true words from m m1 at1) where
    abbrev hs : List LeafValue
    hs = r1.leaves

    hearts : Beside HartRead (machine_leaves m) hs
    hearts = harts-ok n m from (drop from words) (record { value = hs; at = at1; rest = drop at1 words }) r1.read

    many : length hs ≡ length (machine_leaves m)
    many = beside-many HartRead (machine_leaves m) hs hearts

    after-harts : read_words m retired from (drop from words) ≡ w1 hs at1 (drop at1 words)
    after-harts = begun from (drop from words) ∙ went_on _ w1 hs at1 (drop at1 words) r1.read

    asked : (k : ℕ) → ask_bus k dir_and_count (m1.top, 0) m1 ≡ ask_bus k dir_and_count (m.top, 0) m
    asked k = ap (λ (x : MachineValue). ask_bus k dir_and_count (x.top, 0) x) r1.is ∙ asked-same hs k (m.top, 0) at_top (root_of m)

    items1 : item_count m1.items ≡ n
    items1 = ap (λ f. item_count f.items) r1.frame

    traffic1 : length m1.traffic ≡ length m.traffic
    traffic1 = ap (λ f. f.counted) r1.frame

    buses-read : (before : List BusRead) (k : ℕ) (ws : List ℕ) → read_buses (item_count m1.items) m1 (range_with_len 0 (length m1.traffic)) before k ws ≡ read_buses n m (range_with_len 0 (length m.traffic)) before k ws
    buses-read before k ws = rw (items1, traffic1) (buses-same n m m1 asked (range_with_len 0 (length m.traffic)) before k ws)

    pub buses-refused : (e : StateRefusal) → read_buses (item_count m1.items) m1 (range_with_len 0 (length m1.traffic)) [] at1 (drop at1 words) ≡ Err e → read_words m retired from (drop from words) ≡ Err e
    buses-refused e is = after-harts ∙ refused _ (w2 hs) e (sym (buses-read [] at1 (drop at1 words)) ∙ is)

    module _ (m2 : MachineValue) (at2 : ℕ) (r2 : BusesAreRead words at1 m1 m2 at2) where
      abbrev bs : List BusRead
      bs = r2.buses

      abbrev ds : List DirValue
      ds = map bus_dir bs

      after-buses : read_words m retired from (drop from words) ≡ w2 hs bs at2 (drop at2 words)
      after-buses = after-harts ∙ went_on _ (w2 hs) bs at2 (drop at2 words) (sym (buses-read [] at1 (drop at1 words)) ∙ r2.read)

      root2 : root_of m2 ≡ refilled hs ds (root_of m)
      root2 = ap root_of r2.is ∙ ap (λ (x : MachineValue). refilled [] ds (root_of x)) r1.is ∙ refilled-both hs ds (root_of m)

      leaves2 : machine_leaves m2 ≡ hs
      leaves2 = ap (λ t. leaves_of t []) root2 ∙ leaves-are m can.shaped hs ds many

      leaves-read : (k : ℕ) (ws : List ℕ) → read_each (leaf_read false) (machine_leaves m2) k ws ≡ read_each (read_leaf n) hs k ws
      leaves-read k ws =
          ap (λ vs. read_each (leaf_read false) vs k ws) leaves2
          ∙ each-same n hs k ws (harts-placed n (machine_leaves m) hs hearts (leaves-placed n (root_of m) [] within tt))

      pub leaves-refused : (e : StateRefusal) → read_each (leaf_read false) (machine_leaves m2) at2 (drop at2 words) ≡ Err e → read_words m retired from (drop from words) ≡ Err e
      leaves-refused e is = after-buses ∙ refused _ (w3 hs bs) e (sym (leaves-read at2 (drop at2 words)) ∙ is)

      module _ (m3 : MachineValue) (at3 : ℕ) (r3 : LeavesRead false words at2 m2 m3 at3) where
        abbrev us : List LeafValue
        us = r3.leaves

        read3 : read_each (read_leaf n) hs at2 (drop at2 words) ≡ Ok (record { value = us; at = at3; rest = drop at3 words })
        read3 = sym (leaves-read at2 (drop at2 words)) ∙ r3.read

        after-leaves : read_words m retired from (drop from words) ≡ w3 hs bs us at3 (drop at3 words)
        after-leaves = after-buses ∙ went_on _ (w3 hs bs) us at3 (drop at3 words) read3

        pub count-refused : (e : StateRefusal) → word_that (λ w. nat_eq w retired) at3 (drop at3 words) ≡ Err e → read_words m retired from (drop from words) ≡ Err e
        count-refused e is = after-leaves ∙ refused _ (w4 hs bs us) e is

        frame3 : frame_of m3 ≡ frame_of m
        frame3 = r3.frame ∙ r2.frame ∙ r1.frame

        depth3 : depth_of m3 ≡ depth_of m
        depth3 = ap (λ f. levels_of f.bones) frame3

        many3 : (tree_counts m3).leaves ≡ (tree_counts m).leaves
        many3 = ap (λ f. length (leaf_numbers_of f.bones [])) frame3

        module _ (at4 : ℕ) (r4 : word_that (λ w. nat_eq w retired) at3 (drop at3 words) ≡ Ok (record { value = retired; at = at4; rest = drop at4 words })) where
          after-count : read_words m retired from (drop from words) ≡ w4 hs bs us retired at4 (drop at4 words)
          after-count = after-leaves ∙ went_on _ (w4 hs bs us) retired at4 (drop at4 words) r4

          ops-read : (k : ℕ) (ws : List ℕ) → times (read_op (depth_of m3) (tree_counts m3).leaves) retired [] k ws ≡ times (read_op (depth_of m) (tree_counts m).leaves) retired [] k ws
          ops-read k ws = ap (λ d. times (read_op d (tree_counts m3).leaves) retired [] k ws) depth3 ∙ ap (λ l. times (read_op (depth_of m) l) retired [] k ws) many3

          pub ops-refused : (e : StateRefusal) → times (read_op (depth_of m3) (tree_counts m3).leaves) retired [] at4 (drop at4 words) ≡ Err e → read_words m retired from (drop from words) ≡ Err e
          ops-refused e is = after-count ∙ refused _ (w5 hs bs us) e (sym (ops-read at4 (drop at4 words)) ∙ is)

          module _ (m4 : MachineValue) (at5 : ℕ) (r5 : OpsAreRead retired words at4 m3 m4 at5) where
            after-ops : read_words m retired from (drop from words) ≡ w5 hs bs us r5.ops at5 (drop at5 words)
            after-ops = after-count ∙ went_on _ (w5 hs bs us) r5.ops at5 (drop at5 words) (sym (ops-read at4 (drop at4 words)) ∙ r5.read)

            pub end-refused : (e : StateRefusal) → word_that (λ w. nat_eq w 0x454d4444) at5 (drop at5 words) ≡ Err e → read_words m retired from (drop from words) ≡ Err e
            end-refused e is = after-ops ∙ refused _ (w6 hs bs us r5.ops) e is

            leaves3 : Beside (FromHart n) hs us
            leaves3 = leaves-ok n m hs at2 (drop at2 words) (record { value = us; at = at3; rest = drop at3 words }) read3

            keeps : AtLeaves (KeepsNumber hs us ds) (root_of m)
            keeps =
                let total : 0 + length (machine_leaves m) ≤ length us = omega (arith, many, beside-many (FromHart n) hs us leaves3) in
                let numbers = all-leaves (λ v. HartRead v (slice_index_or hs v.number v)) m (at-numbers HartRead [] hs (machine_leaves m) 0 refl (counted m can.shaped) hearts) in
                let below = all-leaves (λ (v : LeafValue). v.number < length us) m (numbered-below (length us) 0 (machine_leaves m) (counted m can.shaped) total) in
                leaves-both (λ v. HartRead v (slice_index_or hs v.number v)) (λ (v : LeafValue). v.number < length us) (KeepsNumber hs us ds) (λ v h l. (h.number, l)) (root_of m) numbers below

            root3 : refilled us [] (root_of m2) ≡ refilled us ds (root_of m)
            root3 = ap (refilled us []) root2 ∙ refilled-again hs us ds (root_of m) keeps

            whole : m4 ≡ refilled_machine m us bs r5.ops
            whole =
                r5.is ∙ ap (λ (x : MachineValue). record x { ops = r5.ops }) (r3.is ∙ ap (λ t. with_root t m2) root3)
                ∙ ap (λ (x : MachineValue). record (with_root (refilled us ds (root_of m)) x) { ops = r5.ops }) (r2.is ∙ ap (λ (x : MachineValue). record (with_root (refilled [] ds (root_of x)) x) { traffic = map bus_traffic bs }) r1.is)

            pub state-read : (at6 : ℕ) → word_that (λ w. nat_eq w 0x454d4444) at5 (drop at5 words) ≡ Ok (record { value = 0x454d4444; at = at6; rest = drop at6 words }) → read_words m retired from (drop from words) ≡ Ok (record { value = m4; at = at6; rest = drop at6 words })
            state-read at6 end =
                after-ops ∙ went_on _ (w6 hs bs us r5.ops) 0x454d4444 at6 (drop at6 words) end ∙ ap (λ x. given x at6 (drop at6 words)) (sym whole)
