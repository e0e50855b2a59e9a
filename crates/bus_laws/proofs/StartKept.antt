-- The machine before its first turn has its shape and keeps the rules of every bus.
use Rattle.std.proofs.Common.{◌≡◌, ℕ, zero, suc, ◌+◌, ◌*◌, ◌%◌, ◌<◌, ◌≤◌, Bool, true, false, List, [], ◌∷◌, ◌++◌, map, length, replicate, drop, Option, Some, None, Ok, Err, refl, sym, ap, subst, ◌∙◌, arith, inl, inr}
use Rattle.std.specs.Prelude.{not, ◌&&◌, nat_eq, nat_lt, is_some, sum, slice_index_or, if◌then◌else◌}
use Rattle.std.specs.List.{list_any, list_all, flat_map, range_with_len}
use Rattle.std.specs.Cmp.Derive.{both_true}
use Rattle.std.proofs.lemmas.Bool.{eqb-true, eq-eqb, ne_eqb, le-leb, lt-ltb, ltb-false, and_parts, not_from_false}
use Rattle.std.proofs.lemmas.List.{length-map, length-append, length-replicate, get_or-replicate}
use Rattle.std.proofs.lemmas.List.Elements.{All-nil}
use Rattle.std.proofs.lemmas.List.Concat.{flat_map-cons}
use Rattle.std.proofs.lemmas.List.Folds.{list_all-append}
use Rattle.std.proofs.lemmas.List.FromFn.{length-range_with_len}
use Rattle.bus_laws.specs.DdmTypes.ItemTable.{IsItemSize, item_count, item_numbers, item_row, items_of}
use Rattle.bus_laws.specs.DdmTypes.declared.sizes.Span.{Span}
use Rattle.bus_laws.specs.TreeModel.State.Values.{WayValue, LeafSizes, LeafValue, absent_item, DirSizes, Node, leaf_node, nodes, MachineValue, root_of}
use Rattle.bus_laws.specs.TreeModel.State.Leaf.{way_at}
use Rattle.bus_laws.specs.TreeModel.State.Shape.{skeleton, skeletons, first_levels, levels_fit_among, bone_count, widths_fit_among, buses_among, leaf_numbers_of, leaf_numbers_among, are_distinct, count_from, are_below, is_whole_word, ShapeRule, levels_known, widths_bounded, buses_differ, traffic_counted, leaves_numbered, items_of_words, shape_test, frame_of, IsShaped}
use Rattle.bus_laws.specs.TreeModel.Turns.Machine.{no_traffic}
use Rattle.bus_laws.specs.TreeModel.Start.Sources.{ImageValue, TreeValue, last_level, leaf_count, bus_widths, width_of, place_count, segment_span, stack_spans}
use Rattle.bus_laws.specs.TreeModel.Start.Memory.{start_items, start_words}
use Rattle.bus_laws.specs.TreeModel.Start.Nodes.{leaf_sizes, dir_sizes, top_sizes, held_exclusive, new_top, under_levels, held_if}
use Rattle.bus_laws.specs.TreeModel.Start.Machine.{start_leaf, start_leaves, start_machine, too_many_items, no_place, start_refusal, start_of}
use Rattle.bus_laws.proofs.TreeModel.Tests.{first_some-none_second}
use Rattle.bus_laws.proofs.TreeModel.Children.{children-nodes}
use Rattle.tree_rules.specs.Bus.Faces.{parent_face, faces_of}
use Rattle.tree_rules.specs.Bus.Own.{item_fits, top_item, TopRule, top_bus, top_level, top_items, no_requests, no_replies, none_parked, no_places, no_epoch, no_stamps, top_test, IsTopOk}
use Rattle.tree_rules.specs.Bus.Item.{bits_of, top_holds, holds_it}
use Rattle.tree_rules.specs.Bus.Rules.{IsBusOk, IsMachineOk}
use Rattle.bus_laws.specs.IsTree.{IsTree, is_width, AreUnder}
use Rattle.bus_laws.proofs.StartSums.{one_if, among}
use Rattle.bus_laws.proofs.StartLeaves.{leaf_number, idle_face, IsPlacedLeaf, has_item, ArePlacedLeaves, holders, ArePlaced, all-more, leaf-rules, leaf-idle}
use Rattle.bus_laws.proofs.StartNodes.{any-idle, some_of, has_held, AreIdle, holding, holding-is, faces-idle, trees-of, parent-idle, bus-idle}
use Rattle.bus_laws.proofs.StartLevels.{bones-count, weights, bus_total, leaf_total, AreLevelsWide, weights-buses, width-parts, sum-more, sum-some, AreBuilt, levels-built}

-- ---- lists of numbers

distinct-from_counts : (xs : List ℕ) → ((b : ℕ) → among (λ k. one_if (nat_eq b k)) xs ≤ 1) → are_distinct xs ≡ true
distinct-from_counts [] once = refl
distinct-from_counts (x ∷ xs) once =
    let here : one_if (nat_eq x x) ≡ 1 = rw (eq-eqb x x refl) refl in
    let none : list_any (nat_eq x) xs ≡ false = none-counted x xs (omega (arith, once x)) in
    both_true (not_from_false _ none) (distinct-from_counts xs (λ b. omega (arith, once b)))
  where
    none-counted : (b : ℕ) (xs : List ℕ) → among (λ k. one_if (nat_eq b k)) xs ≡ 0 → list_any (nat_eq b) xs ≡ false
    none-counted b [] h = refl
    none-counted b (x ∷ xs) h =
        elim (nat_eq b x) as (λ c. nat_eq b x ≡ c → list_any (nat_eq b) (x ∷ xs) ≡ false) [
          | true ↦ λ is.
              let one : one_if (nat_eq b x) ≡ 1 = rw is refl in
              absurd (omega arith)
          | false ↦ λ other. rw other (none-counted b xs (omega arith))
        ] refl

range-once : (b a k : ℕ) → among (λ j. one_if (nat_eq b j)) (range_with_len a k) ≤ 1
range-once b a k = once a k
  where
    behind : (a k : ℕ) → b < a → among (λ j. one_if (nat_eq b j)) (range_with_len a k) ≡ 0
    behind a zero h = refl
    behind a (suc k) h =
        let other : nat_eq b a ≡ false = ne_eqb b a (λ same. omega arith) in
        let rest = behind (a + 1) k (omega arith) in
        rw other (omega arith)

    once : (a k : ℕ) → among (λ j. one_if (nat_eq b j)) (range_with_len a k) ≤ 1
    once a zero = omega arith
    once a (suc k) =
        let rest = once (a + 1) k in
        elim (nat_eq b a) as (λ c. nat_eq b a ≡ c → among (λ j. one_if (nat_eq b j)) (range_with_len a (suc k)) ≤ 1) [
          | true ↦ λ is.
              let later = behind (a + 1) k (omega (arith, eqb-true b a is)) in
              rw is (omega arith)
          | false ↦ λ other. rw other (omega arith)
        ] refl

below-from_count : (bound : ℕ) (xs : List ℕ) → among (λ k. one_if (not (nat_lt k bound))) xs ≡ 0 → are_below bound xs ≡ true
below-from_count bound [] h = refl
below-from_count bound (x ∷ xs) h =
    elim (nat_lt x bound) as (λ c. nat_lt x bound ≡ c → are_below bound (x ∷ xs) ≡ true) [
      | true ↦ λ is. rw is (below-from_count bound xs (omega arith))
      | false ↦ λ other.
          let one : one_if (not (nat_lt x bound)) ≡ 1 = rw other refl in
          absurd (omega arith)
    ] refl

range-below : (bound a k : ℕ) → a + k ≤ bound → among (λ j. one_if (not (nat_lt j bound))) (range_with_len a k) ≡ 0
range-below bound a zero h = refl
range-below bound a (suc k) h =
    let here : nat_lt a bound ≡ true = lt-ltb a bound (omega arith) in
    let rest = range-below bound (a + 1) k (omega arith) in
    rw here (omega arith)

length-counted : {X : Type 0} (xs : List X) → among (λ x. 1) xs ≡ length xs
length-counted [] = refl
length-counted (x ∷ xs) =
    let rest = length-counted xs in
    omega arith

range-counted : (a k : ℕ) → count_from a (range_with_len a k) ≡ true
range-counted a zero = refl
range-counted a (suc k) = both_true (eq-eqb a a refl) (range-counted (a + 1) k)

-- ---- items of whole words

whole_words : (t : TreeValue) (i : ImageValue) → IsItemSize t.item_bytes → (nat_eq ((start_items t i).size % 4) 0 && list_all is_whole_word (start_items t i).rows) ≡ true
unfolding start_items items_of
whole_words t i size = both_true (eq-eqb _ _ (whole-size t.item_bytes size)) (rows (map segment_span i.segments ++ stack_spans t) (item_numbers t.item_bytes (map segment_span i.segments ++ stack_spans t)))
  where
    whole-size : (b : ℕ) → IsItemSize b → b % 4 ≡ 0
    whole-size b (inl is) = rw is refl
    whole-size b (inr is) = rw is refl

    whole-address : (b k : ℕ) → IsItemSize b → (k * b) % 4 ≡ 0
    whole-address b k (inl is) = rw is (omega arith)
    whole-address b k (inr is) = rw is (omega arith)

    rows : (spans : List Span) (ks : List ℕ) → list_all is_whole_word (map (item_row t.item_bytes spans) ks) ≡ true
    rows spans [] = refl
    rows spans (k ∷ ks) = both_true (eq-eqb _ _ (whole-address t.item_bytes k size)) (rows spans ks)

-- ---- the levels of a tree

wide-levels : (ls : List (List ℕ)) → list_all is_width (flat_map (λ l. l) ls) ≡ true → AreLevelsWide ls
wide-levels [] h = tt
wide-levels (l ∷ ls) h =
    let split : list_all is_width (l ++ flat_map (λ l. l) ls) ≡ true = subst (λ ws. list_all is_width ws ≡ true) (flat_map-cons (λ (l : List ℕ). l) l ls) h in
    let parts = and_parts (list_all is_width l) (list_all is_width (flat_map (λ l. l) ls)) (sym (list_all-append is_width l (flat_map (λ l. l) ls)) ∙ split) in
    (parts.0, wide-levels ls parts.1)

buses-counted : (ls : List (List ℕ)) → length (flat_map (λ (l : List ℕ). l) ls) ≡ bus_total ls
buses-counted [] = refl
buses-counted (l ∷ ls) = ap length (flat_map-cons (λ (l : List ℕ). l) l ls) ∙ length-append l (flat_map (λ l. l) ls) ∙ ap (λ k. length l + k) (buses-counted ls)

leaves-counted : (l : List ℕ) (ls : List (List ℕ)) → sum (last_level (l ∷ ls)) ≡ leaf_total (sum l) ls
leaves-counted l [] = refl
leaves-counted l (m ∷ ls) = leaves-counted m ls

leaves-some : (c : ℕ) (ls : List (List ℕ)) → 1 ≤ c → AreUnder c ls → AreLevelsWide ls → 1 ≤ leaf_total c ls
leaves-some c [] some under wide = some
leaves-some c (l ∷ ls) some under wide = leaves-some (sum l) ls (sum-some l (omega (arith, under.0)) wide.0) under.1 wide.1

-- ---- the leaves as nodes

module _ (n : ℕ) (sizes : LeafSizes) (sets : 0 < sizes.sets) (ways : 0 < sizes.way_count) where
  has_held-leaf : (x : ℕ) (v : LeafValue) → has_held x (leaf_node v) ≡ has_item x v
  has_held-leaf x v = at v.ways x
    where
      at : (ws : List (Option WayValue)) (x : ℕ) → slice_index_or (map is_some ws) x false ≡ is_some (way_at x ws)
      at [] x = refl
      at (w ∷ ws) zero = refl
      at (w ∷ ws) (suc x) = at ws x

  leaves-idle : (vs : List LeafValue) → ArePlacedLeaves n sizes n vs → AreIdle n (map leaf_node vs)
  leaves-idle [] h = tt
  leaves-idle (v ∷ vs) h = (
    record {
      tree = leaf-rules n sizes sets ways v h.0;
      count = length-map v.ways is_some ∙ h.0.entries.count;
      face = λ x. leaf-idle n sizes n v h.0 x ∙ ap idle_face (sym (has_held-leaf x v));
    },
    leaves-idle vs h.1,
  )

  leaves-holding : (x : ℕ) (vs : List LeafValue) → holding x (map leaf_node vs) ≡ holders n sizes x vs
  leaves-holding x [] = refl
  leaves-holding x (v ∷ vs) =
      let here : one_if (has_held x (leaf_node v)) ≡ one_if (has_item x v) = ap one_if (has_held-leaf x v) in
      let rest = leaves-holding x vs in
      omega arith

  leaves-levels : (depth : ℕ) (vs : List LeafValue) → levels_fit_among depth depth (skeletons (nodes (map leaf_node vs))) ≡ true
  leaves-levels depth [] = refl
  leaves-levels depth (v ∷ vs) = both_true (eq-eqb depth depth refl) (leaves-levels depth vs)

  leaves-widths : (vs : List LeafValue) → widths_fit_among (skeletons (nodes (map leaf_node vs))) ≡ true
  leaves-widths [] = refl
  leaves-widths (v ∷ vs) = leaves-widths vs

  leaves-numbers : (vs : List LeafValue) → leaf_numbers_among (skeletons (nodes (map leaf_node vs))) [] ≡ map leaf_number vs
  leaves-numbers [] = refl
  leaves-numbers (v ∷ vs) = ap (λ ns. v.number ∷ ns) (leaves-numbers vs)

  leaves-weights : (f : ℕ → ℕ) (vs : List LeafValue) → weights f (skeletons (nodes (map leaf_node vs))) ≡ 0
  leaves-weights f [] = refl
  leaves-weights f (v ∷ vs) =
      let rest = leaves-weights f vs in
      omega arith

  leaves-first : (vs : List LeafValue) → first_levels (skeletons (nodes (map leaf_node vs))) ≡ 0
  leaves-first [] = refl
  leaves-first (v ∷ vs) = refl

  leaves-built : (numbers : List ℕ) (depth : ℕ) (vs : List LeafValue) → ArePlaced n sizes numbers n vs → (bus c : ℕ) → length (map leaf_node vs) ≡ c → 1 ≤ c → AreBuilt n depth depth bus [] c numbers (map leaf_node vs)
  leaves-built numbers depth vs h bus c count some = record {
    count = count;
    idle = leaves-idle vs h.leaves;
    one = λ x l. leaves-holding x vs ∙ h.one x l;
    levels = leaves-levels depth vs;
    widths = leaves-widths vs;
    numbered = leaves-numbers vs ∙ h.numbered;
    weighed = λ f. leaves-weights f vs;
    first = leaves-first vs;
  }

  -- ---- the leaves before an item is placed

  module _ (make : ℕ → LeafValue) (is_new : (j : ℕ) → ((make j).number ≡ j) × IsPlacedLeaf n 0 sizes (make j)) where
    new-leaves : (js : List ℕ) → ArePlacedLeaves n sizes 0 (map make js)
    new-leaves [] = tt
    new-leaves (j ∷ js) = ((is_new j).1, new-leaves js)

    new-numbers : (js : List ℕ) → map leaf_number (map make js) ≡ js
    new-numbers [] = refl
    new-numbers (j ∷ js) = rw (is_new j).0 (ap (λ ks. j ∷ ks) (new-numbers js))

    new-placed : (js : List ℕ) → ArePlaced n sizes js 0 (map make js)
    new-placed js = record { leaves = new-leaves js; numbered = new-numbers js; one = λ y l. absurd (omega arith) }

-- ---- the top

module _ (n : ℕ) (sizes : DirSizes) (ks : List Node) (idle : AreIdle n ks) (one : (x : ℕ) → x < n → holding x ks ≡ 1) where
  some-held : (x : ℕ) → x < n → some_of (map (has_held x) ks) ≡ true
  some-held x low = some (map (has_held x) ks) (subst (λ k. 1 ≤ k) (holding-is n ks x) (omega (arith, one x low)))
    where
      some : (bs : List Bool) → 1 ≤ among one_if bs → some_of bs ≡ true
      some [] h = absurd (omega arith)
      some (true ∷ bs) h = refl
      some (false ∷ bs) h = some bs (omega arith)

  top-item : (x : ℕ) → x < n → slice_index_or (replicate n held_exclusive) x absent_item ≡ held_if true
  top-item x low = get_or-replicate n x held_exclusive absent_item low

  top-idle : IsBusOk n (new_top sizes n) ks
  top-idle = bus-idle n sizes 0 0 (replicate n held_exclusive) ks idle (length-replicate n held_exclusive) (fits n) (λ x low. record { held = true; at = top-item x low; below = sym (some-held x low) }) (λ x low. omega (arith, one x low)) where
    fits : (n kids : ℕ) → list_all (item_fits kids) (replicate n held_exclusive) ≡ true
    fits zero kids = refl
    fits (suc n) kids = fits n kids

  top-own : IsTopOk (new_top sizes n)
  top-own = record { each = each } where
    items : (n : ℕ) → list_all top_item (replicate n held_exclusive) ≡ true
    items zero = refl
    items (suc n) = items n

    each : (r : TopRule) → top_test r (new_top sizes n) ≡ true
    each top_bus = refl
    each top_level = refl
    each top_items = items n
    each no_requests = refl
    each no_replies = refl
    each none_parked = refl
    each no_places = refl
    each no_epoch = refl
    each no_stamps = refl

  top-held : (x : ℕ) → x < n → top_holds (parent_face x (new_top sizes n)) (bits_of (parent_face x (new_top sizes n)) (faces_of x ks)) ≡ true
  top-held x low =
      let p = parent-idle n sizes 0 0 (replicate n held_exclusive) x true (top-item x low) in
      let held : list_any holds_it (faces_of x ks) ≡ true = ap (list_any holds_it) (faces-idle n ks idle x) ∙ any-idle holds_it refl refl (map (has_held x) ks) ∙ some-held x low in
      subst (λ q. top_holds q (bits_of q (faces_of x ks)) ≡ true) (sym p) (rw held refl)

-- ---- the machine

module _ (t : TreeValue) (i : ImageValue) (tree : IsTree t) where
  abbrev items : ℕ
  items = item_count (start_items t i)

  abbrev sizes_of_leaf : LeafSizes
  sizes_of_leaf = leaf_sizes t.sizes t.way_count (width_of t)

  new-is : (j : ℕ) → ((start_leaf t i j).number ≡ j) × IsPlacedLeaf items 0 sizes_of_leaf (start_leaf t i j)
  new-is j = (
    refl,
    record {
      sizes_are = refl;
      entries = record {
        count = length-replicate items None;
        fits = λ x e is. absurd (free items x e is);
        alone = λ x y e f at_x at_y set there. absurd (free items x e at_x);
        aside = All-nil _;
        once = refl;
      };
      exclusive = λ y e is. absurd (free items y e is);
      buffer = refl;
      slot = refl;
      replies = refl;
      reservation = refl;
    },
  )
    where
      free : (n x : ℕ) (e : WayValue) → way_at x (replicate n None) ≡ Some e → ⊥
      free zero x e is = cc
      free (suc n) zero e is = cc
      free (suc n) (suc x) e is = free n x e is

  words-count : length (start_words t i) ≡ items
  unfolding start_words
  words-count = length-map (start_items t i).rows _

  -- the tree has a place for each item
  module _ (room : items ≤ place_count t) where
    abbrev numbers : List ℕ
    numbers = range_with_len 0 (leaf_count t)

    leaves-placed : 1 ≤ leaf_count t → ArePlaced items sizes_of_leaf numbers items (start_leaves t i)
    leaves-placed some =
        let words = start_words t i in
        let count : length words ≡ items = words-count in
        let leaves : length numbers ≡ leaf_count t = length-range_with_len 0 (leaf_count t) in
        let enough : items ≤ length numbers * t.way_count * t.sizes.sets = subst (λ c. items ≤ c * t.way_count * t.sizes.sets) (sym leaves) room in
        let all = all-more items sizes_of_leaf numbers tree.sets (omega arith) 0 words (map (start_leaf t i) numbers) (omega arith) enough (new-placed items sizes_of_leaf tree.sets tree.ways (start_leaf t i) new-is numbers) in
        subst (λ k. ArePlaced items sizes_of_leaf numbers k (start_leaves t i)) (omega arith) all

    -- ---- the levels

    abbrev depth : ℕ
    depth = length t.levels

    abbrev kids : List Node
    kids = under_levels (dir_sizes t.sizes (width_of t)) 1 1 (drop 1 t.levels) (map leaf_node (start_leaves t i))

    -- the first level is one bus, with this many children
    record HasTop (l : List ℕ) (ls : List (List ℕ)) : Type 0 where
      are : t.levels ≡ l ∷ ls
      one : length l ≡ 1
      some : 1 ≤ sum l
      few : sum l ≤ 16
      under : AreUnder (sum l) ls
      wide : AreLevelsWide ls

    one-wide : (l : List ℕ) → length l ≡ 1 → list_all is_width l ≡ true → (1 ≤ sum l) × (sum l ≤ 16)
    one-wide [] one wide = absurd (omega arith)
    one-wide (k ∷ []) one wide =
        let width = width-parts k (and_parts (is_width k) true wide).0 in
        let more = sum-more k [] in
        (omega (arith, width.0), omega (arith, width.1))
    one-wide (k ∷ j ∷ l) one wide = absurd (omega arith)

    has_top : (levels : List (List ℕ)) → t.levels ≡ levels → 1 ≤ length levels → AreUnder 1 levels → AreLevelsWide levels → (l : List ℕ) × (ls : List (List ℕ)) × HasTop l ls
    has_top [] are some under wide = absurd (omega arith)
    has_top (l ∷ ls) are some under wide =
        let bounds = one-wide l under.0 wide.0 in
        (l, ls, record { are = are; one = under.0; some = bounds.0; few = bounds.1; under = under.1; wide = wide.1 })

    module _ (l : List ℕ) (ls : List (List ℕ)) (h : HasTop l ls) where
      leaf_count-is : leaf_count t ≡ leaf_total (sum l) ls
      leaf_count-is = ap (λ levels. sum (last_level levels)) h.are ∙ leaves-counted l ls

      some-leaf : 1 ≤ leaf_count t
      some-leaf = omega (arith, leaf_count-is, leaves-some (sum l) ls h.some h.under h.wide)

      depth-is : depth ≡ 1 + length ls
      depth-is = ap length h.are ∙ (let e : length (l ∷ ls) ≡ 1 + length ls = omega arith in e)

      placed-leaves : ArePlaced items sizes_of_leaf numbers items (start_leaves t i)
      placed-leaves = leaves-placed some-leaf

      leaves-are : length (map leaf_node (start_leaves t i)) ≡ leaf_total (sum l) ls
      leaves-are = length-map (start_leaves t i) leaf_node ∙ sym (length-map (start_leaves t i) leaf_number) ∙ ap length placed-leaves.numbered ∙ length-range_with_len 0 (leaf_count t) ∙ leaf_count-is

      kids-built : AreBuilt items depth 1 1 ls (sum l) numbers kids
      kids-built =
          let low : depth ≤ 4 = tree.depth in
          subst (λ levels. AreBuilt items depth 1 1 ls (sum l) numbers (under_levels (dir_sizes t.sizes (width_of t)) 1 1 (drop 1 levels) (map leaf_node (start_leaves t i)))) (sym h.are)
          (levels-built items depth (dir_sizes t.sizes (width_of t)) numbers (map leaf_node (start_leaves t i)) low (leaves-built items sizes_of_leaf tree.sets tree.ways numbers depth (start_leaves t i) placed-leaves) 1 1 (sum l) ls (sym depth-is) h.under h.wide h.some leaves-are)

      -- ---- the rules

      start-rules : IsMachineOk (start_machine t i)
      unfolding start_machine
      start-rules =
          let b = kids-built in
          let top = top_sizes t.sizes.down (width_of t) in
          let back = sym (children-nodes kids) in
          record {
            tree = (subst (λ ms. IsBusOk items (new_top top items) ms) back (top-idle items top kids b.idle b.one), trees-of items kids b.idle);
            top = top-own items top kids b.idle b.one;
            held = λ x low. subst (λ ms. top_holds (parent_face x (new_top top items)) (bits_of (parent_face x (new_top top items)) (faces_of x ms)) ≡ true) back (top-held items top kids b.idle b.one x low);
          }

      -- ---- the shape

      weighed : (f : ℕ → ℕ) → among f (0 ∷ buses_among (skeletons (nodes kids)) []) ≡ among f (range_with_len 0 (suc (bus_total ls)))
      weighed f =
          let built = kids-built in
          let below = weights-buses f (skeletons (nodes kids)) [] in
          let range = built.weighed f in
          omega arith

      buses-total : length (bus_widths t) ≡ suc (bus_total ls)
      buses-total = buses-counted t.levels ∙ ap bus_total h.are ∙ (let e : length l + bus_total ls ≡ suc (bus_total ls) = omega (arith, h.one) in e)

      start-numbers : leaf_numbers_of (skeleton (root_of (start_machine t i))) [] ≡ numbers
      unfolding start_machine
      start-numbers = kids-built.numbered

      start-shape : IsShaped (start_machine t i)
      unfolding start_machine
      start-shape = record { each = each } where
        traffic-total : length (map (λ (w : ℕ). no_traffic) (bus_widths t)) ≡ suc (bus_total ls)
        traffic-total = length-map (bus_widths t) (λ (w : ℕ). no_traffic) ∙ buses-total

        each : (r : ShapeRule) → shape_test r (frame_of (start_machine t i)) ≡ true
        each levels_known =
            let high : first_levels (skeletons (nodes kids)) + 1 ≡ depth = omega (arith, kids-built.first, depth-is) in
            subst (λ d. levels_fit_among d 1 (skeletons (nodes kids)) ≡ true) (sym high) kids-built.levels
        each widths_bounded =
            let count : bone_count (skeletons (nodes kids)) ≡ sum l = bones-count kids ∙ kids-built.count in
            both_true (lt-ltb 0 (bone_count (skeletons (nodes kids))) (omega (arith, h.some))) (both_true (le-leb (bone_count (skeletons (nodes kids))) 16 (omega (arith, h.few))) kids-built.widths)
        each buses_differ = distinct-from_counts (0 ∷ buses_among (skeletons (nodes kids)) []) (λ b. subst (λ k. k ≤ 1) (sym (weighed (λ k. one_if (nat_eq b k)))) (range-once b 0 (suc (bus_total ls))))
        each traffic_counted =
            let count : length (0 ∷ buses_among (skeletons (nodes kids)) []) ≡ suc (bus_total ls) = sym (length-counted (0 ∷ buses_among (skeletons (nodes kids)) [])) ∙ weighed (λ k. 1) ∙ length-counted (range_with_len 0 (suc (bus_total ls))) ∙ length-range_with_len 0 (suc (bus_total ls)) in
            let below : are_below (suc (bus_total ls)) (0 ∷ buses_among (skeletons (nodes kids)) []) ≡ true = below-from_count (suc (bus_total ls)) (0 ∷ buses_among (skeletons (nodes kids)) []) (weighed (λ k. one_if (not (nat_lt k (suc (bus_total ls))))) ∙ range-below (suc (bus_total ls)) 0 (suc (bus_total ls)) (omega arith)) in
            both_true (eq-eqb _ _ (count ∙ sym traffic-total)) (subst (λ k. are_below k (0 ∷ buses_among (skeletons (nodes kids)) []) ≡ true) (sym traffic-total) below)
        each leaves_numbered = ap (count_from 0) kids-built.numbered ∙ range-counted 0 (leaf_count t)
        each items_of_words = whole_words t i tree.item_bytes

-- ---- a machine that was built

room-enough : (t : TreeValue) (i : ImageValue) → start_refusal t i ≡ None → item_count (start_items t i) ≤ place_count t
unfolding start_refusal
room-enough t i none =
    elim (nat_lt 65536 (item_count (start_items t i))) as (λ b. nat_lt 65536 (item_count (start_items t i)) ≡ b → item_count (start_items t i) ≤ place_count t) [
      | true ↦ λ is.
          let refused : Some (too_many_items (item_count (start_items t i))) ≡ None = rw is at none in
          cc
      | false ↦ λ other.
          let rest = first_some-none_second _ _ (rw other at none) in
          enough (nat_lt (place_count t) (item_count (start_items t i))) refl rest
    ] refl
  where
    enough : (b : Bool) → nat_lt (place_count t) (item_count (start_items t i)) ≡ b → (if b then Some (no_place (place_count t)) else None) ≡ None → item_count (start_items t i) ≤ place_count t
    enough true is h = cc
    enough false is h = ltb-false _ _ is

-- what holds of the machine of a tree that has a place for each item holds of one that was built
of-built : (P : MachineValue → Type 0) (t : TreeValue) (i : ImageValue) (m : MachineValue) → start_of t i ≡ Ok m → (item_count (start_items t i) ≤ place_count t → P (start_machine t i)) → P m
unfolding start_of
of-built P t i m built holds =
    elim (start_refusal t i) as (λ o. start_refusal t i ≡ o → P m) [
      | Some r ↦ λ is.
          let refused : Err r ≡ Ok m = rw is at built in
          cc
      | None ↦ λ none.
          let made : Ok (start_machine t i) ≡ Ok m = rw none at built in
          let same : start_machine t i ≡ m = cc in
          subst P same (holds (room-enough t i none))
    ] refl

pub start-kept : (t : TreeValue) (i : ImageValue) (m : MachineValue) → IsTree t → start_of t i ≡ Ok m → IsShaped m × IsMachineOk m
start-kept t i m tree built =
    of-built (λ k. IsShaped k × IsMachineOk k) t i m built (λ room.
    let top = has_top t i tree room t.levels refl tree.some tree.under (wide-levels t.levels tree.widths) in
    (start-shape t i tree room top.0 top.1 top.2, start-rules t i tree room top.0 top.1 top.2))

-- its leaves have the numbers from 0 on, as many as the tree has leaves
pub start-numbered : (t : TreeValue) (i : ImageValue) (m : MachineValue) → IsTree t → start_of t i ≡ Ok m → leaf_numbers_of (skeleton (root_of m)) [] ≡ range_with_len 0 (leaf_count t)
start-numbered t i m tree built =
    of-built (λ k. leaf_numbers_of (skeleton (root_of k)) [] ≡ range_with_len 0 (leaf_count t)) t i m built (λ room.
    let top = has_top t i tree room t.levels refl tree.some tree.under (wide-levels t.levels tree.widths) in
    start-numbers t i tree room top.0 top.1 top.2)
