-- The leaves before the first turn: each item stands Exclusive in one of them, and each leaf keeps its rules.
use Rattle.std.proofs.Common.{◌≡◌, ◌≢◌, ℕ, zero, suc, ◌+◌, ◌-◌, ◌*◌, ◌%◌, ◌<◌, ◌≤◌, Bool, true, false, List, [], ◌∷◌, map, length, Option, Some, None, refl, sym, ap, subst, ◌∙◌, zero-add, zero-mul, mod-lt, arith, inl, inr}
use Rattle.std.specs.Prelude.{◌&&◌, nat_eq, is_some, is_none, slice_index_or, if◌then◌else◌}
use Rattle.std.specs.List.{All, AllByRecursion, range_with_len}
use Rattle.std.specs.Cmp.Derive.{both_true}
use Rattle.std.proofs.Math.Nat.{add-mul, add-mod_right, mod-eq_of_lt}
use Rattle.std.proofs.lemmas.Bool.{eq-eqb, ne_eqb, lt-ltb, le-leb, cases_lt}
use Rattle.std.proofs.lemmas.Bool.Decides.{eqb_tells}
use Rattle.std.proofs.lemmas.List.{length-map, get_or_default, get_or-set_same}
use Rattle.std.proofs.lemmas.List.Elements.{All-head, All-tail}
use Rattle.std.proofs.lemmas.List.FromFn.{get_or-range_with_len, get_or-map-range_with_len, length-range_with_len, length-map-range_with_len}
use Rattle.bus_laws.specs.DdmTypes.declared.sizes.LeafState.{LeafState}
use Rattle.bus_laws.specs.DdmTypes.declared.sizes.Hold.{Hold}
use Rattle.bus_laws.specs.TreeModel.State.Lists.{map_from}
use Rattle.bus_laws.specs.TreeModel.State.Values.{WayValue, LeafSizes, LeafValue}
use Rattle.bus_laws.specs.TreeModel.State.Blank.{no_leaf}
use Rattle.bus_laws.specs.TreeModel.State.Leaf.{way_at, entry_at, leaf_entry, state_at, leaf_hold, stands_in, item_in_way, free_way, enters, with_fate, enters_free, words_of_item}
use Rattle.bus_laws.specs.TreeModel.Start.Nodes.{has_way, cyclic_from, leaf_for, placed, placed_at, placed_in, placed_items}
use Rattle.bus_laws.proofs.TreeModel.Children.{map_from-keeps, found-passes, none-passes}
use Rattle.bus_laws.proofs.TreeModel.HartRooms.{free_way-free}
use Rattle.tree_rules.specs.Bus.Faces.{ChildFace, leaf_face}
use Rattle.tree_rules.specs.Bus.Own.{IsLeafOk, state_waits}
use Rattle.tree_rules.proofs.Implying.{implies-false}
use Rattle.bus_laws.proofs.HartFacts.{HasEntries, rules-from_entries, find-holds, fails-find, way-within}
use Rattle.bus_laws.proofs.HartChanges.{way-set_other, entries-enter}
use Rattle.bus_laws.proofs.HartTurns.{free_way-inside}
use Rattle.bus_laws.proofs.StartSums.{one_if, total, among, total-nothing, total-le, total-term, total-swap, total-each, total-one, among-total, rests-below}

-- ---- one leaf

-- what a bus sees of a child that holds an item Exclusive, or doesn't hold it, and of which nothing is under way
abbrev pub idle_face : Bool → ChildFace
idle_face b = record { hold = if b then Hold.Exclusive else Hold.Invalid; reads = false; erases = false; replies = 0; answers = false }

abbrev pub leaf_number : LeafValue → ℕ
leaf_number v = v.number

-- of n items those below k were placed, and this leaf has some of them
pub record IsPlacedLeaf (n k : ℕ) (sizes : LeafSizes) (v : LeafValue) : Type 0 where
  pub sizes_are : v.sizes ≡ sizes
  pub entries : HasEntries n v.sizes v.ways v.buffer
  pub exclusive : (y : ℕ) (e : WayValue) → way_at y v.ways ≡ Some e → (y < k) × (e.state ≡ LeafState.Exclusive)
  pub buffer : v.buffer ≡ []
  pub slot : v.slot ≡ None
  pub replies : v.replies ≡ []
  pub reservation : v.reservation ≡ None

abbrev pub has_item : ℕ → LeafValue → Bool
has_item y v = is_some (way_at y v.ways)

module _ (n : ℕ) (sizes : LeafSizes) where
  -- an item that wasn't placed has no entry
  absent : (k : ℕ) (v : LeafValue) → IsPlacedLeaf n k sizes v → (y : ℕ) → k ≤ y → way_at y v.ways ≡ None
  absent k v h y past =
      elim (way_at y v.ways) as (λ o. way_at y v.ways ≡ o → way_at y v.ways ≡ None) [
        | None ↦ λ none. none
        | Some e ↦ λ is. absurd (let below = (h.exclusive y e is).0 in omega arith)
      ] refl

  no_entry : (k : ℕ) (v : LeafValue) → IsPlacedLeaf n k sizes v → (y : ℕ) → way_at y v.ways ≡ None → leaf_entry y v ≡ None
  unfolding entry_at
  no_entry k v h y none = rw (none, h.buffer) refl

  more-placed : (k : ℕ) (v : LeafValue) → IsPlacedLeaf n k sizes v → IsPlacedLeaf n (k + 1) sizes v
  more-placed k v h = record {
    sizes_are = h.sizes_are;
    entries = h.entries;
    exclusive = λ y e is.
        let parts = h.exclusive y e is in
        (omega (arith, parts.0), parts.1);
    buffer = h.buffer;
    slot = h.slot;
    replies = h.replies;
    reservation = h.reservation;
  }

  nobody : (k way : ℕ) (v : LeafValue) → item_in_way v.sizes.sets k way v.ways ≡ None → (y : ℕ) (e : WayValue) → way_at y v.ways ≡ Some e → y % v.sizes.sets ≡ k % v.sizes.sets → e.way ≢ way
  unfolding item_in_way
  nobody k way v none y e is set there =
      let test : stands_in v.sizes.sets k way y (Some e) ≡ true = both_true (eq-eqb _ _ set) (eq-eqb _ _ there) in
      let fails : stands_in v.sizes.sets k way y (way_at y v.ways) ≡ false = none-passes (stands_in v.sizes.sets k way) y v.ways None none (way-within y v.ways e is) in
      let wrong : stands_in v.sizes.sets k way y (Some e) ≡ false = rw is at fails in
      let no : true ≡ false = sym test ∙ wrong in
      cc

  came : (k way : ℕ) (words : List ℕ) (v : LeafValue) → k < n → free_way v.sizes k v.ways ≡ Some way → IsPlacedLeaf n k sizes v → IsPlacedLeaf n (k + 1) sizes (with_fate k (enters way LeafState.Exclusive words) v)
  came k way words v known free h = record {
    sizes_are = h.sizes_are;
    entries = entries-enter k way LeafState.Exclusive words n v.sizes v.ways v.buffer h.entries known (no_entry k v h k (absent k v h k (omega arith))) (free_way-inside v.sizes k way v.ways free) (implies-false _) (nobody k way v (free_way-free v.sizes k way v.ways free));
    exclusive = λ y e is.
        elim (eqb_tells y k) [
          | inl same ↦
              let here : way_at k (with_fate k (enters way LeafState.Exclusive words) v).ways ≡ Some e = subst (λ z. way_at z (with_fate k (enters way LeafState.Exclusive words) v).ways ≡ Some e) same.1 is in
              let within : k < length v.ways = subst (λ z. k < z) (sym h.entries.count) known in
              let value = get_or-set_same v.ways k (Some (record { way = way; state = LeafState.Exclusive; words = words })) None within in
              let both : Some (record { way = way; state = LeafState.Exclusive; words = words }) ≡ Some e = sym value ∙ here in
              let equal : (let f : WayValue = record { way = way; state = LeafState.Exclusive; words = words } in f) ≡ e = cc in
              (omega (arith, same.1), sym (ap (λ (f : WayValue). f.state) equal))
          | inr other ↦
              let before : way_at y v.ways ≡ Some e = sym (way-set_other v.ways k y _ other.1) ∙ is in
              let parts = h.exclusive y e before in
              (omega (arith, parts.0), parts.1)
        ];
    buffer = h.buffer;
    slot = h.slot;
    replies = h.replies;
    reservation = h.reservation;
  }

  placed-leaf : (k : ℕ) (words : List ℕ) (v : LeafValue) → k < n → IsPlacedLeaf n k sizes v → IsPlacedLeaf n (k + 1) sizes (placed k words v)
  placed-leaf k words v known h =
      elim (free_way v.sizes k v.ways) as (λ o. free_way v.sizes k v.ways ≡ o → IsPlacedLeaf n (k + 1) sizes (with_fate k (enters_free LeafState.Exclusive words o) v)) [
        | None ↦ λ none. more-placed k v h
        | Some way ↦ λ free. came k way words v known free h
      ] refl

  placed-has : (k : ℕ) (words : List ℕ) (v : LeafValue) → k < n → IsPlacedLeaf n k sizes v → is_some (free_way v.sizes k v.ways) ≡ true → has_item k (placed k words v) ≡ true
  placed-has k words v known h some =
      elim (free_way v.sizes k v.ways) as (λ o. free_way v.sizes k v.ways ≡ o → has_item k (with_fate k (enters_free LeafState.Exclusive words o) v) ≡ true) [
        | None ↦ λ none.
            let wrong : false ≡ true = rw none at some in
            cc
        | Some way ↦ λ free.
            let within : k < length v.ways = subst (λ z. k < z) (sym h.entries.count) known in
            rw (get_or-set_same v.ways k (Some (record { way = way; state = LeafState.Exclusive; words = words })) None within) refl
      ] refl

  placed-other : (k : ℕ) (words : List ℕ) (v : LeafValue) (y : ℕ) → y ≢ k → has_item y (placed k words v) ≡ has_item y v
  placed-other k words v y other =
      elim (free_way v.sizes k v.ways) as (λ o. has_item y (with_fate k (enters_free LeafState.Exclusive words o) v) ≡ has_item y v) [
        | None ↦ refl
        | Some way ↦ ap is_some (way-set_other v.ways k y _ other)
      ]

  -- ---- a leaf with no free way

  -- it has as many items of this set as the set has ways
  module _ (k : ℕ) (v : LeafValue) (h : IsPlacedLeaf n k sizes v) (none : free_way v.sizes k v.ways ≡ None) where
    occupied : (way : ℕ) → way < v.sizes.way_count → 1 ≤ total k (λ y. one_if (stands_in v.sizes.sets k way y (way_at y v.ways)))
    unfolding free_way item_in_way
    occupied way inside =
        let fails : is_none (item_in_way v.sizes.sets k way v.ways) ≡ false = taken way inside in
        elim (item_in_way v.sizes.sets k way v.ways) as (λ o. item_in_way v.sizes.sets k way v.ways ≡ o → 1 ≤ total k (λ y. one_if (stands_in v.sizes.sets k way y (way_at y v.ways)))) [
          | None ↦ λ no.
              let wrong : true ≡ false = rw no at fails in
              cc
          | Some y ↦ λ found.
              let passes : stands_in v.sizes.sets k way y (way_at y v.ways) ≡ true = found-passes (stands_in v.sizes.sets k way) y v.ways None found in
              let below : y < k = placed-below way y passes in
              let term = total-term k (λ z. one_if (stands_in v.sizes.sets k way z (way_at z v.ways))) y below in
              let one : one_if (stands_in v.sizes.sets k way y (way_at y v.ways)) ≡ 1 = rw passes refl in
              omega arith
        ] refl
      where
        taken : (way : ℕ) → way < v.sizes.way_count → is_none (item_in_way v.sizes.sets k way v.ways) ≡ false
        taken way inside =
            let all = fails-find (λ w. is_none (item_in_way v.sizes.sets k w v.ways)) (range_with_len 0 v.sizes.way_count) none way 0 (subst (λ m. way < m) (sym (length-range_with_len 0 v.sizes.way_count)) inside) in
            subst (λ w. is_none (item_in_way v.sizes.sets k w v.ways) ≡ false) (get_or-range_with_len 0 v.sizes.way_count way 0 inside ∙ zero-add way) all

        placed-below : (way y : ℕ) → stands_in v.sizes.sets k way y (way_at y v.ways) ≡ true → y < k
        placed-below way y passes =
            elim (way_at y v.ways) as (λ o. way_at y v.ways ≡ o → y < k) [
              | None ↦ λ no.
                  let wrong : false ≡ true = rw no at passes in
                  cc
              | Some e ↦ λ is. (h.exclusive y e is).0
            ] refl

    -- an item stands in one way
    in_one_way : (y : ℕ) → total v.sizes.way_count (λ way. one_if (stands_in v.sizes.sets k way y (way_at y v.ways))) ≤ one_if (nat_eq (y % v.sizes.sets) (k % v.sizes.sets) && has_item y v)
    in_one_way y =
        elim (way_at y v.ways) as (λ o. total v.sizes.way_count (λ way. one_if (stands_in v.sizes.sets k way y o)) ≤ one_if (nat_eq (y % v.sizes.sets) (k % v.sizes.sets) && is_some o)) [
          | None ↦ omega (arith, total-nothing v.sizes.way_count)
          | Some e ↦
              elim (nat_eq (y % v.sizes.sets) (k % v.sizes.sets)) as (λ b. total v.sizes.way_count (λ way. one_if (b && nat_eq e.way way)) ≤ one_if (b && true)) [
                | true ↦ total-one v.sizes.way_count e.way
                | false ↦ omega (arith, total-nothing v.sizes.way_count)
              ]
        ]

    full-counts : v.sizes.way_count ≤ total k (λ y. one_if (nat_eq (y % v.sizes.sets) (k % v.sizes.sets) && has_item y v))
    full-counts =
        let each = total-each v.sizes.way_count (λ way. total k (λ y. one_if (stands_in v.sizes.sets k way y (way_at y v.ways)))) occupied in
        let swapped = total-swap v.sizes.way_count k (λ way y. one_if (stands_in v.sizes.sets k way y (way_at y v.ways))) in
        let once = total-le k (λ y. total v.sizes.way_count (λ way. one_if (stands_in v.sizes.sets k way y (way_at y v.ways)))) (λ y. one_if (nat_eq (y % v.sizes.sets) (k % v.sizes.sets) && has_item y v)) (λ y l. in_one_way y) in
        omega arith

  -- ---- all leaves

  -- how many leaves have it
  abbrev pub holders : ℕ → List LeafValue → ℕ
  holders y ls = among (λ v. one_if (has_item y v)) ls

  abbrev pub ArePlacedLeaves : ℕ → List LeafValue → Type 0
  ArePlacedLeaves k ls = AllByRecursion (IsPlacedLeaf n k sizes) ls

  abbrev in_set_count : ℕ → LeafValue → ℕ
  in_set_count k v = total k (λ y. one_if (nat_eq (y % sizes.sets) (k % sizes.sets) && has_item y v))

  full-leaves : (k : ℕ) (ls : List LeafValue) → ArePlacedLeaves k ls → All (λ (v : LeafValue). free_way v.sizes k v.ways ≡ None) ls → length ls * sizes.way_count ≤ among (in_set_count k) ls
  full-leaves k [] h none = omega (arith, zero-mul sizes.way_count)
  full-leaves k (v ∷ vs) h none =
      let here : v.sizes.way_count ≤ total k (λ y. one_if (nat_eq (y % v.sizes.sets) (k % v.sizes.sets) && has_item y v)) = full-counts k v h.0 (All-head (λ (v : LeafValue). free_way v.sizes k v.ways ≡ None) v vs none) in
      let mine : sizes.way_count ≤ in_set_count k v = subst (λ (s : LeafSizes). s.way_count ≤ total k (λ y. one_if (nat_eq (y % s.sets) (k % s.sets) && has_item y v))) h.0.sizes_are here in
      let later : length vs * sizes.way_count ≤ among (in_set_count k) vs = full-leaves k vs h.1 (All-tail (λ (v : LeafValue). free_way v.sizes k v.ways ≡ None) v vs none) in
      let more : (length vs + 1) * sizes.way_count ≡ length vs * sizes.way_count + 1 * sizes.way_count = add-mul (length vs) 1 sizes.way_count in
      let count : length (v ∷ vs) ≡ length vs + 1 = omega arith in
      rw count (omega arith)

  -- where each item below k is in one leaf, the leaves have no more of a set than there are
  one-each : (k : ℕ) (ls : List LeafValue) → ((y : ℕ) → y < k → holders y ls ≡ 1) → among (in_set_count k) ls ≤ total k (λ y. one_if (nat_eq (y % sizes.sets) (k % sizes.sets)))
  one-each k ls one =
      let swapped = among-total k (λ (v : LeafValue) y. one_if (nat_eq (y % sizes.sets) (k % sizes.sets) && has_item y v)) ls in
      let each = total-le k (λ y. among (λ v. one_if (nat_eq (y % sizes.sets) (k % sizes.sets) && has_item y v)) ls) (λ y. one_if (nat_eq (y % sizes.sets) (k % sizes.sets))) (λ y l. at_most y (nat_eq (y % sizes.sets) (k % sizes.sets)) (one y l)) in
      omega arith
    where
      nowhere : (ls : List LeafValue) → among (λ (v : LeafValue). 0) ls ≡ 0
      nowhere [] = refl
      nowhere (v ∷ vs) =
          let rest = nowhere vs in
          omega arith

      at_most : (y : ℕ) (b : Bool) → holders y ls ≡ 1 → among (λ v. one_if (b && has_item y v)) ls ≤ one_if b
      at_most y true here = omega arith
      at_most y false here = omega (arith, nowhere ls)

  -- ---- a leaf for the next item

  module _ (k : ℕ) (ls : List LeafValue) (h : ArePlacedLeaves k ls) (one : (y : ℕ) → y < k → holders y ls ≡ 1) (sets : 0 < sizes.sets) (some : 0 < length ls) (room : k < length ls * sizes.way_count * sizes.sets) where
    not_all_full : All (λ (v : LeafValue). free_way v.sizes k v.ways ≡ None) ls → ⊥
    not_all_full none =
        let full = full-leaves k ls h none in
        let each = one-each k ls one in
        let fewer = rests-below sizes.sets (k % sizes.sets) (mod-lt k sets) k (length ls * sizes.way_count) refl room in
        omega arith

    cyclic-at : (first count : ℕ) (t : ℕ → Bool) → first < count → All (λ i. t i ≡ false) (cyclic_from first count) → (j : ℕ) → j < count → t j ≡ false
    cyclic-at first count t low all j inside =
        elim (cases_lt j first) [
          | inl before ↦
              let at : t ((first + (j + count - first)) % count) ≡ false = entry (j + count - first) (omega arith) in
              let there : first + (j + count - first) ≡ j + count = omega arith in
              let place : (first + (j + count - first)) % count ≡ j = ap (λ m. m % count) there ∙ add-mod_right j count ∙ mod-eq_of_lt inside in
              subst (λ m. t m ≡ false) place at
          | inr behind ↦
              let at : t ((first + (j - first)) % count) ≡ false = entry (j - first) (omega arith) in
              let there : first + (j - first) ≡ j = omega arith in
              let place : (first + (j - first)) % count ≡ j = ap (λ m. m % count) there ∙ mod-eq_of_lt inside in
              subst (λ m. t m ≡ false) place at
        ] where
          entry : (m : ℕ) → m < count → t ((first + m) % count) ≡ false
          entry m within =
              let value = get_or-map-range_with_len (λ m. (first + m) % count) 0 count m m 0 within (omega arith) in
              subst (λ i. t i ≡ false) value (all m 0 (subst (λ l. m < l) (sym (length-map-range_with_len (λ m. (first + m) % count) 0 count)) within))

    leaf_for-some : is_some (leaf_for ls k) ≡ true
    unfolding leaf_for
    leaf_for-some =
        elim (leaf_for ls k) as (λ o. leaf_for ls k ≡ o → is_some (leaf_for ls k) ≡ true) [
          | Some leaf ↦ λ is. rw is refl
          | None ↦ λ none. absurd (not_all_full (λ j d l. is_full j d l (cyclic-at (k % length ls) (length ls) (has_way ls k) (mod-lt k some) (fails-find (has_way ls k) (cyclic_from (k % length ls) (length ls)) none) j l)))
        ] refl
      where
        no-some : {X : Type 0} (o : Option X) → is_some o ≡ false → o ≡ None
        no-some None e = refl
        no-some (Some x) e = cc

        is_full : (j : ℕ) (d : LeafValue) → j < length ls → has_way ls k j ≡ false → free_way (slice_index_or ls j d).sizes k (slice_index_or ls j d).ways ≡ None
        is_full j d l e = subst (λ (v : LeafValue). free_way v.sizes k v.ways ≡ None) (get_or_default ls j no_leaf d l) (no-some _ e)

    leaf_for-fits : (leaf : ℕ) → leaf_for ls k ≡ Some leaf → (leaf < length ls) × (has_way ls k leaf ≡ true)
    unfolding leaf_for
    leaf_for-fits leaf is = find-holds (λ j. j < length ls) (has_way ls k) (cyclic_from (k % length ls) (length ls)) leaf below is where
      below : All (λ j. j < length ls) (cyclic_from (k % length ls) (length ls))
      below m d l =
          let within : m < length ls = subst (λ c. m < c) (length-map-range_with_len (λ m. (k % length ls + m) % length ls) 0 (length ls)) l in
          let value = get_or-map-range_with_len (λ m. (k % length ls + m) % length ls) 0 (length ls) m m d within (omega arith) in
          subst (λ j. j < length ls) (sym value) (mod-lt (k % length ls + m) some)

  -- ---- an item is placed

  module _ (leaf k : ℕ) (words : List ℕ) where
    at-placed : (i : ℕ) (v : LeafValue) → k < n → IsPlacedLeaf n k sizes v → IsPlacedLeaf n (k + 1) sizes (placed_at leaf k words i v)
    at-placed i v known h = elim (nat_eq i leaf) as (λ b. IsPlacedLeaf n (k + 1) sizes (if b then placed k words v else v)) [ true ↦ placed-leaf k words v known h | false ↦ more-placed k v h ]

    all-placed : (i : ℕ) (ls : List LeafValue) → k < n → ArePlacedLeaves k ls → ArePlacedLeaves (k + 1) (map_from (placed_at leaf k words) i ls)
    all-placed i [] known h = tt
    all-placed i (v ∷ vs) known h = (at-placed i v known h.0, all-placed (i + 1) vs known h.1)

    at-other : (y : ℕ) → y ≢ k → (i : ℕ) (v : LeafValue) → has_item y (placed_at leaf k words i v) ≡ has_item y v
    at-other y other i v = elim (nat_eq i leaf) as (λ b. has_item y (if b then placed k words v else v) ≡ has_item y v) [ true ↦ placed-other k words v y other | false ↦ refl ]

    holders-other : (y : ℕ) → y ≢ k → (i : ℕ) (ls : List LeafValue) → holders y (map_from (placed_at leaf k words) i ls) ≡ holders y ls
    holders-other y other i [] = refl
    holders-other y other i (v ∷ vs) =
        let here : one_if (has_item y (placed_at leaf k words i v)) ≡ one_if (has_item y v) = ap one_if (at-other y other i v) in
        let rest = holders-other y other (i + 1) vs in
        omega arith

    -- behind the leaf nobody has it
    holders-behind : (i : ℕ) (ls : List LeafValue) → leaf < i → ArePlacedLeaves k ls → holders k (map_from (placed_at leaf k words) i ls) ≡ 0
    holders-behind i [] past h = refl
    holders-behind i (v ∷ vs) past h =
        let other : nat_eq i leaf ≡ false = ne_eqb i leaf (λ same. omega arith) in
        let none : has_item k v ≡ false = ap is_some (absent k v h.0 k (omega arith)) in
        let rest = holders-behind (i + 1) vs (omega arith) h.1 in
        rw (other, none) (omega arith)

    holders-here : (i j : ℕ) (ls : List LeafValue) → leaf ≡ i + j → j < length ls → k < n → has_way ls k j ≡ true → ArePlacedLeaves k ls → holders k (map_from (placed_at leaf k words) i ls) ≡ 1
    holders-here i j [] place inside known way h = absurd (omega arith)
    holders-here i zero (v ∷ vs) place inside known way h =
        let here : nat_eq i leaf ≡ true = eq-eqb i leaf (omega arith) in
        let has : has_item k (placed k words v) ≡ true = placed-has k words v known h.0 way in
        let rest = holders-behind (i + 1) vs (omega arith) h.1 in
        rw (here, has) (omega arith)
    holders-here i (suc j) (v ∷ vs) place inside known way h =
        let other : nat_eq i leaf ≡ false = ne_eqb i leaf (λ same. omega arith) in
        let none : has_item k v ≡ false = ap is_some (absent k v h.0 k (omega arith)) in
        let rest = holders-here (i + 1) j vs (omega arith) (omega arith) known way h.1 in
        rw (other, none) (omega arith)

    at-number : (i : ℕ) (v : LeafValue) → (placed_at leaf k words i v).number ≡ v.number
    at-number i v = elim (nat_eq i leaf) as (λ b. (if◌then◌else◌ b (placed k words v) v).number ≡ v.number) [ true ↦ refl | false ↦ refl ]

  -- ---- all items are placed, one by one

  -- the items below k stand in the leaves, each in one
  pub record ArePlaced (numbers : List ℕ) (k : ℕ) (ls : List LeafValue) : Type 0 where
    pub leaves : ArePlacedLeaves k ls
    pub numbered : map leaf_number ls ≡ numbers
    pub one : (y : ℕ) → y < k → holders y ls ≡ 1

  module _ (numbers : List ℕ) (sets : 0 < sizes.sets) (some : 0 < length numbers) where
    counted : (k : ℕ) (ls : List LeafValue) → ArePlaced numbers k ls → length ls ≡ length numbers
    counted k ls h = sym (length-map ls leaf_number) ∙ ap length h.numbered

    one-more : (k : ℕ) (words : List ℕ) (ls : List LeafValue) → k < n → k < length numbers * sizes.way_count * sizes.sets → ArePlaced numbers k ls → ArePlaced numbers (k + 1) (placed_in k words ls (leaf_for ls k))
    one-more k words ls known room h =
        let count = counted k ls h in
        let some_leaf : 0 < length ls = omega arith in
        let room' : k < length ls * sizes.way_count * sizes.sets = subst (λ c. k < c * sizes.way_count * sizes.sets) (sym count) room in
        let found = leaf_for-some k ls h.leaves h.one sets some_leaf room' in
        elim (leaf_for ls k) as (λ o. leaf_for ls k ≡ o → ArePlaced numbers (k + 1) (placed_in k words ls (leaf_for ls k))) [
          | None ↦ λ none.
              let wrong : false ≡ true = rw none at found in
              cc
          | Some leaf ↦ λ is.
              let fits = leaf_for-fits k ls h.leaves h.one sets some_leaf room' leaf is in
              rw is (record {
                leaves = all-placed leaf k words 0 ls known h.leaves;
                numbered = map_from-keeps (placed_at leaf k words) leaf_number (at-number leaf k words) 0 ls ∙ h.numbered;
                one = λ y l.
                    elim (eqb_tells y k) as (λ _. holders y (map_from (placed_at leaf k words) 0 ls) ≡ 1) [
                      | inl same ↦ subst (λ z. holders z (map_from (placed_at leaf k words) 0 ls) ≡ 1) (sym same.1) (holders-here leaf k words 0 leaf ls (omega arith) fits.0 known fits.1 h.leaves)
                      | inr other ↦ holders-other leaf k words y other.1 0 ls ∙ h.one y (below y k other.1 l)
                    ];
              })
        ] refl
      where
        below : (y k : ℕ) → y ≢ k → y < k + 1 → y < k
        below y k other l = omega arith

    pub all-more : (k : ℕ) (words : List (List ℕ)) (ls : List LeafValue) → k + length words ≤ n → n ≤ length numbers * sizes.way_count * sizes.sets → ArePlaced numbers k ls → ArePlaced numbers (k + length words) (placed_items k words ls)
    unfolding placed_items
    all-more k [] ls inside room h = subst (λ m. ArePlaced numbers m ls) (omega arith) h
    all-more k (w ∷ words) ls inside room h =
        let next = one-more k w ls (omega arith) (omega arith) h in
        let rest = all-more (k + 1) words (placed_in k w ls (leaf_for ls k)) (omega arith) room next in
        subst (λ m. ArePlaced numbers m (placed_items (k + 1) words (placed_in k w ls (leaf_for ls k)))) (omega arith) rest

  -- ---- what each leaf keeps, and what its bus sees of it

  pub leaf-rules : 0 < sizes.sets → 0 < sizes.way_count → (v : LeafValue) → IsPlacedLeaf n n sizes v → IsLeafOk n v
  unfolding entry_at
  leaf-rules sets ways v h = rules-from_entries n v (record {
    sets = both_true (lt-ltb _ _ (subst (λ (s : LeafSizes). 0 < s.sets) (sym h.sizes_are) sets)) (lt-ltb _ _ (subst (λ (s : LeafSizes). 0 < s.way_count) (sym h.sizes_are) ways));
    lists = both_true (eq-eqb _ _ h.entries.count) (rw (h.buffer, h.replies) (both_true (le-leb 0 v.sizes.buffer_room (omega arith)) (le-leb 0 v.sizes.reply_room (omega arith))));
    entries = h.entries;
    waiting = λ y z wait_y wait_z. absurd (quiet y wait_y);
    slot = rw h.slot refl;
    replies = rw h.replies refl;
    reservation = rw h.reservation refl;
  }) where
    quiet : (y : ℕ) → state_waits (state_at y v) ≡ true → ⊥
    quiet y wait =
        elim (way_at y v.ways) as (λ o. way_at y v.ways ≡ o → ⊥) [
          | None ↦ λ none.
              let wrong : false ≡ true = rw (none, h.buffer) at wait in
              cc
          | Some e ↦ λ is.
              let exclusive = (h.exclusive y e is).1 in
              let wrong : false ≡ true = rw (is, exclusive) at wait in
              cc
        ] refl

  pub leaf-idle : (k : ℕ) (v : LeafValue) → IsPlacedLeaf n k sizes v → (x : ℕ) → leaf_face x v ≡ idle_face (has_item x v)
  unfolding leaf_hold entry_at words_of_item
  leaf-idle k v h x =
      elim (way_at x v.ways) as (λ o. way_at x v.ways ≡ o → leaf_face x v ≡ idle_face (has_item x v)) [
        | None ↦ λ none. rw (none, h.buffer, h.replies) refl
        | Some e ↦ λ is. rw (is, (h.exclusive x e is).1, h.replies) refl
      ] refl
