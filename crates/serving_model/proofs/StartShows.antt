-- The machine of an accepted tree with room, before its first turn, shows the flat machine of the tree and the image.
-- Letters: v is a leaf, vs are leaves, h a hart, t a tree, i an image.
use Rattle.std.proofs.Common.{◌≡◌, ℕ, zero, suc, ◌+◌, ◌<◌, ◌≤◌, Bool, true, false, inl, inr, List, [], ◌∷◌, map, take, drop, length, replicate, Option, Some, None, is_some, Result, Ok, refl, sym, ap, subst, ◌∙◌, arith}
use Rattle.std.specs.Prelude.{◌||◌, nat_eq, slice_index_or, slice_set, if◌then◌else◌}
use Rattle.std.specs.List.{AllByRecursion, range_with_len, list_all, list_any}
use Rattle.std.specs.Cmp.Derive.{both_true}
use Rattle.std.proofs.lemmas.Bool.Decides.{eqb_tells, nat_tests}
use Rattle.std.proofs.lemmas.List.{length-map}
use Rattle.std.proofs.lemmas.List.FromFn.{get_or-map-range_with_len, length-map-range_with_len}
use Rattle.serving_model.specs.DdmTypes.ItemTable.{item_count}
use Rattle.serving_model.specs.DdmTypes.declared.sizes.Start.{Start}
use Rattle.serving_model.specs.DdmTypes.declared.sizes.LeafState.{LeafState}
use Rattle.bus_laws.specs.FlatModel.Hart.{hart_start}
use Rattle.bus_laws.specs.FlatModel.Flat.{FlatHart, FlatMachine, flat_hart_start, no_flat_hart, flat_start, flat_hart, has_reserved}
use Rattle.bus_laws.specs.IsTree.{IsTree}
use Rattle.serving_model.specs.TreeModel.State.Lists.{map_from}
use Rattle.serving_model.specs.TreeModel.State.States.{may_leave}
use Rattle.serving_model.specs.TreeModel.State.Values.{WayValue, LeafValue, DirSizes, Node, leaf_node, nodes, MachineValue, root_of}
use Rattle.serving_model.specs.TreeModel.State.Leaf.{way_at, free_way}
use Rattle.serving_model.specs.TreeModel.State.Shape.{Skeleton, Skeletons, leaf_bone, dir_bone, no_bones, more_bones, skeleton, leaf_numbers_of, leaf_numbers_among, IsShaped}
use Rattle.serving_model.specs.TreeModel.Start.Sources.{ImageValue, TreeValue, leaf_count, width_of, start_of_harts}
use Rattle.serving_model.specs.TreeModel.Start.Memory.{start_items, start_words}
use Rattle.serving_model.specs.TreeModel.Start.Nodes.{dir_sizes, held_exclusive, leaf_for, placed, placed_at, placed_in, placed_items, cut_in, held_below, held_if, dirs_over, under_levels}
use Rattle.serving_model.specs.TreeModel.Start.Machine.{StartRefusal, start_leaf, start_leaves, start_machine, start_refusal, start_or, start_of, flat_start_of}
use Rattle.serving_model.specs.TreeRules.Bus.Rules.{IsMachineOk, items_of_machine}
use Rattle.serving_model.specs.Rest.{way_rests, item_rests, tree_rests, trees_rest, has_room}
use Rattle.serving_model.specs.Parts.{Have, AllHave}
use Rattle.serving_model.specs.Shows.{view}
use Rattle.serving_model.specs.ServedLists.{StartShows}
use Rattle.bus_laws.proofs.HartChanges.{way-set_other}
use Rattle.bus_laws.proofs.StartLevels.{each-take, each-drop}
use Rattle.bus_laws.proofs.StartKept.{start-kept, start-numbered}
use Rattle.serving_model.proofs.Lists.{pass-each}
use Rattle.serving_model.proofs.Settled.{rests-leaf}
use Rattle.serving_model.proofs.Names.{same-test}
use Rattle.serving_model.proofs.Spine.{bone_over, bones_over}
use Rattle.serving_model.proofs.Listed.{hart-bones}

record FreshLeaf (start : Start) (words : List (List ℕ)) (v : LeafValue) : Type 0 where
  number : v.number < start.harts
  hart : v.hart ≡ hart_start start v.number
  reservation : v.reservation ≡ None
  slot : v.slot ≡ None
  replies : v.replies ≡ []
  buffer : v.buffer ≡ []
  entries : (x : ℕ) (e : WayValue) → way_at x v.ways ≡ Some e → (e.state ≡ LeafState.Exclusive) × (e.words ≡ slice_index_or words x [])

module _ (start : Start) (words : List (List ℕ)) where
  abbrev f : FlatMachine
  f = flat_start start words

  abbrev IsFresh : Node → Type 0
  IsFresh m = (tree_rests m ≡ true) × Have (view f) m

  -- ---- an item comes into a leaf

  set-way : (ways : List (Option WayValue)) (x : ℕ) (e k : WayValue) → way_at x (slice_set ways x (Some e)) ≡ Some k → e ≡ k
  set-way [] x e k h = absurd (let wrong : ⊥ = cc in wrong)
  set-way (w ∷ ways) zero e k h = cc
  set-way (w ∷ ways) (suc x) e k h = set-way ways x e k h

  placed-fresh : (x : ℕ) (ws : List ℕ) (v : LeafValue) → ws ≡ slice_index_or words x [] → FreshLeaf start words v → FreshLeaf start words (placed x ws v)
  placed-fresh x ws v right f = by_way (free_way v.sizes x v.ways) refl where
    by_way : (o : Option ℕ) → free_way v.sizes x v.ways ≡ o → FreshLeaf start words (placed x ws v)
    by_way None e = rw e (record { number = f.number; hart = f.hart; reservation = f.reservation; slot = f.slot; replies = f.replies; buffer = f.buffer; entries = f.entries })
    by_way (Some way) e = rw e (record { number = f.number; hart = f.hart; reservation = f.reservation; slot = f.slot; replies = f.replies; buffer = f.buffer; entries = entries }) where
      entries : (y : ℕ) (k : WayValue) → way_at y (slice_set v.ways x (Some (record { way = way; state = LeafState.Exclusive; words = ws }))) ≡ Some k → (k.state ≡ LeafState.Exclusive) × (k.words ≡ slice_index_or words y [])
      entries y k there =
          elim (eqb_tells y x) as (λ _. (k.state ≡ LeafState.Exclusive) × (k.words ≡ slice_index_or words y [])) [
            | inl same ↦
                let here : way_at x (slice_set v.ways x (Some (record { way = way; state = LeafState.Exclusive; words = ws }))) ≡ Some k = subst (λ z. way_at z (slice_set v.ways x (Some (record { way = way; state = LeafState.Exclusive; words = ws }))) ≡ Some k) same.1 there in
                let is = set-way v.ways x (record { way = way; state = LeafState.Exclusive; words = ws }) k here in
                (sym (ap (λ (u : WayValue). u.state) is), sym (ap (λ (u : WayValue). u.words) is) ∙ right ∙ ap (λ z. slice_index_or words z []) (sym same.1))
            | inr other ↦ f.entries y k (sym (way-set_other v.ways x y _ other.1) ∙ there)
          ]

  at-fresh : (leaf x : ℕ) (ws : List ℕ) (i : ℕ) (vs : List LeafValue) → ws ≡ slice_index_or words x [] → AllByRecursion (FreshLeaf start words) vs → AllByRecursion (FreshLeaf start words) (map_from (placed_at leaf x ws) i vs)
  at-fresh leaf x ws i [] right f = tt
  at-fresh leaf x ws i (v ∷ vs) right f = (here (nat_eq i leaf), at-fresh leaf x ws (i + 1) vs right f.1) where
    here : (t : Bool) → FreshLeaf start words (if t then placed x ws v else v)
    here true = placed-fresh x ws v right f.0
    here false = f.0

  items-fresh : (x : ℕ) (rest : List (List ℕ)) (vs : List LeafValue) → ((k : ℕ) → slice_index_or rest k [] ≡ slice_index_or words (x + k) []) → AllByRecursion (FreshLeaf start words) vs → AllByRecursion (FreshLeaf start words) (placed_items x rest vs)
  unfolding placed_items
  items-fresh x [] vs right f = f
  items-fresh x (ws ∷ rest) vs right f = items-fresh (x + 1) rest (placed_in x ws vs (leaf_for vs x)) later (by_leaf (leaf_for vs x)) where
    later : (k : ℕ) → slice_index_or rest k [] ≡ slice_index_or words (x + 1 + k) []
    later k = right (suc k) ∙ ap (λ n. slice_index_or words n []) (let e : x + suc k ≡ x + 1 + k = omega arith in e)

    first : ws ≡ slice_index_or words x []
    first = right zero ∙ ap (λ n. slice_index_or words n []) (let e : x + 0 ≡ x = omega arith in e)

    by_leaf : (o : Option ℕ) → AllByRecursion (FreshLeaf start words) (placed_in x ws vs o)
    by_leaf None = f
    by_leaf (Some leaf) = at-fresh leaf x ws 0 vs first f

  -- ---- a leaf shows the start

  hart-is : (n : ℕ) → n < start.harts → flat_hart f n ≡ flat_hart_start start n
  unfolding flat_start
  hart-is n l = get_or-map-range_with_len (flat_hart_start start) 0 start.harts n n no_flat_hart l (omega arith)

  leaf-fresh : (v : LeafValue) → FreshLeaf start words v → IsFresh (leaf_node v)
  unfolding flat_start
  leaf-fresh v l = (
    rests-leaf v (record { ways = pass-each way_rests None v.ways (λ k i. rests k (way_at k v.ways) refl); buffer = l.buffer; slot = l.slot; replies = l.replies }),
    record {
      each = λ y e there reads. (l.entries y e there).1;
      same_hart = l.hart ∙ sym (ap (λ (g : FlatHart). g.hart) (hart-is v.number l.number));
      allowed = rw (hart-is v.number l.number, l.reservation) refl;
      here = λ y has. none y (subst (λ o. has_reserved o y ≡ true) l.reservation has);
    },
  ) where
    rests : (k : ℕ) (o : Option WayValue) → way_at k v.ways ≡ o → way_rests (way_at k v.ways) ≡ true
    rests k None is = rw is refl
    rests k (Some e) is = ap way_rests is ∙ ap may_leave (l.entries k e is).0

    none : (y : ℕ) → has_reserved None y ≡ true → is_some (way_at y v.ways) ≡ true
    none y has = cc

  leaves-fresh : (vs : List LeafValue) → AllByRecursion (FreshLeaf start words) vs → AllByRecursion IsFresh (map leaf_node vs)
  leaves-fresh [] l = tt
  leaves-fresh (v ∷ vs) l = (leaf-fresh v l.0, leaves-fresh vs l.1)

  -- ---- the levels above

  nodes-fresh : (ns : List Node) → AllByRecursion IsFresh ns → (trees_rest (nodes ns) ≡ true) × AllHave (view f) (nodes ns)
  nodes-fresh [] l = (refl, tt)
  nodes-fresh (n ∷ ns) l =
      let rest = nodes-fresh ns l.1 in
      (both_true l.0.0 rest.0, (l.0.1, rest.1))

  held-rest : (bs : List Bool) → list_all item_rests (map held_if bs) ≡ true
  held-rest [] = refl
  held-rest (true ∷ bs) = held-rest bs
  held-rest (false ∷ bs) = held-rest bs

  dirs-fresh : (sizes : DirSizes) (level bus : ℕ) (l : List ℕ) (ns : List Node) → AllByRecursion IsFresh ns → AllByRecursion IsFresh (dirs_over sizes level bus (cut_in l ns))
  dirs-fresh sizes level bus [] ns each = tt
  dirs-fresh sizes level bus (k ∷ l) ns each =
      let kids = nodes-fresh (take k ns) (each-take IsFresh k ns each) in
      ((both_true (both_true (held-rest (held_below (take k ns))) refl) kids.0, kids.1), dirs-fresh sizes level (bus + 1) l (drop k ns) (each-drop IsFresh k ns each))

  levels-fresh : (sizes : DirSizes) (level bus : ℕ) (ls : List (List ℕ)) (leaves : List Node) → AllByRecursion IsFresh leaves → AllByRecursion IsFresh (under_levels sizes level bus ls leaves)
  levels-fresh sizes level bus [] leaves each = each
  levels-fresh sizes level bus (l ∷ ls) leaves each = dirs-fresh sizes level bus l (under_levels sizes (level + 1) (bus + length l) ls leaves) (levels-fresh sizes (level + 1) (bus + length l) ls leaves each)

-- ---- the machine

module _ (t : TreeValue) (i : ImageValue) where
  no-way : (n x : ℕ) (e : WayValue) → way_at x (replicate n None) ≡ Some e → ⊥
  no-way zero x e h = cc
  no-way (suc n) zero e h = cc
  no-way (suc n) (suc x) e h = no-way n x e h

  new-fresh : (k n : ℕ) → k + n ≤ leaf_count t → AllByRecursion (FreshLeaf (start_of_harts t i) (start_words t i)) (map (start_leaf t i) (range_with_len k n))
  new-fresh k zero l = tt
  new-fresh k (suc n) l = (
    record { number = omega (arith, l); hart = refl; reservation = refl; slot = refl; replies = refl; buffer = refl; entries = λ x e there. absurd (no-way (item_count (start_items t i)) x e there) },
    new-fresh (k + 1) n (omega (arith, l)),
  )

  all-held : (n : ℕ) → list_all item_rests (replicate n held_exclusive) ≡ true
  all-held zero = refl
  all-held (suc n) = all-held n

  start-fresh : (tree_rests (root_of (start_machine t i)) ≡ true) × AllHave (view (flat_start_of t i)) (start_machine t i).kids
  unfolding start_machine
  start-fresh =
      let start : Start = start_of_harts t i in
      let words : List (List ℕ) = start_words t i in
      let placed = items-fresh start words 0 words (map (start_leaf t i) (range_with_len 0 (leaf_count t))) (λ k. ap (λ n. slice_index_or words n []) (let e : k ≡ 0 + k = omega arith in e)) (new-fresh 0 (leaf_count t) (omega arith)) in
      let kids = nodes-fresh start words (under_levels (dir_sizes t.sizes (width_of t)) 1 1 (drop 1 t.levels) (map leaf_node (start_leaves t i))) (levels-fresh start words (dir_sizes t.sizes (width_of t)) 1 1 (drop 1 t.levels) (map leaf_node (start_leaves t i)) (leaves-fresh start words (start_leaves t i) placed)) in
      (both_true (both_true (all-held (item_count (start_items t i))) refl) kids.0, kids.1)

  words-count : length (start_words t i) ≡ item_count (start_machine t i).items
  unfolding start_words start_machine
  words-count = length-map (start_items t i).rows _

-- ---- harts

module _ (h : ℕ) where
  mutual
    numbers-over : (b : Skeleton) (rest : List ℕ) → list_any (nat_eq h) (leaf_numbers_of b rest) ≡ (bone_over h b || list_any (nat_eq h) rest)
    numbers-over (leaf_bone number sizes) rest = ap (λ a. a || list_any (nat_eq h) rest) (same-test h number)
    numbers-over (dir_bone bus level sizes bones) rest = among-over bones rest

    among-over : (bs : Skeletons) (rest : List ℕ) → list_any (nat_eq h) (leaf_numbers_among bs rest) ≡ (bones_over h bs || list_any (nat_eq h) rest)
    among-over no_bones rest = refl
    among-over (more_bones b bs) rest = numbers-over b (leaf_numbers_among bs rest) ∙ (ap (λ a. bone_over h b || a) (among-over bs rest) ∙ regroup (bone_over h b) (bones_over h bs) (list_any (nat_eq h) rest)) where
      regroup : (a b c : Bool) → (a || (b || c)) ≡ ((a || b) || c)
      regroup true b c = refl
      regroup false b c = refl

  in-range : (a n : ℕ) → a ≤ h → h < a + n → list_any (nat_eq h) (range_with_len a n) ≡ true
  in-range a zero low high = absurd (omega (arith, low, high))
  in-range a (suc n) low high = by (nat_eq h a) refl (λ apart. in-range (a + 1) n (above a apart low) (omega (arith, high))) where
    above : (a : ℕ) → nat_eq h a ≡ false → a ≤ h → a + 1 ≤ h
    above a apart low = grind (arith, nat_tests)

    by : (b : Bool) → nat_eq h a ≡ b → (nat_eq h a ≡ false → list_any (nat_eq h) (range_with_len (a + 1) n) ≡ true) → list_any (nat_eq h) (range_with_len a (suc n)) ≡ true
    by true is rest = rw is refl
    by false is rest = rw is (rest is)

pub start-shows : (t : TreeValue) (i : ImageValue) (m : MachineValue) → IsTree t → start_of t i ≡ Ok m → has_room m ≡ true → StartShows m (flat_start_of t i)
unfolding start_of flat_start
start-shows t i m tree built room = record {
  shows = record {
    shaped = kept.0;
    rules = kept.1;
    rests = subst (λ k. tree_rests (root_of k) ≡ true) same (start-fresh t i).0;
    room = room;
    leaves = subst (λ (k : MachineValue). AllHave (view (flat_start_of t i)) k.kids) same (start-fresh t i).1;
    words = words;
  };
  harts = λ h l. hart-bones h m ∙ (or-false _ ∙ (sym (numbers-over h (skeleton (root_of m)) []) ∙ (ap (list_any (nat_eq h)) (start-numbered t i m tree built) ∙ in-range h 0 (leaf_count t) (omega arith) (within h l))));
} where
  kept : IsShaped m × IsMachineOk m
  kept = start-kept t i m tree built

  made : (o : Option StartRefusal) → start_or o t i ≡ Ok m → start_machine t i ≡ m
  made None e = one e where
    one : {a b : MachineValue} → (let r : Result MachineValue StartRefusal = Ok a in r ≡ Ok b) → a ≡ b
    one e = cc
  made (Some r) e = cc

  same : start_machine t i ≡ m
  same = made (start_refusal t i) built

  words : length (flat_start_of t i).words ≡ items_of_machine m
  words = words-count t i ∙ ap (λ (k : MachineValue). item_count k.items) same

  or-false : (b : Bool) → b ≡ (b || false)
  or-false true = refl
  or-false false = refl

  within : (h : ℕ) → h < length (flat_start_of t i).harts → h < 0 + leaf_count t
  within h l = subst (λ k. h < k) (length-map-range_with_len (flat_hart_start (start_of_harts t i)) 0 (leaf_count t) ∙ (let e : leaf_count t ≡ 0 + leaf_count t = omega arith in e)) l
