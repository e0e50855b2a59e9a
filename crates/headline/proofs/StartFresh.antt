-- The nodes before the first turn: nothing is under way at a directory; a leaf's hart is a starting one, which has completed
-- nothing, and each entry is Exclusive with the start's words of its item.
use Rattle.std.proofs.Common.{◌≡◌, ℕ, zero, suc, ◌+◌, ◌<◌, ◌≤◌, Bool, true, false, ◌⊎◌, inl, inr, List, [], ◌∷◌, map, take, drop, length, replicate, Option, Some, None, refl, sym, ap, subst, ◌∙◌, arith}
use Rattle.std.specs.Prelude.{nat_eq, slice_index_or, slice_set, if◌then◌else◌}
use Rattle.std.specs.List.{AllByRecursion, range_with_len}
use Rattle.std.proofs.lemmas.Bool.Decides.{eqb_tells}
use Rattle.headline.specs.DdmTypes.declared.sizes.Start.{Start}
use Rattle.headline.specs.DdmTypes.declared.sizes.Hold.{Hold}
use Rattle.headline.specs.DdmTypes.declared.sizes.LeafState.{LeafState}
use Rattle.headline.specs.DdmTypes.Keys.{stamp_zero}
use Rattle.headline.specs.DdmTypes.ItemTable.{item_count}
use Rattle.headline.specs.FlatModel.Hart.{hart_start}
use Rattle.headline.specs.TreeModel.State.Lists.{map_from}
use Rattle.headline.specs.TreeModel.State.Values.{WayValue, LeafValue, DirItem, absent_item, DirSizes, DirValue, Node, Nodes, leaf_node, dir_node, no_nodes, more_nodes, nodes, MachineValue}
use Rattle.headline.specs.TreeModel.State.Leaf.{way_at, free_way}
use Rattle.headline.specs.TreeModel.Start.Sources.{ImageValue, TreeValue, leaf_count, width_of, start_of_harts}
use Rattle.headline.specs.TreeModel.Start.Memory.{start_items, start_words}
use Rattle.headline.specs.TreeModel.Start.Nodes.{dir_sizes, held_exclusive, leaf_for, placed, placed_at, placed_in, placed_items, cut_in, held_below, held_if, dirs_over, under_levels}
use Rattle.headline.specs.TreeModel.Start.Machine.{start_leaf, start_leaves, start_machine}
use Rattle.headline.proofs.BusLaws.HartChanges.{way-set_other}
use Rattle.headline.proofs.BusLaws.StartLevels.{each-take, each-drop}

-- ---- a leaf and a directory

pub record IsFreshLeaf (start : Start) (words : List (List ℕ)) (v : LeafValue) : Type 0 where
  pub number : v.number < start.harts
  pub hart : v.hart ≡ hart_start start v.number
  pub done : v.done ≡ 0
  pub reservation : v.reservation ≡ None
  pub replies : v.replies ≡ []
  pub buffer : v.buffer ≡ []
  pub entries : (x : ℕ) (e : WayValue) → way_at x v.ways ≡ Some e → (e.state ≡ LeafState.Exclusive) × (e.words ≡ slice_index_or words x [])

-- what it keeps of an item
abbrev IsHeldIf : DirItem → Type 0
IsHeldIf i = (i.hold ≡ Hold.Exclusive) ⊎ (i.hold ≡ Hold.Invalid)

pub record IsFreshDir (d : DirValue) : Type 0 where
  pub items : (x : ℕ) → IsHeldIf (slice_index_or d.items x absent_item)
  pub down : d.down ≡ []
  pub replies : d.replies ≡ []
  pub parked : d.parked ≡ []
  pub count : d.count ≡ 0
  pub epoch : d.epoch ≡ stamp_zero

module _ (start : Start) (words : List (List ℕ)) where
  abbrev mutual
    pub IsFresh : Node → Type 0
    IsFresh (leaf_node v) = IsFreshLeaf start words v
    IsFresh (dir_node d ns) = IsFreshDir d × AreFresh ns

    pub AreFresh : Nodes → Type 0
    AreFresh no_nodes = Unit {0}
    AreFresh (more_nodes n ns) = IsFresh n × AreFresh ns

  -- ---- an item comes into a leaf

  set-way : (ways : List (Option WayValue)) (x : ℕ) (e f : WayValue) → way_at x (slice_set ways x (Some e)) ≡ Some f → e ≡ f
  set-way [] x e f h = absurd (let wrong : ⊥ = cc in wrong)
  set-way (w ∷ ways) zero e f h = cc
  set-way (w ∷ ways) (suc x) e f h = set-way ways x e f h

  placed-fresh : (x : ℕ) (ws : List ℕ) (v : LeafValue) → ws ≡ slice_index_or words x [] → IsFreshLeaf start words v → IsFreshLeaf start words (placed x ws v)
  placed-fresh x ws v right f = by_way (free_way v.sizes x v.ways) refl where
    by_way : (o : Option ℕ) → free_way v.sizes x v.ways ≡ o → IsFreshLeaf start words (placed x ws v)
    by_way None e = rw e (record { number = f.number; hart = f.hart; done = f.done; reservation = f.reservation; replies = f.replies; buffer = f.buffer; entries = f.entries })
    by_way (Some way) e = rw e (record { number = f.number; hart = f.hart; done = f.done; reservation = f.reservation; replies = f.replies; buffer = f.buffer; entries = entries }) where
      entries : (y : ℕ) (k : WayValue) → way_at y (slice_set v.ways x (Some (record { way = way; state = LeafState.Exclusive; words = ws }))) ≡ Some k → (k.state ≡ LeafState.Exclusive) × (k.words ≡ slice_index_or words y [])
      entries y k there =
          elim (eqb_tells y x) as (λ _. (k.state ≡ LeafState.Exclusive) × (k.words ≡ slice_index_or words y [])) [
            | inl same ↦
                let here : way_at x (slice_set v.ways x (Some (record { way = way; state = LeafState.Exclusive; words = ws }))) ≡ Some k = subst (λ z. way_at z (slice_set v.ways x (Some (record { way = way; state = LeafState.Exclusive; words = ws }))) ≡ Some k) same.1 there in
                let is = set-way v.ways x (record { way = way; state = LeafState.Exclusive; words = ws }) k here in
                (sym (ap (λ (u : WayValue). u.state) is), sym (ap (λ (u : WayValue). u.words) is) ∙ right ∙ ap (λ z. slice_index_or words z []) (sym same.1))
            | inr other ↦ f.entries y k (sym (way-set_other v.ways x y _ other.1) ∙ there)
          ]

  at-fresh : (leaf x : ℕ) (ws : List ℕ) (i : ℕ) (vs : List LeafValue) → ws ≡ slice_index_or words x [] → AllByRecursion (IsFreshLeaf start words) vs → AllByRecursion (IsFreshLeaf start words) (map_from (placed_at leaf x ws) i vs)
  at-fresh leaf x ws i [] right f = tt
  at-fresh leaf x ws i (v ∷ vs) right f = (here (nat_eq i leaf), at-fresh leaf x ws (i + 1) vs right f.1) where
    here : (t : Bool) → IsFreshLeaf start words (if t then placed x ws v else v)
    here true = placed-fresh x ws v right f.0
    here false = f.0

  items-fresh : (x : ℕ) (rest : List (List ℕ)) (vs : List LeafValue) → ((k : ℕ) → slice_index_or rest k [] ≡ slice_index_or words (x + k) []) → AllByRecursion (IsFreshLeaf start words) vs → AllByRecursion (IsFreshLeaf start words) (placed_items x rest vs)
  unfolding placed_items
  items-fresh x [] vs right f = f
  items-fresh x (ws ∷ rest) vs right f = items-fresh (x + 1) rest (placed_in x ws vs (leaf_for vs x)) later (by_leaf (leaf_for vs x)) where
    later : (k : ℕ) → slice_index_or rest k [] ≡ slice_index_or words (x + 1 + k) []
    later k = right (suc k) ∙ ap (λ n. slice_index_or words n []) (let e : x + suc k ≡ x + 1 + k = omega arith in e)

    first : ws ≡ slice_index_or words x []
    first = right zero ∙ ap (λ n. slice_index_or words n []) (let e : x + 0 ≡ x = omega arith in e)

    by_leaf : (o : Option ℕ) → AllByRecursion (IsFreshLeaf start words) (placed_in x ws vs o)
    by_leaf None = f
    by_leaf (Some leaf) = at-fresh leaf x ws 0 vs first f

  -- ---- the levels above

  pub nodes-fresh : (ns : List Node) → AllByRecursion IsFresh ns → AreFresh (nodes ns)
  nodes-fresh [] f = tt
  nodes-fresh (n ∷ ns) f = (f.0, nodes-fresh ns f.1)

  held-fresh : (bs : List Bool) (x : ℕ) → IsHeldIf (slice_index_or (map held_if bs) x absent_item)
  held-fresh [] x = inr refl
  held-fresh (true ∷ bs) zero = inl refl
  held-fresh (false ∷ bs) zero = inr refl
  held-fresh (b ∷ bs) (suc x) = held-fresh bs x

  dirs-fresh : (sizes : DirSizes) (level bus : ℕ) (l : List ℕ) (ns : List Node) → AllByRecursion IsFresh ns → AllByRecursion IsFresh (dirs_over sizes level bus (cut_in l ns))
  dirs-fresh sizes level bus [] ns f = tt
  dirs-fresh sizes level bus (k ∷ l) ns f = (
    (record { items = held-fresh (held_below (take k ns)); down = refl; replies = refl; parked = refl; count = refl; epoch = refl }, nodes-fresh (take k ns) (each-take IsFresh k ns f)),
    dirs-fresh sizes level (bus + 1) l (drop k ns) (each-drop IsFresh k ns f),
  )

  levels-fresh : (sizes : DirSizes) (level bus : ℕ) (ls : List (List ℕ)) (leaves : List Node) → AllByRecursion IsFresh leaves → AllByRecursion IsFresh (under_levels sizes level bus ls leaves)
  levels-fresh sizes level bus [] leaves f = f
  levels-fresh sizes level bus (l ∷ ls) leaves f = dirs-fresh sizes level bus l (under_levels sizes (level + 1) (bus + length l) ls leaves) (levels-fresh sizes (level + 1) (bus + length l) ls leaves f)

  leaves-fresh : (vs : List LeafValue) → AllByRecursion (IsFreshLeaf start words) vs → AllByRecursion IsFresh (map leaf_node vs)
  leaves-fresh [] f = tt
  leaves-fresh (v ∷ vs) f = (f.0, leaves-fresh vs f.1)

-- ---- the machine

pub record IsFreshMachine (start : Start) (words : List (List ℕ)) (m : MachineValue) : Type 0 where
  pub top : IsFreshDir m.top
  pub kids : AreFresh start words m.kids
  pub ops : m.ops ≡ []

module _ (t : TreeValue) (i : ImageValue) where
  no_way : (n x : ℕ) (e : WayValue) → way_at x (replicate n None) ≡ Some e → ⊥
  no_way zero x e h = cc
  no_way (suc n) zero e h = cc
  no_way (suc n) (suc x) e h = no_way n x e h

  new-fresh : (k n : ℕ) → k + n ≤ leaf_count t → AllByRecursion (IsFreshLeaf (start_of_harts t i) (start_words t i)) (map (start_leaf t i) (range_with_len k n))
  new-fresh k zero l = tt
  new-fresh k (suc n) l = (
    record { number = omega (arith, l); hart = refl; done = refl; reservation = refl; replies = refl; buffer = refl; entries = λ x e there. absurd (no_way (item_count (start_items t i)) x e there) },
    new-fresh (k + 1) n (omega (arith, l)),
  )

  all_held : (n x : ℕ) → IsHeldIf (slice_index_or (replicate n held_exclusive) x absent_item)
  all_held zero x = inr refl
  all_held (suc n) zero = inl refl
  all_held (suc n) (suc x) = all_held n x

  pub start-fresh : IsFreshMachine (start_of_harts t i) (start_words t i) (start_machine t i)
  unfolding start_machine
  start-fresh =
      let start : Start = start_of_harts t i in
      let words : List (List ℕ) = start_words t i in
      let placed = items-fresh start words 0 words (map (start_leaf t i) (range_with_len 0 (leaf_count t))) (λ k. ap (λ n. slice_index_or words n []) (let e : k ≡ 0 + k = omega arith in e)) (new-fresh 0 (leaf_count t) (omega arith)) in
      record {
        top = record { items = all_held (item_count (start_items t i)); down = refl; replies = refl; parked = refl; count = refl; epoch = refl };
        kids = nodes-fresh start words (under_levels (dir_sizes t.sizes (width_of t)) 1 1 (drop 1 t.levels) (map leaf_node (start_leaves t i))) (levels-fresh start words (dir_sizes t.sizes (width_of t)) 1 1 (drop 1 t.levels) (map leaf_node (start_leaves t i)) (leaves-fresh start words (start_leaves t i) placed));
        ops = refl;
      }
