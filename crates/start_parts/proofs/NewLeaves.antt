-- The leaves before the first turn: each has an entry for each placed item, Exclusive, and nothing else.
use Rattle.std.proofs.Common.{◌≡◌, ℕ, zero, suc, ◌+◌, true, false, List, [], ◌∷◌, map, length, replicate, Option, Some, None, refl, sym, ap, ◌∙◌}
use Rattle.std.specs.Prelude.{is_some, nat_eq, slice_set, slice_index_or, if◌then◌else◌}
use Rattle.std.specs.List.{AllByRecursion, range_with_len}
use Rattle.std.proofs.lemmas.List.{length-map, length-replicate, length-set}
use Rattle.std.proofs.lemmas.List.FromFn.{length-range_with_len}
use Rattle.start_parts.specs.DdmTypes.ItemTable.{item_count}
use Rattle.start_parts.specs.DdmTypes.declared.sizes.LeafState.{LeafState}
use Rattle.start_parts.specs.TreeModel.State.Lists.{map_from}
use Rattle.start_parts.specs.TreeModel.State.States.{is_exclusive}
use Rattle.start_parts.specs.TreeModel.State.Values.{WayValue, LeafSizes, LeafValue, leaf_node}
use Rattle.start_parts.specs.TreeModel.State.Leaf.{way_at, entry_at, leaf_hold, free_way, with_fate, enters_free}
use Rattle.start_parts.specs.TreeModel.Start.Sources.{TreeValue, ImageValue, leaf_count, width_of}
use Rattle.start_parts.specs.TreeModel.Start.Memory.{start_items, start_words}
use Rattle.start_parts.specs.TreeModel.Start.Nodes.{leaf_sizes, placed, placed_at, placed_in, placed_items, leaf_for}
use Rattle.start_parts.specs.TreeModel.Start.Machine.{start_leaf, start_leaves}
use Rattle.start_parts.specs.Held.{IsHeld}

-- ---- ways

abbrev IsExclusiveWay : Option WayValue → Type 0
IsExclusiveWay None = Unit {0}
IsExclusiveWay (Some e) = e.state ≡ LeafState.Exclusive

abbrev AreExclusiveWays : List (Option WayValue) → Type 0
AreExclusiveWays ws = AllByRecursion IsExclusiveWay ws

free-ways : (n : ℕ) → AreExclusiveWays (replicate n None)
free-ways zero = tt
free-ways (suc n) = (tt, free-ways n)

set-way : (ws : List (Option WayValue)) (x : ℕ) (e : WayValue) → e.state ≡ LeafState.Exclusive → AreExclusiveWays ws → AreExclusiveWays (slice_set ws x (Some e))
set-way [] x e is h = tt
set-way (w ∷ ws) zero e is h = (is, h.1)
set-way (w ∷ ws) (suc x) e is h = (h.0, set-way ws x e is h.1)

at-way : (ws : List (Option WayValue)) (x : ℕ) → AreExclusiveWays ws → IsExclusiveWay (way_at x ws)
at-way [] x h = tt
at-way (w ∷ ws) zero h = h.0
at-way (w ∷ ws) (suc x) h = at-way ws x h.1

some-way : (ws : List (Option WayValue)) (x : ℕ) → slice_index_or (map is_some ws) x false ≡ is_some (way_at x ws)
some-way [] x = refl
some-way (w ∷ ws) zero = refl
some-way (w ∷ ws) (suc x) = some-way ws x

-- ---- one leaf

pub record IsNewLeaf (n : ℕ) (sizes : LeafSizes) (v : LeafValue) : Type 0 where
  pub sizes_are : v.sizes ≡ sizes
  pub count : length v.ways ≡ n
  pub exclusive : AreExclusiveWays v.ways
  pub buffer : v.buffer ≡ []
  pub replies : v.replies ≡ []
  pub done : v.done ≡ 0

abbrev pub AreNewLeaves : ℕ → LeafSizes → List LeafValue → Type 0
AreNewLeaves n sizes vs = AllByRecursion (IsNewLeaf n sizes) vs

module _ (n : ℕ) (sizes : LeafSizes) where
  placed-new : (x : ℕ) (words : List ℕ) (v : LeafValue) → IsNewLeaf n sizes v → IsNewLeaf n sizes (placed x words v)
  placed-new x words v h =
      elim (free_way v.sizes x v.ways) as (λ o. IsNewLeaf n sizes (with_fate x (enters_free LeafState.Exclusive words o) v)) [
        | None ↦ record { sizes_are = h.sizes_are; count = h.count; exclusive = h.exclusive; buffer = h.buffer; replies = h.replies; done = h.done }
        | Some way ↦ record {
          sizes_are = h.sizes_are;
          count = length-set v.ways x (Some (record { way = way; state = LeafState.Exclusive; words = words })) ∙ h.count;
          exclusive = set-way v.ways x (record { way = way; state = LeafState.Exclusive; words = words }) refl h.exclusive;
          buffer = h.buffer;
          replies = h.replies;
          done = h.done;
        }
      ]

  at-new : (leaf x : ℕ) (words : List ℕ) (i : ℕ) (v : LeafValue) → IsNewLeaf n sizes v → IsNewLeaf n sizes (placed_at leaf x words i v)
  at-new leaf x words i v h = elim (nat_eq i leaf) as (λ b. IsNewLeaf n sizes (if b then placed x words v else v)) [ true ↦ placed-new x words v h | false ↦ h ]

  each-new : (leaf x : ℕ) (words : List ℕ) (i : ℕ) (vs : List LeafValue) → AreNewLeaves n sizes vs → AreNewLeaves n sizes (map_from (placed_at leaf x words) i vs)
  each-new leaf x words i [] h = tt
  each-new leaf x words i (v ∷ vs) h = (at-new leaf x words i v h.0, each-new leaf x words (i + 1) vs h.1)

  in-new : (x : ℕ) (words : List ℕ) (vs : List LeafValue) (o : Option ℕ) → AreNewLeaves n sizes vs → AreNewLeaves n sizes (placed_in x words vs o)
  in-new x words vs None h = h
  in-new x words vs (Some leaf) h = each-new leaf x words 0 vs h

  items-new : (x : ℕ) (words : List (List ℕ)) (vs : List LeafValue) → AreNewLeaves n sizes vs → AreNewLeaves n sizes (placed_items x words vs)
  unfolding placed_items
  items-new x [] vs h = h
  items-new x (w ∷ words) vs h = items-new (x + 1) words (placed_in x w vs (leaf_for vs x)) (in-new x w vs (leaf_for vs x) h)

  -- it holds the items that have an entry, Exclusive
  pub leaf-held : (v : LeafValue) → IsNewLeaf n sizes v → IsHeld n (leaf_node v)
  unfolding leaf_hold entry_at
  leaf-held v h = record {
    count = length-map v.ways is_some ∙ h.count;
    agrees = λ x. entry x ∙ sym (some-way v.ways x);
  } where
    entry : (x : ℕ) → is_exclusive (leaf_hold x v) ≡ is_some (way_at x v.ways)
    entry x =
        elim (way_at x v.ways) as (λ o. way_at x v.ways ≡ o → IsExclusiveWay o → is_exclusive (leaf_hold x v) ≡ is_some (way_at x v.ways)) [
          | None ↦ λ none h'. rw (none, h.buffer) refl
          | Some e ↦ λ is exclusive. rw (is, exclusive) refl
        ] refl (at-way v.ways x h.exclusive)

-- ---- how many

from-length : (f : ℕ → LeafValue → LeafValue) (i : ℕ) (vs : List LeafValue) → length (map_from f i vs) ≡ length vs
from-length f i [] = refl
from-length f i (v ∷ vs) = ap suc (from-length f (i + 1) vs)

in-length : (x : ℕ) (words : List ℕ) (vs : List LeafValue) (o : Option ℕ) → length (placed_in x words vs o) ≡ length vs
in-length x words vs None = refl
in-length x words vs (Some leaf) = from-length (placed_at leaf x words) 0 vs

items-length : (x : ℕ) (words : List (List ℕ)) (vs : List LeafValue) → length (placed_items x words vs) ≡ length vs
unfolding placed_items
items-length x [] vs = refl
items-length x (w ∷ words) vs = items-length (x + 1) words (placed_in x w vs (leaf_for vs x)) ∙ in-length x w vs (leaf_for vs x)

-- ---- the leaves of a start

module _ (t : TreeValue) (i : ImageValue) where
  abbrev sizes_of_leaf : LeafSizes
  sizes_of_leaf = leaf_sizes t.sizes t.way_count (width_of t)

  empty-new : (js : List ℕ) → AreNewLeaves (item_count (start_items t i)) sizes_of_leaf (map (start_leaf t i) js)
  empty-new [] = tt
  empty-new (j ∷ js) = (record { sizes_are = refl; count = length-replicate (item_count (start_items t i)) None; exclusive = free-ways (item_count (start_items t i)); buffer = refl; replies = refl; done = refl }, empty-new js)

  pub leaves-new : AreNewLeaves (item_count (start_items t i)) sizes_of_leaf (start_leaves t i)
  leaves-new = items-new (item_count (start_items t i)) sizes_of_leaf 0 (start_words t i) (map (start_leaf t i) (range_with_len 0 (leaf_count t))) (empty-new (range_with_len 0 (leaf_count t)))

  pub leaves-length : length (start_leaves t i) ≡ leaf_count t
  leaves-length = items-length 0 (start_words t i) (map (start_leaf t i) (range_with_len 0 (leaf_count t))) ∙ length-map (range_with_len 0 (leaf_count t)) (start_leaf t i) ∙ length-range_with_len 0 (leaf_count t)
