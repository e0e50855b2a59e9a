-- The nodes of a tree before the first turn: leaves and directories of given sizes, the items placed, and the levels of buses
-- over the leaves.
-- Letters: v is a leaf, ls are leaves, ks and ns nodes, x is an item, l a level.
-- To be believed: it is what the machine is.
use Rattle.std.specs.Prelude.{ℕ, ◌+◌, ◌%◌, Bool, ◌||◌, nat_eq, List, [], ◌∷◌, map, length, take, drop, replicate}
use Rattle.std.specs.Prelude.{find, Option, Some, None, is_some, slice_index_or, if◌then◌else◌}
use Rattle.std.specs.List.{range_with_len}
use Rattle.tree_model.specs.DdmTypes.declared.sizes.Start.{Start}
use Rattle.tree_model.specs.DdmTypes.declared.sizes.TreeSizes.{TreeSizes}
use Rattle.tree_model.specs.DdmTypes.declared.sizes.Hold.{Hold}
use Rattle.tree_model.specs.DdmTypes.declared.sizes.LeafState.{LeafState}
use Rattle.tree_model.specs.DdmTypes.Keys.{stamp_zero}
use Rattle.flat_model.specs.Hart.{hart_start}
use Rattle.tree_model.specs.State.Lists.{map_from}
use Rattle.tree_model.specs.State.States.{is_exclusive}
use Rattle.tree_model.specs.State.Values.{LeafSizes, LeafValue, DirItem, absent_item, DirSizes, DirValue, Node, leaf_node, dir_node, nodes}
use Rattle.tree_model.specs.State.Blank.{no_leaf}
use Rattle.tree_model.specs.State.Leaf.{free_way, with_fate, enters_free}

-- ---- a leaf and a directory with nothing in them

abbrev pub leaf_sizes : TreeSizes → ℕ → ℕ → LeafSizes
leaf_sizes s way_count width =
    record { sets = s.sets; way_count = way_count; buffer_room = s.buffer; reply_room = s.replies; width = width }

abbrev pub dir_sizes : TreeSizes → ℕ → DirSizes
dir_sizes s width =
    record {
      down_room = s.down;
      request_room = s.requests;
      reply_room = s.replies;
      parking_room = s.parking;
      width = width;
    }

-- the top sends and parks nothing
abbrev pub top_sizes : ℕ → ℕ → DirSizes
top_sizes down width = record { down_room = down; request_room = 0; reply_room = 0; parking_room = 0; width = width }

-- of so many items
abbrev pub new_leaf : LeafSizes → Start → ℕ → ℕ → LeafValue
new_leaf sizes start items number = record {
  number = number;
  sizes = sizes;
  hart = hart_start start number;
  done = 0;
  ways = replicate items None;
  buffer = [];
  slot = None;
  replies = [];
  reservation = None;
}

abbrev pub held_exclusive : DirItem
held_exclusive = record absent_item { hold = Hold.Exclusive }

-- with this of each item
abbrev pub new_dir : DirSizes → ℕ → ℕ → List DirItem → DirValue
new_dir sizes level bus items = record {
  bus = bus;
  level = level;
  sizes = sizes;
  items = items;
  down = [];
  requests = [];
  replies = [];
  parked = [];
  reserved = 0;
  count = 0;
  epoch = stamp_zero;
}

-- the top holds every item Exclusive
abbrev pub new_top : DirSizes → ℕ → DirValue
new_top sizes items = new_dir sizes 0 0 (replicate items held_exclusive)

-- ---- placement: item i goes to leaf i mod leaves, or to the next one in cyclic order with a free way in its set

abbrev pub has_way : List LeafValue → ℕ → ℕ → Bool
has_way ls x leaf = let v = slice_index_or ls leaf no_leaf in is_some (free_way v.sizes x v.ways)

-- the leaves in cyclic order from one
abbrev pub cyclic_from : ℕ → ℕ → List ℕ
cyclic_from first count = map (λ k. (first + k) % count) (range_with_len 0 count)

unfoldable pub leaf_for : List LeafValue → ℕ → Option ℕ
leaf_for ls x = find (has_way ls x) (cyclic_from (x % length ls) (length ls))

-- the item comes, Exclusive, into the lowest free way
abbrev pub placed : ℕ → List ℕ → LeafValue → LeafValue
placed x words v = with_fate x (enters_free LeafState.Exclusive words (free_way v.sizes x v.ways)) v

abbrev pub placed_at : ℕ → ℕ → List ℕ → ℕ → LeafValue → LeafValue
placed_at leaf x words i v = if nat_eq i leaf then placed x words v else v

abbrev pub placed_in : ℕ → List ℕ → List LeafValue → Option ℕ → List LeafValue
placed_in x words ls None = ls
placed_in x words ls (Some leaf) = map_from (placed_at leaf x words) 0 ls

-- the items in order of number, from x on
unfoldable pub placed_items : ℕ → List (List ℕ) → List LeafValue → List LeafValue
placed_items x [] ls = ls
placed_items x (words ∷ rest) ls = placed_items (x + 1) rest (placed_in x words ls (leaf_for ls x))

-- ---- the levels of buses, from below

-- a list cut into runs of these lengths
abbrev pub cut_in : {X : Type 0} → List ℕ → List X → List (List X)
cut_in [] xs = []
cut_in (n ∷ ns) xs = take n xs ∷ cut_in ns (drop n xs)

-- which of the items a node holds: a leaf those with an entry, a directory those that it holds Exclusive
abbrev pub item_is_exclusive : DirItem → Bool
item_is_exclusive i = is_exclusive i.hold

abbrev pub held_by : Node → List Bool
held_by (leaf_node v) = map is_some v.ways
held_by (dir_node d ns) = map item_is_exclusive d.items

-- either of two, place by place; the longer one goes on alone
abbrev pub or_each : List Bool → List Bool → List Bool
or_each [] cs = cs
or_each (b ∷ bs) [] = b ∷ bs
or_each (b ∷ bs) (c ∷ cs) = (b || c) ∷ or_each bs cs

-- the items that some child holds
abbrev pub held_below : List Node → List Bool
held_below [] = []
held_below (n ∷ ns) = or_each (held_by n) (held_below ns)

abbrev pub held_if : Bool → DirItem
held_if b = if b then held_exclusive else absent_item

module _ (sizes : DirSizes) where
  -- every directory over an item's leaf holds it Exclusive, the others hold nothing of it
  abbrev pub dir_over : ℕ → ℕ → List Node → Node
  dir_over level bus ks = dir_node (new_dir sizes level bus (map held_if (held_below ks))) (nodes ks)

  abbrev pub dirs_over : ℕ → ℕ → List (List Node) → List Node
  dirs_over level bus [] = []
  dirs_over level bus (ks ∷ rest) = dir_over level bus ks ∷ dirs_over level (bus + 1) rest

  -- The nodes under bus 0: the levels below it, the first of them at this level and with this first bus number, over the
  -- leaves.
  abbrev pub under_levels : ℕ → ℕ → List (List ℕ) → List Node → List Node
  under_levels level bus [] leaves = leaves
  under_levels level bus (l ∷ ls) leaves = dirs_over level bus (cut_in l (under_levels (level + 1) (bus + length l) ls leaves))
