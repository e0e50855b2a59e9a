-- The machine before its first turn: the tree of a shape, the items and code of an image's segments and of the stacks, and
-- each item placed in a leaf; and why there is none.
-- Letters: t is a tree, i an image, s a segment.
-- To be believed: it is what the machine is.
use Rattle.std.specs.Prelude.{ℕ, ◌+◌, Bool, ◌&&◌, nat_lt, List, [], ◌∷◌, map, drop, Option, Some, None, Result, Ok, Err, if◌then◌else◌}
use Rattle.std.specs.List.{range_with_len}
use Rattle.tree_model.specs.DdmTypes.declared.sizes.Span.{Span}
use Rattle.tree_model.specs.DdmTypes.ItemTable.{item_count}
use Rattle.flat_model.specs.Flat.{FlatMachine, flat_start}
use Rattle.tree_model.specs.State.Lists.{first_some}
use Rattle.tree_model.specs.State.Values.{LeafValue, leaf_node, nodes, MachineValue}
use Rattle.tree_model.specs.Turns.Machine.{no_traffic}
use Rattle.tree_model.specs.Start.Sources.{SegmentValue, ImageValue, TreeValue, leaf_count, bus_widths, width_of}
use Rattle.tree_model.specs.Start.Sources.{place_count, start_of_harts, segment_span, stack_spans}
use Rattle.tree_model.specs.Start.Memory.{start_items, start_words, start_code}
use Rattle.tree_model.specs.Start.Nodes.{leaf_sizes, dir_sizes, top_sizes, new_leaf, new_top, placed_items, under_levels}

abbrev pub start_leaf : TreeValue → ImageValue → ℕ → LeafValue
start_leaf t i number = new_leaf (leaf_sizes t.sizes t.way_count (width_of t)) (start_of_harts t i) (item_count (start_items t i)) number

abbrev pub start_leaves : TreeValue → ImageValue → List LeafValue
start_leaves t i = placed_items 0 (start_words t i) (map (start_leaf t i) (range_with_len 0 (leaf_count t)))

-- the machine of a tree and an image
unfoldable pub start_machine : TreeValue → ImageValue → MachineValue
start_machine t i = record {
  code = start_code i;
  items = start_items t i;
  top = new_top (top_sizes t.sizes.down (width_of t)) (item_count (start_items t i));
  kids = nodes (under_levels (dir_sizes t.sizes (width_of t)) 1 1 (drop 1 t.levels) (map leaf_node (start_leaves t i)));
  ops = [];
  traffic = map (λ _. no_traffic) (bus_widths t);
}

-- the flat machine of a tree and an image, before its first step
abbrev pub flat_start_of : TreeValue → ImageValue → FlatMachine
flat_start_of t i = flat_start (start_of_harts t i) (start_words t i)

-- ---- refusals, in this order

pub data StartRefusal : Type 0 where
  -- more than 65,536 items of segments and stacks
  too_many_items : ℕ → StartRefusal
  -- the stack of this hart meets the segment of this header
  stack_overlap : ℕ → ℕ → StartRefusal
  -- there is no place for this item
  no_place : ℕ → StartRefusal

-- both have a byte in common
abbrev pub spans_meet : Span → Span → Bool
spans_meet a b = nat_lt 0 a.bytes && (nat_lt 0 b.bytes && (nat_lt a.start (b.start + b.bytes) && nat_lt b.start (a.start + a.bytes)))

-- the least header whose segment meets the stack
abbrev pub header_met : Span → List SegmentValue → Option ℕ
header_met stack [] = None
header_met stack (s ∷ ss) = if spans_meet stack (segment_span s) then Some s.header else header_met stack ss

abbrev pub overlap_of : ℕ → Option ℕ → Option StartRefusal
overlap_of hart None = None
overlap_of hart (Some header) = Some (stack_overlap hart header)

-- of the least hart, from this one on, then the least header
abbrev pub overlap_from : List SegmentValue → ℕ → List Span → Option StartRefusal
overlap_from segments hart [] = None
overlap_from segments hart (s ∷ ss) = first_some (overlap_of hart (header_met s segments)) (overlap_from segments (hart + 1) ss)

unfoldable pub start_refusal : TreeValue → ImageValue → Option StartRefusal
start_refusal t i =
    let n = item_count (start_items t i) in
    if nat_lt 65536 n then Some (too_many_items n)
    else first_some (overlap_from i.segments 0 (stack_spans t)) (if nat_lt (place_count t) n then Some (no_place (place_count t)) else None)

abbrev pub start_or : Option StartRefusal → TreeValue → ImageValue → Result MachineValue StartRefusal
start_or None t i = Ok (start_machine t i)
start_or (Some r) t i = Err r

unfoldable pub start_of : TreeValue → ImageValue → Result MachineValue StartRefusal
start_of t i = start_or (start_refusal t i) t i
