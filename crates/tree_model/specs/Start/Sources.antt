-- What a machine is made from: an image's segments of memory, and a tree of buses.
-- Letters: t is a tree, i an image, s a segment.
-- To be believed: it is what the machine is.
use Rattle.std.specs.Prelude.{ℕ, ◌+◌, ◌*◌, ◌/◌, ◌%◌, Bool, true, List, [], ◌∷◌, map, sum, nat_eq}
use Rattle.std.specs.List.{flat_map, range_with_len}
use Rattle.tree_model.specs.DdmTypes.declared.sizes.Span.{Span}
use Rattle.tree_model.specs.DdmTypes.declared.sizes.Start.{Start}
use Rattle.tree_model.specs.DdmTypes.declared.sizes.TreeSizes.{TreeSizes}

-- a segment of memory of an image: its file bytes, followed by zeros up to its size
pub record SegmentValue : Type 0 where
  pub header : ℕ
  pub vaddr : ℕ
  pub flags : ℕ
  pub bytes : List ℕ
  pub memsz : ℕ

pub record ImageValue : Type 0 where
  pub entry : ℕ
  pub segments : List SegmentValue

-- The tree: for each level of buses, from the top, the number of children of each bus from left to right. Buses are numbered
-- in this order, leaves from left to right.
pub record TreeValue : Type 0 where
  pub levels : List (List ℕ)
  pub way_count : ℕ
  pub sizes : TreeSizes
  pub stack_base : ℕ
  pub stack_bytes : ℕ
  pub item_bytes : ℕ

-- ---- the tree

abbrev pub last_level : List (List ℕ) → List ℕ
last_level [] = []
last_level (l ∷ []) = l
last_level (l ∷ m ∷ ls) = last_level (m ∷ ls)

abbrev pub leaf_count : TreeValue → ℕ
leaf_count t = sum (last_level t.levels)

abbrev pub bus_widths : TreeValue → List ℕ
bus_widths t = flat_map (λ l. l) t.levels

-- words of an item
abbrev pub width_of : TreeValue → ℕ
width_of t = t.item_bytes / 4

-- how many items the leaves have ways for
abbrev pub place_count : TreeValue → ℕ
place_count t = leaf_count t * t.way_count * t.sizes.sets

abbrev pub start_of_harts : TreeValue → ImageValue → Start
start_of_harts t i = record { entry = i.entry; harts = leaf_count t; stack_base = t.stack_base; stack_bytes = t.stack_bytes }

-- ---- segments and stacks

-- flags of a segment: 1 executable, 2 writable, 4 readable
abbrev pub is_executable : SegmentValue → Bool
is_executable s = nat_eq (s.flags % 2) 1

abbrev pub is_writable : SegmentValue → Bool
is_writable s = nat_eq (s.flags / 2 % 2) 1

abbrev pub segment_span : SegmentValue → Span
segment_span s = record { start = s.vaddr; bytes = s.memsz; writable = is_writable s }

abbrev pub stack_span : TreeValue → ℕ → Span
stack_span t hart = record { start = t.stack_base + hart * t.stack_bytes; bytes = t.stack_bytes; writable = true }

abbrev pub stack_spans : TreeValue → List Span
stack_spans t = map (stack_span t) (range_with_len 0 (leaf_count t))
