-- The memory that a program starts with: its segments, and the stacks of its harts.
-- To be believed: it is what the machine starts from.
use Rattle.std.specs.Prelude.{ℕ, ◌+◌, ◌*◌, ◌/◌, true, List, ◌++◌, map}
use Rattle.std.specs.List.{range_with_len}
use Rattle.start_memory.specs.DdmTypes.declared.sizes.Span.{Span}
use Rattle.start_memory.specs.DdmTypes.declared.sizes.Start.{Start}
use Rattle.start_memory.specs.DdmTypes.ItemTable.{ItemRow, ItemTable, items_of}
use Rattle.start_memory.specs.TreeModel.Start.Sources.{SegmentValue, segment_span}
use Rattle.start_memory.specs.TreeModel.Start.Memory.{item_words}

-- the stack of a hart
abbrev pub stack_of : Start → ℕ → Span
stack_of start hart = record { start = start.stack_base + hart * start.stack_bytes; bytes = start.stack_bytes; writable = true }

abbrev pub stacks_of : Start → List Span
stacks_of start = map (stack_of start) (range_with_len 0 start.harts)

abbrev pub memory_spans : Start → List SegmentValue → List Span
memory_spans start segments = map segment_span segments ++ stacks_of start

-- the items of segments and stacks, each of so many bytes
unfoldable pub memory_items : Start → ℕ → List SegmentValue → ItemTable
memory_items start item_bytes segments = items_of item_bytes (memory_spans start segments)

-- the words of each item
unfoldable pub memory_words : Start → ℕ → List SegmentValue → List (List ℕ)
memory_words start item_bytes segments =
    map (λ (row : ItemRow). item_words (item_bytes / 4) segments row.address) (memory_items start item_bytes segments).rows
