-- Memory before the first turn: the items of an image's segments and of the stacks, their words, and the code.
-- Letters: t is a tree, i an image, s a segment, a an address.
-- To be believed: it is what the machine is.
use Rattle.std.specs.Prelude.{ℕ, ◌+◌, ◌-◌, ◌*◌, ◌/◌, Bool, ◌&&◌, nat_lt, nat_le, List, [], ◌∷◌, ◌++◌, map, find}
use Rattle.std.specs.Prelude.{Option, Some, None, slice_index_or, if◌then◌else◌}
use Rattle.std.specs.List.{flat_map, range_with_len, fold}
use Rattle.tree_model.specs.DdmTypes.ItemTable.{ItemRow, ItemTable, items_of}
use Rattle.tree_model.specs.DdmTypes.CodeMap.{CodeWord, words_from}
use Rattle.tree_model.specs.Start.Sources.{SegmentValue, ImageValue, TreeValue, width_of, is_executable, segment_span, stack_spans}

-- the items of segments and stacks
unfoldable pub start_items : TreeValue → ImageValue → ItemTable
start_items t i = items_of t.item_bytes (map segment_span i.segments ++ stack_spans t)

-- ---- words

abbrev pub has_byte : ℕ → SegmentValue → Bool
has_byte a s = nat_le s.vaddr a && nat_lt a (s.vaddr + s.memsz)

abbrev pub byte_of : ℕ → Option SegmentValue → ℕ
byte_of a None = 0
byte_of a (Some s) = slice_index_or s.bytes (a - s.vaddr) 0

-- a byte of memory; one that no segment has is 0
unfoldable pub byte_at : List SegmentValue → ℕ → ℕ
byte_at segments a = byte_of a (find (has_byte a) segments)

-- a word of memory, its low byte first
unfoldable pub memory_word : List SegmentValue → ℕ → ℕ
memory_word segments a =
    byte_at segments a + 256 * byte_at segments (a + 1) + 65536 * byte_at segments (a + 2)
    + 16777216 * byte_at segments (a + 3)

abbrev pub item_words : ℕ → List SegmentValue → ℕ → List ℕ
item_words width segments a = map (λ k. memory_word segments (a + 4 * k)) (range_with_len 0 width)

-- the words of each item
unfoldable pub start_words : TreeValue → ImageValue → List (List ℕ)
start_words t i = map (λ (r : ItemRow). item_words (width_of t) i.segments r.address) (start_items t i).rows

-- ---- code: each multiple of 4 whose four bytes lie in one executable segment

-- the words of a segment, counted by fours from address 0: the first, and the one past the last
abbrev pub first_word : SegmentValue → ℕ
first_word s = (s.vaddr + 3) / 4

abbrev pub past_word : SegmentValue → ℕ
past_word s = (s.vaddr + s.memsz) / 4

abbrev pub segment_code : SegmentValue → List CodeWord
segment_code s =
    if is_executable s
    then words_from (4 * first_word s)
    (map (λ n. memory_word (s ∷ []) (4 * n))
    (range_with_len (first_word s) (past_word s - first_word s)))
    else []

-- in the order of their addresses
abbrev pub put_segment : List SegmentValue → SegmentValue → List SegmentValue
put_segment [] s = s ∷ []
put_segment (r ∷ rs) s = if nat_lt s.vaddr r.vaddr then s ∷ r ∷ rs else r ∷ put_segment rs s

unfoldable pub start_code : ImageValue → List CodeWord
start_code i = flat_map segment_code (fold put_segment [] i.segments)
