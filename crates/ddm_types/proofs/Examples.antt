-- Small tables and code by the definitions.
use Rattle.std.proofs.Common.{◌≡◌, ℕ, Bool, true, false, List, [], ◌∷◌, Some, None, refl}
use Rattle.ddm_types.specs.declared.sizes.Span.{Span}
use Rattle.ddm_types.specs.declared.keys.Key.{Key}
use Rattle.ddm_types.specs.ItemTable.{ItemRow, ItemTable, items_of, item_numbers, span_numbers, with_number, item_at}
use Rattle.ddm_types.specs.CodeMap.{CodeWord, code_of, with_word, word_at, words_from}
use Rattle.ddm_types.specs.Keys.{stamp_zero, stamp_at, key_zero, key_at, key_counted, key_on, key_numbers, key_less}

abbrev span : ℕ → ℕ → Bool → Span
span a n w = record { start = a; bytes = n; writable = w }

abbrev row : ℕ → Bool → ItemRow
row a w = record { address = a; writable = w }

abbrev word : ℕ → ℕ → CodeWord
word a w = record { address = a; word = w }

-- two segments meet in one item, which is writable since one of them is
pub shared_item : items_of 16 (span 0x20000 4 true ∷ span 0x20008 4 false ∷ []) ≡ record { size = 16; rows = row 0x20000 true ∷ [] }
unfolding items_of item_numbers span_numbers with_number
shared_item = refl

-- a writable span with no byte makes no item, and none writable
pub empty_span : items_of 16 (span 0x20000 16 false ∷ span 0x20004 0 true ∷ span 0x30004 0 true ∷ []) ≡ record { size = 16; rows = row 0x20000 false ∷ [] }
unfolding items_of item_numbers span_numbers with_number
empty_span = refl

-- code, data and a stack: the same for items of both sizes, with the spans in any order
abbrev code_data_stack : List Span
code_data_stack = span 0x30000 16 true ∷ span 0x10000 28 false ∷ span 0x20000 16 true ∷ []

abbrev narrow : ItemTable
narrow = record { size = 16; rows = row 0x10000 false ∷ row 0x10010 false ∷ row 0x20000 true ∷ row 0x30000 true ∷ [] }

pub narrow_items : items_of 16 code_data_stack ≡ narrow
unfolding items_of item_numbers span_numbers with_number
narrow_items = refl

pub wide_items : items_of 64 code_data_stack ≡ record { size = 64; rows = row 0x10000 false ∷ row 0x20000 true ∷ row 0x30000 true ∷ [] }
unfolding items_of item_numbers span_numbers with_number
wide_items = refl

-- the first and the last byte of an item, and the bytes beside the items
pub first_byte : item_at narrow 0x10010 ≡ Some 1
unfolding item_at
first_byte = refl

pub last_byte : item_at narrow 0x1001f ≡ Some 1
unfolding item_at
last_byte = refl

pub byte_behind : item_at narrow 0x10020 ≡ None
unfolding item_at
byte_behind = refl

pub byte_before : item_at narrow 0xffff ≡ None
unfolding item_at
byte_before = refl

-- the words of two parts, given in the other order
abbrev two_parts : List CodeWord
two_parts = word 0x20000 7 ∷ word 0x10000 5 ∷ word 0x10004 6 ∷ []

pub code_in_order : code_of two_parts ≡ word 0x10000 5 ∷ word 0x10004 6 ∷ word 0x20000 7 ∷ []
unfolding code_of with_word
code_in_order = refl

pub word_found : word_at (code_of two_parts) 0x10004 ≡ Some 6
unfolding code_of with_word word_at
word_found = refl

pub word_missing : word_at (code_of two_parts) 0x10008 ≡ None
unfolding code_of with_word word_at
word_missing = refl

pub part_of_three : words_from 0x10000 (1 ∷ 2 ∷ 3 ∷ []) ≡ word 0x10000 1 ∷ word 0x10004 2 ∷ word 0x10008 3 ∷ []
unfolding words_from
part_of_three = refl

-- a leaf below two buses, as its fourth instruction after two grants on the upper bus and one on the lower
abbrev fourth : Key
fourth = key_counted (key_at (key_at key_zero 0 (stamp_at (stamp_at stamp_zero 0 2) 1 1) 5) 1 (stamp_at (stamp_at stamp_zero 0 2) 1 1) 9) 3

pub fourth_numbers : key_numbers 2 fourth ≡ 2 ∷ 5 ∷ 1 ∷ 9 ∷ 3 ∷ []
fourth_numbers = refl

pub fourth_after : key_less fourth (key_counted fourth 4) ≡ true
fourth_after = refl

pub fourth_not_before : key_less fourth key_zero ≡ false
fourth_not_before = refl

-- the same key by its stamp and path
pub fourth_on_path : key_on (stamp_at (stamp_at stamp_zero 0 2) 1 1) (5 ∷ 9 ∷ []) 3 ≡ fourth
fourth_on_path = refl
