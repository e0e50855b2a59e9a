-- The words of all items, as one list and cut into those of each.
use Rattle.std.specs.Prelude.{ℕ, ◌*◌, List, map, take, drop}
use Rattle.std.specs.List.{range_with_len}
use Rattle.rv_flat.specs.declared.memory.Memory.{Memory}
use Rattle.rv_flat.specs.declared.memory.Memory.TheVariants.{Narrow, Wide}

-- the words of item x, where each item has so many
abbrev pub words_of_item : ℕ → List ℕ → ℕ → List ℕ
words_of_item width words x = take width (drop (x * width) words)

-- the words of so many items
abbrev pub words_by_item : ℕ → ℕ → List ℕ → List (List ℕ)
words_by_item width count words = map (words_of_item width words) (range_with_len 0 count)

-- the words of each item of a memory, and the size of its items in bytes
abbrev pub memory_words : Memory → List (List ℕ)
memory_words (Narrow items) = items.items
memory_words (Wide items) = items.items

abbrev pub memory_size : Memory → ℕ
memory_size (Narrow items) = 16
memory_size (Wide items) = 64
