use Rattle.std.proofs.Common.{◌≡◌, ◌/◌, take}
use Rattle.start_memory.proofs.ItemWords.{row_words}
use Rattle.start_memory.proofs.words.words_of_items.Given as goal

abbrev pub invariant-loop-item : goal.invariant-loop-item
invariant-loop-item l = l.words.items ≡ row_words (l.item_bytes / 4) l.segments (take l.item l.items.rows)
