-- The memory of an image and of the tree's stacks is the memory of the tables' start.
use Rattle.std.proofs.Common.{◌≡◌, refl}
use Rattle.start_memory.specs.TreeModel.Start.Sources.{ImageValue, TreeValue, start_of_harts}
use Rattle.start_memory.specs.TreeModel.Start.Memory.{start_items, start_words}
use Rattle.start_memory.specs.Memory.{memory_items, memory_words}

pub same_items : (t : TreeValue) (i : ImageValue)
    → start_items t i ≡ memory_items (start_of_harts t i) t.item_bytes i.segments
unfolding start_items memory_items
same_items t i = refl

pub same_words : (t : TreeValue) (i : ImageValue)
    → start_words t i ≡ memory_words (start_of_harts t i) t.item_bytes i.segments
unfolding start_items start_words memory_items memory_words
same_words t i = refl
