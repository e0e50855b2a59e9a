-- Where a machine can't be built, and which items segments and stacks make.
use Rattle.std.specs.Prelude.{◌≡◌, true, false, List, [], ◌∷◌, Some, None}
use Rattle.worked_examples.specs.DdmTypes.declared.sizes.Span.{Span}
use Rattle.worked_examples.specs.DdmTypes.ItemTable.{items_of, item_count}
use Rattle.worked_examples.specs.TreeModel.Start.Sources.{ImageValue, TreeValue}
use Rattle.worked_examples.specs.TreeModel.Start.Machine.{no_place, stack_overlap, start_refusal}
use Rattle.worked_examples.specs.TreeModel.Start.Memory.{start_items}
use Rattle.worked_examples.specs.Programs.{tree_of}
use Rattle.worked_examples.specs.OneRead as read
use Rattle.worked_examples.specs.StoreAndLoadBack as store

-- four writable bytes, and four others of the same item
abbrev pub shared_item : List Span
shared_item = record { start = 0x20000; bytes = 4; writable = true } ∷ record { start = 0x20008; bytes = 4; writable = false } ∷ []

-- the segments that a linker makes of a small program: its headers with the code, and its data
abbrev pub linked : ImageValue
linked = record {
  entry = 0x10000;
  segments =
      record { header = 2; vaddr = 0x10000; flags = 5; bytes = []; memsz = 0x400 }
      ∷ record { header = 3; vaddr = 0x11400; flags = 6; bytes = []; memsz = 0x120 } ∷ [];
}

abbrev pub linked_tree : TreeValue
linked_tree = record (tree_of ((2 ∷ []) ∷ []) 2 256 4 4) { stack_base = 2147483648 }

pub record BuildRefusals : Type 0 where
  -- one leaf of one way and one set has one place for two items
  pub no_room : start_refusal (tree_of ((1 ∷ []) ∷ []) 1 1 1 1) read.image ≡ Some (no_place 1)
  -- the stack of hart 0 lies on the code
  pub on_the_code : start_refusal (record store.tree { stack_base = 65536 }) store.image ≡ Some (stack_overlap 0 0)
  -- two segments meet in one item, which is writable because one of them is
  pub shared : items_of 16 shared_item ≡ record { size = 16; rows = record { address = 0x20000; writable = true } ∷ [] }
  -- a linker's image has 82 items
  pub linked_items : item_count (start_items linked_tree linked) ≡ 82
  -- and with a stack of 4,096 bytes for each of two harts 594, which all have places
  pub linked_with_stacks : item_count (start_items (record linked_tree { stack_bytes = 4096 }) linked) ≡ 594
  pub linked_fits : start_refusal (record linked_tree { stack_bytes = 4096 }) linked ≡ None
