-- How a stored trace is told: the tree, the image and the schedule that an independent model was given, and what it printed.
use Rattle.std.specs.Prelude.{◌≡◌, ℕ, ◌*◌, List, [], ◌∷◌, length}
use Rattle.worked_examples.specs.DdmTypes.declared.sizes.TreeSizes.{TreeSizes}
use Rattle.worked_examples.specs.TreeModel.Start.Sources.{SegmentValue, ImageValue, TreeValue}
use Rattle.worked_examples.specs.Programs.{code_segment, data_segment, trace_and_report_in}

-- a tree of levels with ways and sizes, no stacks, and items of 16 bytes
abbrev pub tree_of_sizes : List (List ℕ) → ℕ → TreeSizes → TreeValue
tree_of_sizes levels ways sizes =
    record {
      levels = levels;
      way_count = ways;
      sizes = sizes;
      stack_base = 0x200000;
      stack_bytes = 0;
      item_bytes = 16;
    }

-- code that may also be written
abbrev writable_segment : List ℕ → SegmentValue
writable_segment code = record (code_segment code) { flags = 7 }

abbrev pub writable_code : List ℕ → ImageValue
writable_code code = record { entry = 0x10000; segments = writable_segment code ∷ [] }

-- and words at an address
abbrev pub code_and_words : List ℕ → ℕ → List ℕ → ImageValue
code_and_words code address words =
    record {
      entry = 0x10000;
      segments = writable_segment code ∷ record (data_segment words (4 * length words)) { vaddr = address }
          ∷ [];
    }

-- what the model was given, and the trace and report that it printed
pub record StoredTrace : Type 0 where
  pub tree : TreeValue
  pub image : ImageValue
  pub schedule : List ℕ
  pub printed : List ℕ

-- the definitions give the same bytes
abbrev pub IsPrinted : StoredTrace → Type 0
IsPrinted stored = trace_and_report_in stored.tree stored.image stored.schedule ≡ stored.printed
