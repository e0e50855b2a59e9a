-- What a program starts from, and why it has no start.
-- Letters: i is an image.
use Rattle.std.specs.Prelude.{ℕ, nat_lt, Option, Some, None, option_and_then, Result, Err, List, if◌then◌else◌}
use Rattle.witness_check.specs.DdmTypes.declared.sizes.Start.{Start}
use Rattle.witness_check.specs.DdmTypes.ItemTable.{item_count}
use Rattle.witness_check.specs.FlatModel.Flat.{FlatMachine, flat_start}
use Rattle.witness_check.specs.TreeModel.Start.Sources.{ImageValue}
use Rattle.witness_check.specs.TreeModel.Start.Memory.{start_code}
use Rattle.witness_check.specs.TreeModel.Start.Machine.{StartRefusal, too_many_items, stack_overlap, no_place, overlap_from}
use Rattle.start_memory.specs.Memory.{memory_items, memory_words, stacks_of}
use Rattle.witness_check.specs.declared.refusal.CheckRefusal.{CheckRefusal}
use Rattle.witness_check.specs.declared.refusal.CheckRefusal.TheVariants.{TooManyItems, StackOverlap}
use Rattle.witness_check.specs.Judging.{Program, standing_of, answer_of}

-- what operations are judged for: an image, the harts' start and the size of an item
pub record Setting : Type 0 where
  pub image : ImageValue
  pub start : Start
  pub item_bytes : ℕ

abbrev pub program_of : Setting → Program
program_of s = record { code = start_code s.image; items = memory_items s.start s.item_bytes s.image.segments }

-- the flat machine before its first step
abbrev pub machine_of : Setting → FlatMachine
machine_of s = flat_start s.start (memory_words s.start s.item_bytes s.image.segments)

-- a refusal of a start. Whether leaves have places for all items isn't judged.
abbrev pub judged : StartRefusal → Option CheckRefusal
judged (too_many_items n) = Some (TooManyItems n)
judged (stack_overlap hart header) = Some (StackOverlap hart header)
judged (no_place item) = None

-- why there is no start
unfoldable pub start_refusal : Setting → Option CheckRefusal
start_refusal s =
    let n = item_count (memory_items s.start s.item_bytes s.image.segments) in
    if nat_lt 65536 n then Some (TooManyItems n) else option_and_then judged (overlap_from s.image.segments 0 (stacks_of s.start))

abbrev pub answer_unless : Option CheckRefusal → Result ℕ CheckRefusal → Result ℕ CheckRefusal
answer_unless None answer = answer
answer_unless (Some refusal) answer = Err refusal

-- what a text comes to
unfoldable pub check_of : Setting → List ℕ → Result ℕ CheckRefusal
check_of s text = answer_unless (start_refusal s) (answer_of (standing_of (program_of s) (machine_of s) text))
