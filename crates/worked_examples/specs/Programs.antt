-- How an example is told: a program, a tree, a schedule as text, and what is printed.
use Rattle.std.specs.Prelude.{ℕ, ◌*◌, ◌/◌, ◌%◌, List, [], ◌∷◌, ◌++◌, codes, length, Result, Ok, Err}
use Rattle.std.specs.List.{flat_map}
use Rattle.worked_examples.specs.DdmTypes.declared.turns.Turn.{Turn}
use Rattle.worked_examples.specs.DdmTypes.declared.operations.Op.{Op}
use Rattle.worked_examples.specs.DdmTypes.ItemTable.{row_at}
use Rattle.worked_examples.specs.TreeModel.Turns.Machine.{Ran, run_of}
use Rattle.worked_examples.specs.TreeModel.Start.Sources.{SegmentValue, ImageValue, TreeValue, leaf_count, bus_widths}
use Rattle.worked_examples.specs.TreeModel.Start.Machine.{start_machine}
use Rattle.worked_examples.specs.TreeModel.Turns.Witness.{sorted_ops}
use Rattle.worked_examples.specs.TreeModel.Turns.Found.{states_of}
use Rattle.text_model.specs.declared.ScheduleRefusal.{ScheduleRefusal}
use Rattle.text_model.specs.Schedule.{ShapeView, schedule_of}
use Rattle.text_model.specs.Trace.{trace_text}
use Rattle.text_model.specs.Report.{bus_lines, turns_line, item_line, key_text, letter_texts, op_lines, out_line}
use Rattle.text_model.specs.Run.{counts_of, item_view, report_text_of, trace_and_report_of}

-- ---- programs

abbrev pub word_bytes : ℕ → List ℕ
word_bytes w = w % 256 ∷ w / 256 % 256 ∷ w / 65536 % 256 ∷ w / 16777216 ∷ []

abbrev pub bytes_of_words : List ℕ → List ℕ
bytes_of_words words = flat_map word_bytes words

-- code at 0x10000, where the harts begin
abbrev pub code_segment : List ℕ → SegmentValue
code_segment code = record { header = 0; vaddr = 0x10000; flags = 5; bytes = bytes_of_words code; memsz = 4 * length code }

-- words that may be written, at 0x20000, in a segment of so many bytes
abbrev pub data_segment : List ℕ → ℕ → SegmentValue
data_segment words memsz = record { header = 1; vaddr = 0x20000; flags = 6; bytes = bytes_of_words words; memsz = memsz }

abbrev pub code_alone : List ℕ → ImageValue
code_alone code = record { entry = 0x10000; segments = code_segment code ∷ [] }

abbrev pub program : List ℕ → List ℕ → ℕ → ImageValue
program code words memsz = record { entry = 0x10000; segments = code_segment code ∷ data_segment words memsz ∷ [] }

-- ---- trees

-- a tree of levels with ways, sets, a buffer and parking, lists of 16 places and no stacks
abbrev pub tree_of : List (List ℕ) → ℕ → ℕ → ℕ → ℕ → TreeValue
tree_of levels ways sets buffer parking = record {
  levels = levels;
  way_count = ways;
  sizes = record { sets = sets; buffer = buffer; parking = parking; down = 16; requests = 16; replies = 16 };
  stack_base = 196608;
  stack_bytes = 0;
  item_bytes = 16;
}

-- the same with stacks of 16 bytes
abbrev pub with_stacks : TreeValue → TreeValue
with_stacks tree = record tree { stack_bytes = 16 }

-- the same with lists of so many places
abbrev pub with_lists : ℕ → TreeValue → TreeValue
with_lists places tree = record tree { sizes = record tree.sizes { down = places; requests = places; replies = places } }

abbrev pub with_down : ℕ → TreeValue → TreeValue
with_down places tree = record tree { sizes = record tree.sizes { down = places } }

-- the same with items of 64 bytes
abbrev pub with_wide_items : TreeValue → TreeValue
with_wide_items tree = record tree { item_bytes = 64 }

abbrev pub shape_of : TreeValue → ShapeView
shape_of tree = record { harts = leaf_count tree; buses = bus_widths tree }

abbrev pub depth_of : TreeValue → ℕ
depth_of tree = length tree.levels

-- ---- a run of the turns of a text; a text that is refused has none

-- the text of a schedule, of the lines of its turns
abbrev pub ended : List ℕ → List ℕ
ended lines = lines ++ codes "end\n"

abbrev turns_or_none : Result (List Turn) (ℕ × ScheduleRefusal) → List Turn
turns_or_none (Ok turns) = turns
turns_or_none (Err refusal) = []

unfoldable pub turns_in : TreeValue → List ℕ → List Turn
turns_in tree schedule = turns_or_none (schedule_of (shape_of tree) 0 schedule)

unfoldable pub run_in : TreeValue → ImageValue → List ℕ → Ran
run_in tree image schedule = run_of (turns_in tree schedule) (start_machine tree image)

-- ---- what is printed of it

-- the lines of its turns
unfoldable pub trace_in : TreeValue → ImageValue → List ℕ → List ℕ
trace_in tree image schedule = trace_text (turns_in tree schedule) (run_in tree image schedule).answers

unfoldable pub report_in : TreeValue → ImageValue → List ℕ → List ℕ
report_in tree image schedule = report_text_of (depth_of tree) (turns_in tree schedule) (start_machine tree image)

unfoldable pub trace_and_report_in : TreeValue → ImageValue → List ℕ → List ℕ
trace_and_report_in tree image schedule = trace_and_report_of (depth_of tree) (turns_in tree schedule) (start_machine tree image)

-- the line with the counts of its answers
unfoldable pub counts_in : TreeValue → ImageValue → List ℕ → List ℕ
counts_in tree image schedule = turns_line (counts_of (run_in tree image schedule).answers)

unfoldable pub traffic_in : TreeValue → ImageValue → List ℕ → List ℕ
traffic_in tree image schedule = bus_lines (run_in tree image schedule).machine.traffic

-- the line of an item
unfoldable pub item_in : ℕ → TreeValue → ImageValue → List ℕ → List ℕ
item_in x tree image schedule = let m = (run_in tree image schedule).machine in item_line (item_view m x (row_at m.items x))

-- the letters of an item
unfoldable pub letters_in : ℕ → TreeValue → ImageValue → List ℕ → List ℕ
letters_in x tree image schedule = letter_texts (states_of x (run_in tree image schedule).machine)

-- the operations in the order of their keys
unfoldable pub operations_in : TreeValue → ImageValue → List ℕ → List ℕ
operations_in tree image schedule = op_lines (depth_of tree) (sorted_ops (run_in tree image schedule).machine.ops)

abbrev key_line : ℕ → Op → List ℕ
key_line depth op = key_text depth op.key ++ codes "\n"

-- their keys alone
unfoldable pub keys_in : TreeValue → ImageValue → List ℕ → List ℕ
keys_in tree image schedule = flat_map (key_line (depth_of tree)) (sorted_ops (run_in tree image schedule).machine.ops)

-- the keys in the order of completion
unfoldable pub completed_keys_in : TreeValue → ImageValue → List ℕ → List ℕ
completed_keys_in tree image schedule = flat_map (key_line (depth_of tree)) (run_in tree image schedule).machine.ops

-- the line of a hart's output
unfoldable pub output_in : ℕ → TreeValue → ImageValue → List ℕ → List ℕ
output_in hart tree image schedule = out_line hart (run_in tree image schedule).machine.ops
