-- Lines of small runs.
use Rattle.std.proofs.Common.{◌≡◌, [], ◌∷◌, refl}
use Rattle.std.specs.Prelude.{codes}
use Rattle.text_model.specs.declared.ScheduleRefusal.TheVariants.{NoEnd}
use Rattle.text_model.specs.Trace.{trace_text}
use Rattle.text_model.specs.Report.{report_of, summary_of, turns_line, out_line, bus_line, item_line, op_line}
use Rattle.text_model.specs.Faults.{usage_fault, image_fault, tree_fault, tree_key_fault, unknown_key_fault, schedule_fault, read_fault}
use Rattle.text_model.specs.Compute.{texts_compute}
use Rattle.text_model.specs.Examples.{store_and_load, store_and_load_report, store_and_load_summary, no_turns, no_turns_report, output_ops, one_read_turns, one_read_answers, one_read_trace, one_read_counts, one_read_traffic, one_read_item, first_load, other_turns, other_answers, other_trace, deep_op, parked_item}

pub store_and_load_back : report_of store_and_load ≡ store_and_load_report
unfolding texts_compute
store_and_load_back = refl

pub store_and_load_in_short : summary_of store_and_load ≡ store_and_load_summary
unfolding texts_compute
store_and_load_in_short = refl

pub before_any_turn : report_of no_turns ≡ no_turns_report
unfolding texts_compute
before_any_turn = refl

pub one_byte_of_output : out_line 1 output_ops ≡ codes "out 1 48\n"
unfolding texts_compute
one_byte_of_output = refl

pub no_output : out_line 0 output_ops ≡ codes "out 0 -\n"
unfolding texts_compute
no_output = refl

pub one_read : trace_text one_read_turns one_read_answers ≡ one_read_trace
unfolding texts_compute
one_read = refl

pub one_read_turns_line : turns_line one_read_counts ≡ codes "turns 5 retired 2 granted 2 busy 0\n"
unfolding texts_compute
one_read_turns_line = refl

pub one_read_bus_line : bus_line 0 one_read_traffic ≡ codes "bus 0 read 1 data 1 erase 0 exclusive 0 out 0 inject 0\n"
unfolding texts_compute
one_read_bus_line = refl

pub one_read_item_line : item_line one_read_item ≡ codes "item 1 00020000 00000005 00000000 00000000 00000000 leaf 0 way 1 SS\n"
unfolding texts_compute
one_read_item_line = refl

pub first_load_line : op_line 1 first_load ≡ codes "op 0 2.0.1 00010004 load 00020000 00000005\n"
unfolding texts_compute
first_load_line = refl

pub other_answers_trace : trace_text other_turns other_answers ≡ other_trace
unfolding texts_compute
other_answers_trace = refl

pub deep_key : op_line 4 deep_op ≡ codes "op 0 1.2.3.4.5.6.7.8.9 00010000 plain\n"
unfolding texts_compute
deep_key = refl

pub parked_item_line : item_line parked_item ≡ codes "item 1 00020000 00000005 00000000 00000000 00000000 bus 1 parking 0 --\n"
unfolding texts_compute
parked_item_line = refl

pub usage : usage_fault 3 ≡ codes "ddm: usage: word 3\n"
unfolding texts_compute
usage = refl

pub overlap : image_fault (codes "SegmentsOverlap") (0 ∷ 1 ∷ []) ≡ codes "ddm: image: segments overlap 0 1\n"
unfolding texts_compute
overlap = refl

pub bad_shape : tree_fault (codes "BadShape") (1 ∷ []) ≡ codes "ddm: tree: bad shape 1\n"
unfolding texts_compute
bad_shape = refl

pub out_of_range : tree_key_fault (codes "OutOfRange") (codes "ways") ≡ codes "ddm: tree: out of range ways\n"
unfolding texts_compute
out_of_range = refl

pub unknown_key : unknown_key_fault (codes "a cache") ≡ codes "ddm: tree: unknown key a?cache\n"
unfolding texts_compute
unknown_key = refl

pub not_ended : schedule_fault 2 NoEnd ≡ codes "ddm: schedule line 2: no end\n"
unfolding texts_compute
not_ended = refl

pub unreadable : read_fault (codes "schedule") ≡ codes "ddm: cannot read the schedule\n"
unfolding texts_compute
unreadable = refl
