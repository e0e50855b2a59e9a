-- One name that opens every definition that an example computes with.
use Rattle.text_model.specs.Computing.{runs_compute}
use Rattle.state_words.specs.Computing.{words_compute}
use Rattle.worked_examples.specs.Programs.{turns_in, run_in, trace_in, report_in, trace_and_report_in, counts_in}
use Rattle.worked_examples.specs.Programs.{traffic_in, item_in, letters_in, operations_in, keys_in, completed_keys_in}
use Rattle.worked_examples.specs.Programs.{output_in}
use Rattle.worked_examples.specs.Saved.{saved_words_in, saved_in}

-- Where a proof says `unfolding examples_compute`, the examples compute.
unfoldable pub examples_compute : Unit {0}
unfolding runs_compute words_compute turns_in run_in trace_in report_in trace_and_report_in counts_in traffic_in
    item_in letters_in operations_in keys_in completed_keys_in output_in saved_words_in saved_in
examples_compute = tt
