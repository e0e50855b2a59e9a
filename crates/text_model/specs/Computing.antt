-- One name that opens every definition from the instruction table to the texts of a run.
use Rattle.tree_model.specs.Computing.{tree_computes}
use Rattle.text_model.specs.Compute.{texts_compute}
use Rattle.text_model.specs.Seeded.{seeded_turn, words_of, turns_of_words, seeded_turns}
use Rattle.text_model.specs.Run.{counts_of, view_of, report_text_of, summary_text_of, trace_and_report_of}

-- Where a proof says `unfolding runs_compute`, the texts of a run compute.
unfoldable pub runs_compute : Unit {0}
unfolding tree_computes texts_compute seeded_turn words_of turns_of_words seeded_turns counts_of view_of
    report_text_of summary_text_of trace_and_report_of
runs_compute = tt
