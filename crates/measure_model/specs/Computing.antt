-- One name that opens every definition of what a run is measured by, and all that they stand on.
use Rattle.recording_model.specs.Computing.{recordings_compute}
use Rattle.measure_model.specs.Counts.{bus_busy, hart_counts, item_counts, made_of, totals_of}
use Rattle.measure_model.specs.Lengths.{greatest, most_in, most_over}
use Rattle.measure_model.specs.Measures.{measures_of}
use Rattle.measure_model.specs.Text.{bus_counts_line, hart_counts_line, item_counts_line, leaf_most_line}
use Rattle.measure_model.specs.Text.{measures_text, most_line, totals_line}

-- Where a proof says `unfolding measures_compute`, measures compute.
unfoldable pub measures_compute : Unit {0}
unfolding recordings_compute made_of hart_counts bus_busy item_counts totals_of greatest most_over most_in measures_of
    totals_line hart_counts_line bus_counts_line most_line leaf_most_line item_counts_line measures_text
measures_compute = tt
