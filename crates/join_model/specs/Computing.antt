-- One name that opens every definition of tables that are read and put together.
use Rattle.text_model.specs.Computing.{runs_compute}
use Rattle.outcome_model.specs.Table.{counted, in_order, line_text, placed, table_of, tallied}
use Rattle.join_model.specs.Joined.{joined, with_line, with_table, with_tables}
use Rattle.join_model.specs.Table.{heading_of_words, line_of_words, lines_from, outcome_in, table_in, table_of_pieces, text_of}
use Rattle.join_model.specs.Files.{added, sum_of, sum_text}

-- Where a proof says `unfolding joins_compute`, tables compute.
unfoldable pub joins_compute : Unit {0}
unfolding runs_compute counted tallied placed in_order table_of line_text joined with_line with_table with_tables
    heading_of_words line_of_words lines_from outcome_in table_in table_of_pieces text_of added sum_of sum_text
joins_compute = tt
