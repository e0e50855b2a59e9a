-- One name that opens every definition of surveys and all that they stand on. The run of a whole seed stays shut: there are too many
-- turns to be listed.
use Rattle.recording_model.specs.Computing.{recordings_compute}
use Rattle.survey_model.specs.Survey.{run_end, survey_table, survey_text, table_text}

-- Where a proof says `unfolding surveys_compute`, surveys of runs compute.
unfoldable pub surveys_compute : Unit {0}
unfolding recordings_compute run_end survey_table survey_text table_text
surveys_compute = tt
