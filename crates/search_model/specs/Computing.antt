-- One name that opens every definition of a search and all that they stand on.
use Rattle.outcome_model.specs.Computing.{outcomes_compute}
use Rattle.outcome_model.specs.Halted.{all_halted}
use Rattle.recording_model.specs.Doing.{does_something}
use Rattle.search_laws.specs.Search.{searched}
use Rattle.search_laws.specs.Lost.{lost}
use Rattle.search_model.specs.Tried.{doing_turns, is_quiet, quiet_turns, tried_turns}
use Rattle.search_model.specs.Explored.{line_text, explored_text, explore_text, reach_text}

-- Where a proof says `unfolding searches_compute`, the searches of machines compute.
unfoldable pub searches_compute : Unit {0}
unfolding outcomes_compute all_halted does_something searched lost doing_turns is_quiet quiet_turns tried_turns
    line_text explored_text explore_text reach_text
searches_compute = tt
