-- What the recorded runs of many seeds came to: a line for each different end.
-- Letters: m is the machine that each run begins with, r a recorded run.
-- To be believed: it is what is printed of them.
use Rattle.std.specs.Prelude.{ℕ, List, ◌++◌, length, map, flat_map, codes, decimal}
use Rattle.std.specs.List.{range_with_len}
use Rattle.recording_model.specs.TreeModel.State.Values.{MachineValue}
use Rattle.recording_model.specs.TextModel.Schedule.{ShapeView}
use Rattle.outcome_model.specs.Outcome.{outcome_of}
use Rattle.outcome_model.specs.Table.{OutcomeLine, line_text, table_of}
use Rattle.recording_model.specs.declared.RunEnd.{RunEnd}
use Rattle.recording_model.specs.declared.SeedKind.{SeedKind}
use Rattle.recording_model.specs.Recording.{Recording, recording_of}

-- why a run ended, in a word
abbrev pub end_word : RunEnd → List ℕ
end_word RunEnd.Halted = codes "halted"
end_word RunEnd.Turns = codes "turns"
end_word RunEnd.Stuck = codes "stuck"
end_word RunEnd.Drawn = codes "drawn"

-- this word, and then the outcome
abbrev pub worded : RunEnd → List ℕ → List ℕ
worded end outcome = codes " " ++ end_word end ++ outcome

-- what a recorded run came to: why it ended, and how its harts ended and what they put out
unfoldable pub run_end : Recording → List ℕ
run_end r = worded r.end (outcome_of r.machine)

-- the recorded run of a seed, of so many turns at most
abbrev pub seed_end : SeedKind → ShapeView → ℕ → MachineValue → ℕ → List ℕ
seed_end kind shape turns m seed = run_end (recording_of kind shape seed turns m)

-- those of so many seeds, each from the same machine
abbrev pub seed_ends : SeedKind → ShapeView → ℕ → MachineValue → ℕ → ℕ → List (List ℕ)
seed_ends kind shape turns m first count = map (seed_end kind shape turns m) (range_with_len first count)

-- the table of so many seeds from the first on
unfoldable pub survey_table : SeedKind → ShapeView → ℕ → MachineValue → ℕ → ℕ → List OutcomeLine
survey_table kind shape turns m first count = table_of first (seed_ends kind shape turns m first count)

-- ---- its text

-- the text of a table of so many recorded runs
unfoldable pub table_text : ℕ → List OutcomeLine → List ℕ
table_text runs lines =
    codes "survey " ++ decimal (length lines) ++ codes " runs " ++ decimal runs ++ codes "\n" ++ flat_map line_text lines ++ codes "end\n"

unfoldable pub survey_text : SeedKind → ShapeView → ℕ → MachineValue → ℕ → ℕ → List ℕ
survey_text kind shape turns m first count = table_text count (survey_table kind shape turns m first count)
