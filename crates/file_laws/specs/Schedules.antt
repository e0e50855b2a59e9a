-- The schedule of a seed, as a text: it is read back as the seed's turns.
-- Letters: t is a tree.
-- To be believed: it is what is claimed of every seed.
use Rattle.std.specs.Prelude.{◌≡◌, ℕ, ◌≤◌, List, Ok}
use Rattle.file_laws.specs.TreeModel.Start.Sources.{TreeValue}
use Rattle.file_laws.specs.TextModel.Schedule.{schedule_of, schedule_text, turn_limit}
use Rattle.file_laws.specs.TextModel.Seeded.{seeded_turns}
use Rattle.schedule_log.specs.Shapes.{shape_view}
use Rattle.tree_config.specs.TreeFile.{tree_of}

-- for the tree of each file that is accepted
abbrev pub SeededSchedulesAreReadBack : Type 0
SeededSchedulesAreReadBack = (file : List ℕ) (t : TreeValue) → tree_of file ≡ Ok t → (seed count : ℕ) → count ≤ turn_limit
    → let turns = seeded_turns (shape_view t.levels) seed count in schedule_of (shape_view t.levels) 0 (schedule_text turns) ≡ Ok turns
