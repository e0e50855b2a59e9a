-- The page of a run.
-- Letters: p is the parts of a machine.
use Rattle.std.specs.Prelude.{ℕ, List, Option, option_and_then, option_map}
use Rattle.ddm_cli.specs.DdmTypes.declared.turns.Turn.{Turn}
use Rattle.ddm_cli.specs.TreeModel.Start.Machine.{start_machine}
use Rattle.film_runs.specs.Paged.{page_of}
use Rattle.ddm_cli.specs.Parts.{Parts, parts_of, turns_of}
use Rattle.ddm_cli.specs.Told.{ScheduleGiven}

-- of these turns from the start
unfoldable pub page_at : Parts → List Turn → List ℕ
page_at p turns = page_of p.tree turns (start_machine p.tree p.image)

-- of the turns of a schedule that is accepted for the tree
abbrev pub page_with : ScheduleGiven → Parts → Option (List ℕ)
page_with schedule p = option_map (page_at p) (turns_of p.tree.levels schedule)

-- what a tree, an image and a schedule give
abbrev pub paged_text : List ℕ → List ℕ → ScheduleGiven → Option (List ℕ)
paged_text tree image schedule = option_and_then (page_with schedule) (parts_of tree image)
