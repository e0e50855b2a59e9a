-- What is printed of a search: the table of its outcomes, jams and lost states, and the schedule of a line of it.
-- Letters: m is the machine that it begins with, s the search, f is a found outcome, e a kept state.
-- To be believed: it is what the commands print.
use Rattle.std.specs.Prelude.{ℕ, ◌-◌, Bool, List, [], ◌∷◌, ◌++◌, length, flat_map, codes, decimal, Option, option_map}
use Rattle.std.specs.Prelude.{slice_get, if◌then◌else◌}
use Rattle.search_model.specs.DdmTypes.declared.turns.Turn.{Turn}
use Rattle.search_model.specs.TextModel.Schedule.{schedule_text}
use Rattle.tree_model.specs.State.Values.{MachineValue}
use Rattle.search_laws.specs.Search.{Kept, Found, Searched, kept, found_at, first_length, searched}
use Rattle.search_laws.specs.Lost.{lost}
use Rattle.search_model.specs.Machines.{quiet_space}

abbrev pub MachineSearch : Type 0
MachineSearch = Searched MachineValue Turn (List ℕ)

abbrev pub MachineFound : Type 0
MachineFound = Found Turn (List ℕ)

-- its word, then how many turns its schedule has, and its outcome
unfoldable pub line_text : List ℕ → MachineFound → List ℕ
line_text word f = word ++ codes " " ++ decimal (length f.schedule) ++ f.outcome ++ codes "\n"

module _ (same : MachineValue → MachineValue → Bool) where
  -- where a state had no place, none is said to be lost
  abbrev pub lost_states : MachineSearch → List (Kept MachineValue Turn)
  lost_states s = if s.full then [] else lost (quiet_space same) s

  abbrev pub first_lost : List (Kept MachineValue Turn) → List (MachineFound)
  first_lost [] = []
  first_lost (e ∷ es) = found_at (quiet_space same) e ∷ []

  -- how many lost states and states there are; or how many turns led to the state that was taken up when a state had no place
  abbrev pub counts_text : MachineSearch → List ℕ
  counts_text s =
      if s.full then codes " states " ++ decimal (length (kept s)) ++ codes " turns " ++ decimal (first_length s.waiting)
      else codes " lost " ++ decimal (length (lost_states s)) ++ codes " states " ++ decimal (length (kept s)) ++ codes " all"

  unfoldable pub explored_text : MachineSearch → List ℕ
  explored_text s =
      codes "outcomes " ++ decimal (length s.found) ++ codes " jams " ++ decimal (length s.jams) ++ counts_text s ++ codes "\n"
      ++ flat_map (line_text (codes "outcome")) s.found ++ flat_map (line_text (codes "jam")) s.jams
      ++ flat_map (line_text (codes "lost")) (first_lost (lost_states s)) ++ codes "end\n"

  -- the table of a machine, of so many states at most
  unfoldable pub explore_text : ℕ → MachineValue → List ℕ
  explore_text most m = explored_text (searched (quiet_space same) most m)

  -- the schedule of a line, counted from 1 after the first line of the table; None where there are fewer
  unfoldable pub reach_text : ℕ → ℕ → MachineValue → Option (List ℕ)
  reach_text most line m =
      let s = searched (quiet_space same) most m in
      option_map (λ (f : MachineFound). schedule_text f.schedule) (slice_get (s.found ++ s.jams ++ first_lost (lost_states s)) (line - 1))
