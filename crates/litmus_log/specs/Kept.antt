-- The states of runs as the code keeps them.
use Rattle.std.specs.Prelude.{ℕ, Bool, List, sum_by, if◌then◌else◌}
use Rattle.litmus_model.specs.StatesText.{RunStates, StateLine}
use Rattle.litmus_log.specs.declared.runs.RunStates as kept

abbrev pub runs_from : kept.RunStates → RunStates
runs_from r = record { states = r.states.items; runs = r.runs; unfinished = r.unfinished; faulted = r.faulted }

-- of these seeds those that are counted, where states are counted that satisfy a condition, or those that don't
unfoldable pub counted : Bool → Bool → ℕ → ℕ
counted satisfy satisfied times = if satisfied then (if satisfy then times else 0) else (if satisfy then 0 else times)

-- how many seeds came to states
abbrev pub times_in : List StateLine → ℕ
times_in states = sum_by (λ (s : StateLine). s.times) states
