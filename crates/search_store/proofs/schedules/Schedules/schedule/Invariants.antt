use Rattle.std.proofs.Common.{◌≡◌, ℕ, ◌+◌, ◌<◌, ◌≤◌, List, ◌++◌, [], length, slice_index_or, reverse}
use Rattle.ddm_types.specs.declared.turns.Turn.{Turn}
use Rattle.search_store.specs.Schedule.{schedules_of}
use Rattle.search_store.specs.declared.schedules.Step.{Step}
use Rattle.search_store.proofs.schedules.Schedules.schedule.Given as goal

-- what is left to collect is the schedule of an earlier state
pub record Collected (steps : List Step) (number at : ℕ) (turns : List Turn) : Type 0 where
  pub left : slice_index_or (schedules_of steps) number [] ≡ slice_index_or (schedules_of steps) at [] ++ reverse turns
  pub early : at < length steps + 1
  pub few : length turns + at ≤ number

abbrev pub invariant-loop-at : goal.invariant-loop-at
invariant-loop-at l = Collected l.self-inside.steps.items l.number l.at l.turns.items

abbrev pub decreases-loop-at : goal.decreases-loop-at
decreases-loop-at l = l.at
