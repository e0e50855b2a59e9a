-- Counts that a checkpoint may have.
-- To be believed with the laws: it is what they speak of.
use Rattle.std.specs.Prelude.{◌≤◌}
use Rattle.checkpoint.specs.TextModel.declared.RunCounts.{RunCounts}
use Rattle.checkpoint.specs.StateReading.Parts.{most_counted}

-- none is above what a checkpoint may say
pub record CountsFit (c : RunCounts) : Type 0 where
  pub turns : c.turns ≤ most_counted
  pub retired : c.retired ≤ most_counted
  pub granted : c.granted ≤ most_counted
  pub busy : c.busy ≤ most_counted
