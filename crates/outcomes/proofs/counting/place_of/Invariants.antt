use Rattle.std.proofs.Common.{◌≡◌, ◌+◌, drop}
use Rattle.std.specs.List.{position_or_len}
use Rattle.outcome_model.specs.Table.{is_outcome}
use Rattle.outcomes.proofs.counting.place_of.Given as goal

abbrev pub invariant-loop-place : goal.invariant-loop-place
invariant-loop-place l = position_or_len (is_outcome l.fn.text) l.fn.lines ≡ l.place + position_or_len (is_outcome l.fn.text) (drop l.place l.fn.lines)
