use Rattle.std.proofs.Common.{◌≡◌, false, take}
use Rattle.std.specs.List.{list_any}
use Rattle.explorer.specs.Searching.{has_outcome}
use Rattle.explorer.proofs.line.some_has.Given as goal

abbrev pub invariant-loop-line : goal.invariant-loop-line
invariant-loop-line l = list_any (has_outcome l.outcome) (take l.line-index l.lines) ≡ false
