use Rattle.std.proofs.Common.{◌≡◌, take}
use Rattle.explorer.specs.Losing.{places_from}
use Rattle.explorer.proofs.losing.numbers.Given as goal

-- the flags so far were looked at
abbrev pub invariant-loop-number : goal.invariant-loop-number
invariant-loop-number l = l.numbers.items ≡ places_from 0 (take l.number l.left)
