use Rattle.std.proofs.Common.{◌≡◌, ◌-◌, true, replicate}
use Rattle.explorer.specs.Losing.{flags_after}
use Rattle.explorer.proofs.losing.left_after.Given as goal

-- so many rounds are left
abbrev pub invariant-loop-round : goal.invariant-loop-round
invariant-loop-round l = flags_after (l.count - l._round) l.ways l.left.items ≡ flags_after l.count l.ways (replicate l.count true)
