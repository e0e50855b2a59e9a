use Rattle.std.proofs.Common.{◌≡◌, take}
use Rattle.explorer.specs.Losing.{staying}
use Rattle.explorer.proofs.losing.staying.Given as goal

-- the ways so far were looked at
abbrev pub invariant-loop-way : goal.invariant-loop-way
invariant-loop-way l = l.stay.items ≡ staying (take l.way-index l.ways) l.left
