use Rattle.std.proofs.Common.{◌≡◌, ◌-◌, ◌≤◌, ◌++◌, length, drop}
use Rattle.witness_check.specs.Listed.{ops_in}
use Rattle.witness_check.proofs.listed.ops_of.Given as goal

-- the operations so far and those of the bytes to come are all
abbrev pub invariant-lines : goal.invariant-lines
invariant-lines l = record {
  kept : l.ops.items ++ ops_in (drop l.from l.text) ≡ ops_in l.text;
  within : l.from ≤ length l.text;
}

abbrev pub decreases-lines : goal.decreases-lines
decreases-lines l = length l.text - l.from
