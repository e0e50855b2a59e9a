use Rattle.std.proofs.Common.{◌≡◌, ◌≤◌, ◌-◌, ℕ, List}
use Rattle.ddm_cli.specs.Reads.{HasFed}
use Rattle.ddm_cli.proofs.checking.feed_file.Given as goal

abbrev pub invariant-reading : goal.invariant-reading
invariant-reading g l = record {
  read : HasFed l.initial.reader (g.F.Shelf.told l.initial.files l.name) l.at l.reader;
  few : l.at ≤ 168820736;
  same : g.F.Shelf.told l.files ≡ g.F.Shelf.told l.initial.files;
  later : (other : List ℕ) → g.F.Shelf.faults l.initial.files other ≤ g.F.Shelf.faults l.files other;
}

abbrev pub decreases-reading : goal.decreases-reading
decreases-reading g l = 168820737 - l.at
