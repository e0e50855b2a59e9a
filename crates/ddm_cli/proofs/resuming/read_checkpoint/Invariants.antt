use Rattle.std.proofs.Common.{◌≡◌, ◌≤◌, ◌-◌, ℕ, List, ◌++◌, length, drop}
use Rattle.std.specs.Prelude.{IfSome}
use Rattle.ddm_cli.proofs.resuming.read_checkpoint.Given as goal

abbrev pub invariant-reading : goal.invariant-reading
invariant-reading g l = record {
  so_far : IfSome (g.F.Shelf.told l.initial.files l.name) (λ file. file ≡ l.file ++ drop (length l.file) file);
  same : g.F.Shelf.told l.files ≡ g.F.Shelf.told l.initial.files;
  later : (other : List ℕ) → g.F.Shelf.faults l.initial.files other ≤ g.F.Shelf.faults l.files other;
}

abbrev pub decreases-reading : goal.decreases-reading
decreases-reading g l = 536870913 - length l.file
