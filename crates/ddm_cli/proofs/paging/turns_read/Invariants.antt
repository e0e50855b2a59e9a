use Rattle.std.proofs.Common.{◌≡◌, ◌≤◌, ◌-◌, ℕ, List}
use Rattle.ddm_cli.specs.Parts.{before_page}
use Rattle.ddm_cli.specs.Reads.{HasRead}
use Rattle.ddm_cli.proofs.paging.turns_read.Given as goal

abbrev pub invariant-reading : goal.invariant-reading
invariant-reading g l = record {
  all : HasRead l.tree.levels before_page (g.F.Shelf.told l.initial.files l.name) l.at l.reader l.turns.items;
  few : l.at ≤ 26214425;
  same : g.F.Shelf.told l.files ≡ g.F.Shelf.told l.initial.files;
  later : (other : List ℕ) → g.F.Shelf.faults l.initial.files other ≤ g.F.Shelf.faults l.files other;
}

abbrev pub decreases-reading : goal.decreases-reading
decreases-reading g l = 26214426 - l.at
