use Rattle.std.proofs.Common.{◌≡◌, ◌≤◌, ℕ, List, Ok, map, take}
use Rattle.std.specs.Prelude.{IfSome}
use Rattle.std.specs.String.{string_bytes}
use Rattle.joining.specs.JoinModel.Files.{sum_of}
use Rattle.joining.specs.Said.{IsCounted, sum_said}
use Rattle.ddm_cli.specs.Told.{files_told}
use Rattle.ddm_cli.proofs.joined.tables_sum.Given as goal

abbrev pub invariant-joining : goal.invariant-joining
invariant-joining g l = record {
  sum : IfSome (files_told (g.F.Shelf.told l.initial.files) (take l.place (map string_bytes l.names))) (λ tables. sum_of tables ≡ Ok (sum_said l.sum));
  counted : IsCounted l.sum;
  tables : l.sum.tables ≡ l.place;
  same : g.F.Shelf.told l.files ≡ g.F.Shelf.told l.initial.files;
  later : (other : List ℕ) → g.F.Shelf.faults l.initial.files other ≤ g.F.Shelf.faults l.files other;
}
