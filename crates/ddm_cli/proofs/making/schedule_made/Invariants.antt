use Rattle.std.proofs.Common.{◌≡◌, ◌≤◌, ◌-◌, ℕ, false, List, []}
use Rattle.ddm_cli.specs.DdmTypes.declared.turns.Turn.{Turn}
use Rattle.ddm_cli.specs.AnyMachine.Any.{machine_state}
use Rattle.ddm_cli.specs.Made.{HasMade}
use Rattle.ddm_cli.specs.Reads.{HasRead}
use Rattle.ddm_cli.proofs.making.schedule_made.Given as goal

abbrev pub invariant-reading : goal.invariant-reading
invariant-reading g l = record {
  all : (turns : List Turn) × HasRead l.tree.levels l.fn.first.turns (g.F.Shelf.told l.initial.files l.name) l.at l.reader turns × HasMade l.fn.first l.keep false (machine_state l.initial.machine) (machine_state l.machine) l.made turns;
  none : l.turns.items ≡ [];
  few : l.at ≤ 26214425;
  same : g.F.Shelf.told l.files ≡ g.F.Shelf.told l.initial.files;
  later : (other : List ℕ) → g.F.Shelf.faults l.initial.files other ≤ g.F.Shelf.faults l.files other;
}

abbrev pub decreases-reading : goal.decreases-reading
decreases-reading g l = 26214426 - l.at
