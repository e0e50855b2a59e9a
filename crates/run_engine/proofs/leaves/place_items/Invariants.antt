use Rattle.std.proofs.Common.{◌≡◌, ◌%◌, length, drop, All}
use Rattle.run_engine.specs.TreeModel.Start.Nodes.{placed_items}
use Rattle.run_engine.specs.Placement.{HasSets}
use Rattle.run_engine.proofs.Open.{IsOpen}
use Rattle.run_engine.proofs.Passing.{AreKnown}
use Rattle.run_engine.proofs.leaves.place_items.Given as goal

abbrev pub invariant-loop-item : goal.invariant-loop-item
invariant-loop-item g l = record {
  blank : All (IsOpen (length l.fn.words) l.item) l.leaves;
  rest : placed_items 0 l.fn.words l.fn.leaves ≡ placed_items l.item (drop l.item l.fn.words) l.leaves;
  sets : All (HasSets l.fn.sets) l.leaves;
  known : AreKnown l.fn.sets l.passed l.leaves;
  own : l.own ≡ l.item % length l.fn.leaves;
  set : l.set ≡ l.item % l.fn.sets;
}
