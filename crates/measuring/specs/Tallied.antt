-- What was measured of a run so far.
-- Letters: m is the machine that the run began with, kept are the recorded turns, made those that were made, n is a number of drawn turns,
-- r a recorded run.
use Rattle.std.specs.Prelude.{ℕ, List, length, map}
use Rattle.std.specs.List.{range_with_len}
use Rattle.ddm_types.specs.ItemTable.{item_count}
use Rattle.ddm_types.specs.declared.turns.Turn.{Turn}
use Rattle.recording_model.specs.TreeModel.State.Shape.{tree_counts}
use Rattle.recording_model.specs.TreeModel.State.Values.{MachineValue}
use Rattle.measure_model.specs.Counts.{bus_busy, hart_counts, is_busy, is_granted, is_halted, is_issued, is_retired}
use Rattle.measure_model.specs.Counts.{item_counts, made_of, of_all}
use Rattle.measure_model.specs.Lengths.{most_in, most_over}
use Rattle.measure_model.specs.Measures.{Measures}
use Rattle.measure_model.specs.declared.RunTotals.{RunTotals}

abbrev pub totals_so : ℕ → List Turn → List Turn → MachineValue → RunTotals
totals_so n kept made m = record {
  turns = length kept;
  drawn = n;
  retired = of_all is_retired (made_of kept m);
  issued = of_all is_issued (made_of kept m);
  granted = of_all is_granted (made_of kept m);
  halted = of_all is_halted (made_of kept m);
  busy = of_all is_busy (made_of made m);
}

abbrev pub measured_so : ℕ → List Turn → List Turn → MachineValue → Measures
measured_so n kept made m = record {
  totals = totals_so n kept made m;
  harts = map (hart_counts (made_of made m)) (range_with_len 0 (tree_counts m).leaves);
  busy = map (bus_busy (made_of made m)) (range_with_len 0 (tree_counts m).buses);
  most = map (most_over made m) (range_with_len 0 (tree_counts m).buses);
  leaf_most = map (most_in made m) (range_with_len 0 (tree_counts m).leaves);
  items = map (item_counts (made_of made m)) (range_with_len 0 (item_count m.items));
}
