-- What is kept of a run that is measured.
-- Letters: k is what is kept, m a machine.
use Rattle.std.specs.Prelude.{map, replicate}
use Rattle.std.specs.List.{range_with_len}
use Rattle.ddm_types.specs.ItemTable.{item_count}
use Rattle.recording_model.specs.TreeModel.State.Shape.{tree_counts}
use Rattle.recording_model.specs.TreeModel.State.Values.{MachineValue}
use Rattle.measure_model.specs.Lengths.{lengths_in, lengths_over}
use Rattle.measure_model.specs.declared.RunTotals.{RunTotals}
use Rattle.measure_model.specs.Measures.{Measures}
use Rattle.measuring.specs.Tally.{no_hart_counts, no_item_counts}
use Rattle.measuring.specs.declared.tally.Tally.{Tally}

-- the measures that are kept
abbrev pub tally_of : Tally → Measures
tally_of k = record {
  totals = k.totals;
  harts = k.harts.items;
  busy = k.busy.items;
  most = k.most.items;
  leaf_most = k.leaf_most.items;
  items = k.items.items;
}

abbrev pub no_totals : RunTotals
no_totals = record { turns = 0; drawn = 0; retired = 0; issued = 0; granted = 0; halted = 0; busy = 0 }

-- of a machine, before the first turn
abbrev pub first_measures : MachineValue → Measures
first_measures m = record {
  totals = no_totals;
  harts = replicate (tree_counts m).leaves no_hart_counts;
  busy = replicate (tree_counts m).buses 0;
  most = map (λ b. lengths_over b m) (range_with_len 0 (tree_counts m).buses);
  leaf_most = map (λ k. lengths_in k m) (range_with_len 0 (tree_counts m).leaves);
  items = replicate (item_count m.items) no_item_counts;
}
