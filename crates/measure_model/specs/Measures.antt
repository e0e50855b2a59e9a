-- All that a recorded run is measured by.
-- Letters: r is a recorded run, m the machine that it began with.
-- To be believed: it is what is printed of a run.
use Rattle.std.specs.Prelude.{ℕ, List, map}
use Rattle.std.specs.List.{range_with_len}
use Rattle.ddm_types.specs.ItemTable.{item_count}
use Rattle.recording_model.specs.TreeModel.State.Shape.{tree_counts}
use Rattle.recording_model.specs.TreeModel.State.Values.{MachineValue}
use Rattle.tree_model.specs.declared.DirLengths.{DirLengths}
use Rattle.tree_model.specs.declared.LeafLengths.{LeafLengths}
use Rattle.recording_model.specs.Recording.{Recording, made_turns}
use Rattle.measure_model.specs.declared.HartCounts.{HartCounts}
use Rattle.measure_model.specs.declared.ItemCounts.{ItemCounts}
use Rattle.measure_model.specs.declared.RunTotals.{RunTotals}
use Rattle.measure_model.specs.Counts.{bus_busy, hart_counts, item_counts, made_of, totals_of}
use Rattle.measure_model.specs.Lengths.{most_in, most_over}

-- each list by number
pub record Measures : Type 0 where
  pub totals : RunTotals
  pub harts : List HartCounts
  -- how many turns of each bus were busy
  pub busy : List ℕ
  pub most : List DirLengths
  pub leaf_most : List LeafLengths
  pub items : List ItemCounts

unfoldable pub measures_of : Recording → MachineValue → Measures
measures_of r m =
    let made = made_of (made_turns r.drawn) m in
    record {
      totals = totals_of r m;
      harts = map (hart_counts made) (range_with_len 0 (tree_counts m).leaves);
      busy = map (bus_busy made) (range_with_len 0 (tree_counts m).buses);
      most = map (most_over (made_turns r.drawn) m) (range_with_len 0 (tree_counts m).buses);
      leaf_most = map (most_in (made_turns r.drawn) m) (range_with_len 0 (tree_counts m).leaves);
      items = map (item_counts made) (range_with_len 0 (item_count m.items));
    }
