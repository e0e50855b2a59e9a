-- Measures that have what there is of a machine: so many harts, buses, leaves and items.
-- Letters: s are measures, m is a machine.
use Rattle.std.specs.Prelude.{◌≡◌, length}
use Rattle.ddm_types.specs.ItemTable.{item_count}
use Rattle.recording_model.specs.TreeModel.State.Shape.{tree_counts}
use Rattle.recording_model.specs.TreeModel.State.Values.{MachineValue}
use Rattle.measure_model.specs.Measures.{Measures}

pub record IsSized (s : Measures) (m : MachineValue) : Type 0 where
  pub harts : length s.harts ≡ (tree_counts m).leaves
  pub busy : length s.busy ≡ (tree_counts m).buses
  pub most : length s.most ≡ (tree_counts m).buses
  pub leaf_most : length s.leaf_most ≡ (tree_counts m).leaves
  pub items : length s.items ≡ item_count m.items
