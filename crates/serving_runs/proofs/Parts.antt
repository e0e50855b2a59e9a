-- What is named of a machine is a part of it.
-- Letters: m is a machine, b the number of a bus, h that of a leaf.
use Rattle.std.proofs.Common.{◌≡◌, ℕ, true, length, is_some, sym, ◌∙◌}
use Rattle.serving_runs.specs.DdmTypes.Keys.{key_zero}
use Rattle.serving_runs.specs.DdmTypes.declared.turns.Turn.{Turn}
use Rattle.serving_runs.specs.TreeModel.State.Place.{at_top, key_at_leaf}
use Rattle.serving_runs.specs.TreeModel.State.Values.{MachineValue, root_of}
use Rattle.serving_runs.specs.TreeModel.Turns.Machine.{child_count, names_part}
use Rattle.serving_runs.specs.TreeModel.Turns.Tree.{bus_of_number, has_node, leaf_of_number, of_dir, of_leaf}
use Rattle.serving_runs.proofs.TreeModel.NamedNode.{read_in-is_some}

pub bus_part : (b : ℕ) (m : MachineValue) → is_some (child_count b m) ≡ true → has_node (bus_of_number b) (root_of m) ≡ true
bus_part b m there = sym (read_in-is_some (bus_of_number b) (of_dir (λ w d ns. length ns) 0) at_top (root_of m)) ∙ there

pub leaf_part : (h : ℕ) (m : MachineValue) → names_part (Turn.Hart h 0) m ≡ true → has_node (leaf_of_number h) (root_of m) ≡ true
leaf_part h m named = sym (read_in-is_some (leaf_of_number h) (of_leaf (λ w v. key_at_leaf w v.done) key_zero) at_top (root_of m)) ∙ named
