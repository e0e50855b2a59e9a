-- Which leaves and buses are there, by the machine's counts, and what turns may name.
use Rattle.std.proofs.Common.{◌≡◌, ℕ, true, length, nat_lt, ap, ◌∙◌, arith}
use Rattle.std.proofs.lemmas.Bool.{ltb-true}
use Rattle.ddm_tree.specs.DdmTypes.Keys.{key_zero}
use Rattle.ddm_tree.specs.DdmTypes.declared.sizes.TreeCounts.{TreeCounts}
use Rattle.ddm_tree.specs.DdmTypes.declared.turns.Turn.{Turn}
use Rattle.ddm_tree.specs.TreeModel.State.Shape.{IsShaped, tree_counts}
use Rattle.ddm_tree.specs.TreeModel.State.Values.{MachineValue, root_of}
use Rattle.ddm_tree.specs.TreeModel.State.Place.{at_top, key_at_leaf}
use Rattle.ddm_tree.specs.TreeModel.Turns.Machine.{names_part}
use Rattle.ddm_tree.specs.TreeModel.Turns.Tree.{bus_of_number, leaf_of_number, of_dir, of_leaf}
use Rattle.ddm_tree.specs.Machine.{is_part}
use Rattle.ddm_tree.proofs.LeafList.{leaf-there}
use Rattle.ddm_tree.proofs.StateJudging.BusNumbers.{numbered-bus}
use Rattle.ddm_tree.proofs.TreeModel.NamedNode.{read_in-is_some}

module _ (m : MachineValue) (counts : TreeCounts) (shaped : IsShaped m) (counted : counts ≡ tree_counts m) where
  pub leaf_part : (k : ℕ) → nat_lt k counts.leaves ≡ true → is_part (leaf_of_number k) m ≡ true
  leaf_part k below =
      let leaves = ap (λ (n : TreeCounts). n.leaves) counted in
      leaf-there k m shaped (omega (arith, leaves, ltb-true k counts.leaves below))

  pub bus_part : (k : ℕ) → nat_lt k counts.buses ≡ true → is_part (bus_of_number k) m ≡ true
  bus_part k below =
      let buses = ap (λ (n : TreeCounts). n.buses) counted in
      numbered-bus m k shaped (omega (arith, buses, ltb-true k counts.buses below))

module _ (m : MachineValue) where
  pub hart_named : (hart victim : ℕ) → is_part (leaf_of_number hart) m ≡ true → names_part (Turn.Hart hart victim) m ≡ true
  hart_named hart victim there = read_in-is_some (leaf_of_number hart) (of_leaf (λ w v. key_at_leaf w v.done) key_zero) at_top (root_of m) ∙ there

  pub bus_named : (bus : ℕ) → is_part (bus_of_number bus) m ≡ true → names_part (Turn.Down bus) m ≡ true
  bus_named bus there = read_in-is_some (bus_of_number bus) (of_dir (λ w d ns. length ns) 0) at_top (root_of m) ∙ there
