use Rattle.std.proofs.Common.{◌≡◌, ℕ, true, sym, subst, rules}
use Rattle.recording_model.specs.TreeModel.State.Values.{root_of}
use Rattle.recording_model.specs.TreeModel.Turns.Tree.{bus_of_number, has_node, leaf_of_number}
use Rattle.measuring.proofs.Looked.{bus-part, hart-part}
use Rattle.measuring.proofs.lengths.look.Goals.{in-Down, in-Down-2, in-Down-3, in-Down-4}
use Rattle.measuring.proofs.lengths.look.Goals as goal

pub look_in-requires : goal.look_in-requires
look_in-requires g c =
    let m = c.args.machine.now.machine in
    (search rules, subst (λ (h : ℕ). has_node (leaf_of_number h) (root_of m) ≡ true) (sym c.hart.view_is) (hart-part m _ _ c.args.turn.now c.in-Hart.is c.requires))

pub look_around-requires : goal.look_around-requires
look_around-requires g c =
    let m = c.args.machine.now.machine in
    let t = c.args.turn.now in
    elim c.in-Down-1.branch [
      | in-Down w ↦ (search rules, subst (λ (b : ℕ). has_node (bus_of_number b) (root_of m) ≡ true) (sym w.bus-is) (bus-part m w.in-Down.bus t w.in-Down.is c.requires))
      | in-Down-2 w ↦ (search rules, subst (λ (b : ℕ). has_node (bus_of_number b) (root_of m) ≡ true) (sym w.bus-is) (bus-part m w.in-Down.bus t w.in-Down.is c.requires))
      | in-Down-3 w ↦ (search rules, subst (λ (b : ℕ). has_node (bus_of_number b) (root_of m) ≡ true) (sym w.bus-is) (bus-part m w.in-Down.bus t w.in-Down.is c.requires))
      | in-Down-4 w ↦ (search rules, subst (λ (b : ℕ). has_node (bus_of_number b) (root_of m) ≡ true) (sym w.bus-is) (bus-part m w.in-Down.bus t w.in-Down.is c.requires))
    ]
