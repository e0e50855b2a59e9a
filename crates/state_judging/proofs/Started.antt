-- Words can be read into a machine before its first turn, and into each machine with the same frame.
-- Letters: t is a tree, i an image, s a segment, m and f machines, n how many items there are.
use Rattle.std.specs.Prelude.{◌≡◌, ℕ, Bool, true, ◌&&◌, nat_eq, Some, None, Ok, refl}
use Rattle.std.proofs.Common.{sym, subst}
use Rattle.std.specs.Cmp.Derive.{both_true}
use Rattle.state_judging.specs.TreeModel.State.Shape.{Skeleton, leaf_bone, dir_bone, IsShaped, Frame, frame_of, skeleton, skeletons}
use Rattle.state_judging.specs.TreeModel.State.Values.{Node, Nodes, leaf_node, dir_node, no_nodes, more_nodes, MachineValue, root_of}
use Rattle.state_judging.specs.TreeModel.Start.Sources.{ImageValue, TreeValue}
use Rattle.state_judging.specs.TreeModel.Start.Machine.{start_machine, start_refusal, start_or, start_of}
use Rattle.state_judging.specs.TreeRules.Bus.Own.{has_ways}
use Rattle.state_judging.specs.TreeRules.Bus.Rules.{IsTreeOk, AreTreesOk, IsMachineOk, items_of_machine}
use Rattle.bus_laws.specs.IsTree.{IsTree}
use Rattle.bus_laws.proofs.StartKept.{start-kept}
use Rattle.state_judging.specs.Read.{ways_exist, ways_exist_among, is_top_alone, CanRead}
use Rattle.state_judging.proofs.MachineRead.{framed-shape}

-- ---- what keeps the rules

module _ (n : ℕ) where
  mutual
    ways-kept : (m : Node) → IsTreeOk n m → ways_exist (skeleton m) ≡ true
    ways-kept (leaf_node v) ok = ok.each has_ways
    ways-kept (dir_node d ns) ok = ways-kept_among ns ok.1

    ways-kept_among : (ns : Nodes) → AreTreesOk n ns → ways_exist_among (skeletons ns) ≡ true
    ways-kept_among no_nodes ok = refl
    ways-kept_among (more_nodes m ns) ok = both_true (ways-kept m ok.0) (ways-kept_among ns ok.1)

pub kept-can_read : (m : MachineValue) → IsShaped m → IsMachineOk m → is_top_alone m.top ≡ true → CanRead m
kept-can_read m shaped ok alone = record { shaped = shaped; ways = ways-kept (items_of_machine m) (root_of m) ok.tree; top = alone }

-- ---- the same frame

abbrev alone_bone : Skeleton → Bool
alone_bone (leaf_bone number sizes) = true
alone_bone (dir_bone bus level sizes bones) = nat_eq bus 0 && (nat_eq sizes.request_room 0 && (nat_eq sizes.reply_room 0 && nat_eq sizes.parking_room 0))

pub framed-can_read : (f m : MachineValue) → frame_of m ≡ frame_of f → CanRead f → CanRead m
framed-can_read f m same can = record {
  shaped = framed-shape f m same can.shaped;
  ways = subst (λ (frame : Frame). ways_exist frame.bones ≡ true) (sym same) can.ways;
  top = subst (λ (frame : Frame). alone_bone frame.bones ≡ true) (sym same) can.top;
}

-- ---- before the first turn

started : (t : TreeValue) (i : ImageValue) (m : MachineValue) → start_of t i ≡ Ok m → start_machine t i ≡ m
unfolding start_of
started t i m built =
    elim (start_refusal t i) as (λ o. start_or o t i ≡ Ok m → start_machine t i ≡ m) [
      | Some r ↦ λ built. cc
      | None ↦ λ built. cc
    ] built

top-alone : (t : TreeValue) (i : ImageValue) → is_top_alone (start_machine t i).top ≡ true
unfolding start_machine
top-alone t i = refl

pub started_machines_can_be_read : (t : TreeValue) (i : ImageValue) (m : MachineValue) → IsTree t → start_of t i ≡ Ok m → CanRead m
started_machines_can_be_read t i m tree built =
    let kept = start-kept t i m tree built in
    kept-can_read m kept.0 kept.1 (subst (λ (m : MachineValue). is_top_alone m.top ≡ true) (started t i m built) (top-alone t i))
