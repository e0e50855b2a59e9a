-- Which turns name a leaf, or a bus and a child, of a machine is a fact of its skeleton, which no turn changes.
use Rattle.std.proofs.Common.{◌≡◌, ℕ, ◌+◌, Bool, List, length, Option, Some, None, refl, sym, ap, ◌∙◌, arith}
use Rattle.std.specs.Prelude.{is_some, nat_eq, if◌then◌else◌}
use Rattle.start_parts.specs.DdmTypes.declared.turns.Turn.{Turn}
use Rattle.start_parts.specs.DdmTypes.Keys.{key_zero}
use Rattle.start_parts.specs.TreeModel.State.Values.{DirValue, Node, Nodes, leaf_node, dir_node, no_nodes, more_nodes, children, MachineValue, root_of}
use Rattle.start_parts.specs.TreeModel.State.Place.{Where, at_top, at_child, where_path, spot_in, key_at_leaf}
use Rattle.start_parts.specs.TreeModel.State.Shape.{Skeleton, Skeletons, leaf_bone, dir_bone, no_bones, more_bones, skeleton, skeletons, bone_count, frame_of}
use Rattle.start_parts.specs.TreeModel.Turns.Machine.{is_child_of, names_part, turn_of, run_of}
use Rattle.start_parts.specs.TreeModel.Turns.Tree.{leaf_of_number, bus_of_number, read_in, read_among, of_leaf, of_dir}
use Rattle.start_parts.proofs.TreeModel.NamedNode.{read_in-is_some}
use Rattle.start_parts.proofs.TreeModel.FrameKept.{turn-frame, run-frame}
use Rattle.cluster.specs.DdmTree.Path.{path_to}
use Rattle.cluster.proofs.DdmTree.Along.{path_to-there}

module _ (bus : ℕ) where
  abbrev mutual
    -- how many children a bus has in a part of the tree
    bones_in : Skeleton → Option ℕ
    bones_in (leaf_bone number sizes) = None
    bones_in (dir_bone b level sizes bs) = if nat_eq b bus then Some (bone_count bs) else bones_among bs

    bones_among : Skeletons → Option ℕ
    bones_among no_bones = None
    bones_among (more_bones b bs) = if is_some (path_to (bus_of_number bus) b) then bones_in b else bones_among bs

  abbrev kid_count : Where → Node → ℕ
  kid_count = of_dir (λ w d ns. length ns) 0

  kids-count : (ns : Nodes) → length (children ns) ≡ bone_count (skeletons ns)
  kids-count no_nodes = refl
  kids-count (more_nodes n ns) =
      let rest = kids-count ns in
      omega arith

  mutual
    counted-in : (w : Where) (n : Node) → read_in (bus_of_number bus) kid_count w n ≡ bones_in (skeleton n)
    counted-in w (leaf_node v) = refl
    counted-in w (dir_node d ns) = rw (kids-count ns, counted-among (where_path w) d 0 ns) refl

    counted-among : (path : List ℕ) (d : DirValue) (i : ℕ) (ns : Nodes) → read_among (bus_of_number bus) kid_count path d i ns ≡ bones_among (skeletons ns)
    counted-among path d i no_nodes = refl
    counted-among path d i (more_nodes n ns) = rw (path_to-there (bus_of_number bus) n, counted-in (at_child (spot_in path d i)) n, counted-among path d (i + 1) ns) refl

-- the same of the skeleton
abbrev bones_named : Turn → Skeleton → Bool
bones_named (Turn.Hart hart victim) b = is_some (path_to (leaf_of_number hart) b)
bones_named (Turn.Down bus) b = is_some (bones_in bus b)
bones_named (Turn.Request bus child) b = is_child_of child (bones_in bus b)
bones_named (Turn.Reply bus child) b = is_child_of child (bones_in bus b)
bones_named (Turn.Leave bus child choice) b = is_child_of child (bones_in bus b)

part-bones : (u : Turn) (m : MachineValue) → names_part u m ≡ bones_named u (skeleton (root_of m))
part-bones (Turn.Hart hart victim) m = read_in-is_some (leaf_of_number hart) (of_leaf (λ w v. key_at_leaf w v.done) key_zero) at_top (root_of m) ∙ sym (path_to-there (leaf_of_number hart) (root_of m))
part-bones (Turn.Down bus) m = ap is_some (counted-in bus at_top (root_of m))
part-bones (Turn.Request bus child) m = ap (is_child_of child) (counted-in bus at_top (root_of m))
part-bones (Turn.Reply bus child) m = ap (is_child_of child) (counted-in bus at_top (root_of m))
part-bones (Turn.Leave bus child choice) m = ap (is_child_of child) (counted-in bus at_top (root_of m))

-- machines of one skeleton have the same parts
pub frame-names : (u : Turn) (m n : MachineValue) → frame_of m ≡ frame_of n → names_part u m ≡ names_part u n
frame-names u m n same = part-bones u m ∙ ap (λ f. bones_named u f.bones) same ∙ sym (part-bones u n)

pub turn-names : (u t : Turn) (m : MachineValue) → names_part u (turn_of t m).machine ≡ names_part u m
turn-names u t m = frame-names u (turn_of t m).machine m (turn-frame t m)

pub run-names : (u : Turn) (ts : List Turn) (m : MachineValue) → names_part u (run_of ts m).machine ≡ names_part u m
run-names u ts m = frame-names u (run_of ts m).machine m (run-frame ts m)
