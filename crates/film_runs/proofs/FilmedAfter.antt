-- A turn keeps what a still asks of a machine: it changes neither the tree nor the table of items, and values keep their form.
-- Letters: m is a machine, t a turn, n a node.
use Rattle.std.proofs.Common.{◌≡◌, ℕ, ◌+◌, ◌*◌, Bool, false, cond, List, [], Option, Some, None, length, nat_eq, refl, sym, ap, ◌∙◌}
use Rattle.std.specs.Prelude.{◌||◌}
use Rattle.film_runs.specs.Film.Filmed.{IsFilmed}
use Rattle.film_runs.specs.TreeModel.State.Place.{Where, at_top, at_child, where_path, spot_in}
use Rattle.film_runs.specs.TreeModel.State.Shape.{IsShaped, Frame, Skeleton, Skeletons, leaf_bone, dir_bone, no_bones, more_bones, buses_of, frame_of, skeleton, skeletons}
use Rattle.film_runs.specs.TreeModel.State.Values.{DirValue, Node, Nodes, leaf_node, dir_node, no_nodes, more_nodes, MachineValue, root_of}
use Rattle.film_runs.specs.TreeModel.Turns.Machine.{turn_of}
use Rattle.film_runs.specs.TreeModel.Turns.Tree.{bus_of_number, has_among, has_node, of_dir, read_among, read_in}
use Rattle.film_runs.specs.DdmTypes.declared.turns.Turn.{Turn}
use Rattle.film.proofs.ValueLaws.TurnForm.{turn-form}
use Rattle.film.proofs.TreeModel.FrameKept.{turn-frame}

-- ---- the level of a bus, by the tree's shape

module _ (bus : ℕ) where
  mutual
    has_bone : Skeleton → Bool
    has_bone (leaf_bone number sizes) = false
    has_bone (dir_bone b level sizes bones) = nat_eq b bus || has_bones bones

    has_bones : Skeletons → Bool
    has_bones no_bones = false
    has_bones (more_bones b bs) = has_bone b || has_bones bs

  mutual
    level_in : Skeleton → Option ℕ
    level_in (leaf_bone number sizes) = None
    level_in (dir_bone b level sizes bones) = cond (nat_eq b bus) (Some level) (level_among bones)

    level_among : Skeletons → Option ℕ
    level_among no_bones = None
    level_among (more_bones b bs) = cond (has_bone b) (level_in b) (level_among bs)

  mutual
    unfolding has_bone has_bones

    has_same : (n : Node) → has_node (bus_of_number bus) n ≡ has_bone (skeleton n)
    has_same (leaf_node v) = refl
    has_same (dir_node d ns) = ap (λ b. nat_eq d.bus bus || b) (among_same ns)

    among_same : (ns : Nodes) → has_among (bus_of_number bus) ns ≡ has_bones (skeletons ns)
    among_same no_nodes = refl
    among_same (more_nodes n ns) = ap (λ b. b || has_among (bus_of_number bus) ns) (has_same n) ∙ ap (λ b. has_bone (skeleton n) || b) (among_same ns)

  mutual
    unfolding level_in level_among

    level_same : (w : Where) (n : Node) → read_in (bus_of_number bus) (of_dir (λ w d ns. d.level) 0) w n ≡ level_in (skeleton n)
    level_same w (leaf_node v) = refl
    level_same w (dir_node d ns) = ap (cond (nat_eq d.bus bus) (Some d.level)) (levels_same (where_path w) d 0 ns)

    levels_same : (path : List ℕ) (d : DirValue) (i : ℕ) (ns : Nodes) → read_among (bus_of_number bus) (of_dir (λ w d ns. d.level) 0) path d i ns ≡ level_among (skeletons ns)
    levels_same path d i no_nodes = refl
    levels_same path d i (more_nodes n ns) =
        ap (λ b. cond b (read_in (bus_of_number bus) (of_dir (λ w d ns. d.level) 0) (at_child (spot_in path d i)) n) (read_among (bus_of_number bus) (of_dir (λ w d ns. d.level) 0) path d (i + 1) ns)) (has_same n)
        ∙ ap (λ o. cond (has_bone (skeleton n)) o (read_among (bus_of_number bus) (of_dir (λ w d ns. d.level) 0) path d (i + 1) ns)) (level_same (at_child (spot_in path d i)) n)
        ∙ ap (λ o. cond (has_bone (skeleton n)) (level_in (skeleton n)) o) (levels_same path d (i + 1) ns)

-- how many words an item has at the top
top_width : Skeleton → ℕ
top_width (leaf_bone number sizes) = 0
top_width (dir_bone bus level sizes bones) = sizes.width

width_same : (m n : MachineValue) → skeleton (root_of m) ≡ skeleton (root_of n) → m.top.sizes.width ≡ n.top.sizes.width
unfolding top_width
width_same m n bones = ap top_width bones

-- ---- a turn

pub filmed_after : (levels : List ℕ) (t : Turn) (m : MachineValue) → IsShaped m → IsFilmed levels m → IsFilmed levels (turn_of t m).machine
filmed_after levels t m shaped filmed =
    let next : MachineValue = (turn_of t m).machine in
    let frame : frame_of next ≡ frame_of m = turn-frame t m in
    let bones : skeleton (root_of next) ≡ skeleton (root_of m) = ap (λ (f : Frame). f.bones) frame in
    let items = ap (λ (f : Frame). f.items.size) frame in
    record {
      most = filmed.most + 1;
      form = turn-form t filmed.most m shaped filmed.form;
      width = items ∙ filmed.width ∙ ap (λ (n : ℕ). 4 * n) (sym (width_same next m bones));
      counted = filmed.counted ∙ sym (ap (λ (b : Skeleton). length (buses_of b [])) bones);
      known = λ bus inside. level_same bus at_top (root_of next) ∙ ap (level_in bus) bones ∙ sym (level_same bus at_top (root_of m)) ∙ filmed.known bus inside;
    }
