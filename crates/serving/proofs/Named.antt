-- A turn that is granted names a bus and a child of it; which turns do is a fact of the skeleton, which no turn changes.
-- Letters: b is the number of a bus, c that of a child, t a turn, m a machine.
use Rattle.std.proofs.Common.{◌≡◌, ℕ, ◌+◌, ◌<◌, ◌≤◌, Bool, true, false, List, [], ◌∷◌, length, Option, Some, None, is_some, refl, sym, ap, subst, ◌∙◌, arith, ◌⊎◌, inl, inr}
use Rattle.std.specs.Prelude.{All, ◌||◌, nat_eq, if◌then◌else◌}
use Rattle.std.specs.List.{list_all}
use Rattle.std.proofs.lemmas.Bool.{and_parts, true≢false, cases_lt}
use Rattle.std.proofs.lemmas.Bool.Decides.{nat_tests}
use Rattle.std.proofs.lemmas.List.Elements.{All-nil, All-cons, All-weaker}
use Rattle.std.proofs.Math.ListN.{get_or-eq_default}
use Rattle.serving.specs.DdmTypes.declared.answers.TurnAnswer.{TurnAnswer}
use Rattle.serving.specs.DdmTypes.declared.keys.Stamp.{Stamp}
use Rattle.serving.specs.DdmTypes.declared.turns.Turn.{Turn}
use Rattle.serving.specs.DdmTypes.Keys.{key_zero}
use Rattle.serving.specs.TreeModel.declared.BusTurn.{BusTurn}
use Rattle.serving.specs.TreeModel.State.Values.{DirValue, Node, Nodes, leaf_node, dir_node, no_nodes, more_nodes, children, MachineValue, root_of}
use Rattle.serving.specs.TreeModel.State.Blank.{no_node}
use Rattle.serving.specs.TreeModel.State.Leaf.{leaf_leaving}
use Rattle.serving.specs.TreeModel.State.Place.{Where, at_top, at_child, where_path, spot_in, stamp_above, key_at_leaf}
use Rattle.serving.specs.TreeModel.State.Shape.{Skeleton, Skeletons, leaf_bone, dir_bone, no_bones, more_bones, skeleton, skeletons, bone_count, Frame, frame_of, IsShaped}
use Rattle.serving.specs.TreeModel.Turns.Bus.{bus_step}
use Rattle.serving.specs.TreeModel.Turns.Machine.{Turned, named_by, answer_here, turn_answer, turn_of, run_of, child_count, is_child_of, names_part}
use Rattle.serving.specs.TreeModel.Turns.Tree.{leaf_of_number, bus_of_number, has_node, has_among, read_in, read_among, of_leaf, of_dir}
use Rattle.serving.proofs.TreeModel.NamedNode.{read_in-is_some}
use Rattle.serving.proofs.TreeModel.FrameKept.{turn-frame, run-frame, turn-shape}
use Rattle.serving.proofs.TreeModel.TurnChanges.{turn-answered, turn-unanswered}
use Rattle.serving.specs.ServingModel.Parts.{is_granted}
use Rattle.serving.proofs.ServingModel.Spine.{bone_over, over-is}
use Rattle.serving_walk.proofs.AtBus.{AtBus, at-bus, read-at}

-- ---- the skeleton alone

module _ (bus : ℕ) where
  abbrev mutual
    has_bone : Skeleton → Bool
    has_bone (leaf_bone number sizes) = false
    has_bone (dir_bone b level sizes bs) = nat_eq b bus || has_bones bs

    has_bones : Skeletons → Bool
    has_bones no_bones = false
    has_bones (more_bones b bs) = has_bone b || has_bones bs

  abbrev mutual
    bones_in : Skeleton → Option ℕ
    bones_in (leaf_bone number sizes) = None
    bones_in (dir_bone b level sizes bs) = if nat_eq b bus then Some (bone_count bs) else bones_among bs

    bones_among : Skeletons → Option ℕ
    bones_among no_bones = None
    bones_among (more_bones b bs) = if has_bone b then bones_in b else bones_among bs

  abbrev kid_count : Where → Node → ℕ
  kid_count = of_dir (λ w d ns. length ns) 0

  kids-count : (ns : Nodes) → length (children ns) ≡ bone_count (skeletons ns)
  kids-count no_nodes = refl
  kids-count (more_nodes n ns) =
      let rest = kids-count ns in
      omega arith

  mutual
    has-is : (n : Node) → has_node (bus_of_number bus) n ≡ has_bone (skeleton n)
    has-is (leaf_node v) = refl
    has-is (dir_node d ns) = ap (λ b. nat_eq d.bus bus || b) (has_among-is ns)

    has_among-is : (ns : Nodes) → has_among (bus_of_number bus) ns ≡ has_bones (skeletons ns)
    has_among-is no_nodes = refl
    has_among-is (more_nodes n ns) = rw (has-is n, has_among-is ns) refl

  mutual
    counted-in : (w : Where) (n : Node) → read_in (bus_of_number bus) kid_count w n ≡ bones_in (skeleton n)
    counted-in w (leaf_node v) = refl
    counted-in w (dir_node d ns) = rw (kids-count ns, counted-among (where_path w) d 0 ns) refl

    counted-among : (path : List ℕ) (d : DirValue) (i : ℕ) (ns : Nodes) → read_among (bus_of_number bus) kid_count path d i ns ≡ bones_among (skeletons ns)
    counted-among path d i no_nodes = refl
    counted-among path d i (more_nodes n ns) = rw (has-is n, counted-in (at_child (spot_in path d i)) n, counted-among path d (i + 1) ns) refl

abbrev bones_named : Turn → Skeleton → Bool
bones_named (Turn.Hart hart victim) b = bone_over hart b
bones_named (Turn.Down bus) b = is_some (bones_in bus b)
bones_named (Turn.Request bus child) b = is_child_of child (bones_in bus b)
bones_named (Turn.Reply bus child) b = is_child_of child (bones_in bus b)
bones_named (Turn.Leave bus child choice) b = is_child_of child (bones_in bus b)

part-bones : (u : Turn) (m : MachineValue) → names_part u m ≡ bones_named u (skeleton (root_of m))
part-bones (Turn.Hart hart victim) m = read_in-is_some (leaf_of_number hart) (of_leaf (λ w v. key_at_leaf w v.done) key_zero) at_top (root_of m) ∙ over-is hart (root_of m)
part-bones (Turn.Down bus) m = ap is_some (counted-in bus at_top (root_of m))
part-bones (Turn.Request bus child) m = ap (is_child_of child) (counted-in bus at_top (root_of m))
part-bones (Turn.Reply bus child) m = ap (is_child_of child) (counted-in bus at_top (root_of m))
part-bones (Turn.Leave bus child choice) m = ap (is_child_of child) (counted-in bus at_top (root_of m))

pub frame-names : (u : Turn) (m n : MachineValue) → frame_of m ≡ frame_of n → names_part u m ≡ names_part u n
frame-names u m n same = part-bones u m ∙ ap (λ (f : Frame). bones_named u f.bones) same ∙ sym (part-bones u n)

pub run-names : (u : Turn) (ts : List Turn) (m : MachineValue) → names_part u (run_of ts m).machine ≡ names_part u m
run-names u ts m = frame-names u (run_of ts m).machine m (run-frame ts m)

-- ---- a turn that is granted

answered : (t : Turn) (m : MachineValue) → is_granted (turn_of t m).answer ≡ true → (a : TurnAnswer) × (turn_answer t m ≡ Some a) × (is_granted a ≡ true)
answered t m g = by (turn_answer t m) refl where
  by : (o : Option TurnAnswer) → turn_answer t m ≡ o → (a : TurnAnswer) × (turn_answer t m ≡ Some a) × (is_granted a ≡ true)
  by None none = absurd (true≢false (sym g ∙ ap (λ (r : Turned). is_granted r.answer) (turn-unanswered t m none)))
  by (Some a) some = (a, some, sym (ap (λ (r : Turned). is_granted r.answer) (turn-answered t m a some)) ∙ g)

-- nothing is granted to a child that isn't there
request-past : (above : Stamp) (d : DirValue) (ns : List Node) (c : ℕ) → length ns ≤ c → is_granted (bus_step above (BusTurn.Request c) d ns).answer ≡ false
unfolding bus_step
request-past above d ns c past = rw (get_or-eq_default ns no_node past) refl

reply-past : (above : Stamp) (d : DirValue) (ns : List Node) (c : ℕ) → length ns ≤ c → is_granted (bus_step above (BusTurn.Reply c) d ns).answer ≡ false
unfolding bus_step
reply-past above d ns c past = rw (get_or-eq_default ns no_node past) refl

leave-past : (above : Stamp) (d : DirValue) (ns : List Node) (c choice : ℕ) → length ns ≤ c → is_granted (bus_step above (BusTurn.Leave c choice) d ns).answer ≡ false
unfolding bus_step leaf_leaving
leave-past above d ns c choice past = rw (get_or-eq_default ns no_node past) refl

module _ (m : MachineValue) (shaped : IsShaped m) where
  there : (t : Turn) → is_granted (turn_of t m).answer ≡ true → has_node (named_by t) (root_of m) ≡ true
  there t g = sym (read_in-is_some (named_by t) (answer_here m.code m.items t) at_top (root_of m)) ∙ ap is_some (answered t m g).1

  child-names : (t : Turn) (b c : ℕ) → named_by t ≡ bus_of_number b → is_granted (turn_of t m).answer ≡ true → ((w : Where) (d : DirValue) (ns : Nodes) → length (children ns) ≤ c → is_granted (answer_here m.code m.items t w (dir_node d ns)) ≡ false) → is_child_of c (child_count b m) ≡ true
  child-names t b c named g past = by (cases_lt c (length (children at.kids))) where
    bus : is_some (child_count b m) ≡ true
    bus = read_in-is_some (bus_of_number b) (of_dir (λ w d ns. length ns) 0) at_top (root_of m) ∙ subst (λ n. has_node n (root_of m) ≡ true) named (there t g)

    at : AtBus m shaped b
    at = at-bus m shaped b bus

    read : (w : Where) × (turn_answer t m ≡ Some (answer_here m.code m.items t w (dir_node at.dir at.kids)))
    read = subst (λ n. (w : Where) × (read_in n (answer_here m.code m.items t) at_top (root_of m) ≡ Some (answer_here m.code m.items t w (dir_node at.dir at.kids)))) (sym named) (read-at m shaped b at (answer_here m.code m.items t))

    one : (a k : TurnAnswer) → Some a ≡ Some k → a ≡ k
    one a k e = cc

    by : (c < length (children at.kids)) ⊎ (length (children at.kids) ≤ c) → is_child_of c (child_count b m) ≡ true
    by (inl l) = ap (is_child_of c) at.count ∙ less c (length (children at.kids)) l where
      less : (i k : ℕ) → i < k → is_child_of i (Some k) ≡ true
      less i k l = grind (arith, nat_tests)
    by (inr l) =
        let a = answered t m g in
        absurd (true≢false (sym (ap is_granted (one _ _ (sym read.1 ∙ a.1)) ∙ a.2) ∙ past read.0 at.dir at.kids l))

  pub granted-names : (t : Turn) → is_granted (turn_of t m).answer ≡ true → names_part t m ≡ true
  granted-names (Turn.Hart hart victim) g = read_in-is_some (leaf_of_number hart) (of_leaf (λ w v. key_at_leaf w v.done) key_zero) at_top (root_of m) ∙ there (Turn.Hart hart victim) g
  granted-names (Turn.Down b) g = read_in-is_some (bus_of_number b) (of_dir (λ w d ns. length ns) 0) at_top (root_of m) ∙ there (Turn.Down b) g
  granted-names (Turn.Request b c) g = child-names (Turn.Request b c) b c refl g (λ w d ns l. request-past (stamp_above w) d (children ns) c l)
  granted-names (Turn.Reply b c) g = child-names (Turn.Reply b c) b c refl g (λ w d ns l. reply-past (stamp_above w) d (children ns) c l)
  granted-names (Turn.Leave b c choice) g = child-names (Turn.Leave b c choice) b c refl g (λ w d ns l. leave-past (stamp_above w) d (children ns) c choice l)

-- ---- a run whose turns are all granted

pub all-named : (ts : List Turn) (m : MachineValue) → IsShaped m → list_all is_granted (run_of ts m).answers ≡ true → All (λ t. names_part t m ≡ true) ts
unfolding run_of
all-named [] m shaped granted = All-nil (λ t. names_part t m ≡ true)
all-named (t ∷ ts) m shaped granted =
    let both = and_parts (is_granted (turn_of t m).answer) _ granted in
    All-cons (λ u. names_part u m ≡ true) t ts (granted-names m shaped t both.0)
    (All-weaker (λ u. names_part u (turn_of t m).machine ≡ true) (λ u. names_part u m ≡ true) (λ u named. sym (frame-names u (turn_of t m).machine m (turn-frame t m)) ∙ named) ts (all-named ts (turn_of t m).machine (turn-shape t m shaped) both.1))
