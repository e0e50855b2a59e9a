-- Every turn keeps the frame of a machine, and so its shape.
use Rattle.std.proofs.Common.{◌≡◌, ℕ, List, [], ◌∷◌, map, length, Some, None, refl, sym, ap, subst, ◌∙◌}
use Rattle.std.specs.Prelude.{IsTrue, slice_index_or}
use Rattle.std.proofs.lemmas.List.{length-set}
use Rattle.tree_model.specs.DdmTypes.declared.answers.TurnAnswer.{TurnAnswer}
use Rattle.tree_model.specs.DdmTypes.declared.turns.Turn.{Turn}
use Rattle.tree_model.specs.DdmTypes.ItemTable.{ItemTable}
use Rattle.tree_model.specs.DdmTypes.CodeMap.{CodeWord}
use Rattle.tree_model.specs.State.Values.{DirSizes, Node, leaf_node, dir_node, nodes, children, MachineValue, root_of}
use Rattle.tree_model.specs.State.Place.{Where, stamp_above, key_at_leaf, at_top}
use Rattle.tree_model.specs.State.Shape.{Skeleton, Skeletons, leaf_bone, dir_bone, no_bones, more_bones, skeleton, skeletons, Frame, frame_of, shape_test, IsShaped}
use Rattle.tree_model.specs.Turns.Bus.{bus_step}
use Rattle.tree_model.specs.Turns.Machine.{named_by, answer_here, node_after, bus_turn_of, victim_of, turn_answer, turn_root, with_root, recorded, no_traffic, one_more, turn_of, run_of}
use Rattle.tree_model.specs.Laws.{TurnsHere, Kept, leaf_kept, dir_kept, kept_of}
use Rattle.tree_model.proofs.Changed.{changed-keeps}
use Rattle.tree_model.proofs.Children.{nodes-children}
use Rattle.tree_model.proofs.BusKeeps.{bus_step-keeps}
use Rattle.tree_model.proofs.HartKeeps.{leaf_step-keeps}
use Rattle.tree_model.proofs.NamedNode.{turned}
use Rattle.tree_model.proofs.TurnChanges.{turn-root, turn-unanswered, turn-answered}

-- ---- the skeleton of a node, from what is kept of it

abbrev kept_skeleton : Kept → Skeleton
kept_skeleton (leaf_kept number sizes hart done) = leaf_bone number sizes
kept_skeleton (dir_kept bus level sizes count epoch ns) = dir_bone bus level sizes (skeletons ns)

abbrev kept_skeletons : List Kept → Skeletons
kept_skeletons [] = no_bones
kept_skeletons (k ∷ ks) = more_bones (kept_skeleton k) (kept_skeletons ks)

skeleton-kept : (n : Node) → skeleton n ≡ kept_skeleton (kept_of n)
skeleton-kept (leaf_node v) = refl
skeleton-kept (dir_node d ns) = refl

skeletons-kept : (ns : List Node) → skeletons (nodes ns) ≡ kept_skeletons (map kept_of ns)
skeletons-kept [] = refl
skeletons-kept (n ∷ ns) = rw (skeleton-kept n, skeletons-kept ns) refl

dir_bone-same : (b c k l : ℕ) (s r : DirSizes) (ns ms : Skeletons) → b ≡ c → k ≡ l → s ≡ r → ns ≡ ms → dir_bone b k s ns ≡ dir_bone c l r ms
dir_bone-same b c k l s r ns ms bus level sizes below = rw (bus, level, sizes, below) refl

-- ---- a turn

turns_here-skeleton : (t : Turn) (m : MachineValue) (a : TurnAnswer) (w : Where) (n k : Node) → TurnsHere t m a w n k → skeleton k ≡ skeleton n
turns_here-skeleton t m a w n k r = ap skeleton r.becomes ∙ node_after-skeleton w n
  where
    node_after-skeleton : (w : Where) (n : Node) → skeleton (node_after m.code m.items t w n) ≡ skeleton n
    node_after-skeleton w (leaf_node v) =
        let keeps = leaf_step-keeps m.code m.items (key_at_leaf w v.done) (victim_of t) v in
        rw (keeps.number, keeps.sizes) refl
    node_after-skeleton w (dir_node d ns) =
        let keeps = bus_step-keeps (stamp_above w) d (children ns) (bus_turn_of t) in
        let below : skeletons (nodes (bus_step (stamp_above w) (bus_turn_of t) d (children ns)).kids) ≡ skeletons ns = skeletons-kept _ ∙ ap kept_skeletons keeps.kids ∙ sym (skeletons-kept (children ns)) ∙ ap skeletons (nodes-children ns) in
        dir_bone-same _ _ _ _ _ _ _ _ keeps.bus keeps.level keeps.sizes below

turn_root-skeleton : (t : Turn) (m : MachineValue) (a : TurnAnswer) → turn_answer t m ≡ Some a → skeleton (turn_root t m) ≡ skeleton (root_of m)
turn_root-skeleton t m a some =
    let at = turned (named_by t) (answer_here m.code m.items t) (node_after m.code m.items t) a at_top (root_of m) some in
    changed-keeps (TurnsHere t m a) (λ n k. skeleton k ≡ skeleton n) (λ ns ms. skeletons ms ≡ skeletons ns) (turns_here-skeleton t m a) (λ d ns ms same. ap (dir_bone d.bus d.level d.sizes) same) (λ n k ns same. ap (λ b. more_bones b (skeletons ns)) same) (λ n ns ms same. ap (more_bones (skeleton n)) same) at_top at.0 (root_of m) (turn_root t m) at.1

-- ---- the rest of the machine

recorded-code : (a : TurnAnswer) (m : MachineValue) → (recorded a m).code ≡ m.code
recorded-code (TurnAnswer.Retired op) m = refl
recorded-code (TurnAnswer.Issued kind x) m = refl
recorded-code (TurnAnswer.Waiting x) m = refl
recorded-code (TurnAnswer.Halted cause) m = refl
recorded-code (TurnAnswer.Granted e) m = refl
recorded-code TurnAnswer.Empty m = refl
recorded-code (TurnAnswer.Busy cause) m = refl

recorded-items : (a : TurnAnswer) (m : MachineValue) → (recorded a m).items ≡ m.items
recorded-items (TurnAnswer.Retired op) m = refl
recorded-items (TurnAnswer.Issued kind x) m = refl
recorded-items (TurnAnswer.Waiting x) m = refl
recorded-items (TurnAnswer.Halted cause) m = refl
recorded-items (TurnAnswer.Granted e) m = refl
recorded-items TurnAnswer.Empty m = refl
recorded-items (TurnAnswer.Busy cause) m = refl

recorded-counted : (a : TurnAnswer) (m : MachineValue) → length (recorded a m).traffic ≡ length m.traffic
recorded-counted (TurnAnswer.Retired op) m = refl
recorded-counted (TurnAnswer.Issued kind x) m = refl
recorded-counted (TurnAnswer.Waiting x) m = refl
recorded-counted (TurnAnswer.Halted cause) m = refl
recorded-counted (TurnAnswer.Granted e) m = length-set m.traffic e.bus (one_more e.kind (slice_index_or m.traffic e.bus no_traffic))
recorded-counted TurnAnswer.Empty m = refl
recorded-counted (TurnAnswer.Busy cause) m = refl

-- the machine with another tree
abbrev outside : MachineValue → MachineValue → Type 0
outside m k = (k.code ≡ m.code) × (k.items ≡ m.items) × (length k.traffic ≡ length m.traffic)

with_root-outside : (n : Node) (m : MachineValue) → outside m (with_root n m)
with_root-outside (leaf_node v) m = (refl, refl, refl)
with_root-outside (dir_node d ns) m = (refl, refl, refl)

frame-same : (m k : MachineValue) → skeleton (root_of k) ≡ skeleton (root_of m) → k.code ≡ m.code → k.items ≡ m.items → length k.traffic ≡ length m.traffic → frame_of k ≡ frame_of m
frame-same m k bones code items counted = frames-same _ _ _ _ _ _ _ _ bones code items counted
  where
    frames-same : (b c : Skeleton) (p q : List CodeWord) (i j : ItemTable) (x y : ℕ) → b ≡ c → p ≡ q → i ≡ j → x ≡ y → (let f : Frame = record { bones = b; code = p; items = i; counted = x } in f) ≡ record { bones = c; code = q; items = j; counted = y }
    frames-same b c p q i j x y bones code items counted = rw (bones, code, items, counted) refl

-- ---- the theorems

pub turn-frame : (t : Turn) (m : MachineValue) → frame_of (turn_of t m).machine ≡ frame_of m
turn-frame t m =
    elim (turn_answer t m) as (λ o. turn_answer t m ≡ o → frame_of (turn_of t m).machine ≡ frame_of m) [
      | None ↦ λ none. ap (λ o. frame_of o.machine) (turn-unanswered t m none)
      | Some a ↦ λ some.
          let made = with_root (turn_root t m) m in
          let out = with_root-outside (turn_root t m) m in
          let root : skeleton (root_of (turn_of t m).machine) ≡ skeleton (root_of m) = ap skeleton (turn-root t m a some) ∙ turn_root-skeleton t m a some in
          let after = turn-answered t m a some in
          frame-same m (turn_of t m).machine root (ap (λ o. o.machine.code) after ∙ recorded-code a made ∙ out.0) (ap (λ o. o.machine.items) after ∙ recorded-items a made ∙ out.1) (ap (λ o. length o.machine.traffic) after ∙ recorded-counted a made ∙ out.2)
    ] refl

pub run-frame : (ts : List Turn) (m : MachineValue) → frame_of (run_of ts m).machine ≡ frame_of m
unfolding run_of
run-frame [] m = refl
run-frame (t ∷ ts) m = run-frame ts (turn_of t m).machine ∙ turn-frame t m

frame-shape : (m k : MachineValue) → frame_of k ≡ frame_of m → IsShaped m → IsShaped k
frame-shape m k same shaped = record { each = λ r. subst (λ f. IsTrue (shape_test r f)) (sym same) (shaped.each r) }

pub turn-shape : (t : Turn) (m : MachineValue) → IsShaped m → IsShaped (turn_of t m).machine
turn-shape t m = frame-shape m (turn_of t m).machine (turn-frame t m)

pub run-shape : (ts : List Turn) (m : MachineValue) → IsShaped m → IsShaped (run_of ts m).machine
run-shape ts m = frame-shape m (run_of ts m).machine (run-frame ts m)
