-- A turn that does nothing leaves the machine as it is.
-- Letters: t is a turn, m a machine, a an answer, n and k nodes, w where a node stands, v a leaf, d a directory over the children ns.
use Rattle.std.proofs.Common.{◌≡◌, ℕ, ◌+◌, Bool, true, false, List, Option, Some, None, is_some, option_map, refl, sym, ap, subst, ◌∙◌, if◌then◌else◌}
use Rattle.recording_model.specs.DdmTypes.declared.operations.HaltCause.{HaltCause}
use Rattle.recording_model.specs.DdmTypes.declared.answers.TurnAnswer.{TurnAnswer}
use Rattle.recording_model.specs.DdmTypes.declared.keys.Key.{Key}
use Rattle.recording_model.specs.DdmTypes.declared.turns.Turn.{Turn}
use Rattle.recording_model.specs.FlatModel.Hart.{HartValue}
use Rattle.recording_model.specs.TreeModel.State.Blank.{no_hart}
use Rattle.recording_model.specs.TreeModel.State.Values.{LeafValue, DirValue, Node, Nodes, leaf_node, dir_node, no_nodes, more_nodes, nodes, children, MachineValue, root_of}
use Rattle.recording_model.specs.TreeModel.State.Place.{Where, at_top, at_child, spot_in, where_path, stamp_above, key_at_leaf}
use Rattle.recording_model.specs.TreeModel.Turns.Bus.{bus_step, bus_judged}
use Rattle.recording_model.specs.TreeModel.Turns.Grant.{Judged, nothing_there, refused, granted, bus_answer, parent_after, kids_after}
use Rattle.recording_model.specs.TreeModel.Turns.HartTurn.{Deed, has_halted, waits_for, halts, completes, fetches, upgrades, finds_buffer_full, answer_of_deed, deed_of, deed_unless_halted, leaf_after_deed, leaf_step}
use Rattle.recording_model.specs.TreeModel.Turns.Machine.{named_by, answer_here, node_after, bus_turn_of, victim_of, turn_answer, turn_root, with_root, recorded, turn_of, hart_of}
use Rattle.recording_model.specs.TreeModel.Turns.Tree.{Name, is_named, has_node, of_leaf, read_in, read_among}
use Rattle.recording_model.specs.TreeModel.Laws.{ReadAndChanged}
use Rattle.recording_model.proofs.TreeModel.Changed.{changed-keeps}
use Rattle.recording_model.proofs.TreeModel.Children.{nodes-children}
use Rattle.recording_model.proofs.TreeModel.NamedNode.{turned}
use Rattle.recording_model.proofs.TreeModel.TurnChanges.{turn-answered, turn-unanswered}
use Rattle.recording_model.specs.Doing.{does_by, does_something, had_halted, is_halted}

-- ---- two things that are read of one node

module _ {A B : Type 0} (name : Name) (read : Where → Node → A) (of : A → B) where
  abbrev then_of : Where → Node → B
  then_of w n = of (read w n)

  mutual
    reads-then : (w : Where) (n : Node) → read_in name then_of w n ≡ option_map of (read_in name read w n)
    reads-then w (leaf_node v) = elim (is_named name (leaf_node v)) as (λ b. (if b then Some (then_of w (leaf_node v)) else None) ≡ option_map of (if b then Some (read w (leaf_node v)) else None)) [ true ↦ refl | false ↦ refl ]
    reads-then w (dir_node d ns) = elim (is_named name (dir_node d ns)) as (λ b. (if b then Some (then_of w (dir_node d ns)) else read_among name then_of (where_path w) d 0 ns) ≡ option_map of (if b then Some (read w (dir_node d ns)) else read_among name read (where_path w) d 0 ns)) [ true ↦ refl | false ↦ reads-among-then (where_path w) d 0 ns ]

    reads-among-then : (path : List ℕ) (d : DirValue) (i : ℕ) (ns : Nodes) → read_among name then_of path d i ns ≡ option_map of (read_among name read path d i ns)
    reads-among-then path d i no_nodes = refl
    reads-among-then path d i (more_nodes n ns) = elim (has_node name n) as (λ b. (if b then read_in name then_of (at_child (spot_in path d i)) n else read_among name then_of path d (i + 1) ns) ≡ option_map of (if b then read_in name read (at_child (spot_in path d i)) n else read_among name read path d (i + 1) ns)) [ true ↦ reads-then (at_child (spot_in path d i)) n | false ↦ reads-among-then path d (i + 1) ns ]

-- ---- the node that a turn names

-- an answer that does nothing whatever the hart was
nothing-either : (a : TurnAnswer) (halted : Bool) → does_by a false ≡ false → does_by a halted ≡ false
nothing-either (TurnAnswer.Retired op) halted h = h
nothing-either (TurnAnswer.Issued kind x) halted h = h
nothing-either (TurnAnswer.Waiting x) halted h = refl
nothing-either (TurnAnswer.Halted cause) halted h = cc
nothing-either (TurnAnswer.Granted entry) halted h = h
nothing-either TurnAnswer.Empty halted h = refl
nothing-either (TurnAnswer.Busy cause) halted h = refl

deed-rests : (now : Key) (v : LeafValue) (d : Deed) → does_by (answer_of_deed now v d) false ≡ false → leaf_after_deed v d ≡ v
deed-rests now v (has_halted cause) h = refl
deed-rests now v (waits_for x) h = refl
deed-rests now v (halts cause) h = cc
deed-rests now v (completes c) h = cc
deed-rests now v (fetches x state way) h = cc
deed-rests now v (upgrades x words) h = cc
deed-rests now v finds_buffer_full h = refl

judged-rests : (d : DirValue) (ns : List Node) (j : Judged) (halted : Bool) → does_by (bus_answer d.bus j) halted ≡ false → dir_node (parent_after d j) (nodes (kids_after ns j)) ≡ dir_node d (nodes ns)
judged-rests d ns nothing_there halted h = refl
judged-rests d ns (refused cause) halted h = refl
judged-rests d ns (granted g) halted h = cc

module _ (t : Turn) (m : MachineValue) where
  -- what a node answers, and its hart
  abbrev hart_here : Where → Node → HartValue
  hart_here w n = of_leaf (λ w v. v.hart) no_hart w n

  abbrev both_here : Where → Node → TurnAnswer × HartValue
  both_here w n = (answer_here m.code m.items t w n, hart_here w n)

  abbrev Rests : TurnAnswer × HartValue → Type 0
  Rests p = does_by p.0 (is_some p.1.halt) ≡ false

  leaf-rests : (w : Where) (v : LeafValue) → Rests (both_here w (leaf_node v)) → node_after m.code m.items t w (leaf_node v) ≡ leaf_node v
  unfolding leaf_step deed_of
  leaf-rests w v h = ap leaf_node (by_halt v.hart.halt h) where
    now : Key
    now = key_at_leaf w v.done

    by_halt : (o : Option HaltCause) → does_by (answer_of_deed now v (deed_unless_halted m.code m.items (victim_of t) v o)) (is_some o) ≡ false → leaf_after_deed v (deed_unless_halted m.code m.items (victim_of t) v o) ≡ v
    by_halt None h = deed-rests now v (deed_unless_halted m.code m.items (victim_of t) v None) h
    by_halt (Some cause) h = refl

  bus-rests : (w : Where) (d : DirValue) (ns : Nodes) → Rests (both_here w (dir_node d ns)) → node_after m.code m.items t w (dir_node d ns) ≡ dir_node d ns
  unfolding bus_step
  bus-rests w d ns h = judged-rests d (children ns) (bus_judged (stamp_above w) d (children ns) (bus_turn_of t)) (is_some no_hart.halt) h ∙ ap (dir_node d) (nodes-children ns)

  node-rests : (w : Where) (n : Node) → Rests (both_here w n) → node_after m.code m.items t w n ≡ n
  node-rests w (leaf_node v) h = leaf-rests w v h
  node-rests w (dir_node d ns) h = bus-rests w d ns h

  -- so the tree stays
  tree-rests : (p : TurnAnswer × HartValue) → read_in (named_by t) both_here at_top (root_of m) ≡ Some p → Rests p → turn_root t m ≡ root_of m
  tree-rests p is rests =
      let at = turned (named_by t) both_here (node_after m.code m.items t) p at_top (root_of m) is in
      changed-keeps (ReadAndChanged (named_by t) both_here (node_after m.code m.items t) p) (λ n k. k ≡ n) (λ ns ks. ks ≡ ns) (λ w n k r. r.becomes ∙ node-rests w n (subst Rests (sym r.reads) rests)) (λ d ns ks same. ap (dir_node d) same)
      (λ n k ns same. ap (λ x. more_nodes x ns) same) (λ n ns ks same. ap (more_nodes n) same) at_top at.0 (root_of m) (turn_root t m) at.1

  -- ---- the turn

  answer-read : turn_answer t m ≡ option_map (λ (p : TurnAnswer × HartValue). p.0) (read_in (named_by t) both_here at_top (root_of m))
  answer-read = reads-then (named_by t) both_here (λ p. p.0) at_top (root_of m)

  hart-read : read_in (named_by t) hart_here at_top (root_of m) ≡ option_map (λ (p : TurnAnswer × HartValue). p.1) (read_in (named_by t) both_here at_top (root_of m))
  hart-read = reads-then (named_by t) both_here (λ p. p.1) at_top (root_of m)

-- the hart that is read there had halted or not
there-rests : (t : Turn) (m : MachineValue) (p : TurnAnswer × HartValue) → read_in (named_by t) (both_here t m) at_top (root_of m) ≡ Some p → does_by p.0 (had_halted t m) ≡ false → Rests t m p
there-rests (Turn.Hart hart victim) m p is h =
    let read : hart_of hart m ≡ Some p.1 = hart-read (Turn.Hart hart victim) m ∙ ap (option_map (λ (q : TurnAnswer × HartValue). q.1)) is in
    ap (λ o. does_by p.0 (is_halted o)) (sym read) ∙ h
there-rests (Turn.Down bus) m p is h = nothing-either p.0 (is_some p.1.halt) h
there-rests (Turn.Request bus child) m p is h = nothing-either p.0 (is_some p.1.halt) h
there-rests (Turn.Reply bus child) m p is h = nothing-either p.0 (is_some p.1.halt) h
there-rests (Turn.Leave bus child choice) m p is h = nothing-either p.0 (is_some p.1.halt) h

recorded-rests : (a : TurnAnswer) (halted : Bool) (m : MachineValue) → does_by a halted ≡ false → recorded a m ≡ m
recorded-rests (TurnAnswer.Retired op) halted m h = cc
recorded-rests (TurnAnswer.Issued kind x) halted m h = refl
recorded-rests (TurnAnswer.Waiting x) halted m h = refl
recorded-rests (TurnAnswer.Halted cause) halted m h = refl
recorded-rests (TurnAnswer.Granted entry) halted m h = cc
recorded-rests TurnAnswer.Empty halted m h = refl
recorded-rests (TurnAnswer.Busy cause) halted m h = refl

module _ (t : Turn) (m : MachineValue) where
  answered-rests : (p : TurnAnswer × HartValue) → read_in (named_by t) (both_here t m) at_top (root_of m) ≡ Some p → does_by (turn_of t m).answer (had_halted t m) ≡ false → (turn_of t m).machine ≡ m
  answered-rests p is h =
      let some : turn_answer t m ≡ Some p.0 = answer-read t m ∙ ap (option_map (λ (q : TurnAnswer × HartValue). q.0)) is in
      let turn = turn-answered t m p.0 some in
      let rests : does_by p.0 (had_halted t m) ≡ false = sym (ap (λ o. does_by o.answer (had_halted t m)) turn) ∙ h in
      ap (λ o. o.machine) turn ∙ ap (λ n. recorded p.0 (with_root n m)) (tree-rests t m p is (there-rests t m p is rests)) ∙ recorded-rests p.0 (had_halted t m) m rests

  pub turn-rests : does_something t m ≡ false → (turn_of t m).machine ≡ m
  unfolding does_something
  turn-rests h = elim (read_in (named_by t) (both_here t m) at_top (root_of m)) as (λ o. read_in (named_by t) (both_here t m) at_top (root_of m) ≡ o → (turn_of t m).machine ≡ m) [
    | None ↦ λ none. ap (λ o. o.machine) (turn-unanswered t m (answer-read t m ∙ ap (option_map (λ (q : TurnAnswer × HartValue). q.0)) none))
    | Some p ↦ λ some. answered-rests p some h
  ] refl
