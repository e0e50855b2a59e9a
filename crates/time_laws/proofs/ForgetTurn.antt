-- A turn of a machine and the same turn of the machine without its time: they answer the same but for a key, and leave the same
-- but for time.
-- Letters: m is a machine, t a turn, n a node, v a leaf, d and e are directories, w and late places with their times.
use Rattle.std.proofs.Common.{◌≡◌, ℕ, ◌+◌, Bool, true, false, List, [], ◌∷◌, Option, Some, None, refl, sym, ap, ◌∙◌}
use Rattle.std.specs.Prelude.{option_map, ◌||◌, if◌then◌else◌}
use Rattle.std.proofs.Math.Seq.{map-set_same}
use Rattle.time_laws.specs.DdmTypes.declared.answers.TurnAnswer.{TurnAnswer}
use Rattle.time_laws.specs.DdmTypes.declared.operations.HaltCause.{HaltCause}
use Rattle.time_laws.specs.DdmTypes.declared.sizes.LeafState.{LeafState}
use Rattle.time_laws.specs.DdmTypes.declared.turns.Turn.{Turn}
use Rattle.time_laws.specs.DdmTypes.declared.keys.Key.{Key}
use Rattle.time_laws.specs.DdmTypes.ItemTable.{ItemTable}
use Rattle.time_laws.specs.DdmTypes.CodeMap.{CodeWord}
use Rattle.time_laws.specs.FlatModel.declared.Ask.{Ask}
use Rattle.time_laws.specs.FlatModel.Hart.{ask_of}
use Rattle.tree_model.specs.declared.Traffic.{Traffic}
use Rattle.tree_model.specs.State.Values.{LeafValue, DirValue, Node, Nodes, leaf_node, dir_node, no_nodes, more_nodes, nodes, children, MachineValue, root_of}
use Rattle.tree_model.specs.State.Leaf.{free_way, waiting_item}
use Rattle.tree_model.specs.State.Place.{Where, at_top, at_child, where_path, spot_in, stamp_above, key_at_leaf}
use Rattle.tree_model.specs.Turns.Bus.{bus_step}
use Rattle.tree_model.specs.Turns.HartTurn.{Deed, has_halted, waits_for, halts, completes, fetches, upgrades, finds_buffer_full, Need, no_need, a_copy, no_other_copy, time, need_of, change_here, deed_to_fetch, deed_by_need, deed_unless_waiting, deed_unless_halted, deed_of, answer_of_deed, leaf_after_deed, leaf_step}
use Rattle.tree_model.specs.Turns.Tree.{Name, leaf_of_number, bus_of_number, is_named, has_node, has_among, read_in, read_among, changed_in, changed_among}
use Rattle.tree_model.specs.Turns.Machine.{no_traffic, named_by, bus_turn_of, victim_of, answer_here, node_after, turn_answer, turn_root, with_root, recorded, turned_by, turn_of}
use Rattle.time_laws.specs.Forget.{forget_leaf, forget_dir, forget_node, forget_nodes, forget_traffic, forget, forget_answer}
use Rattle.time_laws.proofs.Related.{EachRelated, none_related, first_related}
use Rattle.time_laws.proofs.BlindBus.{SameTurn, bus_step-blind}
use Rattle.time_laws.proofs.ForgetNode.{dir-twice, node-twice, nodes-twice, TimeAlone, time_alone-blind}

-- ---- a hart's turn

module _ (code : List CodeWord) (items : ItemTable) (victim : ℕ) (v : LeafValue) where
  need-forgotten : (ask : Ask) → need_of ask v ≡ need_of ask (forget_leaf v)
  need-forgotten Ask.Plain = refl
  need-forgotten (Ask.Put byte) = refl
  need-forgotten (Ask.NeedsShared x lr) = refl
  need-forgotten (Ask.NeedsExclusive x) = refl
  need-forgotten (Ask.Conditional x) = refl
  need-forgotten (Ask.Halt cause) = refl

  fetch-forgotten : (x : ℕ) (state : LeafState) (way : Option ℕ) → deed_to_fetch x state victim v way ≡ deed_to_fetch x state victim (forget_leaf v) way
  fetch-forgotten x state (Some way) = refl
  fetch-forgotten x state None = refl

  by_need-forgotten : (need : Need) → deed_by_need code items victim v need ≡ deed_by_need code items victim (forget_leaf v) need
  unfolding change_here
  by_need-forgotten no_need = refl
  by_need-forgotten (a_copy x state) = fetch-forgotten x state (free_way v.sizes x v.ways)
  by_need-forgotten (no_other_copy x words) = refl
  by_need-forgotten (time x) = refl

  unless_waiting-forgotten : (waiting : Option ℕ) → deed_unless_waiting code items victim v waiting ≡ deed_unless_waiting code items victim (forget_leaf v) waiting
  unless_waiting-forgotten (Some x) = refl
  unless_waiting-forgotten None = by_need-forgotten (need_of (ask_of code items v.hart) v) ∙ ap (deed_by_need code items victim (forget_leaf v)) (need-forgotten (ask_of code items v.hart))

  unless_halted-forgotten : (halt : Option HaltCause) → deed_unless_halted code items victim v halt ≡ deed_unless_halted code items victim (forget_leaf v) halt
  unless_halted-forgotten (Some cause) = refl
  unless_halted-forgotten None = unless_waiting-forgotten (waiting_item v.ways v.buffer)

  deed-forgotten : deed_of code items victim v ≡ deed_of code items victim (forget_leaf v)
  unfolding deed_of
  deed-forgotten = unless_halted-forgotten v.hart.halt

  after-forgotten : (d : Deed) → forget_leaf (leaf_after_deed v d) ≡ forget_leaf (leaf_after_deed (forget_leaf v) d)
  after-forgotten (has_halted cause) = refl
  after-forgotten (waits_for x) = refl
  after-forgotten (halts cause) = refl
  after-forgotten (completes c) = refl
  after-forgotten (fetches x state way) = refl
  after-forgotten (upgrades x words) = refl
  after-forgotten finds_buffer_full = refl

  module _ (now late : Key) where
    answered-forgotten : (d : Deed) → forget_answer (answer_of_deed now v d) ≡ forget_answer (answer_of_deed late (forget_leaf v) d)
    answered-forgotten (has_halted cause) = refl
    answered-forgotten (waits_for x) = refl
    answered-forgotten (halts cause) = refl
    answered-forgotten (completes c) = refl
    answered-forgotten (fetches x state way) = refl
    answered-forgotten (upgrades x words) = refl
    answered-forgotten finds_buffer_full = refl

    leaf-forgotten : forget_leaf (leaf_step code items now victim v).leaf ≡ forget_leaf (leaf_step code items late victim (forget_leaf v)).leaf
    unfolding leaf_step
    leaf-forgotten = after-forgotten (deed_of code items victim v) ∙ ap (λ d. forget_leaf (leaf_after_deed (forget_leaf v) d)) deed-forgotten

    leaf_answer-forgotten : forget_answer (leaf_step code items now victim v).answer ≡ forget_answer (leaf_step code items late victim (forget_leaf v)).answer
    unfolding leaf_step
    leaf_answer-forgotten = answered-forgotten (deed_of code items victim v) ∙ ap (λ d. forget_answer (answer_of_deed late (forget_leaf v) d)) deed-forgotten

-- ---- a bus's turn

each-forgotten : (i : ℕ) (ns : Nodes) → EachRelated TimeAlone i (children ns) (children (forget_nodes ns))
each-forgotten i no_nodes = none_related
each-forgotten i (more_nodes n ns) = first_related (sym (node-twice n)) (each-forgotten (i + 1) ns)

nodes-same : (i : ℕ) (ks ls : List Node) → EachRelated TimeAlone i ks ls → forget_nodes (nodes ks) ≡ forget_nodes (nodes ls)
nodes-same i ks ls none_related = refl
nodes-same i ks ls (first_related {ns = ns} {ms = ms} r rs) = rw (r, nodes-same (i + 1) ns ms rs) refl

over-same : (d e : DirValue) (ns ms : Nodes) → forget_dir d ≡ forget_dir e → forget_nodes ns ≡ forget_nodes ms → forget_node (dir_node d ns) ≡ forget_node (dir_node e ms)
over-same d e ns ms parent below = rw (parent, below) refl

-- ---- the node that a turn names

module _ (code : List CodeWord) (items : ItemTable) (t : Turn) (w late : Where) where
  bus-forgotten : (d : DirValue) (ns : Nodes) → SameTurn TimeAlone (bus_step (stamp_above w) (bus_turn_of t) d (children ns)) (bus_step (stamp_above late) (bus_turn_of t) (forget_dir d) (children (forget_nodes ns)))
  bus-forgotten d ns = bus_step-blind TimeAlone time_alone-blind (stamp_above w) (stamp_above late) (children ns) (children (forget_nodes ns)) (each-forgotten 0 ns) (bus_turn_of t) d (forget_dir d) (sym (dir-twice d))

  after-same : (n : Node) → forget_node (node_after code items t w n) ≡ forget_node (node_after code items t late (forget_node n))
  after-same (leaf_node v) = ap leaf_node (leaf-forgotten code items (victim_of t) v (key_at_leaf w v.done) (key_at_leaf late 0))
  after-same (dir_node d ns) =
      let turn = bus-forgotten d ns in
      over-same (bus_step (stamp_above w) (bus_turn_of t) d (children ns)).parent (bus_step (stamp_above late) (bus_turn_of t) (forget_dir d) (children (forget_nodes ns))).parent _ _ turn.parent (nodes-same 0 _ _ turn.kids)

  answer-same : (n : Node) → forget_answer (answer_here code items t w n) ≡ forget_answer (answer_here code items t late (forget_node n))
  answer-same (leaf_node v) = leaf_answer-forgotten code items (victim_of t) v (key_at_leaf w v.done) (key_at_leaf late 0)
  answer-same (dir_node d ns) = ap forget_answer (bus-forgotten d ns).answer

-- ---- the tree

named-forgotten : (name : Name) (n : Node) → is_named name n ≡ is_named name (forget_node n)
named-forgotten (leaf_of_number number) (leaf_node v) = refl
named-forgotten (leaf_of_number number) (dir_node d ns) = refl
named-forgotten (bus_of_number number) (leaf_node v) = refl
named-forgotten (bus_of_number number) (dir_node d ns) = refl

first-same : (n m : Node) (ns ms : Nodes) → forget_node n ≡ forget_node m → forget_nodes ns ≡ forget_nodes ms → forget_nodes (more_nodes n ns) ≡ forget_nodes (more_nodes m ms)
first-same n m ns ms first rest = rw (first, rest) refl

module _ (name : Name) where
  mutual
    has-forgotten : (n : Node) → has_node name n ≡ has_node name (forget_node n)
    has-forgotten (leaf_node v) = named-forgotten name (leaf_node v)
    has-forgotten (dir_node d ns) = ap (λ b. b || has_among name ns) (named-forgotten name (dir_node d ns)) ∙ ap (λ b. is_named name (forget_node (dir_node d ns)) || b) (among-forgotten ns)

    among-forgotten : (ns : Nodes) → has_among name ns ≡ has_among name (forget_nodes ns)
    among-forgotten no_nodes = refl
    among-forgotten (more_nodes n ns) = ap (λ b. b || has_among name ns) (has-forgotten n) ∙ ap (λ b. has_node name (forget_node n) || b) (among-forgotten ns)

  -- what f tells of a value, by two tests that agree
  either : {A B : Type 0} (f : A → B) (b e : Bool) → b ≡ e → (j k l o : A) → f j ≡ f l → f k ≡ f o → f (if b then j else k) ≡ f (if e then l else o)
  either f b e tests j k l o first second = ap (λ z. f (if z then j else k)) tests ∙ by_test e
    where
      by_test : (z : Bool) → f (if z then j else k) ≡ f (if z then l else o)
      by_test true = first
      by_test false = second

  module _ (change : Where → Node → Node) (same : (w late : Where) (n : Node) → forget_node (change w n) ≡ forget_node (change late (forget_node n))) where
    mutual
      changed-same : (w late : Where) (n : Node) → forget_node (changed_in name change w n) ≡ forget_node (changed_in name change late (forget_node n))
      changed-same w late (leaf_node v) =
          either forget_node (is_named name (leaf_node v)) (is_named name (leaf_node (forget_leaf v))) (named-forgotten name (leaf_node v)) (change w (leaf_node v)) (leaf_node v) (change late (leaf_node (forget_leaf v))) (leaf_node (forget_leaf v))
          (same w late (leaf_node v)) refl
      changed-same w late (dir_node d ns) =
          let below = changed_among-same (where_path w) (where_path late) d (forget_dir d) 0 ns in
          either forget_node (is_named name (dir_node d ns)) (is_named name (forget_node (dir_node d ns))) (named-forgotten name (dir_node d ns)) (change w (dir_node d ns)) (dir_node d (changed_among name change (where_path w) d 0 ns))
          (change late (forget_node (dir_node d ns))) (dir_node (forget_dir d) (changed_among name change (where_path late) (forget_dir d) 0 (forget_nodes ns))) (same w late (dir_node d ns)) (over-same d (forget_dir d) _ _ (sym (dir-twice d)) below)

      changed_among-same : (path route : List ℕ) (d e : DirValue) (i : ℕ) (ns : Nodes) → forget_nodes (changed_among name change path d i ns) ≡ forget_nodes (changed_among name change route e i (forget_nodes ns))
      changed_among-same path route d e i no_nodes = refl
      changed_among-same path route d e i (more_nodes n ns) =
          let here = changed-same (at_child (spot_in path d i)) (at_child (spot_in route e i)) n in
          let later = changed_among-same path route d e (i + 1) ns in
          either forget_nodes (has_node name n) (has_node name (forget_node n)) (has-forgotten n)
          (more_nodes (changed_in name change (at_child (spot_in path d i)) n) ns) (more_nodes n (changed_among name change path d (i + 1) ns))
          (more_nodes (changed_in name change (at_child (spot_in route e i)) (forget_node n)) (forget_nodes ns)) (more_nodes (forget_node n) (changed_among name change route e (i + 1) (forget_nodes ns)))
          (first-same _ _ _ _ here (sym (nodes-twice ns))) (first-same _ _ _ _ (sym (node-twice n)) later)

  module _ (read : Where → Node → TurnAnswer) (same : (w late : Where) (n : Node) → forget_answer (read w n) ≡ forget_answer (read late (forget_node n))) where
    mutual
      read-same : (w late : Where) (n : Node) → option_map forget_answer (read_in name read w n) ≡ option_map forget_answer (read_in name read late (forget_node n))
      read-same w late (leaf_node v) =
          either (option_map forget_answer) (is_named name (leaf_node v)) (is_named name (leaf_node (forget_leaf v))) (named-forgotten name (leaf_node v)) (Some (read w (leaf_node v))) None (Some (read late (leaf_node (forget_leaf v)))) None (ap Some (same w late (leaf_node v))) refl
      read-same w late (dir_node d ns) =
          let below = read_among-same (where_path w) (where_path late) d (forget_dir d) 0 ns in
          either (option_map forget_answer) (is_named name (dir_node d ns)) (is_named name (forget_node (dir_node d ns))) (named-forgotten name (dir_node d ns)) (Some (read w (dir_node d ns))) (read_among name read (where_path w) d 0 ns)
          (Some (read late (forget_node (dir_node d ns)))) (read_among name read (where_path late) (forget_dir d) 0 (forget_nodes ns)) (ap Some (same w late (dir_node d ns))) below

      read_among-same : (path route : List ℕ) (d e : DirValue) (i : ℕ) (ns : Nodes) → option_map forget_answer (read_among name read path d i ns) ≡ option_map forget_answer (read_among name read route e i (forget_nodes ns))
      read_among-same path route d e i no_nodes = refl
      read_among-same path route d e i (more_nodes n ns) =
          let here = read-same (at_child (spot_in path d i)) (at_child (spot_in route e i)) n in
          let later = read_among-same path route d e (i + 1) ns in
          either (option_map forget_answer) (has_node name n) (has_node name (forget_node n)) (has-forgotten n)
          (read_in name read (at_child (spot_in path d i)) n) (read_among name read path d (i + 1) ns) (read_in name read (at_child (spot_in route e i)) (forget_node n)) (read_among name read route e (i + 1) (forget_nodes ns)) here later

-- ---- the machine

traffic-twice : (traffic : List Traffic) → forget_traffic (forget_traffic traffic) ≡ forget_traffic traffic
traffic-twice [] = refl
traffic-twice (t ∷ ts) = ap (λ l. no_traffic ∷ l) (traffic-twice ts)

pub machine-twice : (m : MachineValue) → forget (forget m) ≡ forget m
machine-twice m = rw (dir-twice m.top, nodes-twice m.kids, traffic-twice m.traffic) refl

-- what an answer adds is forgotten
recorded-forgotten : (a : TurnAnswer) (m : MachineValue) → forget (recorded a m) ≡ forget m
recorded-forgotten (TurnAnswer.Retired op) m = refl
recorded-forgotten (TurnAnswer.Issued kind x) m = refl
recorded-forgotten (TurnAnswer.Waiting x) m = refl
recorded-forgotten (TurnAnswer.Halted cause) m = refl
recorded-forgotten (TurnAnswer.Granted e) m = rw (map-set_same (λ (t : Traffic). no_traffic) m.traffic e.bus _ no_traffic refl) refl
recorded-forgotten TurnAnswer.Empty m = refl
recorded-forgotten (TurnAnswer.Busy cause) m = refl

rooted-forgotten : (root : Node) (m : MachineValue) → forget (with_root root m) ≡ with_root (forget_node root) (forget m)
rooted-forgotten (leaf_node v) m = refl
rooted-forgotten (dir_node d ns) m = refl

rooted-same : (r s : Node) (m : MachineValue) → forget_node r ≡ forget_node s → forget (with_root r m) ≡ forget (with_root s (forget m))
rooted-same r s m same = rooted-forgotten r m ∙ ap (λ n. with_root n (forget m)) same ∙ ap (with_root (forget_node s)) (sym (machine-twice m)) ∙ sym (rooted-forgotten s (forget m))

module _ (r s : Node) (m : MachineValue) where
  turned-machine : (a b : Option TurnAnswer) → option_map forget_answer a ≡ option_map forget_answer b → forget_node r ≡ forget_node s → forget (turned_by a r m).machine ≡ forget (turned_by b s (forget m)).machine
  turned-machine None None answers roots = sym (machine-twice m)
  turned-machine None (Some b) answers roots = cc
  turned-machine (Some a) None answers roots = cc
  turned-machine (Some a) (Some b) answers roots = recorded-forgotten a (with_root r m) ∙ rooted-same r s m roots ∙ sym (recorded-forgotten b (with_root s (forget m)))

  turned-answer : (a b : Option TurnAnswer) → option_map forget_answer a ≡ option_map forget_answer b → forget_answer (turned_by a r m).answer ≡ forget_answer (turned_by b s (forget m)).answer
  turned-answer None None answers = refl
  turned-answer None (Some b) answers = cc
  turned-answer (Some a) None answers = cc
  turned-answer (Some a) (Some b) answers = cc

module _ (t : Turn) (m : MachineValue) where
  answers : option_map forget_answer (turn_answer t m) ≡ option_map forget_answer (turn_answer t (forget m))
  answers = read-same (named_by t) (answer_here m.code m.items t) (answer-same m.code m.items t) at_top at_top (root_of m)

  roots : forget_node (turn_root t m) ≡ forget_node (turn_root t (forget m))
  roots = changed-same (named_by t) (node_after m.code m.items t) (after-same m.code m.items t) at_top at_top (root_of m)

  pub turn-machine : forget (turn_of t m).machine ≡ forget (turn_of t (forget m)).machine
  unfolding turn_of
  turn-machine = turned-machine (turn_root t m) (turn_root t (forget m)) m (turn_answer t m) (turn_answer t (forget m)) answers roots

  pub turn-answer : forget_answer (turn_of t m).answer ≡ forget_answer (turn_of t (forget m)).answer
  unfolding turn_of
  turn-answer = turned-answer (turn_root t m) (turn_root t (forget m)) m (turn_answer t m) (turn_answer t (forget m)) answers
