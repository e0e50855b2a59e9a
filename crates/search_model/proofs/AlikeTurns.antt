-- Machines that are alike have the same turns.
-- Letters: m and n are machines, t is a turn, v a leaf, vs are leaves, b and c are buses, d is a directory over the children ns.
use Rattle.std.proofs.Common.{◌≡◌, ℕ, ◌+◌, Bool, true, false, List, [], ◌∷◌, ◌++◌, ◌||◌, map, length, Some, None, refl, sym, ap, ◌∙◌, arith}
use Rattle.std.specs.Prelude.{filter, flat_map, nat_lt, if◌then◌else◌}
use Rattle.std.specs.List.{range_with_len}
use Rattle.search_model.specs.DdmTypes.declared.answers.TurnAnswer.{TurnAnswer}
use Rattle.search_model.specs.DdmTypes.declared.turns.Turn.{Turn}
use Rattle.search_model.specs.FlatModel.Hart.{HartValue}
use Rattle.tree_model.specs.State.Blank.{no_hart}
use Rattle.tree_model.specs.State.Place.{Where, at_top, at_child, spot_in, where_path}
use Rattle.tree_model.specs.State.Values.{LeafValue, DirValue, Node, Nodes, leaf_node, dir_node, no_nodes, more_nodes, children, MachineValue, root_of}
use Rattle.tree_model.specs.Turns.Machine.{hart_of, machine_leaves, turn_of}
use Rattle.tree_model.specs.Turns.Tree.{Name, leaf_of_number, bus_of_number, is_named, has_node, has_among, of_leaf, read_in, read_among}
use Rattle.time_laws.specs.Forget.{forget_leaf, forget_dir, forget_node, forget_nodes, forget_answer, Alike}
use Rattle.time_laws.proofs.Alike.{answer-alike, leaves-alike}
use Rattle.recording_model.specs.Doing.{does_by, does_something, had_halted, is_halted}
use Rattle.search_model.specs.Tried.{turns_of_leaf, BusParts, buses_of, buses_among, bus_placed, in_order, leaving_count, leave_turns, turns_of_bus, turns_of_tree, doing_turns, is_quiet_answer, is_quiet, quiet_turns, tried_turns, first_or}
use Rattle.search_model.proofs.Members.{filter-same}

-- ---- all turns

leaves-turns : (vs : List LeafValue) → flat_map turns_of_leaf (map forget_leaf vs) ≡ flat_map turns_of_leaf vs
leaves-turns [] = refl
leaves-turns (v ∷ vs) = ap (λ l. turns_of_leaf v ++ l) (leaves-turns vs)

abbrev bus_with : ℕ → List Node → BusParts
bus_with number kids = record { number = number; kids = kids }

abbrev forget_bus : BusParts → BusParts
forget_bus b = record { number = b.number; kids = map forget_node b.kids }

leaving-forgotten : (n : Node) → leaving_count (forget_node n) ≡ leaving_count n
leaving-forgotten (leaf_node v) = refl
leaving-forgotten (dir_node d ns) = refl

leave-forgotten : (bus c : ℕ) (ns : List Node) → leave_turns bus c (map forget_node ns) ≡ leave_turns bus c ns
leave-forgotten bus c [] = refl
leave-forgotten bus c (n ∷ ns) =
    ap (λ k. map (λ choice. Turn.Leave bus c choice) (range_with_len 0 k) ++ leave_turns bus (c + 1) (map forget_node ns)) (leaving-forgotten n) ∙ ap (λ l. map (λ choice. Turn.Leave bus c choice) (range_with_len 0 (leaving_count n)) ++ l) (leave-forgotten bus (c + 1) ns)

as-many : (ns : List Node) → length (map forget_node ns) ≡ length ns
as-many [] = refl
as-many (n ∷ ns) = let same : length (map forget_node ns) ≡ length ns = as-many ns in omega (arith, same)

-- those of a bus with so many children, before others
abbrev turns_with : ℕ → ℕ → List Turn → List Turn
turns_with bus k others = Turn.Down bus ∷ map (Turn.Request bus) (range_with_len 0 k) ++ map (Turn.Reply bus) (range_with_len 0 k) ++ others

bus-turns : (b : BusParts) → turns_of_bus (forget_bus b) ≡ turns_of_bus b
bus-turns b = ap (λ k. turns_with b.number k (leave_turns b.number 0 (map forget_node b.kids))) (as-many b.kids) ∙ ap (turns_with b.number (length b.kids)) (leave-forgotten b.number 0 b.kids)

buses-turns : (bs : List BusParts) → flat_map turns_of_bus (map forget_bus bs) ≡ flat_map turns_of_bus bs
buses-turns [] = refl
buses-turns (b ∷ bs) = ap (λ l. l ++ flat_map turns_of_bus (map forget_bus bs)) (bus-turns b) ∙ ap (λ l. turns_of_bus b ++ l) (buses-turns bs)

placed-forgotten : (b : BusParts) (bs : List BusParts) → bus_placed (forget_bus b) (map forget_bus bs) ≡ map forget_bus (bus_placed b bs)
placed-forgotten b [] = refl
placed-forgotten b (c ∷ cs) = elim (nat_lt c.number b.number) as (λ z. (if z then forget_bus c ∷ bus_placed (forget_bus b) (map forget_bus cs) else forget_bus b ∷ forget_bus c ∷ map forget_bus cs) ≡ map forget_bus (if z then c ∷ bus_placed b cs else b ∷ c ∷ cs)) [
  | true ↦ ap (λ l. forget_bus c ∷ l) (placed-forgotten b cs)
  | false ↦ refl
]

order-forgotten : (bs : List BusParts) → in_order (map forget_bus bs) ≡ map forget_bus (in_order bs)
order-forgotten [] = refl
order-forgotten (b ∷ bs) = ap (bus_placed (forget_bus b)) (order-forgotten bs) ∙ placed-forgotten b (in_order bs)

children-forgotten : (ns : Nodes) → children (forget_nodes ns) ≡ map forget_node (children ns)
children-forgotten no_nodes = refl
children-forgotten (more_nodes n ns) = ap (λ l. forget_node n ∷ l) (children-forgotten ns)

mutual
  buses-forgotten : (n : Node) (rest : List BusParts) → buses_of (forget_node n) (map forget_bus rest) ≡ map forget_bus (buses_of n rest)
  buses-forgotten (leaf_node v) rest = refl
  buses-forgotten (dir_node d ns) rest =
      ap (λ l. bus_with d.bus l ∷ buses_among (forget_nodes ns) (map forget_bus rest)) (children-forgotten ns) ∙ ap (λ l. forget_bus (bus_with d.bus (children ns)) ∷ l) (buses_among-forgotten ns rest)

  buses_among-forgotten : (ns : Nodes) (rest : List BusParts) → buses_among (forget_nodes ns) (map forget_bus rest) ≡ map forget_bus (buses_among ns rest)
  buses_among-forgotten no_nodes rest = refl
  buses_among-forgotten (more_nodes n ns) rest = ap (buses_of (forget_node n)) (buses_among-forgotten ns rest) ∙ buses-forgotten n (buses_among ns rest)

abbrev bus_turns_of : Node → List Turn
bus_turns_of n = flat_map turns_of_bus (in_order (buses_of n []))

root-turns : (n : Node) → bus_turns_of (forget_node n) ≡ bus_turns_of n
root-turns n = ap (λ bs. flat_map turns_of_bus (in_order bs)) (buses-forgotten n []) ∙ ap (flat_map turns_of_bus) (order-forgotten (buses_of n [])) ∙ buses-turns (in_order (buses_of n []))

tree-turns : (m n : MachineValue) → Alike m n → turns_of_tree m ≡ turns_of_tree n
tree-turns m n alike =
    let leaves : flat_map turns_of_leaf (machine_leaves m) ≡ flat_map turns_of_leaf (machine_leaves n) = sym (leaves-turns (machine_leaves m)) ∙ ap (flat_map turns_of_leaf) (leaves-alike m n alike) ∙ leaves-turns (machine_leaves n) in
    let buses : bus_turns_of (root_of m) ≡ bus_turns_of (root_of n) = sym (root-turns (root_of m)) ∙ ap (λ k. bus_turns_of (root_of k)) alike.state ∙ root-turns (root_of n) in
    ap (λ l. l ++ bus_turns_of (root_of m)) leaves ∙ ap (λ l. flat_map turns_of_leaf (machine_leaves n) ++ l) buses

-- ---- a hart that has halted

named-forgotten : (name : Name) (n : Node) → is_named name (forget_node n) ≡ is_named name n
named-forgotten (leaf_of_number number) (leaf_node v) = refl
named-forgotten (leaf_of_number number) (dir_node d ns) = refl
named-forgotten (bus_of_number number) (leaf_node v) = refl
named-forgotten (bus_of_number number) (dir_node d ns) = refl

module _ (name : Name) where
  mutual
    has-forgotten : (n : Node) → has_node name (forget_node n) ≡ has_node name n
    has-forgotten (leaf_node v) = named-forgotten name (leaf_node v)
    has-forgotten (dir_node d ns) = ap (λ b. b || has_among name (forget_nodes ns)) (named-forgotten name (dir_node d ns)) ∙ ap (λ b. is_named name (dir_node d ns) || b) (among-forgotten ns)

    among-forgotten : (ns : Nodes) → has_among name (forget_nodes ns) ≡ has_among name ns
    among-forgotten no_nodes = refl
    among-forgotten (more_nodes n ns) = ap (λ b. b || has_among name (forget_nodes ns)) (has-forgotten n) ∙ ap (λ b. has_node name n || b) (among-forgotten ns)

  abbrev hart_there : Where → Node → HartValue
  hart_there w n = of_leaf (λ w v. v.hart) no_hart w n

  mutual
    hart-forgotten : (w late : Where) (n : Node) → read_in name hart_there w (forget_node n) ≡ read_in name hart_there late n
    hart-forgotten w late (leaf_node v) = ap (λ b. if b then Some v.hart else None) (named-forgotten name (leaf_node v))
    hart-forgotten w late (dir_node d ns) =
        ap (λ b. if b then Some no_hart else read_among name hart_there (where_path w) (forget_dir d) 0 (forget_nodes ns)) (named-forgotten name (dir_node d ns)) ∙ ap (λ o. if is_named name (dir_node d ns) then Some no_hart else o) (hart_among-forgotten (where_path w) (where_path late) (forget_dir d) d 0 ns)

    hart_among-forgotten : (path route : List ℕ) (d e : DirValue) (i : ℕ) (ns : Nodes) → read_among name hart_there path d i (forget_nodes ns) ≡ read_among name hart_there route e i ns
    hart_among-forgotten path route d e i no_nodes = refl
    hart_among-forgotten path route d e i (more_nodes n ns) =
        ap (λ b. if b then read_in name hart_there (at_child (spot_in path d i)) (forget_node n) else read_among name hart_there path d (i + 1) (forget_nodes ns)) (has-forgotten n)
        ∙ ap (λ o. if has_node name n then o else read_among name hart_there path d (i + 1) (forget_nodes ns)) (hart-forgotten (at_child (spot_in path d i)) (at_child (spot_in route e i)) n)
        ∙ ap (λ o. if has_node name n then read_in name hart_there (at_child (spot_in route e i)) n else o) (hart_among-forgotten path route d e (i + 1) ns)

hart-alike : (hart : ℕ) (m n : MachineValue) → Alike m n → hart_of hart m ≡ hart_of hart n
hart-alike hart m n alike =
    sym (hart-forgotten (leaf_of_number hart) at_top at_top (root_of m)) ∙ ap (λ k. hart_of hart k) alike.state ∙ hart-forgotten (leaf_of_number hart) at_top at_top (root_of n)

halted-alike : (t : Turn) (m n : MachineValue) → Alike m n → had_halted t m ≡ had_halted t n
halted-alike (Turn.Hart hart victim) m n alike = ap is_halted (hart-alike hart m n alike)
halted-alike (Turn.Down bus) m n alike = refl
halted-alike (Turn.Request bus child) m n alike = refl
halted-alike (Turn.Reply bus child) m n alike = refl
halted-alike (Turn.Leave bus child choice) m n alike = refl

-- ---- what turns do

does-forgotten : (a : TurnAnswer) (halted : Bool) → does_by (forget_answer a) halted ≡ does_by a halted
does-forgotten (TurnAnswer.Retired op) halted = refl
does-forgotten (TurnAnswer.Issued kind x) halted = refl
does-forgotten (TurnAnswer.Waiting x) halted = refl
does-forgotten (TurnAnswer.Halted cause) halted = refl
does-forgotten (TurnAnswer.Granted entry) halted = refl
does-forgotten TurnAnswer.Empty halted = refl
does-forgotten (TurnAnswer.Busy cause) halted = refl

quiet-forgotten : (a : TurnAnswer) (halted : Bool) → is_quiet_answer (forget_answer a) halted ≡ is_quiet_answer a halted
quiet-forgotten (TurnAnswer.Retired op) halted = refl
quiet-forgotten (TurnAnswer.Issued kind x) halted = refl
quiet-forgotten (TurnAnswer.Waiting x) halted = refl
quiet-forgotten (TurnAnswer.Halted cause) halted = refl
quiet-forgotten (TurnAnswer.Granted entry) halted = refl
quiet-forgotten TurnAnswer.Empty halted = refl
quiet-forgotten (TurnAnswer.Busy cause) halted = refl

-- a test of an answer that doesn't see its key
told-alike : (test : TurnAnswer → Bool → Bool) → ((a : TurnAnswer) (halted : Bool) → test (forget_answer a) halted ≡ test a halted) → (m n : MachineValue) → Alike m n → (t : Turn) → test (turn_of t m).answer (had_halted t m) ≡ test (turn_of t n).answer (had_halted t n)
told-alike test blind m n alike t =
    sym (blind (turn_of t m).answer (had_halted t m)) ∙ ap (λ a. test a (had_halted t m)) (answer-alike t m n alike) ∙ blind (turn_of t n).answer (had_halted t m) ∙ ap (test (turn_of t n).answer) (halted-alike t m n alike)

pub doing-alike : (m n : MachineValue) → Alike m n → doing_turns m ≡ doing_turns n
unfolding doing_turns does_something
doing-alike m n alike =
    filter-same (λ t. does_something t m) (λ t. does_something t n) (turns_of_tree m) (told-alike does_by does-forgotten m n alike) ∙ ap (filter (λ t. does_something t n)) (tree-turns m n alike)

first_turns : (vs : List LeafValue) → map (λ (v : LeafValue). Turn.Hart v.number 0) (map forget_leaf vs) ≡ map (λ (v : LeafValue). Turn.Hart v.number 0) vs
first_turns [] = refl
first_turns (v ∷ vs) = ap (λ l. Turn.Hart v.number 0 ∷ l) (first_turns vs)

quiet-alike : (m n : MachineValue) → Alike m n → quiet_turns m ≡ quiet_turns n
unfolding quiet_turns is_quiet
quiet-alike m n alike =
    let harts = λ (vs : List LeafValue). map (λ (v : LeafValue). Turn.Hart v.number 0) vs in
    let same : harts (machine_leaves m) ≡ harts (machine_leaves n) = sym (first_turns (machine_leaves m)) ∙ ap harts (leaves-alike m n alike) ∙ first_turns (machine_leaves n) in
    filter-same (is_quiet m) (is_quiet n) (harts (machine_leaves m)) (told-alike is_quiet_answer quiet-forgotten m n alike) ∙ ap (filter (is_quiet n)) same

pub tried-alike : (m n : MachineValue) → Alike m n → tried_turns m ≡ tried_turns n
unfolding tried_turns
tried-alike m n alike = ap (λ l. first_or l (doing_turns m)) (quiet-alike m n alike) ∙ ap (first_or (quiet_turns n)) (doing-alike m n alike)
