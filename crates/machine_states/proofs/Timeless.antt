-- The words of a machine without its time, part by part.
-- Letters: m is a machine, n a node, ns are nodes, w and late are where it stands, v a leaf, d a directory, k a number.
use Rattle.std.proofs.Common.{◌≡◌, ℕ, zero, suc, ◌+◌, true, false, List, [], ◌∷◌, ◌++◌, ◌||◌, ◌≤◌, arith, nat_eq, map, length, Some, refl, ap, ◌∙◌, append_assoc}
use Rattle.std.specs.Prelude.{flat_map, slice_index_or, if◌then◌else◌}
use Rattle.std.specs.List.{range_with_len}
use Rattle.std.proofs.lemmas.List.{length-map}
use Rattle.ddm_types.specs.declared.operations.Effect.{Effect}
use Rattle.ddm_types.specs.declared.operations.Op.{Op}
use Rattle.tree_model.specs.declared.Traffic.{Traffic}
use Rattle.tree_model.specs.State.Place.{Where, at_top, at_child, spot_in, where_path}
use Rattle.tree_model.specs.State.Values.{LeafValue, DirValue, Node, Nodes, leaf_node, dir_node, no_nodes, more_nodes, MachineValue, root_of}
use Rattle.tree_model.specs.Turns.Machine.{ask_bus, leaves_of, leaves_among, machine_leaves, no_traffic}
use Rattle.tree_model.specs.Turns.Tree.{bus_of_number, is_named, has_node, has_among, of_dir, read_in, read_among}
use Rattle.state_words.specs.Machine.{bus_words, words_or_none, state_words}
use Rattle.state_words.specs.Parts.{hart_words, leaf_words, dir_words, traffic_words}
use Rattle.time_laws.specs.Forget.{forget_leaf, forget_dir, forget_node, forget_nodes, forget_traffic, forget, put_by_effect, put_by, put_bytes, puts_of}
use Rattle.explorer.specs.StateKeys.Key.{put_words, state_key}
use Rattle.machine_states.specs.Words.{timeless_hart}

-- ---- the leaves

mutual
  leaves-forgotten : (n : Node) (rest : List LeafValue) → leaves_of (forget_node n) (map forget_leaf rest) ≡ map forget_leaf (leaves_of n rest)
  leaves-forgotten (leaf_node v) rest = refl
  leaves-forgotten (dir_node d ns) rest = leaves_among-forgotten ns rest

  leaves_among-forgotten : (ns : Nodes) (rest : List LeafValue) → leaves_among (forget_nodes ns) (map forget_leaf rest) ≡ map forget_leaf (leaves_among ns rest)
  leaves_among-forgotten no_nodes rest = refl
  leaves_among-forgotten (more_nodes n ns) rest = ap (leaves_of (forget_node n)) (leaves_among-forgotten ns rest) ∙ leaves-forgotten n (leaves_among ns rest)

same-leaf : (v : LeafValue) → leaf_words (forget_leaf v) ≡ leaf_words v
unfolding leaf_words
same-leaf v = refl

hart-each : (vs : List LeafValue) → flat_map hart_words (map forget_leaf vs) ≡ flat_map timeless_hart vs
hart-each [] = refl
hart-each (v ∷ vs) = ap (λ l. timeless_hart v ++ l) (hart-each vs)

leaf-each : (vs : List LeafValue) → flat_map leaf_words (map forget_leaf vs) ≡ flat_map leaf_words vs
leaf-each [] = refl
leaf-each (v ∷ vs) = ap (λ l. l ++ flat_map leaf_words (map forget_leaf vs)) (same-leaf v) ∙ ap (λ l. leaf_words v ++ l) (leaf-each vs)

-- ---- a bus

module _ (k : ℕ) where
  own : (n : Node) → is_named (bus_of_number k) (forget_node n) ≡ is_named (bus_of_number k) n
  own (leaf_node v) = refl
  own (dir_node d ns) = refl

  mutual
    there : (n : Node) → has_node (bus_of_number k) (forget_node n) ≡ has_node (bus_of_number k) n
    there (leaf_node v) = refl
    there (dir_node d ns) = ap (λ b. is_named (bus_of_number k) (dir_node d ns) || b) (there_among ns)

    there_among : (ns : Nodes) → has_among (bus_of_number k) (forget_nodes ns) ≡ has_among (bus_of_number k) ns
    there_among no_nodes = refl
    there_among (more_nodes n ns) = ap (λ b. b || has_among (bus_of_number k) (forget_nodes ns)) (there n) ∙ ap (λ b. has_node (bus_of_number k) n || b) (there_among ns)

  abbrev words_there : Where → Node → List ℕ
  words_there = of_dir (λ w d ns. dir_words d) []

  abbrev timeless_there : Where → Node → List ℕ
  timeless_there = of_dir (λ w d ns. dir_words (forget_dir d)) []

  mutual
    read-timeless : (w late : Where) (n : Node) → read_in (bus_of_number k) words_there w (forget_node n) ≡ read_in (bus_of_number k) timeless_there late n
    read-timeless w late (leaf_node v) = refl
    read-timeless w late (dir_node d ns) =
        ap (λ o. if is_named (bus_of_number k) (dir_node d ns) then Some (dir_words (forget_dir d)) else o) (read_among-timeless (where_path w) (where_path late) (forget_dir d) d 0 ns)

    read_among-timeless : (path route : List ℕ) (d e : DirValue) (i : ℕ) (ns : Nodes) → read_among (bus_of_number k) words_there path d i (forget_nodes ns) ≡ read_among (bus_of_number k) timeless_there route e i ns
    read_among-timeless path route d e i no_nodes = refl
    read_among-timeless path route d e i (more_nodes n ns) =
        ap (λ b. if b then read_in (bus_of_number k) words_there (at_child (spot_in path d i)) (forget_node n) else read_among (bus_of_number k) words_there path d (i + 1) (forget_nodes ns)) (there n)
        ∙ ap (λ o. if has_node (bus_of_number k) n then o else read_among (bus_of_number k) words_there path d (i + 1) (forget_nodes ns)) (read-timeless (at_child (spot_in path d i)) (at_child (spot_in route e i)) n)
        ∙ ap (λ o. if has_node (bus_of_number k) n then read_in (bus_of_number k) timeless_there (at_child (spot_in route e i)) n else o) (read_among-timeless path route d e (i + 1) ns)

no-traffic : (ts : List Traffic) (k : ℕ) → slice_index_or (forget_traffic ts) k no_traffic ≡ no_traffic
no-traffic [] k = refl
no-traffic (t ∷ ts) zero = refl
no-traffic (t ∷ ts) (suc k) = no-traffic ts k

pub bus-timeless : (m : MachineValue) (k : ℕ) → bus_words (forget m) k ≡ words_or_none (ask_bus k (λ w d ns. dir_words (forget_dir d)) [] m) ++ traffic_words no_traffic
unfolding bus_words
bus-timeless m k =
    ap (λ o. words_or_none o ++ traffic_words (slice_index_or (forget_traffic m.traffic) k no_traffic)) (read-timeless k at_top at_top (root_of m))
    ∙ ap (λ t. words_or_none (ask_bus k (λ w d ns. dir_words (forget_dir d)) [] m) ++ traffic_words t) (no-traffic m.traffic k)

-- ---- the whole

pub key-parts : (m : MachineValue)
    → state_key m ≡ (((flat_map timeless_hart (machine_leaves m) ++ flat_map (bus_words (forget m)) (range_with_len 0 (length m.traffic))) ++ flat_map leaf_words (machine_leaves m)) ++ (0 ∷ 0x454d4444 ∷ [])) ++ flat_map put_words (puts_of m)
unfolding state_key state_words
key-parts m =
    let leaves = leaves-forgotten (root_of m) [] in
    let harts = ap (flat_map hart_words) leaves ∙ hart-each (machine_leaves m) in
    let others = ap (flat_map leaf_words) leaves ∙ leaf-each (machine_leaves m) in
    let front = flat_map timeless_hart (machine_leaves m) ++ flat_map (bus_words (forget m)) (range_with_len 0 (length m.traffic)) in
    let puts = flat_map put_words (puts_of m) in
    ap (λ n. ((((flat_map hart_words (machine_leaves (forget m)) ++ flat_map (bus_words (forget m)) (range_with_len 0 n)) ++ flat_map leaf_words (machine_leaves (forget m))) ++ (0 ∷ [])) ++ (0x454d4444 ∷ [])) ++ puts) (length-map m.traffic (λ t. no_traffic))
    ∙ ap (λ h. ((((h ++ flat_map (bus_words (forget m)) (range_with_len 0 (length m.traffic))) ++ flat_map leaf_words (machine_leaves (forget m))) ++ (0 ∷ [])) ++ (0x454d4444 ∷ [])) ++ puts) harts
    ∙ ap (λ l. (((front ++ l) ++ (0 ∷ [])) ++ (0x454d4444 ∷ [])) ++ puts) others
    ∙ ap (λ a. a ++ puts) (append_assoc (front ++ flat_map leaf_words (machine_leaves m)) (0 ∷ []) (0x454d4444 ∷ []))

-- ---- what is put there part by part

pub joined-up : (o a b c d e : List ℕ) → ((((o ++ a) ++ b) ++ c) ++ d) ++ e ≡ o ++ ((((a ++ b) ++ c) ++ d) ++ e)
joined-up [] a b c d e = refl
joined-up (x ∷ o) a b c d e = ap (λ l. x ∷ l) (joined-up o a b c d e)

put-effect : (e : Effect) → length (put_by_effect e) ≤ 1
put-effect Effect.Plain = omega arith
put-effect (Effect.Put byte) = omega arith
put-effect (Effect.Load address word) = omega arith
put-effect (Effect.Store address before after) = omega arith
put-effect (Effect.Lr address word) = omega arith
put-effect (Effect.ScOk address before after) = omega arith
put-effect (Effect.ScFail address) = omega arith
put-effect (Effect.Amo address before after) = omega arith

-- an operation puts a byte at most
pub put-one : (hart : ℕ) (op : Op) → length (put_by hart op) ≤ 1
put-one hart op = elim (nat_eq op.hart hart) as (λ b. length (if b then put_by_effect op.effect else []) ≤ 1) [ true ↦ put-effect op.effect | false ↦ omega arith ]

pub bytes-are : (hart : ℕ) (m : MachineValue) → put_bytes hart m ≡ flat_map (put_by hart) m.ops
unfolding put_bytes
bytes-are hart m = refl
