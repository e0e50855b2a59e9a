-- The node that a name names, where it stands, and that it is among the leaves or the buses of the tree.
-- Letters: n is a node, ns are nodes, w is where a node stands, v a leaf, d a directory, p a node with its place.
use Rattle.std.proofs.Common.{◌≡◌, ℕ, ◌+◌, true, false, List, ◌∷◌, Option, Some, None, option_map, nat_eq, refl, sym, ap, subst, ◌∙◌, inl, inr, if◌then◌else◌}
use Rattle.std.proofs.lemmas.Bool.{eqb-true}
use Rattle.search_model.specs.DdmTypes.declared.turns.Turn.{Turn}
use Rattle.tree_model.specs.State.Place.{Where, at_top, at_child, spot_in, where_path}
use Rattle.tree_model.specs.State.Values.{LeafValue, DirValue, Node, Nodes, leaf_node, dir_node, no_nodes, more_nodes, children, MachineValue, root_of}
use Rattle.tree_model.specs.Turns.Machine.{named_by, answer_here, node_after, turn_answer, turn_root, turned_by, turn_of, leaves_of, leaves_among}
use Rattle.tree_model.specs.Turns.Tree.{Name, leaf_of_number, bus_of_number, is_named, has_node, read_in, read_among, changed_in, changed_among}
use Rattle.search_laws.specs.Space.{IsOneOf}
use Rattle.search_model.specs.Tried.{BusParts, buses_of, buses_among}

-- a node and where it stands
pub record Placed : Type 0 where
  pub place : Where
  pub node : Node

abbrev pub place_here : Where → Node → Placed
place_here w n = record { place = w; node = n }

module _ (name : Name) where
  abbrev pub find : Where → Node → Option Placed
  find w n = read_in name place_here w n

  abbrev pub find_among : List ℕ → DirValue → ℕ → Nodes → Option Placed
  find_among path d i ns = read_among name place_here path d i ns

  -- ---- what is read is read there

  module _ {A : Type 0} (read : Where → Node → A) where
    abbrev at_placed : Placed → A
    at_placed p = read p.place p.node

    mutual
      pub read-there : (w : Where) (n : Node) → read_in name read w n ≡ option_map at_placed (find w n)
      read-there w (leaf_node v) = elim (is_named name (leaf_node v)) as (λ b. (if b then Some (read w (leaf_node v)) else None) ≡ option_map at_placed (if b then Some (place_here w (leaf_node v)) else None)) [ true ↦ refl | false ↦ refl ]
      read-there w (dir_node d ns) = elim (is_named name (dir_node d ns)) as (λ b. (if b then Some (read w (dir_node d ns)) else read_among name read (where_path w) d 0 ns) ≡ option_map at_placed (if b then Some (place_here w (dir_node d ns)) else find_among (where_path w) d 0 ns)) [ true ↦ refl | false ↦ read_among-there (where_path w) d 0 ns ]

      read_among-there : (path : List ℕ) (d : DirValue) (i : ℕ) (ns : Nodes) → read_among name read path d i ns ≡ option_map at_placed (find_among path d i ns)
      read_among-there path d i no_nodes = refl
      read_among-there path d i (more_nodes n ns) = elim (has_node name n) as (λ b. (if b then read_in name read (at_child (spot_in path d i)) n else read_among name read path d (i + 1) ns) ≡ option_map at_placed (if b then find (at_child (spot_in path d i)) n else find_among path d (i + 1) ns)) [ true ↦ read-there (at_child (spot_in path d i)) n | false ↦ read_among-there path d (i + 1) ns ]

  -- ---- what is changed is changed there

  module _ (change other : Where → Node → Node) where
    abbrev AgreeAt : Option Placed → Type 0
    AgreeAt o = (p : Placed) → o ≡ Some p → change p.place p.node ≡ other p.place p.node

    mutual
      pub changed-there : (w : Where) (n : Node) → AgreeAt (find w n) → changed_in name change w n ≡ changed_in name other w n
      changed-there w (leaf_node v) agree =
          elim (is_named name (leaf_node v)) as (λ b. AgreeAt (if b then Some (place_here w (leaf_node v)) else None) → (if b then change w (leaf_node v) else leaf_node v) ≡ (if b then other w (leaf_node v) else leaf_node v)) [
            | true ↦ λ same. same (place_here w (leaf_node v)) refl
            | false ↦ λ same. refl
          ] agree
      changed-there w (dir_node d ns) agree =
          elim (is_named name (dir_node d ns)) as (λ b. AgreeAt (if b then Some (place_here w (dir_node d ns)) else find_among (where_path w) d 0 ns) → (if b then change w (dir_node d ns) else dir_node d (changed_among name change (where_path w) d 0 ns)) ≡ (if b then other w (dir_node d ns) else dir_node d (changed_among name other (where_path w) d 0 ns))) [
            | true ↦ λ same. same (place_here w (dir_node d ns)) refl
            | false ↦ λ same. ap (dir_node d) (changed_among-there (where_path w) d 0 ns same)
          ] agree

      changed_among-there : (path : List ℕ) (d : DirValue) (i : ℕ) (ns : Nodes) → AgreeAt (find_among path d i ns) → changed_among name change path d i ns ≡ changed_among name other path d i ns
      changed_among-there path d i no_nodes agree = refl
      changed_among-there path d i (more_nodes n ns) agree =
          elim (has_node name n) as (λ b. AgreeAt (if b then find (at_child (spot_in path d i)) n else find_among path d (i + 1) ns) → (if b then more_nodes (changed_in name change (at_child (spot_in path d i)) n) ns else more_nodes n (changed_among name change path d (i + 1) ns)) ≡ (if b then more_nodes (changed_in name other (at_child (spot_in path d i)) n) ns else more_nodes n (changed_among name other path d (i + 1) ns))) [
            | true ↦ λ same. ap (λ k. more_nodes k ns) (changed-there (at_child (spot_in path d i)) n same)
            | false ↦ λ same. ap (more_nodes n) (changed_among-there path d (i + 1) ns same)
          ] agree

-- ---- turns that do the same there

module _ (m : MachineValue) (p : Placed) where
  pub record DoesThere (t : Turn) (u : Turn) : Type 0 where
    pub answer : answer_here m.code m.items u p.place p.node ≡ answer_here m.code m.items t p.place p.node
    pub after : node_after m.code m.items u p.place p.node ≡ node_after m.code m.items t p.place p.node

  answered-there : (name : Name) (t : Turn) → named_by t ≡ name → find name at_top (root_of m) ≡ Some p → turn_answer t m ≡ Some (answer_here m.code m.items t p.place p.node)
  answered-there name t named found =
      ap (λ k. read_in k (answer_here m.code m.items t) at_top (root_of m)) named ∙ read-there name (answer_here m.code m.items t) at_top (root_of m) ∙ ap (option_map (λ (q : Placed). answer_here m.code m.items t q.place q.node)) found

  some-same : (q r : Placed) → Some q ≡ Some r → q ≡ r
  some-same q r e = cc

  pub turn-same : (name : Name) (t u : Turn) → named_by t ≡ name → named_by u ≡ name → find name at_top (root_of m) ≡ Some p → DoesThere t u → turn_of u m ≡ turn_of t m
  unfolding turn_of
  turn-same name t u named_t named_u found does =
      let answers : turn_answer u m ≡ turn_answer t m = answered-there name u named_u found ∙ ap Some does.answer ∙ sym (answered-there name t named_t found) in
      let agree : (q : Placed) → find name at_top (root_of m) ≡ Some q → node_after m.code m.items u q.place q.node ≡ node_after m.code m.items t q.place q.node = λ q is.
      subst (λ (r : Placed). node_after m.code m.items u r.place r.node ≡ node_after m.code m.items t r.place r.node) (some-same p q (sym found ∙ is)) does.after in
      let roots : turn_root u m ≡ turn_root t m =
      ap (λ k. changed_in k (node_after m.code m.items u) at_top (root_of m)) named_u ∙ changed-there name (node_after m.code m.items u) (node_after m.code m.items t) at_top (root_of m) agree ∙ sym (ap (λ k. changed_in k (node_after m.code m.items t) at_top (root_of m)) named_t) in
      ap (λ o. turned_by o (turn_root u m) m) answers ∙ ap (λ n. turned_by (turn_answer t m) n m) roots

  pub turn-there : (name : Name) (t : Turn) → named_by t ≡ name → find name at_top (root_of m) ≡ Some p → (turn_of t m).answer ≡ answer_here m.code m.items t p.place p.node
  unfolding turn_of
  turn-there name t named found = ap (λ o. (turned_by o (turn_root t m) m).answer) (answered-there name t named found)

pub turn-nowhere : (name : Name) (t : Turn) (m : MachineValue) → named_by t ≡ name → find name at_top (root_of m) ≡ None → turn_answer t m ≡ None
turn-nowhere name t m named none =
    ap (λ k. read_in k (answer_here m.code m.items t) at_top (root_of m)) named ∙ read-there name (answer_here m.code m.items t) at_top (root_of m) ∙ ap (option_map (λ (q : Placed). answer_here m.code m.items t q.place q.node)) none

-- ---- it is one of the leaves

mutual
  leaves-later : (n : Node) (rest : List LeafValue) (v : LeafValue) → IsOneOf rest v → IsOneOf (leaves_of n rest) v
  leaves-later (leaf_node k) rest v i = inr i
  leaves-later (dir_node d ns) rest v i = leaves_among-later ns rest v i

  leaves_among-later : (ns : Nodes) (rest : List LeafValue) (v : LeafValue) → IsOneOf rest v → IsOneOf (leaves_among ns rest) v
  leaves_among-later no_nodes rest v i = i
  leaves_among-later (more_nodes n ns) rest v i = leaves-later n (leaves_among ns rest) v (leaves_among-later ns rest v i)

module _ (number : ℕ) where
  pub record IsLeafOf (vs : List LeafValue) (p : Placed) : Type 0 where
    pub leaf : LeafValue
    pub is : p.node ≡ leaf_node leaf
    pub named : leaf.number ≡ number
    pub listed : IsOneOf vs leaf

  mutual
    pub found-leaf : (w : Where) (n : Node) (rest : List LeafValue) (p : Placed) → find (leaf_of_number number) w n ≡ Some p → IsLeafOf (leaves_of n rest) p
    found-leaf w (leaf_node v) rest p found =
        elim (nat_eq v.number number) as (λ b. nat_eq v.number number ≡ b → (if b then Some (place_here w (leaf_node v)) else None) ≡ Some p → IsLeafOf (v ∷ rest) p) [
          | true ↦ λ is e.
              let same : place_here w (leaf_node v) ≡ p = cc in
              record { leaf = v; is = sym (ap (λ (q : Placed). q.node) same); named = eqb-true v.number number is; listed = inl refl }
          | false ↦ λ is e. cc
        ] refl found
    found-leaf w (dir_node d ns) rest p found = found_among-leaf (where_path w) d 0 ns rest p found

    found_among-leaf : (path : List ℕ) (d : DirValue) (i : ℕ) (ns : Nodes) (rest : List LeafValue) (p : Placed) → find_among (leaf_of_number number) path d i ns ≡ Some p → IsLeafOf (leaves_among ns rest) p
    found_among-leaf path d i no_nodes rest p found = cc
    found_among-leaf path d i (more_nodes n ns) rest p found =
        elim (has_node (leaf_of_number number) n) as (λ b. (if b then find (leaf_of_number number) (at_child (spot_in path d i)) n else find_among (leaf_of_number number) path d (i + 1) ns) ≡ Some p → IsLeafOf (leaves_of n (leaves_among ns rest)) p) [
          | true ↦ λ e. found-leaf (at_child (spot_in path d i)) n (leaves_among ns rest) p e
          | false ↦ λ e.
              let later = found_among-leaf path d (i + 1) ns rest p e in
              record { leaf = later.leaf; is = later.is; named = later.named; listed = leaves-later n (leaves_among ns rest) later.leaf later.listed }
        ] found

-- ---- or one of the buses

mutual
  buses-later : (n : Node) (rest : List BusParts) (b : BusParts) → IsOneOf rest b → IsOneOf (buses_of n rest) b
  buses-later (leaf_node k) rest b i = i
  buses-later (dir_node d ns) rest b i = inr (buses_among-later ns rest b i)

  buses_among-later : (ns : Nodes) (rest : List BusParts) (b : BusParts) → IsOneOf rest b → IsOneOf (buses_among ns rest) b
  buses_among-later no_nodes rest b i = i
  buses_among-later (more_nodes n ns) rest b i = buses-later n (buses_among ns rest) b (buses_among-later ns rest b i)

module _ (number : ℕ) where
  pub record IsBusOf (bs : List BusParts) (p : Placed) : Type 0 where
    pub parent : DirValue
    pub kids : Nodes
    pub is : p.node ≡ dir_node parent kids
    pub named : parent.bus ≡ number
    pub listed : IsOneOf bs (record { number = parent.bus; kids = children kids })

  mutual
    pub found-bus : (w : Where) (n : Node) (rest : List BusParts) (p : Placed) → find (bus_of_number number) w n ≡ Some p → IsBusOf (buses_of n rest) p
    found-bus w (leaf_node v) rest p found = cc
    found-bus w (dir_node d ns) rest p found =
        elim (nat_eq d.bus number) as (λ b. nat_eq d.bus number ≡ b → (if b then Some (place_here w (dir_node d ns)) else find_among (bus_of_number number) (where_path w) d 0 ns) ≡ Some p → IsBusOf (buses_of (dir_node d ns) rest) p) [
          | true ↦ λ is e.
              let same : place_here w (dir_node d ns) ≡ p = cc in
              record { parent = d; kids = ns; is = sym (ap (λ (q : Placed). q.node) same); named = eqb-true d.bus number is; listed = inl refl }
          | false ↦ λ is e.
              let later = found_among-bus (where_path w) d 0 ns rest p e in
              record { parent = later.parent; kids = later.kids; is = later.is; named = later.named; listed = inr later.listed }
        ] refl found

    found_among-bus : (path : List ℕ) (d : DirValue) (i : ℕ) (ns : Nodes) (rest : List BusParts) (p : Placed) → find_among (bus_of_number number) path d i ns ≡ Some p → IsBusOf (buses_among ns rest) p
    found_among-bus path d i no_nodes rest p found = cc
    found_among-bus path d i (more_nodes n ns) rest p found =
        elim (has_node (bus_of_number number) n) as (λ b. (if b then find (bus_of_number number) (at_child (spot_in path d i)) n else find_among (bus_of_number number) path d (i + 1) ns) ≡ Some p → IsBusOf (buses_of n (buses_among ns rest)) p) [
          | true ↦ λ e. found-bus (at_child (spot_in path d i)) n (buses_among ns rest) p e
          | false ↦ λ e.
              let later = found_among-bus path d (i + 1) ns rest p e in
              record { parent = later.parent; kids = later.kids; is = later.is; named = later.named; listed = buses-later n (buses_among ns rest) _ later.listed }
        ] found
