-- Where places are few, a turn can name each way of a leaf, and each copy that may leave a child of a bus.
-- Letters: n is a node, ns are nodes, v a leaf, b a bus, c a child, m a machine.
use Rattle.std.proofs.Common.{◌≡◌, ℕ, zero, suc, ◌<◌, ◌≤◌, true, List, [], length, sym, ap, ◌∙◌, subst, inl, inr, arith}
use Rattle.std.specs.Prelude.{nat_eq, nat_le}
use Rattle.std.proofs.lemmas.Bool.{eqb-true, leb-true}
use Rattle.tree_model.specs.State.Leaf.{may_leave_buffer}
use Rattle.tree_model.specs.State.Rooms.{dir_within, all_within, all_within_among}
use Rattle.tree_model.specs.State.Shape.{skeleton, skeletons}
use Rattle.tree_model.specs.State.Values.{LeafValue, Node, Nodes, leaf_node, dir_node, no_nodes, more_nodes, children, MachineValue, root_of}
use Rattle.tree_model.specs.Turns.Children.{child_at}
use Rattle.tree_model.specs.Turns.Machine.{leaves_of, leaves_among, machine_leaves}
use Rattle.tree_model.proofs.DirRooms.{dir_within-facts}
use Rattle.tree_model.proofs.LeafRooms.{leaf_within-facts, filter-length}
use Rattle.tree_model.proofs.Tests.{and-first, and-second}
use Rattle.search_laws.specs.Space.{IsOneOf}
use Rattle.explorer.specs.SearchModel.Tried.{BusParts, buses_of, buses_among, leaving_count}
use Rattle.machine_states.specs.Places.{few_places, few_places_among, HasFewPlaces}

module _ (ways : ℕ) where
  -- ---- the ways of a leaf

  abbrev HasWays : List LeafValue → Type 0
  HasWays vs = (v : LeafValue) → IsOneOf vs v → v.sizes.way_count ≡ ways

  mutual
    ways-in : (n : Node) (rest : List LeafValue) → few_places ways (skeleton n) ≡ true → HasWays rest → HasWays (leaves_of n rest)
    ways-in (leaf_node u) rest few others v (inl e) = ap (λ (x : LeafValue). x.sizes.way_count) (sym e) ∙ eqb-true _ _ (and-first (nat_eq u.sizes.way_count ways) (nat_le u.sizes.buffer_room 255) few)
    ways-in (leaf_node u) rest few others v (inr i) = others v i
    ways-in (dir_node d ns) rest few others v i = ways-among ns rest (and-second (nat_le d.sizes.parking_room 255) (few_places_among ways (skeletons ns)) few) others v i

    ways-among : (ns : Nodes) (rest : List LeafValue) → few_places_among ways (skeletons ns) ≡ true → HasWays rest → HasWays (leaves_among ns rest)
    ways-among no_nodes rest few others v i = others v i
    ways-among (more_nodes n ns) rest few others v i =
        ways-in n (leaves_among ns rest) (and-first (few_places ways (skeleton n)) (few_places_among ways (skeletons ns)) few) (ways-among ns rest (and-second (few_places ways (skeleton n)) (few_places_among ways (skeletons ns)) few) others) v i

  pub leaf-ways : (m : MachineValue) → HasFewPlaces ways m → HasWays (machine_leaves m)
  leaf-ways m places = ways-in (root_of m) [] places.few (λ v i. elim i [ ])

  -- ---- the copies that may leave

  module _ (items : ℕ) where
    leaving-few : (n : Node) → few_places ways (skeleton n) ≡ true → all_within items n ≡ true → leaving_count n ≤ 255
    leaving-few (leaf_node v) few within =
        let room = leb-true v.sizes.buffer_room 255 (and-second (nat_eq v.sizes.way_count ways) (nat_le v.sizes.buffer_room 255) few) in
        omega (arith, room, (leaf_within-facts items v within).buffer, filter-length may_leave_buffer v.buffer)
    leaving-few (dir_node d ns) few within =
        let room = leb-true d.sizes.parking_room 255 (and-first (nat_le d.sizes.parking_room 255) (few_places_among ways (skeletons ns)) few) in
        omega (arith, room, (dir_within-facts items d (and-first (dir_within items d) (all_within_among items ns) within)).parked)

    kids-few : (ns : Nodes) → few_places_among ways (skeletons ns) ≡ true → all_within_among items ns ≡ true → (c : ℕ) → c < length (children ns) → leaving_count (child_at c (children ns)) ≤ 255
    kids-few no_nodes few within c less = absurd (omega (arith, less))
    kids-few (more_nodes n ns) few within zero less =
        leaving-few n (and-first (few_places ways (skeleton n)) (few_places_among ways (skeletons ns)) few) (and-first (all_within items n) (all_within_among items ns) within)
    kids-few (more_nodes n ns) few within (suc c) less =
        kids-few ns (and-second (few_places ways (skeleton n)) (few_places_among ways (skeletons ns)) few) (and-second (all_within items n) (all_within_among items ns) within) c (omega (arith, less))

    abbrev AreFew : List BusParts → Type 0
    AreFew bs = (b : BusParts) → IsOneOf bs b → (c : ℕ) → c < length b.kids → leaving_count (child_at c b.kids) ≤ 255

    mutual
      few-in : (n : Node) (rest : List BusParts) → few_places ways (skeleton n) ≡ true → all_within items n ≡ true → AreFew rest → AreFew (buses_of n rest)
      few-in (leaf_node v) rest few within others b i = others b i
      few-in (dir_node d ns) rest few within others b (inl e) =
          let below = and-second (nat_le d.sizes.parking_room 255) (few_places_among ways (skeletons ns)) few in
          subst (λ (x : BusParts). (c : ℕ) → c < length x.kids → leaving_count (child_at c x.kids) ≤ 255) e (kids-few ns below (and-second (dir_within items d) (all_within_among items ns) within))
      few-in (dir_node d ns) rest few within others b (inr i) =
          few-among ns rest (and-second (nat_le d.sizes.parking_room 255) (few_places_among ways (skeletons ns)) few) (and-second (dir_within items d) (all_within_among items ns) within) others b i

      few-among : (ns : Nodes) (rest : List BusParts) → few_places_among ways (skeletons ns) ≡ true → all_within_among items ns ≡ true → AreFew rest → AreFew (buses_among ns rest)
      few-among no_nodes rest few within others b i = others b i
      few-among (more_nodes n ns) rest few within others b i =
          few-in n (buses_among ns rest) (and-first (few_places ways (skeleton n)) (few_places_among ways (skeletons ns)) few) (and-first (all_within items n) (all_within_among items ns) within)
          (few-among ns rest (and-second (few_places ways (skeleton n)) (few_places_among ways (skeletons ns)) few) (and-second (all_within items n) (all_within_among items ns) within) others) b i

  pub copies-few : (m : MachineValue) → HasFewPlaces ways m → (b : BusParts) → IsOneOf (buses_of (root_of m) []) b → (c : ℕ) → c < length b.kids → leaving_count (child_at c b.kids) ≤ 255
  copies-few m places = few-in places.items (root_of m) [] places.few places.within.rooms (λ b i. elim i [ ])
