-- A bus of the tree that goes on is the one that a turn with its number names, since no two buses have one number.
-- Letters: m is a node and w where it stands, d a directory over the nodes ns, k a number of a bus.
use Rattle.std.proofs.Common.{◌≡◌, ℕ, ◌+◌, Bool, true, false, inl, inr, List, [], length, Some, refl, sym, ap, subst, ◌∙◌}
use Rattle.std.specs.Prelude.{not, ◌||◌, is_some, nat_eq, option_map}
use Rattle.std.specs.List.{list_any}
use Rattle.std.proofs.lemmas.Bool.{and_parts, eqb-true, eq-eqb, ne_eqb, not-true, or_right, true≢false}
use Rattle.jam_laws.specs.DdmTypes.declared.turns.Turn.{Turn}
use Rattle.jam_laws.specs.TreeModel.declared.BusTurn.{BusTurn}
use Rattle.jam_laws.specs.TreeModel.State.Values.{DirValue, Node, Nodes, leaf_node, dir_node, no_nodes, more_nodes, children, MachineValue, root_of}
use Rattle.jam_laws.specs.TreeModel.State.Place.{Where, at_top, at_child, stamp_above, where_path, spot_in}
use Rattle.jam_laws.specs.TreeModel.State.Shape.{IsShaped, skeleton, skeletons, buses_of, buses_among, are_distinct, buses_differ}
use Rattle.jam_laws.specs.TreeModel.Turns.Bus.{bus_judged, bus_step}
use Rattle.jam_laws.specs.TreeModel.Turns.Tree.{Name, bus_of_number, is_named, has_node, has_among, read_in, read_among, of_dir}
use Rattle.jam_laws.specs.TreeModel.Turns.Machine.{named_by, bus_turn_of, answer_here, turn_of, child_count, is_child_of}
use Rattle.jam_laws.proofs.TreeModel.TurnChanges.{turn-answered}
use Rattle.jam_laws.specs.GoesOn.{granted_or_full, SomeTurn}
use Rattle.jam_laws.proofs.Judged.{goes, goes-answer}
use Rattle.jam_laws.proofs.Walk.{is_onward, BusGoes, SomeGoes, SomeGoesAmong}

-- ---- what is read of a node, by where the node stands

abbrev standing : Where → Node → Where × Node
standing w m = (w, m)

module _ (name : Name) {A : Type 0} (read : Where → Node → A) where
  abbrev of_standing : Where × Node → A
  of_standing s = read s.0 s.1

  mutual
    read-standing : (w : Where) (m : Node) → read_in name read w m ≡ option_map of_standing (read_in name standing w m)
    read-standing w (leaf_node v) = by (is_named name (leaf_node v)) refl where
      by : (b : Bool) → is_named name (leaf_node v) ≡ b → read_in name read w (leaf_node v) ≡ option_map of_standing (read_in name standing w (leaf_node v))
      by true is = rw is refl
      by false is = rw is refl
    read-standing w (dir_node d ns) = by (is_named name (dir_node d ns)) refl (read_among-standing (where_path w) d 0 ns) where
      by : (b : Bool) → is_named name (dir_node d ns) ≡ b → read_among name read (where_path w) d 0 ns ≡ option_map of_standing (read_among name standing (where_path w) d 0 ns) → read_in name read w (dir_node d ns) ≡ option_map of_standing (read_in name standing w (dir_node d ns))
      by true is below = rw is refl
      by false is below = rw is below

    read_among-standing : (path : List ℕ) (d : DirValue) (i : ℕ) (ns : Nodes) → read_among name read path d i ns ≡ option_map of_standing (read_among name standing path d i ns)
    read_among-standing path d i no_nodes = refl
    read_among-standing path d i (more_nodes m ns) = by (has_node name m) refl (read-standing (at_child (spot_in path d i)) m) (read_among-standing path d (i + 1) ns) where
      by : (b : Bool) → has_node name m ≡ b → read_in name read (at_child (spot_in path d i)) m ≡ option_map of_standing (read_in name standing (at_child (spot_in path d i)) m) → read_among name read path d (i + 1) ns ≡ option_map of_standing (read_among name standing path d (i + 1) ns) → read_among name read path d i (more_nodes m ns) ≡ option_map of_standing (read_among name standing path d i (more_nodes m ns))
      by true is first later = rw is first
      by false is first later = rw is later

-- ---- numbers of buses

same-test : (a b : ℕ) → nat_eq a b ≡ nat_eq b a
same-test a b = by (nat_eq a b) refl where
  by : (t : Bool) → nat_eq a b ≡ t → t ≡ nat_eq b a
  by true e = sym (eq-eqb b a (sym (eqb-true a b e)))
  by false e = sym (ne_eqb b a (λ same. true≢false (sym (eq-eqb a b (sym same)) ∙ e)))

pub or-first : (a b : Bool) → a ≡ true → (a || b) ≡ true
or-first true b e = refl
or-first false b e = cc

module _ (k : ℕ) where
  abbrev name : Name
  name = bus_of_number k

  -- a number of other buses, or of one in the part, is a number of both
  mutual
    number-behind : (m : Node) (rest : List ℕ) → list_any (nat_eq k) rest ≡ true → list_any (nat_eq k) (buses_of (skeleton m) rest) ≡ true
    number-behind (leaf_node v) rest there = there
    number-behind (dir_node d ns) rest there = or_right (nat_eq k d.bus) _ (number-behind_among ns rest there)

    number-behind_among : (ns : Nodes) (rest : List ℕ) → list_any (nat_eq k) rest ≡ true → list_any (nat_eq k) (buses_among (skeletons ns) rest) ≡ true
    number-behind_among no_nodes rest there = there
    number-behind_among (more_nodes m ns) rest there = number-behind m _ (number-behind_among ns rest there)

  mutual
    pub number-in : (m : Node) (rest : List ℕ) → has_node name m ≡ true → list_any (nat_eq k) (buses_of (skeleton m) rest) ≡ true
    number-in (leaf_node v) rest has = absurd (true≢false (sym has))
    number-in (dir_node d ns) rest has = by (nat_eq d.bus k) refl has (λ below. number-in_among ns rest below) where
      by : (b : Bool) → nat_eq d.bus k ≡ b → (b || has_among name ns) ≡ true → (has_among name ns ≡ true → list_any (nat_eq k) (buses_among (skeletons ns) rest) ≡ true) → list_any (nat_eq k) (buses_of (skeleton (dir_node d ns)) rest) ≡ true
      by true is has below = or-first (nat_eq k d.bus) _ (same-test k d.bus ∙ is)
      by false is has below = or_right (nat_eq k d.bus) _ (below has)

    number-in_among : (ns : Nodes) (rest : List ℕ) → has_among name ns ≡ true → list_any (nat_eq k) (buses_among (skeletons ns) rest) ≡ true
    number-in_among no_nodes rest has = absurd (true≢false (sym has))
    number-in_among (more_nodes m ns) rest has = by (has_node name m) refl has (λ here. number-in m (buses_among (skeletons ns) rest) here) (λ below. number-in_among ns rest below) where
      by : (b : Bool) → has_node name m ≡ b → (b || has_among name ns) ≡ true → (has_node name m ≡ true → list_any (nat_eq k) (buses_among (skeletons (more_nodes m ns)) rest) ≡ true) → (has_among name ns ≡ true → list_any (nat_eq k) (buses_among (skeletons ns) rest) ≡ true) → list_any (nat_eq k) (buses_among (skeletons (more_nodes m ns)) rest) ≡ true
      by true is has here below = here is
      by false is has here below = number-behind m (buses_among (skeletons ns) rest) (below has)

  -- of the numbers that differ, one behind a part is of no bus in it
  mutual
    apart : (m : Node) (rest : List ℕ) → are_distinct (buses_of (skeleton m) rest) ≡ true → list_any (nat_eq k) rest ≡ true → has_node name m ≡ false
    apart (leaf_node v) rest differ there = refl
    apart (dir_node d ns) rest differ there =
        let parts = and_parts (not (list_any (nat_eq d.bus) (buses_among (skeletons ns) rest))) _ differ in
        by (nat_eq d.bus k) refl (not-true _ parts.0) (apart_among ns rest parts.1 there) where
          by : (b : Bool) → nat_eq d.bus k ≡ b → list_any (nat_eq d.bus) (buses_among (skeletons ns) rest) ≡ false → has_among name ns ≡ false → (b || has_among name ns) ≡ false
          by true is none below = absurd (true≢false (sym (number-behind_among ns rest there) ∙ subst (λ j. list_any (nat_eq j) (buses_among (skeletons ns) rest) ≡ false) (eqb-true d.bus k is) none))
          by false is none below = below

    apart_among : (ns : Nodes) (rest : List ℕ) → are_distinct (buses_among (skeletons ns) rest) ≡ true → list_any (nat_eq k) rest ≡ true → has_among name ns ≡ false
    apart_among no_nodes rest differ there = refl
    apart_among (more_nodes m ns) rest differ there = rw (apart m (buses_among (skeletons ns) rest) differ (number-behind_among ns rest there)) (apart_among ns rest (distinct-behind m (buses_among (skeletons ns) rest) differ) there)

    distinct-behind : (m : Node) (rest : List ℕ) → are_distinct (buses_of (skeleton m) rest) ≡ true → are_distinct rest ≡ true
    distinct-behind (leaf_node v) rest differ = differ
    distinct-behind (dir_node d ns) rest differ = distinct-behind_among ns rest (and_parts (not (list_any (nat_eq d.bus) (buses_among (skeletons ns) rest))) _ differ).1

    distinct-behind_among : (ns : Nodes) (rest : List ℕ) → are_distinct (buses_among (skeletons ns) rest) ≡ true → are_distinct rest ≡ true
    distinct-behind_among no_nodes rest differ = differ
    distinct-behind_among (more_nodes m ns) rest differ = distinct-behind_among ns rest (distinct-behind m (buses_among (skeletons ns) rest) differ)

-- ---- the bus that goes on, by its number

record Reaches (w : Where) (m : Node) : Type 0 where
  place : Where
  parent : DirValue
  kids : Nodes
  on : BusGoes (stamp_above place) parent (children kids)
  has : has_node (bus_of_number parent.bus) m ≡ true
  stands : read_in (bus_of_number parent.bus) standing w m ≡ Some (place, dir_node parent kids)

record ReachesAmong (path : List ℕ) (d : DirValue) (i : ℕ) (ns : Nodes) : Type 0 where
  place : Where
  parent : DirValue
  kids : Nodes
  on : BusGoes (stamp_above place) parent (children kids)
  has : has_among (bus_of_number parent.bus) ns ≡ true
  stands : read_among (bus_of_number parent.bus) standing path d i ns ≡ Some (place, dir_node parent kids)

mutual
  reaches : (w : Where) (m : Node) (rest : List ℕ) → are_distinct (buses_of (skeleton m) rest) ≡ true → SomeGoes w m → Reaches w m
  reaches w (leaf_node v) rest differ goes = absurd goes
  reaches w (dir_node d ns) rest differ (inl here) =
      let same : nat_eq d.bus d.bus ≡ true = eq-eqb d.bus d.bus refl in
      record { place = w; parent = d; kids = ns; on = here; has = rw same refl; stands = rw same refl }
  reaches w (dir_node d ns) rest differ (inr deeper) =
      let parts = and_parts (not (list_any (nat_eq d.bus) (buses_among (skeletons ns) rest))) _ differ in
      below (not-true _ parts.0) (reaches_among (where_path w) d 0 ns rest parts.1 deeper) where
        below : list_any (nat_eq d.bus) (buses_among (skeletons ns) rest) ≡ false → ReachesAmong (where_path w) d 0 ns → Reaches w (dir_node d ns)
        below none r =
            let other : nat_eq d.bus r.parent.bus ≡ false = ne_eqb _ _ (λ same. true≢false (sym (number-in_among r.parent.bus ns rest r.has) ∙ subst (λ j. list_any (nat_eq j) (buses_among (skeletons ns) rest) ≡ false) same none)) in
            record { place = r.place; parent = r.parent; kids = r.kids; on = r.on; has = rw other r.has; stands = rw other r.stands }

  reaches_among : (path : List ℕ) (d : DirValue) (i : ℕ) (ns : Nodes) (rest : List ℕ) → are_distinct (buses_among (skeletons ns) rest) ≡ true → SomeGoesAmong path d i ns → ReachesAmong path d i ns
  reaches_among path d i no_nodes rest differ goes = absurd goes
  reaches_among path d i (more_nodes m ns) rest differ (inl here) =
      let r = reaches (at_child (spot_in path d i)) m (buses_among (skeletons ns) rest) differ here in
      record { place = r.place; parent = r.parent; kids = r.kids; on = r.on; has = rw r.has refl; stands = rw r.has r.stands }
  reaches_among path d i (more_nodes m ns) rest differ (inr later) =
      let r = reaches_among path d (i + 1) ns rest (distinct-behind 0 m (buses_among (skeletons ns) rest) differ) later in
      let other : has_node (bus_of_number r.parent.bus) m ≡ false = apart r.parent.bus m (buses_among (skeletons ns) rest) differ (number-in_among r.parent.bus ns rest r.has) in
      record { place = r.place; parent = r.parent; kids = r.kids; on = r.on; has = rw other r.has; stands = rw other r.stands }

-- ---- the turn

abbrev turn_on : ℕ → BusTurn → Turn
turn_on bus BusTurn.Down = Turn.Down bus
turn_on bus (BusTurn.Request c) = Turn.Request bus c
turn_on bus (BusTurn.Reply c) = Turn.Reply bus c
turn_on bus (BusTurn.Leave c choice) = Turn.Leave bus c choice

module _ (m : MachineValue) (r : Reaches at_top (root_of m)) where
  abbrev bus : ℕ
  bus = r.parent.bus

  step-goes : (t : BusTurn) → goes (bus_judged (stamp_above r.place) r.parent (children r.kids) t) ≡ true → granted_or_full (bus_step (stamp_above r.place) t r.parent (children r.kids)).answer ≡ true
  unfolding bus_step
  step-goes t on = goes-answer bus (bus_judged (stamp_above r.place) r.parent (children r.kids) t) ∙ on

  answers : (t : Turn) → named_by t ≡ bus_of_number bus → goes (bus_judged (stamp_above r.place) r.parent (children r.kids) (bus_turn_of t)) ≡ true → granted_or_full (turn_of t m).answer ≡ true
  answers t named on =
      let read = answer_here m.code m.items t in
      let here : read_in (named_by t) read at_top (root_of m) ≡ Some (read r.place (dir_node r.parent r.kids)) = ap (λ k. read_in k read at_top (root_of m)) named ∙ (read-standing (bus_of_number bus) read at_top (root_of m) ∙ ap (option_map (of_standing (bus_of_number bus) read)) r.stands) in
      ap (λ o. granted_or_full o.answer) (turn-answered t m _ here) ∙ step-goes (bus_turn_of t) on

  counted : child_count bus m ≡ Some (length (children r.kids))
  counted = read-standing (bus_of_number bus) (of_dir (λ w d ns. length ns) 0) at_top (root_of m) ∙ ap (option_map (of_standing (bus_of_number bus) (of_dir (λ w d ns. length ns) 0))) r.stands

  turn-at : (t : BusTurn) → is_onward (length (children r.kids)) t ≡ true → goes (bus_judged (stamp_above r.place) r.parent (children r.kids) t) ≡ true → SomeTurn m granted_or_full
  turn-at BusTurn.Down there on = record { turn = Turn.Down bus; kind = refl; names = ap is_some counted; answer = answers (Turn.Down bus) refl on }
  turn-at (BusTurn.Reply c) there on = record { turn = Turn.Reply bus c; kind = refl; names = ap (is_child_of c) counted ∙ there; answer = answers (Turn.Reply bus c) refl on }
  turn-at (BusTurn.Request c) there on = record { turn = Turn.Request bus c; kind = refl; names = ap (is_child_of c) counted ∙ there; answer = answers (Turn.Request bus c) refl on }
  turn-at (BusTurn.Leave c choice) there on = absurd (true≢false (sym there))

pub some-turn : (m : MachineValue) → IsShaped m → SomeGoes at_top (root_of m) → SomeTurn m granted_or_full
some-turn m shaped goes =
    let r = reaches at_top (root_of m) [] (shaped.each buses_differ) goes in
    turn-at m r r.on.turn r.on.onward r.on.on
