-- On a machine with large lists no turn finds a list full.
-- Letters: n is how many items there are, m a node and w where it stands, d a directory over the nodes ns.
use Rattle.std.proofs.Common.{◌≡◌, ℕ, zero, suc, ◌+◌, ◌*◌, ◌<◌, ◌≤◌, Bool, true, false, List, [], ◌∷◌, length, Option, Some, None, refl, sym, subst, ◌∙◌, arith}
use Rattle.std.specs.Prelude.{not, nat_le, slice_index_or}
use Rattle.std.specs.List.{AllByRecursion, list_all}
use Rattle.std.proofs.lemmas.Bool.{and_parts, leb-true, not-true, true≢false, false_from_ne_true}
use Rattle.jam_laws.specs.DdmTypes.declared.answers.TurnAnswer.{TurnAnswer}
use Rattle.jam_laws.specs.DdmTypes.declared.turns.Turn.{Turn}
use Rattle.jam_laws.specs.DdmTypes.declared.keys.Key.{Key}
use Rattle.jam_laws.specs.DdmTypes.declared.keys.Stamp.{Stamp}
use Rattle.jam_laws.specs.DdmTypes.CodeMap.{CodeWord}
use Rattle.jam_laws.specs.DdmTypes.ItemTable.{ItemTable}
use Rattle.jam_laws.specs.TreeModel.declared.BusTurn.{BusTurn}
use Rattle.jam_laws.specs.TreeModel.State.States.{is_exclusive}
use Rattle.jam_laws.specs.TreeModel.State.Values.{absent_item, LeafValue, DirValue, Node, Nodes, leaf_node, dir_node, no_nodes, more_nodes, children, MachineValue}
use Rattle.jam_laws.specs.TreeModel.State.Leaf.{leaf_replies_full}
use Rattle.jam_laws.specs.TreeModel.State.Directory.{dir_hold, is_answering, down_full}
use Rattle.jam_laws.specs.TreeModel.State.Child.{child_replies}
use Rattle.jam_laws.specs.TreeModel.State.Place.{Where, at_top, at_child, stamp_above, where_path, spot_in, key_at_leaf}
use Rattle.jam_laws.specs.TreeModel.State.Shape.{skeleton, skeletons}
use Rattle.jam_laws.specs.TreeModel.Turns.Bus.{bus_judged, bus_step}
use Rattle.jam_laws.specs.TreeModel.Turns.HartTurn.{Deed, has_halted, waits_for, halts, completes, fetches, upgrades, finds_buffer_full, deed_of, answer_of_deed, leaf_step}
use Rattle.jam_laws.specs.TreeModel.Turns.Tree.{is_named, has_node, read_in, read_among}
use Rattle.jam_laws.specs.TreeModel.Turns.Machine.{named_by, bus_turn_of, victim_of, answer_here, turn_answer, turned_by, turn_root, turn_of}
use Rattle.jam_laws.specs.TreeRules.Bus.Own.{top_item, top_items}
use Rattle.jam_laws.specs.TreeRules.Bus.Rules.{IsBusOk, IsTreeOk, AreTreesOk, IsMachineOk, items_of_machine}
use Rattle.bus_laws.proofs.DirParts.{dir-parts}
use Rattle.jam_laws.specs.GoesOn.{lists_have, lists_have_among, has_large_lists, finds_list_full}
use Rattle.jam_laws.proofs.Judged.{full-answer}
use Rattle.jam_laws.proofs.Short.{lists-short}
use Rattle.jam_laws.proofs.Walk.{children-ok}
use Rattle.jam_laws.proofs.BusRoom.{HasPlace, HasOwnPlace, turn-room}

-- ---- short lists have a place in large rooms

less-not-full : (room many : ℕ) → many < room → nat_le room many ≡ false
less-not-full room many less = false_from_ne_true (nat_le room many) (λ e. let above : room ≤ many = leb-true room many e in omega (arith, less, above))

-- what a child has a place for where there is an item: what its bus tells it, and what comes of a turn of its own bus
ChildRoom : ℕ → Node → Type 0
ChildRoom n (leaf_node v) = 0 < n → HasPlace (leaf_node v)
ChildRoom n (dir_node d ns) = 0 < n → HasPlace (dir_node d ns) × HasOwnPlace n d

module _ (n : ℕ) where
  leaf-room : (v : LeafValue) → length v.replies ≤ n → nat_le (8 * n) v.sizes.reply_room ≡ true → 0 < n → leaf_replies_full v ≡ false
  leaf-room v short large some =
      let room : 8 * n ≤ v.sizes.reply_room = leb-true _ _ large in
      less-not-full _ _ (omega (arith, short, room, some))

  down-room : (d : DirValue) (ns : Nodes) → IsBusOk n d (children ns) → AreTreesOk n ns → nat_le (8 * n) d.sizes.down_room ≡ true → 0 < n → down_full d ≡ false
  down-room d ns bus kids large some =
      let short : length d.down ≤ 4 * n = (lists-short n d (children ns) bus (children-ok n ns kids)).down in
      let room : 8 * n ≤ d.sizes.down_room = leb-true _ _ large in
      less-not-full _ _ (omega (arith, short, room, some))

  dir-room : (d : DirValue) (ns : Nodes) → IsBusOk n d (children ns) → AreTreesOk n ns → length d.replies ≤ n → lists_have (8 * n) (skeleton (dir_node d ns)) ≡ true → 0 < n → HasPlace (dir_node d ns) × HasOwnPlace n d
  dir-room d ns bus kids short large some =
      let a = and_parts (nat_le (8 * n) d.sizes.down_room) _ large in
      let b = and_parts (nat_le (8 * n) d.sizes.request_room) _ a.1 in
      let c = and_parts (nat_le (8 * n) d.sizes.reply_room) _ b.1 in
      let down = down-room d ns bus kids a.0 some in
      let asked : length d.requests ≤ n = (lists-short n d (children ns) bus (children-ok n ns kids)).requests in
      let request_room : 8 * n ≤ d.sizes.request_room = leb-true _ _ b.0 in
      let reply_room : 8 * n ≤ d.sizes.reply_room = leb-true _ _ c.0 in (
        down,
        record {
          down = down;
          requests = λ x within shared. less-not-full _ _ (omega (arith, asked, request_room, some));
          replies = λ x within answering. less-not-full _ _ (omega (arith, short, reply_room, some));
        },
      )

  child-room : (m : Node) → IsTreeOk n m → length (child_replies m) ≤ n → lists_have (8 * n) (skeleton m) ≡ true → ChildRoom n m
  unfolding ChildRoom
  child-room (leaf_node v) ok short large = leaf-room v short large
  child-room (dir_node d ns) ok short large = dir-room d ns ok.0 ok.1 short large

  kids-room : (ns : Nodes) → AreTreesOk n ns → AllByRecursion (λ m. length (child_replies m) ≤ n) (children ns) → lists_have_among (8 * n) (skeletons ns) ≡ true → AllByRecursion (ChildRoom n) (children ns)
  kids-room no_nodes ok short large = tt
  kids-room (more_nodes m ns) ok short large =
      let parts = and_parts (lists_have (8 * n) (skeleton m)) _ large in
      (child-room m ok.0 short.0 parts.0, kids-room ns ok.1 short.1 parts.1)

  places : (ns : Nodes) → AllByRecursion (ChildRoom n) (children ns) → 0 < n → AllByRecursion HasPlace (children ns)
  unfolding ChildRoom
  places no_nodes rooms some = tt
  places (more_nodes (leaf_node v) ns) rooms some = (rooms.0 some, places ns rooms.1 some)
  places (more_nodes (dir_node d ms) ns) rooms some = ((rooms.0 some).0, places ns rooms.1 some)

-- ---- a turn at its node

deed-finds : (now : Key) (v : LeafValue) (d : Deed) → finds_list_full (answer_of_deed now v d) ≡ false
deed-finds now v (has_halted cause) = refl
deed-finds now v (waits_for x) = refl
deed-finds now v (halts cause) = refl
deed-finds now v (completes c) = refl
deed-finds now v (fetches x state way) = refl
deed-finds now v (upgrades x words) = refl
deed-finds now v finds_buffer_full = refl

leaf-finds : (code : List CodeWord) (items : ItemTable) (now : Key) (victim : ℕ) (v : LeafValue) → finds_list_full (leaf_step code items now victim v).answer ≡ false
unfolding leaf_step
leaf-finds code items now victim v = deed-finds now v (deed_of code items victim v)

bus-finds : (n : ℕ) (above : Stamp) (d : DirValue) (ns : Nodes) → IsTreeOk n (dir_node d ns) → (0 < n → HasOwnPlace n d) → AllByRecursion (ChildRoom n) (children ns) → (t : BusTurn) → finds_list_full (bus_step above t d (children ns)).answer ≡ false
unfolding bus_step
bus-finds n above d ns ok own rooms t = full-answer d.bus (bus_judged above d (children ns) t) ∙ turn-room n above d (children ns) ok.0 (children-ok n ns ok.1) own (places n ns rooms) t

abbrev finds : Option TurnAnswer → Bool
finds None = false
finds (Some a) = finds_list_full a

module _ (m : MachineValue) (t : Turn) (n : ℕ) where
  abbrev read : Where → Node → TurnAnswer
  read = answer_here m.code m.items t

  -- a bus: its own turn, or one below
  dir-finds : (w : Where) (d : DirValue) (ns : Nodes) → IsTreeOk n (dir_node d ns) → lists_have_among (8 * n) (skeletons ns) ≡ true → (0 < n → HasOwnPlace n d) → (AllByRecursion (ChildRoom n) (children ns) → finds (read_among (named_by t) read (where_path w) d 0 ns) ≡ false) → finds (read_in (named_by t) read w (dir_node d ns)) ≡ false
  dir-finds w d ns ok large own below = by (is_named (named_by t) (dir_node d ns)) refl where
    rooms : AllByRecursion (ChildRoom n) (children ns)
    rooms = kids-room n ns ok.1 (lists-short n d (children ns) ok.0 (children-ok n ns ok.1)).replies large

    by : (b : Bool) → is_named (named_by t) (dir_node d ns) ≡ b → finds (read_in (named_by t) read w (dir_node d ns)) ≡ false
    by true is = rw is (bus-finds n (stamp_above w) d ns ok own rooms (bus_turn_of t))
    by false is = rw is (below rooms)

  mutual
    unfolding ChildRoom

    child-finds : (w : Where) (k : Node) → IsTreeOk n k → lists_have (8 * n) (skeleton k) ≡ true → ChildRoom n k → finds (read_in (named_by t) read w k) ≡ false
    child-finds w (leaf_node v) ok large room = by (is_named (named_by t) (leaf_node v)) refl where
      by : (b : Bool) → is_named (named_by t) (leaf_node v) ≡ b → finds (read_in (named_by t) read w (leaf_node v)) ≡ false
      by true is = rw is (leaf-finds m.code m.items (key_at_leaf w v.done) (victim_of t) v)
      by false is = rw is refl
    child-finds w (dir_node d ns) ok large room =
        let a = and_parts (nat_le (8 * n) d.sizes.down_room) _ large in
        let b = and_parts (nat_le (8 * n) d.sizes.request_room) _ a.1 in
        let c = and_parts (nat_le (8 * n) d.sizes.reply_room) _ b.1 in
        dir-finds w d ns ok c.1 (λ some. (room some).1) (λ rooms. among-finds (where_path w) d 0 ns ok.1 c.1 rooms)

    among-finds : (path : List ℕ) (d : DirValue) (i : ℕ) (ns : Nodes) → AreTreesOk n ns → lists_have_among (8 * n) (skeletons ns) ≡ true → AllByRecursion (ChildRoom n) (children ns) → finds (read_among (named_by t) read path d i ns) ≡ false
    among-finds path d i no_nodes ok large rooms = refl
    among-finds path d i (more_nodes k ns) ok large rooms =
        let parts = and_parts (lists_have (8 * n) (skeleton k)) _ large in
        by (has_node (named_by t) k) refl (child-finds (at_child (spot_in path d i)) k ok.0 parts.0 rooms.0) (among-finds path d (i + 1) ns ok.1 parts.1 rooms.1) where
          by : (b : Bool) → has_node (named_by t) k ≡ b → finds (read_in (named_by t) read (at_child (spot_in path d i)) k) ≡ false → finds (read_among (named_by t) read path d (i + 1) ns) ≡ false → finds (read_among (named_by t) read path d i (more_nodes k ns)) ≡ false
          by true is first later = rw is first
          by false is first later = rw is later

-- ---- a machine

pass-in : {X : Type 0} (t : X → Bool) (xs : List X) (k : ℕ) (d : X) → list_all t xs ≡ true → k < length xs → t (slice_index_or xs k d) ≡ true
pass-in t [] k d h l = absurd (omega arith)
pass-in t (x ∷ xs) zero d h l = (and_parts (t x) (list_all t xs) h).0
pass-in t (x ∷ xs) (suc k) d h l = pass-in t xs k d (and_parts (t x) (list_all t xs) h).1 (omega arith)

-- the top asks for nothing and answers nothing
top-place : (m : MachineValue) → IsMachineOk m → down_full m.top ≡ false → HasOwnPlace (items_of_machine m) m.top
top-place m ok down = record {
  down = down;
  requests = λ x within shared. absurd (true≢false (sym (item x within).0 ∙ shared));
  replies = λ x within answering. absurd (true≢false (sym answering ∙ not-true _ (item x within).1));
} where
  item : (x : ℕ) → x < items_of_machine m → (is_exclusive (dir_hold x m.top) ≡ true) × (not (is_answering x m.top) ≡ true)
  item x within =
      let there : x < length m.top.items = subst (λ k. x < k) (sym (dir-parts (items_of_machine m) (length (children m.kids)) m.top ok.tree.0.own).within.items) within in
      and_parts (is_exclusive (dir_hold x m.top)) (not (is_answering x m.top)) (pass-in top_item m.top.items x absent_item (ok.top.each top_items) there)

pub never-full : (m : MachineValue) → IsMachineOk m → has_large_lists m ≡ true → (t : Turn) → finds_list_full (turn_of t m).answer ≡ false
unfolding turn_of
never-full m ok large t = answered (turn_answer t m) refl tree where
  parts : (nat_le (8 * items_of_machine m) m.top.sizes.down_room ≡ true) × (lists_have_among (8 * items_of_machine m) (skeletons m.kids) ≡ true)
  parts = and_parts (nat_le (8 * items_of_machine m) m.top.sizes.down_room) _ large

  own : 0 < items_of_machine m → HasOwnPlace (items_of_machine m) m.top
  own some = top-place m ok (down-room (items_of_machine m) m.top m.kids ok.tree.0 ok.tree.1 parts.0 some)

  tree : finds (turn_answer t m) ≡ false
  tree = dir-finds m t (items_of_machine m) at_top m.top m.kids ok.tree parts.1 own (λ rooms. among-finds m t (items_of_machine m) [] m.top 0 m.kids ok.tree.1 parts.1 rooms)

  answered : (o : Option TurnAnswer) → turn_answer t m ≡ o → finds o ≡ false → finds_list_full (turned_by o (turn_root t m) m).answer ≡ false
  answered None is h = refl
  answered (Some a) is h = h
