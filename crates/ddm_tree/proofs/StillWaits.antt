-- A grant of a read or of an erase leaves an entry of the item that waits waiting: in one operation, for each child, by rows.
-- Letters: x is the granted item, n and m nodes, v a leaf, f a fate, e an entry, s a state.
use Rattle.std.proofs.Common.{◌≡◌, ℕ, Bool, true, false, List, Option, Some, None, refl, sym, ap, subst, ◌∙◌, length, true≢false}
use Rattle.std.specs.Prelude.{nat_eq, nat_lt, option_map, if◌then◌else◌}
use Rattle.std.proofs.lemmas.Bool.{ltb-true, ltb-false}
use Rattle.std.proofs.lemmas.List.{get_or_past}
use Rattle.ddm_tree.specs.DdmTypes.declared.answers.LogEntry.{LogEntry}
use Rattle.ddm_tree.specs.DdmTypes.declared.answers.TurnAnswer.{TurnAnswer}
use Rattle.ddm_tree.specs.DdmTypes.declared.sizes.LeafState.{LeafState}
use Rattle.ddm_tree.specs.DdmTypes.declared.keys.Stamp.{Stamp}
use Rattle.ddm_tree.specs.TreeModel.declared.BusTurn.{BusTurn}
use Rattle.ddm_tree.specs.TreeModel.State.Blank.{no_node}
use Rattle.ddm_tree.specs.TreeModel.State.Lists.{map_from}
use Rattle.ddm_tree.specs.TreeModel.State.States.{is_waiting, state_lost, state_answered}
use Rattle.ddm_tree.specs.TreeModel.State.Values.{WayValue, BufferValue, DirValue, Node, leaf_node, dir_node}
use Rattle.ddm_tree.specs.TreeModel.State.Leaf.{LeafEntry, Fate, entry_at, entry_state, leaf_entry, leaf_answer, leaf_lose, state_at, becomes, fate_answering, fate_by, fate_by_loss, fate_when_lost, ways_after, buffer_after}
use Rattle.ddm_tree.specs.TreeModel.State.Directory.{stamp_of, counted, front_taken}
use Rattle.ddm_tree.specs.TreeModel.State.Child.{child_answer, child_lose, child_request_taken}
use Rattle.ddm_tree.specs.TreeModel.Turns.Bus.{bus_judged, bus_step}
use Rattle.ddm_tree.specs.TreeModel.Turns.Children.{child_at, only, read_from, erased_by, loses}
use Rattle.ddm_tree.specs.TreeModel.Turns.Grant.{Grant, Judged, nothing_there, refused, granted, outcome_of}
use Rattle.ddm_tree.specs.TreeModel.Turns.RequestRead.{joins, read_of_child, read_of_parked, read_of_parent}
use Rattle.ddm_tree.specs.TreeModel.Turns.RequestErase.{erase_of_all}
use Rattle.ddm_tree.specs.TreeModel.Turns.Reply.{reply_to_readers, reply_to_parent}
use Rattle.ddm_tree.specs.TreeModel.Turns.Down.{exclusive_to, erase_of_children, read_by_child, read_by_parked, data_to_readers, inject_to_reader, inject_to_readers, inject_to_child, inject_parked}
use Rattle.ddm_tree.specs.TreeModel.Turns.Leave.{out_gone, leave_parked, leave_to}
use Rattle.ddm_tree.proofs.TreeModel.Children.{child_at-map_from, map_from-past}
use Rattle.ddm_tree.proofs.TreeModel.Rows.{Row, row_joins, row_read_of_child, row_read_of_parked, row_read_of_parent, row_erase_of_all, row_reply_to_readers, row_reply_to_parent, row_exclusive_to, row_erase_of_children, row_read_by_child, row_read_by_parked, row_data_to_readers, row_inject_to_reader, row_inject_to_readers, row_inject_to_child, row_inject_parked, row_out_gone, row_out_parked, row_leave_to, row_inject_up, row-of}
use Rattle.ddm_tree.specs.TreeRules.Bus.Own.{state_waits}
use Rattle.ddm_tree.proofs.BusLaws.HartChanges.{entry_with, entry-becomes}
use Rattle.ddm_tree.specs.Idle.{answers_none}

-- ---- an item's entry after its fate

module _ (x width : ℕ) (ways : List (Option WayValue)) (buffer : List BufferValue) where
  abbrev state_after : Fate → Option LeafState
  state_after f = option_map entry_state (entry_at x (ways_after x f ways) (buffer_after x f ways buffer))

  entry-waits : (s : LeafState) (w : List ℕ) (o : Option LeafEntry) → entry_at x ways buffer ≡ o → state_waits (option_map entry_state o) ≡ true → is_waiting s ≡ true → state_waits (state_after (becomes s w)) ≡ true
  entry-waits s w None is here waits = absurd (true≢false (sym here))
  entry-waits s w (Some e) is here waits = ap state_waits (ap (option_map entry_state) (entry-becomes x s w ways buffer ∙ ap (option_map (entry_with s w)) is)) ∙ waits

  by-loss : (s : LeafState) (e : LeafEntry) (words : List ℕ) → entry_at x ways buffer ≡ Some e → e.state ≡ s → is_waiting s ≡ true → state_waits (state_after (fate_by_loss width words (state_lost s))) ≡ true
  by-loss LeafState.Shared e words is at waits = absurd (true≢false (sym waits))
  by-loss LeafState.Exclusive e words is at waits = absurd (true≢false (sym waits))
  by-loss LeafState.Waiting e words is at waits = entry-waits LeafState.ReadingWaiting _ (Some e) is (ap is_waiting at) refl
  by-loss LeafState.Reading e words is at waits = entry-waits LeafState.Reading _ (Some e) is (ap is_waiting at) refl
  by-loss LeafState.ReadingWaiting e words is at waits = entry-waits LeafState.ReadingWaiting _ (Some e) is (ap is_waiting at) refl

  by-answer : (s : LeafState) (e : LeafEntry) (words : List ℕ) → entry_at x ways buffer ≡ Some e → e.state ≡ s → is_waiting s ≡ true → state_waits (state_after (fate_by width words (state_answered s))) ≡ true
  by-answer LeafState.Shared e words is at waits = absurd (true≢false (sym waits))
  by-answer LeafState.Exclusive e words is at waits = absurd (true≢false (sym waits))
  by-answer LeafState.Waiting e words is at waits = entry-waits LeafState.Waiting _ (Some e) is (ap is_waiting at) refl
  by-answer LeafState.Reading e words is at waits = ap (λ o. state_waits (option_map entry_state o)) is ∙ ap is_waiting at
  by-answer LeafState.ReadingWaiting e words is at waits = ap (λ o. state_waits (option_map entry_state o)) is ∙ ap is_waiting at

  lost-waits : (o : Option LeafEntry) → entry_at x ways buffer ≡ o → state_waits (option_map entry_state o) ≡ true → state_waits (state_after (fate_when_lost width o)) ≡ true
  lost-waits None is waits = absurd (true≢false (sym waits))
  lost-waits (Some e) is waits = by-loss e.state e e.words is refl waits

  answered-waits : (o : Option LeafEntry) → entry_at x ways buffer ≡ o → state_waits (option_map entry_state o) ≡ true → state_waits (state_after (fate_answering width o)) ≡ true
  answered-waits None is waits = absurd (true≢false (sym waits))
  answered-waits (Some e) is waits = by-answer e.state e e.words is refl waits

-- ---- a child

-- whether a leaf's entry of the item waits
abbrev pub node_awaits : ℕ → Node → Bool
node_awaits x (leaf_node v) = state_waits (state_at x v)
node_awaits x (dir_node d ns) = false

-- where it does below the first node, it does below the second one
abbrev pub Still : ℕ → Node → Node → Type 0
Still x n m = node_awaits x n ≡ true → node_awaits x m ≡ true

module _ (x : ℕ) (s : Stamp) where
  child_lose-still : (n : Node) → Still x n (child_lose x s n)
  unfolding leaf_lose
  child_lose-still (leaf_node v) waits = lost-waits x v.sizes.width v.ways v.buffer (leaf_entry x v) refl waits
  child_lose-still (dir_node d ns) waits = absurd (true≢false (sym waits))

  child_answer-still : (n : Node) → Still x n (child_answer x s n)
  unfolding leaf_answer
  child_answer-still (leaf_node v) waits = answered-waits x v.sizes.width v.ways v.buffer (leaf_entry x v) refl waits
  child_answer-still (dir_node d ns) waits = absurd (true≢false (sym waits))

module _ (x : ℕ) where
  child_request_taken-still : (n : Node) → Still x n (child_request_taken n)
  child_request_taken-still (leaf_node v) waits = waits
  child_request_taken-still (dir_node d ns) waits = absurd (true≢false (sym waits))

  -- ---- what each child is told, by its number

  either-still : (b : Bool) (m k n : Node) → Still x n m → Still x n k → Still x n (if◌then◌else◌ b m k)
  either-still true m k n first second = first
  either-still false m k n first second = second

  only-still : (c : ℕ) (f : Node → Node) → ((n : Node) → Still x n (f n)) → (i : ℕ) (n : Node) → Still x n (only c f i n)
  only-still c f told i n = either-still (nat_eq i c) (f n) n n (told n) (λ waits. waits)

  read_from-still : (c k : ℕ) (s : Stamp) (i : ℕ) (n : Node) → Still x n (read_from c k x s i n)
  read_from-still c k s i n = either-still (nat_eq i c) (child_request_taken n) _ n (child_request_taken-still n) (either-still (nat_eq i k) (child_answer x s n) n n (child_answer-still x s n) (λ waits. waits))

  erased_by-still : (c : ℕ) (s : Stamp) (i : ℕ) (n : Node) → Still x n (erased_by c x s i n)
  erased_by-still c s i n = either-still (nat_eq i c) (child_request_taken n) (child_lose x s n) n (child_request_taken-still n) (child_lose-still x s n)

  loses-still : (s : Stamp) (i : ℕ) (n : Node) → Still x n (loses x s i n)
  loses-still s i n = child_lose-still x s n

-- ---- all children of a bus

pub record AreStill (x : ℕ) (ns kids : List Node) : Type 0 where
  pub each : (k : ℕ) → Still x (child_at k ns) (child_at k kids)

module _ (x : ℕ) (g : ℕ → Node → Node) (told : (i : ℕ) (n : Node) → Still x n (g i n)) (ns : List Node) where
  mapped-by : (k : ℕ) (b : Bool) → nat_lt k (length ns) ≡ b → Still x (child_at k ns) (child_at k (map_from g 0 ns))
  mapped-by k true e = subst (Still x (child_at k ns)) (sym (child_at-map_from g k ns (ltb-true _ _ e))) (told k (child_at k ns))
  mapped-by k false e =
      let before : child_at k ns ≡ no_node = get_or_past ns k no_node (ltb-false _ _ e) in
      let after : child_at k (map_from g 0 ns) ≡ no_node = map_from-past g 0 k ns no_node (ltb-false _ _ e) in
      subst (Still x (child_at k ns)) (before ∙ sym after) (λ waits. waits)

  mapped-still : AreStill x ns (map_from g 0 ns)
  mapped-still = record { each = λ k. mapped-by k (nat_lt k (length ns)) refl }

-- an answered kind isn't
no-answer : (P : Type 0) → true ≡ false → P
no-answer P e = absurd (true≢false e)

module _ (above : Stamp) (p : DirValue) (ns : List Node) where
  -- one child is changed
  one-still : (x c : ℕ) (f : Node → Node) → ((n : Node) → Still x n (f n)) → AreStill x ns (map_from (only c f) 0 ns)
  one-still x c f told = mapped-still x (only c f) (only-still x c f told) ns

  row-still : (t : BusTurn) (g : Grant) → Row above p ns t g → answers_none g.kind ≡ true → AreStill g.item ns g.kids
  unfolding joins read_of_child read_of_parked read_of_parent erase_of_all reply_to_readers reply_to_parent exclusive_to erase_of_children read_by_child read_by_parked data_to_readers inject_to_reader inject_to_readers inject_to_child inject_parked out_gone leave_parked leave_to
  row-still t g (row_joins c x _ _) none = one-still x c child_request_taken (child_request_taken-still x)
  row-still t g (row_read_of_child c x k _ _ _ _ _) none = mapped-still x _ (read_from-still x c k (stamp_of (counted p))) ns
  row-still t g (row_read_of_parked c x words _ _ _ _ _ _) none = one-still x c child_request_taken (child_request_taken-still x)
  row-still t g (row_read_of_parent c x _ _ _ _) none = one-still x c child_request_taken (child_request_taken-still x)
  row-still t g (row_erase_of_all c x _ _ _ _) none = mapped-still x _ (erased_by-still x c (stamp_of (counted p))) ns
  row-still t g (row_reply_to_readers c x words first joined _ _ _) none = no-answer _ (sym none)
  row-still t g (row_reply_to_parent c x words _ _ _ _) none = no-answer _ (sym none)
  row-still t g (row_exclusive_to e rest d _ _ _ _) none = no-answer _ (sym none)
  row-still t g (row_erase_of_children e rest _ _ _ _) none = mapped-still e.item _ (loses-still e.item (stamp_of (front_taken e.stamp rest p))) ns
  row-still t g (row_read_by_child e rest k _ _ _ _ _) none = one-still e.item k _ (child_answer-still e.item (stamp_of (front_taken e.stamp rest p)))
  row-still t g (row_read_by_parked e rest words _ _ _ _ _ _) none = record { each = λ k waits. waits }
  row-still t g (row_data_to_readers e rest first joined _ _ _ _) none = no-answer _ (sym none)
  row-still t g (row_inject_to_reader e rest d joined _ _ _ _ _ _) none = no-answer _ (sym none)
  row-still t g (row_inject_to_readers e rest first joined _ _ _ _ _) none = no-answer _ (sym none)
  row-still t g (row_inject_to_child e rest k _ _ _ _ _) none = no-answer _ (sym none)
  row-still t g (row_inject_parked e rest _ _ _ _ _ _ _) none = no-answer _ (sym none)
  row-still t g (row_out_gone c choice x _ _ _ _ _) none = no-answer _ (sym none)
  row-still t g (row_out_parked c choice x _ _ _ _ _ _ _ _) none = no-answer _ (sym none)
  row-still t g (row_leave_to c choice x k _ _ _ _ _) none = no-answer _ (sym none)
  row-still t g (row_inject_up c choice x _ _ _ _ _ _ _ _) none = no-answer _ (sym none)

  -- ---- an outcome

  outcome-still : (j : Judged) (entry : LogEntry) → ((g : Grant) → j ≡ granted g → answers_none g.kind ≡ true → AreStill g.item ns g.kids) → (outcome_of p ns j).answer ≡ TurnAnswer.Granted entry → answers_none entry.kind ≡ true → AreStill entry.item ns (outcome_of p ns j).kids
  outcome-still nothing_there entry told is none = cc
  outcome-still (refused cause) entry told is none = cc
  outcome-still (granted g) entry told is none =
      let item : g.item ≡ entry.item = cc in
      let kind : g.kind ≡ entry.kind = cc in
      subst (λ x. AreStill x ns g.kids) item (told g refl (ap answers_none kind ∙ none))

  -- where a read or an erase is granted, for each child
  pub step-still : (t : BusTurn) (entry : LogEntry) → (bus_step above t p ns).answer ≡ TurnAnswer.Granted entry → answers_none entry.kind ≡ true → AreStill entry.item ns (bus_step above t p ns).kids
  unfolding bus_step
  step-still t entry is none = outcome-still (bus_judged above p ns t) entry (λ g e. row-still t g (row-of above p ns t g e)) is none
