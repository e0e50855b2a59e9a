-- A grant of an item leaves each leaf's halt, and that it waits for another item: in one operation, for each child, by rows.
-- Letters: x is the granted item, y the one that is waited for, n and m nodes, v a leaf, f a fate, e an entry, t a test, o what is put.
use Rattle.std.proofs.Common.{◌≡◌, ◌≢◌, ℕ, zero, suc, ◌+◌, Bool, true, false, List, [], ◌∷◌, length, map, Option, Some, None, refl, sym, ap, subst, ◌∙◌, arith, true≢false}
use Rattle.std.specs.Prelude.{not, ◌||◌, nat_eq, nat_lt, filter, find, option_map, slice_index_or, slice_set, if◌then◌else◌}
use Rattle.std.proofs.lemmas.Bool.{ne_eqb, ltb-true, ltb-false}
use Rattle.std.proofs.lemmas.List.{get_or_past}
use Rattle.ddm_tree.specs.DdmTypes.declared.answers.LogEntry.{LogEntry}
use Rattle.ddm_tree.specs.DdmTypes.declared.answers.TurnAnswer.{TurnAnswer}
use Rattle.ddm_tree.specs.DdmTypes.declared.operations.HaltCause.{HaltCause}
use Rattle.ddm_tree.specs.DdmTypes.declared.sizes.LeafState.{LeafState}
use Rattle.ddm_tree.specs.DdmTypes.declared.keys.Stamp.{Stamp}
use Rattle.ddm_tree.specs.TreeModel.declared.BusTurn.{BusTurn}
use Rattle.ddm_tree.specs.TreeModel.State.Blank.{no_node}
use Rattle.ddm_tree.specs.TreeModel.State.Lists.{find_from, first_some, map_from}
use Rattle.ddm_tree.specs.TreeModel.State.States.{is_waiting, state_lost, state_with_data, state_with_exclusive, state_with_inject, state_answered}
use Rattle.ddm_tree.specs.TreeModel.State.Values.{WayValue, BufferValue, LeafSizes, Note, local, up_read, DirValue, Node, leaf_node, dir_node}
use Rattle.ddm_tree.specs.TreeModel.State.Leaf.{LeafEntry, Fate, stays, ends, becomes, enters, way_at, way_entry, buffer_entry, is_buffered, buffered, buffer_item, leaf_entry, entry_at, way_with, buffer_with, ways_after, buffer_after, way_waits, buffer_waits, waiting_item, fate_by, fate_by_loss, fate_when_lost, fate_with_data, fate_with_exclusive, fate_answering, enters_free, fate_with_inject, free_way, leaf_lose, leaf_take_data, leaf_take_exclusive, leaf_answer, leaf_take_inject}
use Rattle.ddm_tree.specs.TreeModel.State.Directory.{is_reader, stamp_of, counted, front_taken, dir_lose, dir_take_data, dir_take_exclusive, dir_answer, dir_take_inject}
use Rattle.ddm_tree.specs.TreeModel.State.Child.{child_lose, child_take_data, child_take_exclusive, child_answer, child_take_inject, child_request_taken, child_reply_taken, child_give_up, child_given}
use Rattle.ddm_tree.specs.TreeModel.Turns.Bus.{bus_judged, bus_step}
use Rattle.ddm_tree.specs.TreeModel.Turns.Children.{child_at, only, read_from, erased_by, loses, reader_takes, replied_by, passed_on}
use Rattle.ddm_tree.specs.TreeModel.Turns.Grant.{Grant, Judged, nothing_there, refused, granted, outcome_of}
use Rattle.ddm_tree.specs.TreeModel.Turns.RequestRead.{joins, read_of_child, read_of_parked, read_of_parent}
use Rattle.ddm_tree.specs.TreeModel.Turns.RequestErase.{erase_of_all}
use Rattle.ddm_tree.specs.TreeModel.Turns.Reply.{reply_to_readers, reply_to_parent}
use Rattle.ddm_tree.specs.TreeModel.Turns.Down.{exclusive_to, erase_of_children, read_by_child, read_by_parked, data_to_readers, inject_to_reader, inject_to_readers, inject_to_child, inject_parked}
use Rattle.ddm_tree.specs.TreeModel.Turns.Leave.{out_gone, leave_parked, leave_to}
use Rattle.ddm_tree.proofs.TreeModel.Children.{child_at-map_from, map_from-past}
use Rattle.ddm_tree.proofs.TreeModel.Rows.{Row, row_joins, row_read_of_child, row_read_of_parked, row_read_of_parent, row_erase_of_all, row_reply_to_readers, row_reply_to_parent, row_exclusive_to, row_erase_of_children, row_read_by_child, row_read_by_parked, row_data_to_readers, row_inject_to_reader, row_inject_to_readers, row_inject_to_child, row_inject_parked, row_out_gone, row_out_parked, row_leave_to, row_inject_up, row-of}

-- ---- searches of a list with one element put

some-same : {a b : ℕ} → Some a ≡ Some b → a ≡ b
some-same e = cc

none-some : {a : ℕ} → None ≡ Some a → ⊥
none-some e = cc

no-true : (P : Type 0) → false ≡ true → P
no-true P e = absurd (true≢false (sym e))

module _ {X : Type 0} (t : ℕ → X → Bool) (o d : X) where
  -- what is put passes only where what stood there did
  abbrev Passes : ℕ → List X → Type 0
  Passes k xs = (i : ℕ) → t i o ≡ true → t i (slice_index_or xs k d) ≡ true

  put-here : (i : ℕ) (x : X) (xs : List X) (r : Option ℕ) (b c : Bool) → t i x ≡ b → t i o ≡ c → (t i o ≡ true → t i x ≡ true) → r ≢ Some i → find_from t i (x ∷ xs) ≡ r → find_from t i (o ∷ xs) ≡ r
  put-here i x xs r true c is now passes other e = absurd (other (sym e ∙ rw is refl))
  put-here i x xs r false true is now passes other e = no-true _ (sym is ∙ passes now)
  put-here i x xs r false false is now passes other e = rw now (rw is at e)

  put-later : (i : ℕ) (x : X) (xs ys : List X) (r : Option ℕ) (b : Bool) → t i x ≡ b → (find_from t (i + 1) xs ≡ r → find_from t (i + 1) ys ≡ r) → find_from t i (x ∷ xs) ≡ r → find_from t i (x ∷ ys) ≡ r
  put-later i x xs ys r true is rest e = rw is (rw is at e)
  put-later i x xs ys r false is rest e = rw is (rest (rw is at e))

  -- another place, or none, is found as before
  put-finds : (i k : ℕ) (xs : List X) (r : Option ℕ) → Passes k xs → r ≢ Some (i + k) → find_from t i xs ≡ r → find_from t i (slice_set xs k o) ≡ r
  put-finds i k [] r passes other e = e
  put-finds i zero (x ∷ xs) r passes other e =
      let here : i + 0 ≡ i = omega arith in
      put-here i x xs r (t i x) (t i o) refl refl (passes i) (λ is. other (is ∙ ap Some (sym here))) e
  put-finds i (suc k) (x ∷ xs) r passes other e =
      let next : i + suc k ≡ (i + 1) + k = omega arith in
      put-later i x xs (slice_set xs k o) r (t i x) refl (put-finds (i + 1) k xs r passes (λ is. other (is ∙ ap Some (sym next)))) e

-- ---- a buffer of which the entries of an item are changed, or gone

module _ (x : ℕ) (e : BufferValue) (other : is_buffered x e ≡ false) where
  gone-step : (b : BufferValue) (bs : List BufferValue) (own waits : Bool) → is_buffered x b ≡ own → buffer_waits b ≡ waits → (find buffer_waits bs ≡ Some e → find buffer_waits (filter (λ k. not (is_buffered x k)) bs) ≡ Some e) → find buffer_waits (b ∷ bs) ≡ Some e → find buffer_waits (filter (λ k. not (is_buffered x k)) (b ∷ bs)) ≡ Some e
  gone-step b bs true true is now rest found =
      let here : Some b ≡ Some e = rw now at found in
      let same : b ≡ e = cc in
      absurd (true≢false (sym is ∙ ap (is_buffered x) same ∙ other))
  gone-step b bs true false is now rest found = rw is (rest (rw now at found))
  gone-step b bs false true is now rest found = rw is (rw now (rw now at found))
  gone-step b bs false false is now rest found = rw is (rw now (rest (rw now at found)))

  gone-finds : (bs : List BufferValue) → find buffer_waits bs ≡ Some e → find buffer_waits (filter (λ k. not (is_buffered x k)) bs) ≡ Some e
  gone-finds [] found = cc
  gone-finds (b ∷ bs) found = gone-step b bs (is_buffered x b) (buffer_waits b) refl refl (gone-finds bs) found

  module _ (s : LeafState) (words : List ℕ) where
    abbrev with_state : BufferValue → BufferValue
    with_state = buffer_with x s words

    abbrev some_waits : Option BufferValue → Bool
    some_waits None = false
    some_waits (Some k) = buffer_waits k

    with-step : (b : BufferValue) (bs : List BufferValue) (own waits : Bool) → is_buffered x b ≡ own → buffer_waits b ≡ waits → (is_waiting s ≡ true → some_waits (buffered x (b ∷ bs)) ≡ true) → ((is_waiting s ≡ true → some_waits (buffered x bs) ≡ true) → find buffer_waits bs ≡ Some e → find buffer_waits (map with_state bs) ≡ Some e) → find buffer_waits (b ∷ bs) ≡ Some e → find buffer_waits (map with_state (b ∷ bs)) ≡ Some e
    with-step b bs true true is now calm rest found =
        let here : Some b ≡ Some e = rw now at found in
        let same : b ≡ e = cc in
        absurd (true≢false (sym is ∙ ap (is_buffered x) same ∙ other))
    with-step b bs true false is now calm rest found =
        elim (is_waiting s) as (λ w. is_waiting s ≡ w → find buffer_waits (map with_state (b ∷ bs)) ≡ Some e) [
          | true ↦ λ waits.
              let there : some_waits (buffered x (b ∷ bs)) ≡ buffer_waits b = rw is refl in
              absurd (true≢false (sym (calm waits) ∙ there ∙ now))
          | false ↦ λ not. rw is (rw not (rest (λ waits. no-true _ (sym not ∙ waits)) (rw now at found)))
        ] refl
    with-step b bs false true is now calm rest found = rw is (rw now (rw now at found))
    with-step b bs false false is now calm rest found = rw is (rw now (rest (rw is at calm) (rw now at found)))

    with-finds : (bs : List BufferValue) → (is_waiting s ≡ true → some_waits (buffered x bs) ≡ true) → find buffer_waits bs ≡ Some e → find buffer_waits (map with_state bs) ≡ Some e
    with-finds [] calm found = cc
    with-finds (b ∷ bs) calm found = with-step b bs (is_buffered x b) (buffer_waits b) refl refl calm (with-finds bs) found

-- ---- what waits after an item's entry got its fate

abbrev entry_waits : Option LeafEntry → Bool
entry_waits None = false
entry_waits (Some e) = is_waiting e.state

-- an entry waits only where it did
abbrev is_calm : Fate → Option LeafEntry → Bool
is_calm stays o = true
is_calm ends o = true
is_calm (becomes s words) o = not (is_waiting s) || entry_waits o
is_calm (enters way s words) o = not (is_waiting s)

calm-waits : (a b : Bool) → (not a || b) ≡ true → a ≡ true → b ≡ true
calm-waits true b calm e = calm
calm-waits false b calm e = no-true _ e

calm-not : (a : Bool) → not a ≡ true → a ≡ true → false ≡ true
calm-not true calm e = calm
calm-not false calm e = e

module _ (x : ℕ) (ways : List (Option WayValue)) (buffer : List BufferValue) where
  -- what is put into a way waits only where what stood there did
  way-calm : (s : LeafState) (words : List ℕ) (o : Option WayValue) → (is_waiting s ≡ true → entry_waits (first_some (option_map way_entry o) (option_map buffer_entry (buffered x buffer))) ≡ true) → (i : ℕ) → way_waits i (option_map (way_with s words) o) ≡ true → way_waits i o ≡ true
  way-calm s words None calm i is = is
  way-calm s words (Some e) calm i is = calm is

  put-ways : (o : Option WayValue) (r : Option ℕ) → ((i : ℕ) → way_waits i o ≡ true → way_waits i (way_at x ways) ≡ true) → r ≢ Some x → find_from way_waits 0 ways ≡ r → find_from way_waits 0 (slice_set ways x o) ≡ r
  put-ways o r calm other e =
      let here : 0 + x ≡ x = omega arith in
      put-finds way_waits o None 0 x ways r calm (λ is. other (is ∙ ap Some here)) e

  calm-ways : (f : Fate) → is_calm f (entry_at x ways buffer) ≡ true → (r : Option ℕ) → r ≢ Some x → find_from way_waits 0 ways ≡ r → find_from way_waits 0 (ways_after x f ways) ≡ r
  unfolding entry_at
  calm-ways stays calm r other e = e
  calm-ways ends calm r other e = put-ways None r (λ i is. no-true _ is) other e
  calm-ways (becomes s words) calm r other e = put-ways (option_map (way_with s words) (way_at x ways)) r (way-calm s words (way_at x ways) (calm-waits _ _ calm)) other e
  calm-ways (enters way s words) calm r other e = put-ways (Some (record { way = way; state = s; words = words })) r (λ i is. no-true _ (calm-not (is_waiting s) calm is)) other e

  some-waits : (e : BufferValue) (other : is_buffered x e ≡ false) (s : LeafState) (words : List ℕ) (o : Option BufferValue) → entry_waits (option_map buffer_entry o) ≡ true → some_waits x e other s words o ≡ true
  some-waits e other s words None is = is
  some-waits e other s words (Some b) is = is

  calm-becomes : (s : LeafState) (words : List ℕ) (o : Option WayValue) (e : BufferValue) → way_at x ways ≡ o → (is_waiting s ≡ true → entry_waits (first_some (option_map way_entry o) (option_map buffer_entry (buffered x buffer))) ≡ true) → is_buffered x e ≡ false → find buffer_waits buffer ≡ Some e → find buffer_waits (buffer_after x (becomes s words) ways buffer) ≡ Some e
  calm-becomes s words (Some w) e is calm other found = rw is found
  calm-becomes s words None e is calm other found = rw is (with-finds x e other s words buffer (λ waits. some-waits e other s words (buffered x buffer) (calm waits)) found)

  calm-buffer : (f : Fate) (e : BufferValue) → is_calm f (entry_at x ways buffer) ≡ true → is_buffered x e ≡ false → find buffer_waits buffer ≡ Some e → find buffer_waits (buffer_after x f ways buffer) ≡ Some e
  unfolding entry_at
  calm-buffer stays e calm other found = found
  calm-buffer ends e calm other found = gone-finds x e other buffer found
  calm-buffer (becomes s words) e calm other found = calm-becomes s words (way_at x ways) e refl (calm-waits _ _ calm) other found
  calm-buffer (enters way s words) e calm other found = found

  -- another item that is the first one to wait is so afterwards
  module _ (f : Fate) (calm : is_calm f (entry_at x ways buffer) ≡ true) (y : ℕ) (other : y ≢ x) where
    waits-by : (w : Option ℕ) (b : Option BufferValue) → find_from way_waits 0 ways ≡ w → find buffer_waits buffer ≡ b → first_some w (option_map buffer_item b) ≡ Some y → first_some (find_from way_waits 0 (ways_after x f ways)) (option_map buffer_item (find buffer_waits (buffer_after x f ways buffer))) ≡ Some y
    waits-by (Some j) b in_ways in_buffer is =
        let same : j ≡ y = cc in
        rw (calm-ways f calm (Some j) (λ at. other (some-same (sym is ∙ at))) in_ways) is
    waits-by None None in_ways in_buffer is = cc
    waits-by None (Some e) in_ways in_buffer is =
        let apart : is_buffered x e ≡ false = ne_eqb x e.item (λ same. other (some-same (sym is ∙ ap Some (sym same)))) in
        rw (calm-ways f calm None none-some in_ways, calm-buffer f e calm apart in_buffer) is

    pub fate-waits : waiting_item ways buffer ≡ Some y → waiting_item (ways_after x f ways) (buffer_after x f ways buffer) ≡ Some y
    unfolding waiting_item
    fate-waits is = waits-by (find_from way_waits 0 ways) (find buffer_waits buffer) refl refl is

-- ---- the fates by the tables of states

module _ (width : ℕ) (words old : List ℕ) where
  lost-calm : (s : LeafState) (e : LeafEntry) → e.state ≡ s → is_calm (fate_by_loss width words (state_lost s)) (Some e) ≡ true
  lost-calm LeafState.Shared e is = refl
  lost-calm LeafState.Exclusive e is = refl
  lost-calm LeafState.Waiting e is = rw is refl
  lost-calm LeafState.Reading e is = rw is refl
  lost-calm LeafState.ReadingWaiting e is = rw is refl

  data-calm : (s : LeafState) (e : LeafEntry) → e.state ≡ s → is_calm (fate_by width words (state_with_data s)) (Some e) ≡ true
  data-calm LeafState.Shared e is = refl
  data-calm LeafState.Exclusive e is = refl
  data-calm LeafState.Waiting e is = refl
  data-calm LeafState.Reading e is = refl
  data-calm LeafState.ReadingWaiting e is = rw is refl

  exclusive-calm : (s : LeafState) (e : LeafEntry) → is_calm (fate_by width words (state_with_exclusive s)) (Some e) ≡ true
  exclusive-calm LeafState.Shared e = refl
  exclusive-calm LeafState.Exclusive e = refl
  exclusive-calm LeafState.Waiting e = refl
  exclusive-calm LeafState.Reading e = refl
  exclusive-calm LeafState.ReadingWaiting e = refl

  inject-calm : (s : LeafState) (e : LeafEntry) → is_calm (fate_by width words (state_with_inject s)) (Some e) ≡ true
  inject-calm LeafState.Shared e = refl
  inject-calm LeafState.Exclusive e = refl
  inject-calm LeafState.Waiting e = refl
  inject-calm LeafState.Reading e = refl
  inject-calm LeafState.ReadingWaiting e = refl

  answered-calm : (s : LeafState) (e : LeafEntry) → e.state ≡ s → is_calm (fate_by width words (state_answered s)) (Some e) ≡ true
  answered-calm LeafState.Shared e is = refl
  answered-calm LeafState.Exclusive e is = refl
  answered-calm LeafState.Waiting e is = rw is refl
  answered-calm LeafState.Reading e is = refl
  answered-calm LeafState.ReadingWaiting e is = refl

  enters-calm : (way : Option ℕ) → is_calm (enters_free LeafState.Exclusive words way) None ≡ true
  enters-calm None = refl
  enters-calm (Some way) = refl

module _ (width : ℕ) where
  fate_when_lost-calm : (o : Option LeafEntry) → is_calm (fate_when_lost width o) o ≡ true
  fate_when_lost-calm None = refl
  fate_when_lost-calm (Some e) = lost-calm width e.words e.words e.state e refl

  fate_with_data-calm : (words : List ℕ) (o : Option LeafEntry) → is_calm (fate_with_data width words o) o ≡ true
  fate_with_data-calm words None = refl
  fate_with_data-calm words (Some e) = data-calm width words words e.state e refl

  fate_with_exclusive-calm : (o : Option LeafEntry) → is_calm (fate_with_exclusive width o) o ≡ true
  fate_with_exclusive-calm None = refl
  fate_with_exclusive-calm (Some e) = exclusive-calm width e.words e.words e.state e

  fate_answering-calm : (o : Option LeafEntry) → is_calm (fate_answering width o) o ≡ true
  fate_answering-calm None = refl
  fate_answering-calm (Some e) = answered-calm width e.words e.words e.state e refl

fate_with_inject-calm : (sizes : LeafSizes) (x : ℕ) (words : List ℕ) (ways : List (Option WayValue)) (o : Option LeafEntry) → is_calm (fate_with_inject sizes x words ways o) o ≡ true
fate_with_inject-calm sizes x words ways None = enters-calm sizes.width words words (free_way sizes x ways)
fate_with_inject-calm sizes x words ways (Some e) = inject-calm sizes.width words words e.state e

-- ---- a child

-- whether a leaf's hart has halted, and the item that it waits for
abbrev pub node_halts : Node → Option HaltCause
node_halts (leaf_node v) = v.hart.halt
node_halts (dir_node d ns) = None

abbrev pub node_waits : Node → Option ℕ
node_waits (leaf_node v) = waiting_item v.ways v.buffer
node_waits (dir_node d ns) = None

-- of the second node it is what it was of the first, where that waits for another item than x
pub record IsUntold (x : ℕ) (n m : Node) : Type 0 where
  pub halts : node_halts m ≡ node_halts n
  pub waits : (y : ℕ) → y ≢ x → node_waits n ≡ Some y → node_waits m ≡ Some y

same-untold : (x : ℕ) (n : Node) → IsUntold x n n
same-untold x n = record { halts = refl; waits = λ y other is. is }

then-untold : (x : ℕ) (n m k : Node) → IsUntold x n m → IsUntold x m k → IsUntold x n k
then-untold x n m k first second = record { halts = second.halts ∙ first.halts; waits = λ y other is. second.waits y other (first.waits y other is) }

module _ (x : ℕ) (s : Stamp) where
  child_lose-untold : (n : Node) → IsUntold x n (child_lose x s n)
  unfolding leaf_lose dir_lose
  child_lose-untold (leaf_node v) = record { halts = refl; waits = λ y other is. fate-waits x v.ways v.buffer _ (fate_when_lost-calm v.sizes.width (leaf_entry x v)) y other is }
  child_lose-untold (dir_node d ns) = record { halts = refl; waits = λ y other is. is }

  child_take_data-untold : (words : List ℕ) (n : Node) → IsUntold x n (child_take_data x words s n)
  unfolding leaf_take_data dir_take_data
  child_take_data-untold words (leaf_node v) = record { halts = refl; waits = λ y other is. fate-waits x v.ways v.buffer _ (fate_with_data-calm v.sizes.width words (leaf_entry x v)) y other is }
  child_take_data-untold words (dir_node d ns) = record { halts = refl; waits = λ y other is. is }

  child_take_exclusive-untold : (n : Node) → IsUntold x n (child_take_exclusive x s n)
  unfolding leaf_take_exclusive dir_take_exclusive
  child_take_exclusive-untold (leaf_node v) = record { halts = refl; waits = λ y other is. fate-waits x v.ways v.buffer _ (fate_with_exclusive-calm v.sizes.width (leaf_entry x v)) y other is }
  child_take_exclusive-untold (dir_node d ns) = record { halts = refl; waits = λ y other is. is }

  child_answer-untold : (n : Node) → IsUntold x n (child_answer x s n)
  unfolding leaf_answer dir_answer
  child_answer-untold (leaf_node v) = record { halts = refl; waits = λ y other is. fate-waits x v.ways v.buffer _ (fate_answering-calm v.sizes.width (leaf_entry x v)) y other is }
  child_answer-untold (dir_node d ns) = record { halts = refl; waits = λ y other is. is }

  child_take_inject-untold : (words : List ℕ) (n : Node) → IsUntold x n (child_take_inject x words s n)
  unfolding leaf_take_inject dir_take_inject
  child_take_inject-untold words (leaf_node v) = record { halts = refl; waits = λ y other is. fate-waits x v.ways v.buffer _ (fate_with_inject-calm v.sizes x words v.ways (leaf_entry x v)) y other is }
  child_take_inject-untold words (dir_node d ns) = record { halts = refl; waits = λ y other is. is }

module _ (x : ℕ) where
  child_request_taken-untold : (n : Node) → IsUntold x n (child_request_taken n)
  child_request_taken-untold (leaf_node v) = record { halts = refl; waits = λ y other is. is }
  child_request_taken-untold (dir_node d ns) = record { halts = refl; waits = λ y other is. is }

  child_reply_taken-untold : (n : Node) → IsUntold x n (child_reply_taken n)
  child_reply_taken-untold (leaf_node v) = record { halts = refl; waits = λ y other is. is }
  child_reply_taken-untold (dir_node d ns) = record { halts = refl; waits = λ y other is. is }

  child_give_up-untold : (n : Node) → IsUntold x n (child_give_up x n)
  child_give_up-untold (leaf_node v) = record { halts = refl; waits = λ y other is. fate-waits x v.ways v.buffer ends refl y other is }
  child_give_up-untold (dir_node d ns) = record { halts = refl; waits = λ y other is. is }

  -- ---- what each child is told, by its number

  either-untold : (b : Bool) (m k n : Node) → IsUntold x n m → IsUntold x n k → IsUntold x n (if◌then◌else◌ b m k)
  either-untold true m k n first second = first
  either-untold false m k n first second = second

  only-untold : (c : ℕ) (f : Node → Node) → ((n : Node) → IsUntold x n (f n)) → (i : ℕ) (n : Node) → IsUntold x n (only c f i n)
  only-untold c f told i n = either-untold (nat_eq i c) (f n) n n (told n) (same-untold x n)

  read_from-untold : (c k : ℕ) (s : Stamp) (i : ℕ) (n : Node) → IsUntold x n (read_from c k x s i n)
  read_from-untold c k s i n = either-untold (nat_eq i c) (child_request_taken n) _ n (child_request_taken-untold n) (either-untold (nat_eq i k) (child_answer x s n) n n (child_answer-untold x s n) (same-untold x n))

  erased_by-untold : (c : ℕ) (s : Stamp) (i : ℕ) (n : Node) → IsUntold x n (erased_by c x s i n)
  erased_by-untold c s i n = either-untold (nat_eq i c) (child_request_taken n) (child_lose x s n) n (child_request_taken-untold n) (child_lose-untold x s n)

  loses-untold : (s : Stamp) (i : ℕ) (n : Node) → IsUntold x n (loses x s i n)
  loses-untold s i n = child_lose-untold x s n

  reader_takes-untold : (note : Note) (words : List ℕ) (s : Stamp) (i : ℕ) (n : Node) → IsUntold x n (reader_takes note x words s i n)
  reader_takes-untold note words s i n = either-untold (is_reader note i) (child_take_data x words s n) n n (child_take_data-untold x s words n) (same-untold x n)

  replied_by-untold : (c : ℕ) (note : Note) (words : List ℕ) (s : Stamp) (i : ℕ) (n : Node) → IsUntold x n (replied_by c note x words s i n)
  replied_by-untold c note words s i n = then-untold x n (only c child_reply_taken i n) _ (only-untold c child_reply_taken child_reply_taken-untold i n) (reader_takes-untold note words s i (only c child_reply_taken i n))

  passed_on-untold : (c k : ℕ) (words : List ℕ) (s : Stamp) (i : ℕ) (n : Node) → IsUntold x n (passed_on c k x words s i n)
  passed_on-untold c k words s i n = either-untold (nat_eq i c) (child_give_up x n) _ n (child_give_up-untold n) (either-untold (nat_eq i k) (child_take_inject x words s n) n n (child_take_inject-untold x s words n) (same-untold x n))

-- ---- all children of a bus

pub record AreUntold (x : ℕ) (ns kids : List Node) : Type 0 where
  pub each : (k : ℕ) → IsUntold x (child_at k ns) (child_at k kids)

same-all : (x : ℕ) (ns : List Node) → AreUntold x ns ns
same-all x ns = record { each = λ k. same-untold x (child_at k ns) }

module _ (x : ℕ) (g : ℕ → Node → Node) (told : (i : ℕ) (n : Node) → IsUntold x n (g i n)) (ns : List Node) where
  mapped-by : (k : ℕ) (b : Bool) → nat_lt k (length ns) ≡ b → IsUntold x (child_at k ns) (child_at k (map_from g 0 ns))
  mapped-by k true e = subst (IsUntold x (child_at k ns)) (sym (child_at-map_from g k ns (ltb-true _ _ e))) (told k (child_at k ns))
  mapped-by k false e =
      let before : child_at k ns ≡ no_node = get_or_past ns k no_node (ltb-false _ _ e) in
      let after : child_at k (map_from g 0 ns) ≡ no_node = map_from-past g 0 k ns no_node (ltb-false _ _ e) in
      subst (IsUntold x (child_at k ns)) (before ∙ sym after) (same-untold x (child_at k ns))

  mapped-untold : AreUntold x ns (map_from g 0 ns)
  mapped-untold = record { each = λ k. mapped-by k (nat_lt k (length ns)) refl }

module _ (above : Stamp) (p : DirValue) (ns : List Node) where
  -- one child is changed
  one-untold : (x c : ℕ) (f : Node → Node) → ((n : Node) → IsUntold x n (f n)) → AreUntold x ns (map_from (only c f) 0 ns)
  one-untold x c f told = mapped-untold x (only c f) (only-untold x c f told) ns

  row-untold : (t : BusTurn) (g : Grant) → Row above p ns t g → AreUntold g.item ns g.kids
  unfolding joins read_of_child read_of_parked read_of_parent erase_of_all reply_to_readers reply_to_parent exclusive_to erase_of_children read_by_child read_by_parked data_to_readers inject_to_reader inject_to_readers inject_to_child inject_parked out_gone leave_parked leave_to
  row-untold t g (row_joins c x _ _) = one-untold x c child_request_taken (child_request_taken-untold x)
  row-untold t g (row_read_of_child c x k _ _ _ _ _) = mapped-untold x _ (read_from-untold x c k (stamp_of (counted p))) ns
  row-untold t g (row_read_of_parked c x words _ _ _ _ _ _) = one-untold x c child_request_taken (child_request_taken-untold x)
  row-untold t g (row_read_of_parent c x _ _ _ _) = one-untold x c child_request_taken (child_request_taken-untold x)
  row-untold t g (row_erase_of_all c x _ _ _ _) = mapped-untold x _ (erased_by-untold x c (stamp_of (counted p))) ns
  row-untold t g (row_reply_to_readers c x words first joined _ _ _) = mapped-untold x _ (replied_by-untold x c (local first joined) words (stamp_of (counted p))) ns
  row-untold t g (row_reply_to_parent c x words _ _ _ _) = one-untold x c child_reply_taken (child_reply_taken-untold x)
  row-untold t g (row_exclusive_to e rest d _ _ _ _) = one-untold e.item d _ (child_take_exclusive-untold e.item (stamp_of (front_taken e.stamp rest p)))
  row-untold t g (row_erase_of_children e rest _ _ _ _) = mapped-untold e.item _ (loses-untold e.item (stamp_of (front_taken e.stamp rest p))) ns
  row-untold t g (row_read_by_child e rest k _ _ _ _ _) = one-untold e.item k _ (child_answer-untold e.item (stamp_of (front_taken e.stamp rest p)))
  row-untold t g (row_read_by_parked e rest words _ _ _ _ _ _) = same-all e.item ns
  row-untold t g (row_data_to_readers e rest first joined _ _ _ _) = mapped-untold e.item _ (reader_takes-untold e.item (up_read first joined) e.words (stamp_of (front_taken e.stamp rest p))) ns
  row-untold t g (row_inject_to_reader e rest d joined _ _ _ _ _ _) = one-untold e.item d _ (child_take_inject-untold e.item (stamp_of (front_taken e.stamp rest p)) e.words)
  row-untold t g (row_inject_to_readers e rest first joined _ _ _ _ _) = mapped-untold e.item _ (reader_takes-untold e.item (up_read first joined) e.words (stamp_of (front_taken e.stamp rest p))) ns
  row-untold t g (row_inject_to_child e rest k _ _ _ _ _) = one-untold e.item k _ (child_take_inject-untold e.item (stamp_of (front_taken e.stamp rest p)) e.words)
  row-untold t g (row_inject_parked e rest _ _ _ _ _ _ _) = same-all e.item ns
  row-untold t g (row_out_gone c choice x _ _ _ _ _) = one-untold x c _ (child_give_up-untold x)
  row-untold t g (row_out_parked c choice x _ _ _ _ _ _ _ _) = one-untold x c _ (child_give_up-untold x)
  row-untold t g (row_leave_to c choice x k _ _ _ _ _) = mapped-untold x _ (passed_on-untold x c k (child_given x (child_at c ns)) (stamp_of (counted p))) ns
  row-untold t g (row_inject_up c choice x _ _ _ _ _ _ _ _) = one-untold x c _ (child_give_up-untold x)

  -- ---- an outcome

  outcome-untold : (j : Judged) (entry : LogEntry) → ((g : Grant) → j ≡ granted g → AreUntold g.item ns g.kids) → (outcome_of p ns j).answer ≡ TurnAnswer.Granted entry → AreUntold entry.item ns (outcome_of p ns j).kids
  outcome-untold nothing_there entry told is = cc
  outcome-untold (refused cause) entry told is = cc
  outcome-untold (granted g) entry told is =
      let same : g.item ≡ entry.item = cc in
      subst (λ x. AreUntold x ns g.kids) same (told g refl)

  -- where a turn of a bus is granted, for each child
  pub step-untold : (t : BusTurn) (entry : LogEntry) → (bus_step above t p ns).answer ≡ TurnAnswer.Granted entry → AreUntold entry.item ns (bus_step above t p ns).kids
  unfolding bus_step
  step-untold t entry is = outcome-untold (bus_judged above p ns t) entry (λ g e. row-untold t g (row-of above p ns t g e)) is
