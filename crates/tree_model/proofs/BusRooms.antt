-- One turn of a bus keeps its parent and all children within their rooms, whatever the state. By rows.
use Rattle.std.proofs.Common.{◌≡◌, ◌≢◌, ℕ, suc, zero, ◌+◌, ◌-◌, ◌<◌, ◌≤◌, Bool, true, false, List, [], ◌∷◌, ◌++◌, length, Some, None, refl, sym, ap, subst, ◌∙◌, arith, length-append}
use Rattle.std.specs.Prelude.{not, nat_eq, nat_lt, if◌then◌else◌}
use Rattle.std.proofs.lemmas.Bool.{eqb-true, eqb-false}
use Rattle.std.proofs.lemmas.List.{length-set}
use Rattle.tree_model.specs.DdmTypes.declared.answers.TxKind.TheVariants.{ReadTx, DataTx}
use Rattle.tree_model.specs.DdmTypes.declared.keys.Stamp.{Stamp}
use Rattle.tree_model.specs.declared.BusTurn.{BusTurn}
use Rattle.tree_model.specs.State.Lists.{map_from, find_from, first_given, first_some}
use Rattle.tree_model.specs.State.States.{is_exclusive}
use Rattle.tree_model.specs.State.Values.{DownValue, CopyValue, Note, local, up_read, DirValue, Node, nodes}
use Rattle.tree_model.specs.State.Directory.{is_top, dir_hold, is_reader, down_full, requests_full, replies_full, stamp_of, counted, front_taken}
use Rattle.tree_model.specs.State.Child.{child_room, child_waits, child_full_for, child_request_taken, child_reply_taken, child_given}
use Rattle.tree_model.specs.State.Blank.{no_node}
use Rattle.tree_model.specs.State.Rooms.{dir_within, all_within, all_within_among}
use Rattle.tree_model.specs.Turns.Grant.{Grant, Judged, nothing_there, refused, granted, Outcome, outcome_of}
use Rattle.tree_model.specs.Turns.Children.{child_at, waits_with_room, has_room, other_waits, room_after, room_before, other_full, full_to_lose, reader_full, only, read_from, erased_by, loses, reader_takes, replied_by, passed_on}
use Rattle.tree_model.specs.Turns.RequestRead.{joins, read_of_child, read_of_parked, read_of_parent}
use Rattle.tree_model.specs.Turns.RequestErase.{erase_noted, erase_list_full, erase_of_all}
use Rattle.tree_model.specs.Turns.Reply.{reply_to_readers, reply_to_parent}
use Rattle.tree_model.specs.Turns.Down.{exclusive_to, erase_of_children, read_by_child, read_by_parked, data_to_readers, inject_to_reader, inject_to_readers, inject_to_child, inject_parked, inject_taker}
use Rattle.tree_model.specs.Turns.Leave.{out_gone, leave_parked, leave_to, leave_taker}
use Rattle.tree_model.specs.Turns.Bus.{bus_judged, bus_step}
use Rattle.tree_model.proofs.Tests.{and-first, and-second, and-both, some_if-none, first_some-either}
use Rattle.tree_model.proofs.Rows.{Row, row_joins, row_read_of_child, row_read_of_parked, row_read_of_parent, row_erase_of_all, row_reply_to_readers, row_reply_to_parent, row_exclusive_to, row_erase_of_children, row_read_by_child, row_read_by_parked, row_data_to_readers, row_inject_to_reader, row_inject_to_readers, row_inject_to_child, row_inject_parked, row_out_gone, row_out_parked, row_leave_to, row_inject_up, row-of}
use Rattle.tree_model.proofs.Children.{map_from-length, child_at-map_from, found-passes, none-given}
use Rattle.tree_model.proofs.DirRooms.{DirWithin, dir_within-facts, dir_within-test, pushed-fits, without_copy-length, down-place, requests-place, replies-place, parking-place}
use Rattle.tree_model.proofs.ChildRooms.{child_lose-within, child_take_data-within, child_take_exclusive-within, child_answer-within, child_take_inject-within, child_request_taken-within, child_reply_taken-within, child_give_up-within, child_take_inject-with_room, reply_taken-room}

-- ---- who was found to take a copy has room

pub inject_taker-room : (x : ℕ) (q : DirValue) (ns : List Node) (words : List ℕ) (k : ℕ) → inject_taker x q ns words ≡ Some k → child_room x (child_at k ns) ≡ true
inject_taker-room x q ns words k found =
    first_some-either (λ j. child_room x (child_at j ns) ≡ true) (find_from (waits_with_room x) 0 ns) (find_from (has_room x) 0 ns) (λ j e. and-second (child_waits x (child_at j ns)) _ (found-passes (waits_with_room x) j ns no_node e)) (λ j e. found-passes (has_room x) j ns no_node e) k found

pub leave_taker-room : (c x : ℕ) (p : DirValue) (ns : List Node) (k : ℕ) → leave_taker c x p ns ≡ Some k → child_room x (child_at k ns) ≡ true
leave_taker-room c x p ns k found =
    first_some-either (λ j. child_room x (child_at j ns) ≡ true) (find_from (other_waits c x) 0 ns) (first_some (find_from (room_after c x) 0 ns) (find_from (room_before (is_top p) c x) 0 ns)) (λ j e. and-second (child_waits x (child_at j ns)) _ (and-second (not (nat_eq j c)) _ (found-passes (other_waits c x) j ns no_node e))) (first_some-either (λ j. child_room x (child_at j ns) ≡ true) (find_from (room_after c x) 0 ns) (find_from (room_before (is_top p) c x) 0 ns) (λ j e. and-second (nat_lt c j) _ (found-passes (room_after c x) j ns no_node e)) (λ j e. and-second (nat_lt j c) _ (and-second (is_top p) _ (found-passes (room_before (is_top p) c x) j ns no_node e)))) k found

-- a reply that is taken of one child leaves each the room for data
only-reply_taken-room : (c x j : ℕ) (m : Node) → child_full_for DataTx x (only c child_reply_taken j m) ≡ child_full_for DataTx x m
only-reply_taken-room c x j m =
    elim (nat_eq j c) as (λ b. nat_eq j c ≡ b → child_full_for DataTx x (only c child_reply_taken j m) ≡ child_full_for DataTx x m) [
      | true ↦ λ e. rw e (reply_taken-room x m)
      | false ↦ λ e. rw e refl
    ] refl

module _ (n : ℕ) where
  -- ---- all children, and each by its number

  pub within-at : (k : ℕ) (ns : List Node) → all_within_among n (nodes ns) ≡ true → k < length ns → all_within n (child_at k ns) ≡ true
  within-at k [] within inside = absurd (omega arith)
  within-at zero (m ∷ ns) within inside = and-first _ (all_within_among n (nodes ns)) within
  within-at (suc k) (m ∷ ns) within inside =
      let below : k < length ns = omega arith in
      within-at k ns (and-second (all_within n m) _ within) below

  pub within-each : (ns : List Node) → ((k : ℕ) → k < length ns → all_within n (child_at k ns) ≡ true) → all_within_among n (nodes ns) ≡ true
  within-each [] each = refl
  within-each (m ∷ ns) each =
      and-both _ _ (each 0 (omega arith)) (within-each ns (λ k inside.
      let behind : suc k < length (m ∷ ns) = omega arith in
      each (suc k) behind))

  either-within : (b : Bool) (m k : Node) → (b ≡ true → all_within n m ≡ true) → (b ≡ false → all_within n k ≡ true) → all_within n (if◌then◌else◌ b m k) ≡ true
  either-within true m k first second = first refl
  either-within false m k first second = second refl

  module _ (ns : List Node) (within : all_within_among n (nodes ns) ≡ true) where
    mapped : (g : ℕ → Node → Node) → ((k : ℕ) → k < length ns → all_within n (child_at k ns) ≡ true → all_within n (g k (child_at k ns)) ≡ true) → all_within_among n (nodes (map_from g 0 ns)) ≡ true
    mapped g kept =
        within-each (map_from g 0 ns) (λ k inside.
        let below : k < length ns = omega (arith, map_from-length g 0 ns) in
        rw (child_at-map_from g k ns below) (kept k below (within-at k ns within below)))

    at-number : (P : Node → Type 0) (k j : ℕ) → nat_eq j k ≡ true → P (child_at k ns) → P (child_at j ns)
    at-number P k j e fact = subst (λ i. P (child_at i ns)) (sym (eqb-true j k e)) fact

    one : (c : ℕ) (f : Node → Node) → (all_within n (child_at c ns) ≡ true → all_within n (f (child_at c ns)) ≡ true) → all_within_among n (nodes (map_from (only c f) 0 ns)) ≡ true
    one c f kept =
        mapped (only c f) (λ j below here. either-within (nat_eq j c) _ _ (λ e. at-number (λ m. all_within n m ≡ true → all_within n (f m) ≡ true) c j e kept here) (λ e. here))

    read_from-kids : (c k x : ℕ) (s : Stamp) → child_full_for ReadTx x (child_at k ns) ≡ None → all_within_among n (nodes (map_from (read_from c k x s) 0 ns)) ≡ true
    read_from-kids c k x s room =
        mapped (read_from c k x s) (λ j below here. either-within (nat_eq j c) _ _ (λ e. child_request_taken-within n _ here) (λ e. either-within (nat_eq j k) _ _ (λ same. child_answer-within n x s _ (at-number (λ m. child_full_for ReadTx x m ≡ None) k j same room) here) (λ other. here)))

    erased_by-kids : (c x : ℕ) (s : Stamp) → first_given (other_full c x) 0 ns ≡ None → all_within_among n (nodes (map_from (erased_by c x s) 0 ns)) ≡ true
    erased_by-kids c x s room =
        mapped (erased_by c x s) (λ j below here. either-within (nat_eq j c) _ _ (λ e. child_request_taken-within n _ here) (λ e.
        let full = none-given (other_full c x) j ns no_node room below in
        child_lose-within n x s _ (rw e at full) here))

    loses-kids : (x : ℕ) (s : Stamp) → first_given (full_to_lose x) 0 ns ≡ None → all_within_among n (nodes (map_from (loses x s) 0 ns)) ≡ true
    loses-kids x s room = mapped (loses x s) (λ j below here. child_lose-within n x s _ (none-given (full_to_lose x) j ns no_node room below) here)

    reader_takes-kids : (note : Note) (x : ℕ) (words : List ℕ) (s : Stamp) → first_given (reader_full note x) 0 ns ≡ None → all_within_among n (nodes (map_from (reader_takes note x words s) 0 ns)) ≡ true
    reader_takes-kids note x words s room =
        mapped (reader_takes note x words s) (λ j below here. either-within (is_reader note j) _ _ (λ reads.
        let full = none-given (reader_full note x) j ns no_node room below in
        child_take_data-within n x words s _ (rw reads at full) here) (λ other. here))

    replied_by-kids : (c : ℕ) (note : Note) (x : ℕ) (words : List ℕ) (s : Stamp) → first_given (reader_full note x) 0 ns ≡ None → all_within_among n (nodes (map_from (replied_by c note x words s) 0 ns)) ≡ true
    replied_by-kids c note x words s room =
        mapped (replied_by c note x words s) (λ j below here.
        let taken : all_within n (only c child_reply_taken j (child_at j ns)) ≡ true = either-within (nat_eq j c) _ _ (λ e. child_reply_taken-within n _ here) (λ e. here) in
        either-within (is_reader note j) _ _ (λ reads.
        let full = none-given (reader_full note x) j ns no_node room below in
        child_take_data-within n x words s _ (only-reply_taken-room c x j (child_at j ns) ∙ (rw reads at full)) taken) (λ other. taken))

    passed_on-kids : (c k x : ℕ) (words : List ℕ) (s : Stamp) → child_room x (child_at k ns) ≡ true → all_within_among n (nodes (map_from (passed_on c k x words s) 0 ns)) ≡ true
    passed_on-kids c k x words s room =
        mapped (passed_on c k x words s) (λ j below here. either-within (nat_eq j c) _ _ (λ e. child_give_up-within n x _ here) (λ e. either-within (nat_eq j k) _ _ (λ same. child_take_inject-with_room n x words s _ (at-number (λ m. child_room x m ≡ true) k j same room) here) (λ other. here)))

-- ---- the rows

-- one more parked copy, in a free place or in one that was kept
parked-fits : (parked : List CopyValue) (c : CopyValue) (reserved room : ℕ) → length parked + reserved < room → length (parked ++ c ∷ []) + reserved ≤ room
parked-fits parked c reserved room place = omega (arith, length-append parked (c ∷ []))

released-fits : (parked : List CopyValue) (c : CopyValue) (reserved room : ℕ) → reserved ≢ 0 → length parked + reserved ≤ room → length (parked ++ c ∷ []) + (reserved - 1) ≤ room
released-fits parked c reserved room some fits = omega (arith, length-append parked (c ∷ []), some)

record GrantWithin (n : ℕ) (g : Grant) : Type 0 where
  parent : DirWithin n g.parent
  kids : all_within_among n (nodes g.kids) ≡ true

module _ (n : ℕ) (above : Stamp) (p : DirValue) (ns : List Node) (w : DirWithin n p) (within : all_within_among n (nodes ns) ≡ true) where
  -- the parent without the first entry of its down list
  taken-within : (e : DownValue) (rest : List DownValue) → p.down ≡ e ∷ rest → DirWithin n (front_taken e.stamp rest p)
  taken-within e rest front = record { items = w.items; down = omega (arith, w.down, ap length front); requests = w.requests; replies = w.replies; parked = w.parked }

  erase_noted-within : (c x : ℕ) (exclusive : Bool) → erase_list_full above c x p ns exclusive ≡ None → DirWithin n (erase_noted above c x p ns exclusive)
  erase_noted-within c x true room = record { items = length-set p.items x _ ∙ w.items; down = pushed-fits p.down _ _ (down-place p (some_if-none (down_full p) _ room)); requests = w.requests; replies = w.replies; parked = w.parked }
  erase_noted-within c x false room = record { items = length-set p.items x _ ∙ w.items; down = w.down; requests = pushed-fits p.requests _ _ (requests-place p (some_if-none (requests_full p) _ room)); replies = w.replies; parked = w.parked }

  row-within : (t : BusTurn) (g : Grant) → Row above p ns t g → GrantWithin n g
  unfolding joins read_of_child read_of_parked read_of_parent erase_of_all reply_to_readers reply_to_parent exclusive_to erase_of_children read_by_child read_by_parked data_to_readers inject_to_reader inject_to_readers inject_to_child inject_parked out_gone leave_parked leave_to
  row-within t g (row_joins c x _ _) = record {
    parent = record { items = length-set p.items x _ ∙ w.items; down = w.down; requests = w.requests; replies = w.replies; parked = w.parked };
    kids = one n ns within c child_request_taken (child_request_taken-within n _);
  }
  row-within t g (row_read_of_child c x k _ _ _ _ room) = record {
    parent = record { items = length-set p.items x _ ∙ w.items; down = w.down; requests = w.requests; replies = w.replies; parked = w.parked };
    kids = read_from-kids n ns within c k x (stamp_of (counted p)) room;
  }
  row-within t g (row_read_of_parked c x words _ _ _ _ _ room) = record {
    parent = record { items = length-set p.items x _ ∙ w.items; down = pushed-fits p.down _ _ (down-place p (some_if-none (down_full p) _ room)); requests = w.requests; replies = w.replies; parked = omega (arith, without_copy-length x p.parked, w.parked) };
    kids = one n ns within c child_request_taken (child_request_taken-within n _);
  }
  row-within t g (row_read_of_parent c x _ _ _ room) = record {
    parent = record { items = length-set p.items x _ ∙ w.items; down = w.down; requests = pushed-fits p.requests _ _ (requests-place p (some_if-none (requests_full p) _ room)); replies = w.replies; parked = w.parked };
    kids = one n ns within c child_request_taken (child_request_taken-within n _);
  }
  row-within t g (row_erase_of_all c x _ _ room own) = record {
    parent = erase_noted-within c x (is_exclusive (dir_hold x p)) own;
    kids = erased_by-kids n ns within c x (stamp_of (counted p)) room;
  }
  row-within t g (row_reply_to_readers c x words first joined _ _ room) = record {
    parent = record { items = length-set p.items x _ ∙ w.items; down = w.down; requests = w.requests; replies = w.replies; parked = w.parked };
    kids = replied_by-kids n ns within c (local first joined) x words (stamp_of (counted p)) room;
  }
  row-within t g (row_reply_to_parent c x words _ _ _ room) = record {
    parent = record { items = length-set _ x _ ∙ (length-set p.items x _ ∙ w.items); down = w.down; requests = w.requests; replies = pushed-fits p.replies _ _ (replies-place p (some_if-none (replies_full p) _ room)); parked = w.parked };
    kids = one n ns within c child_reply_taken (child_reply_taken-within n _);
  }
  row-within t g (row_exclusive_to e rest d front _ _ room) =
      let q = taken-within e rest front in
      record {
        parent = record { items = length-set p.items e.item _ ∙ w.items; down = q.down; requests = w.requests; replies = w.replies; parked = w.parked };
        kids = one n ns within d _ (child_take_exclusive-within n e.item (stamp_of (front_taken e.stamp rest p)) _ room);
      }
  row-within t g (row_erase_of_children e rest front _ _ room) =
      let q = taken-within e rest front in
      record {
        parent = record { items = length-set p.items e.item _ ∙ w.items; down = q.down; requests = w.requests; replies = w.replies; parked = omega (arith, without_copy-length e.item p.parked, w.parked) };
        kids = loses-kids n ns within e.item (stamp_of (front_taken e.stamp rest p)) room;
      }
  row-within t g (row_read_by_child e rest k front _ _ _ room) = record {
    parent = taken-within e rest front;
    kids = one n ns within k _ (child_answer-within n e.item (stamp_of (front_taken e.stamp rest p)) _ room);
  }
  row-within t g (row_read_by_parked e rest words front _ _ _ _ room) =
      let q = taken-within e rest front in
      record {
        parent = record { items = length-set _ e.item _ ∙ (length-set p.items e.item _ ∙ w.items); down = q.down; requests = w.requests; replies = pushed-fits p.replies _ _ (replies-place p (some_if-none (replies_full p) _ room)); parked = w.parked };
        kids = within;
      }
  row-within t g (row_data_to_readers e rest first joined front _ _ room) =
      let q = taken-within e rest front in
      record {
        parent = record { items = length-set p.items e.item _ ∙ w.items; down = q.down; requests = w.requests; replies = w.replies; parked = w.parked };
        kids = reader_takes-kids n ns within (up_read first joined) e.item e.words (stamp_of (front_taken e.stamp rest p)) room;
      }
  row-within t g (row_inject_to_reader e rest d joined front _ _ _ place room) =
      let q = taken-within e rest front in
      record {
        parent = record { items = length-set p.items e.item _ ∙ w.items; down = q.down; requests = w.requests; replies = w.replies; parked = w.parked };
        kids = one n ns within d _ (child_take_inject-within n e.item e.words (stamp_of (front_taken e.stamp rest p)) _ room place);
      }
  row-within t g (row_inject_to_readers e rest first joined front _ _ _ room) =
      let q = taken-within e rest front in
      record {
        parent = record { items = length-set p.items e.item _ ∙ w.items; down = q.down; requests = w.requests; replies = w.replies; parked = w.parked };
        kids = reader_takes-kids n ns within (up_read first joined) e.item e.words (stamp_of (front_taken e.stamp rest p)) room;
      }
  row-within t g (row_inject_to_child e rest k front _ _ _ found) =
      let q = taken-within e rest front in
      let room = inject_taker-room e.item (front_taken e.stamp rest p) ns e.words k found in
      record {
        parent = record { items = w.items; down = q.down; requests = w.requests; replies = w.replies; parked = omega (arith, w.parked) };
        kids = one n ns within k _ (child_take_inject-with_room n e.item e.words (stamp_of (front_taken e.stamp rest p)) _ room);
      }
  row-within t g (row_inject_parked e rest front _ _ _ _ _ kept) =
      let q = taken-within e rest front in
      let some : p.reserved ≢ 0 = eqb-false p.reserved 0 kept in
      record {
        parent = record { items = w.items; down = q.down; requests = w.requests; replies = w.replies; parked = released-fits p.parked _ p.reserved _ some w.parked };
        kids = within;
      }
  row-within t g (row_out_gone c choice x _ _ _ _ _) = record {
    parent = record { items = w.items; down = w.down; requests = w.requests; replies = w.replies; parked = w.parked };
    kids = one n ns within c _ (child_give_up-within n x _);
  }
  row-within t g (row_out_parked c choice x _ _ _ _ _ _ _ room) = record {
    parent = record { items = w.items; down = w.down; requests = w.requests; replies = w.replies; parked = parked-fits p.parked _ p.reserved _ (parking-place p room) };
    kids = one n ns within c _ (child_give_up-within n x _);
  }
  row-within t g (row_leave_to c choice x k _ _ _ _ found) = record {
    parent = record { items = w.items; down = w.down; requests = w.requests; replies = w.replies; parked = w.parked };
    kids = passed_on-kids n ns within c k x (child_given x (child_at c ns)) (stamp_of (counted p)) (leave_taker-room c x p ns k found);
  }
  row-within t g (row_inject_up c choice x _ _ _ _ _ _ _ room) = record {
    parent = record { items = w.items; down = w.down; requests = w.requests; replies = w.replies; parked = parked-fits p.parked _ p.reserved _ (parking-place p room) };
    kids = one n ns within c _ (child_give_up-within n x _);
  }

-- ---- an outcome

pub record OutcomeWithin (n : ℕ) (o : Outcome) : Type 0 where
  pub parent : dir_within n o.parent ≡ true
  pub kids : all_within_among n (nodes o.kids) ≡ true

outcome-within : (n : ℕ) (p : DirValue) (ns : List Node) (j : Judged) → ((g : Grant) → j ≡ granted g → GrantWithin n g) → DirWithin n p → all_within_among n (nodes ns) ≡ true → OutcomeWithin n (outcome_of p ns j)
outcome-within n p ns nothing_there kept w within = record { parent = dir_within-test n p w; kids = within }
outcome-within n p ns (refused cause) kept w within = record { parent = dir_within-test n p w; kids = within }
outcome-within n p ns (granted g) kept w within =
    let k = kept g refl in
    record { parent = dir_within-test n g.parent k.parent; kids = k.kids }

pub bus_step-within : (n : ℕ) (above : Stamp) (t : BusTurn) (p : DirValue) (ns : List Node) → dir_within n p ≡ true → all_within_among n (nodes ns) ≡ true → OutcomeWithin n (bus_step above t p ns)
unfolding bus_step
bus_step-within n above t p ns parent within =
    let w = dir_within-facts n p parent in
    outcome-within n p ns (bus_judged above p ns t) (λ g e. row-within n above p ns w within t g (row-of above p ns t g e)) w within
