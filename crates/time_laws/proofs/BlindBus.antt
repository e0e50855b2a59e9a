-- One turn of a bus, row by row, over related children and over parents that differ in time alone: it comes to the same.
-- Letters: p and q are the parents, ns and ms their children, R relates them, c, d and k are child numbers, x is an item, j and o
-- are what was judged, g and h grants.
use Rattle.std.proofs.Common.{◌≡◌, ℕ, Bool, true, false, List, [], ◌∷◌, ◌++◌, map, length, Option, Some, None, refl, sym, ap, subst, ◌∙◌}
use Rattle.std.specs.Prelude.{nat_eq, nat_lt, is_some, ◌||◌, ◌&&◌, not, if◌then◌else◌}
use Rattle.std.proofs.lemmas.List.{length-map, map-append}
use Rattle.time_laws.specs.DdmTypes.declared.answers.PendingWhy.{PendingWhy}
use Rattle.time_laws.specs.DdmTypes.declared.answers.QueueName.{QueueName}
use Rattle.time_laws.specs.DdmTypes.declared.answers.BusyCause.{BusyCause}
use Rattle.time_laws.specs.DdmTypes.declared.answers.BusyCause.TheVariants.{ItemPending, NoRoom, ParkingFull, QueueFull}
use Rattle.time_laws.specs.DdmTypes.declared.answers.TxKind.{TxKind}
use Rattle.time_laws.specs.DdmTypes.declared.answers.TxKind.TheVariants.{ReadTx, DataTx, EraseTx, ExclusiveTx, InjectTx, OutTx}
use Rattle.time_laws.specs.DdmTypes.declared.sizes.Hold.{Hold}
use Rattle.time_laws.specs.DdmTypes.declared.keys.Stamp.{Stamp}
use Rattle.tree_model.specs.declared.BusTurn.{BusTurn}
use Rattle.tree_model.specs.State.Lists.{map_from, find_from, first_given, first_some}
use Rattle.tree_model.specs.State.States.{is_held, is_exclusive, is_shared}
use Rattle.tree_model.specs.State.Values.{RequestValue, CopyValue, DownValue, Note, no_note, local, up_read, up_erase, DirValue, Node}
use Rattle.tree_model.specs.State.Leaf.{blank}
use Rattle.tree_model.specs.State.Directory.{is_top, dir_hold, dir_note, is_answering, is_reader, parking_full, queue_of, queue_kinds, parked_words, is_parked, pending, front_taken, counted, stamp_of}
use Rattle.tree_model.specs.State.Child.{child_waits, child_room, child_full_for, pending_below, child_given, child_request_taken, child_reply_taken, child_give_up}
use Rattle.tree_model.specs.Turns.Grant.{Grant, Judged, Outcome, nothing_there, refused, granted, unless_full, bus_answer, outcome_of, own_down_full}
use Rattle.tree_model.specs.Turns.Children.{child_at, holds_item, other_holds, waits_with_room, has_room, other_waits, room_after, room_before, other_full, full_to_lose, reader_full, only, reader_takes}
use Rattle.tree_model.specs.Turns.RequestRead.{joins, read_of_child, read_of_parked, read_of_parent, read_held, read_granted, read_unless_pending, request_read}
use Rattle.tree_model.specs.Turns.RequestErase.{erase_noted, erase_list_full, erase_of_all, request_erase}
use Rattle.tree_model.specs.Turns.Reply.{reply_to_readers, reply_to_parent, reply_answering, reply_by_note}
use Rattle.tree_model.specs.Turns.Down.{exclusive_to, down_exclusive, erase_of_children, down_erase, read_by_child, read_by_parked, down_read, data_to_readers, down_data, inject_to_reader, inject_to_readers, inject_to_child, inject_parked, inject_to_taker, inject_to_only_reader, inject_to_read, inject_taker, down_inject, down_by_kind, down_by_note, down_turn}
use Rattle.tree_model.specs.Turns.Leave.{other_copy, out_gone, leave_parked, leave_to, leave_taker, parked_unless_full, leave_inject, leave_shared, leave_by_hold, leave_unless_pending}
use Rattle.tree_model.specs.Turns.Bus.{request_by_kind, request_turn, reply_turn, leave_turn, bus_judged, bus_step}
use Rattle.time_laws.specs.Forget.{forget_entry, forget_dir}
use Rattle.time_laws.specs.Blind.{SeenAlike}
use Rattle.time_laws.proofs.Related.{EachRelated, BlindTo, find_from-related, first_given-related, map_from-related, child_at-seen, only-related, read_from-related, erased_by-related, reader_takes-related, replied_by-related, passed_on-related}

-- ---- down lists that differ in stamps alone

pub kinds-forgotten : (x : ℕ) (down : List DownValue) → queue_kinds x (map forget_entry down) ≡ queue_kinds x down
unfolding queue_of
kinds-forgotten x [] = refl
kinds-forgotten x (e ∷ es) =
    elim (nat_eq x e.item) as (λ b. nat_eq x e.item ≡ b → queue_kinds x (map forget_entry (e ∷ es)) ≡ queue_kinds x (e ∷ es)) [
      | true ↦ λ is. rw is (ap (λ ks. e.kind ∷ ks) (kinds-forgotten x es))
      | false ↦ λ is. rw is (kinds-forgotten x es)
    ] refl

kinds-same : (x : ℕ) (down other : List DownValue) → map forget_entry down ≡ map forget_entry other → queue_kinds x down ≡ queue_kinds x other
kinds-same x down other same = sym (kinds-forgotten x down) ∙ ap (queue_kinds x) same ∙ kinds-forgotten x other

length-same : (down other : List DownValue) → map forget_entry down ≡ map forget_entry other → length down ≡ length other
length-same down other same = sym (length-map down forget_entry) ∙ ap length same ∙ length-map other forget_entry

pub pushed-same : (down other : List DownValue) (e f : DownValue) → map forget_entry down ≡ map forget_entry other → forget_entry e ≡ forget_entry f → map forget_entry (down ++ e ∷ []) ≡ map forget_entry (other ++ f ∷ [])
pushed-same down other e f same entry = map-append forget_entry down (e ∷ []) ∙ ap (λ es. es ++ forget_entry e ∷ []) same ∙ ap (λ a. map forget_entry other ++ a ∷ []) entry ∙ sym (map-append forget_entry other (f ∷ []))

pub cons-head : {A : Type 0} (a b : A) (xs ys : List A) → a ∷ xs ≡ b ∷ ys → a ≡ b
cons-head a b xs ys same = cc

pub cons-tail : {A : Type 0} (a b : A) (xs ys : List A) → a ∷ xs ≡ b ∷ ys → xs ≡ ys
cons-tail a b xs ys same = cc

first_some-same : {A : Type 0} (a b c d : Option A) → a ≡ b → c ≡ d → first_some a c ≡ first_some b d
first_some-same a b c d first second = rw (first, second) refl

abbrev stamped : Stamp → DownValue → DownValue
stamped s e = record e { stamp = s }

-- a directory at the time of another one
abbrev at_time_of : DirValue → DirValue → DirValue
at_time_of other d = record d { down = other.down; count = other.count; epoch = other.epoch }

-- ---- turns that come to the same

pub record SameTurn (R : ℕ → Node → Node → Type 0) (o u : Outcome) : Type 0 where
  pub answer : o.answer ≡ u.answer
  pub parent : forget_dir o.parent ≡ forget_dir u.parent
  pub kids : EachRelated R 0 o.kids u.kids

-- now is another stamp of the bus above
module _ (R : ℕ → Node → Node → Type 0) (blind : BlindTo R) (above now : Stamp) (ns ms : List Node) (related : EachRelated R 0 ns ms) where
  seen-at : (c : ℕ) → SeenAlike (child_at c ns) (child_at c ms)
  seen-at c = child_at-seen R blind c 0 ns ms related

  -- ---- what the turn found before it

  module _ (before other : DirValue) (bus : before.bus ≡ other.bus) (time_alone : forget_dir before ≡ forget_dir other) where
    abbrev Agree : Judged → Judged → Type 0
    Agree j o = SameTurn R (outcome_of before ns j) (outcome_of other ms o)

    nothing-agree : Agree nothing_there nothing_there
    nothing-agree = record { answer = refl; parent = time_alone; kids = related }

    refused-agree : (cause : BusyCause) → Agree (refused cause) (refused cause)
    refused-agree cause = record { answer = refl; parent = time_alone; kids = related }

    granted-agree : (g h : Grant) → ((b : ℕ) → bus_answer b (granted g) ≡ bus_answer b (granted h)) → forget_dir g.parent ≡ forget_dir h.parent → EachRelated R 0 g.kids h.kids → Agree (granted g) (granted h)
    granted-agree g h said parent kids = record { answer = said before.bus ∙ ap (λ b. bus_answer b (granted h)) bus; parent = parent; kids = kids }

    -- at a value that both found
    at-same : {A : Type 0} (F G : A → Judged) (a b : A) → a ≡ b → ((z : A) → Agree (F z) (G z)) → Agree (F a) (G b)
    at-same F G a b same agree = subst (λ z. Agree (F a) (G z)) same (agree a)

    cond-agree : (b : Bool) (j k l o : Judged) → Agree j l → Agree k o → Agree (if b then j else k) (if b then l else o)
    cond-agree true j k l o first second = first
    cond-agree false j k l o first second = second

    by_list : (l : Option QueueName) (g h : Grant) → Agree (granted g) (granted h) → Agree (unless_full l g) (unless_full l h)
    unfolding unless_full
    by_list None g h grants = grants
    by_list (Some list) g h grants = refused-agree (QueueFull list)

    unless_full-agree : (l o : Option QueueName) (g h : Grant) → l ≡ o → Agree (granted g) (granted h) → Agree (unless_full l g) (unless_full o h)
    unless_full-agree l o g h same grants = at-same (λ z. unless_full z g) (λ z. unless_full z h) l o same (λ z. by_list z g h grants)

    -- ---- what it is about: the parent p, and q, which differs from it in time alone

    module _ (p : DirValue) (count : ℕ) (epoch : Stamp) (down : List DownValue) (same : map forget_entry p.down ≡ map forget_entry down) where
      abbrev q : DirValue
      q = record p { down = down; count = count; epoch = epoch }

      pending-same : (x : ℕ) → pending x p ≡ pending x q
      unfolding pending
      pending-same x = rw (kinds-same x p.down down same) refl

      own_down-same : own_down_full p ≡ own_down_full q
      own_down-same = rw (length-same p.down down same) refl

      one-related : (c : ℕ) (f g : Node → Node) → ((i : ℕ) (n m : Node) → R i n m → R i (f n) (g m)) → EachRelated R 0 (map_from (only c f) 0 ns) (map_from (only c g) 0 ms)
      one-related c f g told = map_from-related R _ _ (λ i n m r. only-related R blind i n m r c f g (told i n m r)) 0 ns ms related

      found-same : (t : ℕ → Node → Bool) → ((i : ℕ) (n m : Node) → R i n m → t i n ≡ t i m) → find_from t 0 ns ≡ find_from t 0 ms
      found-same t each = find_from-related R t each 0 ns ms related

      other_holds-same : (c x : ℕ) → find_from (other_holds c x) 0 ns ≡ find_from (other_holds c x) 0 ms
      other_holds-same c x = found-same (other_holds c x) (λ i n m r. ap (λ h. not (nat_eq i c) && is_held h) ((blind.seen i n m r).hold x))

      reader_full-same : (note : Note) (x : ℕ) → first_given (reader_full note x) 0 ns ≡ first_given (reader_full note x) 0 ms
      reader_full-same note x = first_given-related R (reader_full note x) (λ i n m r. ap (λ l. if is_reader note i then l else None) ((blind.seen i n m r).full DataTx x)) 0 ns ms related

      -- ---- a request to read

      module _ (c x : ℕ) where
        joins-agree : Agree (granted (joins c x p ns)) (granted (joins c x q ms))
        unfolding joins
        joins-agree = granted-agree _ _ (λ b. refl) (rw same refl) (one-related c child_request_taken child_request_taken blind.request_taken)

        read_of_child-agree : (k : ℕ) → Agree (granted (read_of_child c x p ns k)) (granted (read_of_child c x q ms k))
        unfolding read_of_child
        read_of_child-agree k =
            granted-agree _ _ (λ b. refl) (rw same refl) (map_from-related R _ _ (λ i n m r. read_from-related R blind i n m r c k x (stamp_of (counted p)) (stamp_of (counted q))) 0 ns ms related)

        read_of_parked-agree : (words : List ℕ) → Agree (granted (read_of_parked c x p ns above words)) (granted (read_of_parked c x q ms now words))
        unfolding read_of_parked
        read_of_parked-agree words =
            let pushed = pushed-same p.down down (record { kind = DataTx; item = x; words = words; stamp = above }) (record { kind = DataTx; item = x; words = words; stamp = now }) same refl in
            granted-agree _ _ (λ b. refl) (rw pushed refl) (one-related c child_request_taken child_request_taken blind.request_taken)

        read_of_parent-agree : Agree (granted (read_of_parent c x p ns)) (granted (read_of_parent c x q ms))
        unfolding read_of_parent
        read_of_parent-agree = granted-agree _ _ (λ b. refl) (rw same refl) (one-related c child_request_taken child_request_taken blind.request_taken)

        read_held-agree : (k : Option ℕ) (parked : Option (List ℕ)) → Agree (read_held c x p ns above k parked) (read_held c x q ms now k parked)
        read_held-agree (Some k) parked = unless_full-agree _ _ _ _ ((seen-at k).full ReadTx x) (read_of_child-agree k)
        read_held-agree None (Some words) = unless_full-agree _ _ _ _ own_down-same (read_of_parked-agree words)
        read_held-agree None None = nothing-agree

        read_granted-agree : (held : Bool) → Agree (read_granted c x p ns above held) (read_granted c x q ms now held)
        read_granted-agree true = at-same (λ k. read_held c x p ns above k (parked_words x p)) (λ k. read_held c x q ms now k (parked_words x p)) _ _ (other_holds-same c x) (λ k. read_held-agree k (parked_words x p))
        read_granted-agree false = unless_full-agree _ _ _ _ refl read_of_parent-agree

        read_unless_pending-agree : (why : Option PendingWhy) → Agree (read_unless_pending c x p ns above why) (read_unless_pending c x q ms now why)
        read_unless_pending-agree (Some why) = refused-agree (ItemPending p.bus x why)
        read_unless_pending-agree None = read_granted-agree (is_held (dir_hold x p))

        by_pending : Agree (read_unless_pending c x p ns above (pending x p)) (read_unless_pending c x q ms now (pending x q))
        by_pending = at-same (read_unless_pending c x p ns above) (read_unless_pending c x q ms now) _ _ (pending-same x) read_unless_pending-agree

        request_read-agree : (note : Note) → Agree (request_read c x p ns above note) (request_read c x q ms now note)
        request_read-agree (local first joined) = joins-agree
        request_read-agree (up_read first joined) = joins-agree
        request_read-agree no_note = by_pending
        request_read-agree (up_erase d) = by_pending

        -- ---- a request to erase

        erase_noted-same : (exclusive : Bool) → forget_dir (erase_noted above c x p ns exclusive) ≡ forget_dir (erase_noted now c x q ms exclusive)
        erase_noted-same true =
            let pushed = pushed-same p.down down (record { kind = ExclusiveTx; item = x; words = blank p.sizes.width; stamp = above }) (record { kind = ExclusiveTx; item = x; words = blank p.sizes.width; stamp = now }) same refl in
            rw pushed refl
        erase_noted-same false = rw same refl

        erase_list_full-same : (exclusive : Bool) → erase_list_full above c x p ns exclusive ≡ erase_list_full now c x q ms exclusive
        erase_list_full-same true = own_down-same
        erase_list_full-same false = refl

        erase_of_all-agree : Agree (granted (erase_of_all above c x p ns)) (granted (erase_of_all now c x q ms))
        unfolding erase_of_all
        erase_of_all-agree =
            granted-agree _ _ (λ b. refl) (erase_noted-same (is_exclusive (dir_hold x p))) (map_from-related R _ _ (λ i n m r. erased_by-related R blind i n m r c x (stamp_of (counted p)) (stamp_of (counted q))) 0 ns ms related)

        other_full-same : first_given (other_full c x) 0 ns ≡ first_given (other_full c x) 0 ms
        other_full-same = first_given-related R (other_full c x) (λ i n m r. ap (λ l. if nat_eq i c then None else l) ((blind.seen i n m r).full EraseTx x)) 0 ns ms related

        request_erase-agree : (why : Option PendingWhy) → Agree (request_erase above c x p ns why) (request_erase now c x q ms why)
        request_erase-agree (Some why) = refused-agree (ItemPending p.bus x why)
        request_erase-agree None = unless_full-agree _ _ _ _ (first_some-same _ _ _ _ other_full-same (erase_list_full-same (is_exclusive (dir_hold x p)))) erase_of_all-agree

        request_by_kind-agree : (kind : TxKind) → Agree (request_by_kind above p ns c x kind) (request_by_kind now q ms c x kind)
        request_by_kind-agree ReadTx = request_read-agree (dir_note x p)
        request_by_kind-agree DataTx = nothing-agree
        request_by_kind-agree EraseTx = at-same (request_erase above c x p ns) (request_erase now c x q ms) _ _ (pending-same x) request_erase-agree
        request_by_kind-agree ExclusiveTx = nothing-agree
        request_by_kind-agree InjectTx = nothing-agree
        request_by_kind-agree OutTx = nothing-agree

        -- ---- a reply

        module _ (words : List ℕ) where
          reply_to_readers-agree : (first joined : ℕ) → Agree (granted (reply_to_readers c x words p ns first joined)) (granted (reply_to_readers c x words q ms first joined))
          unfolding reply_to_readers
          reply_to_readers-agree first joined =
              granted-agree _ _ (λ b. refl) (rw same refl) (map_from-related R _ _ (replied_by-related R blind c (local first joined) x words (stamp_of (counted p)) (stamp_of (counted q))) 0 ns ms related)

          reply_to_parent-agree : Agree (granted (reply_to_parent c x words p ns)) (granted (reply_to_parent c x words q ms))
          unfolding reply_to_parent
          reply_to_parent-agree = granted-agree _ _ (λ b. refl) (rw same refl) (one-related c child_reply_taken child_reply_taken blind.reply_taken)

          reply_answering-agree : (answering : Bool) → Agree (reply_answering c x words p ns answering) (reply_answering c x words q ms answering)
          reply_answering-agree true = unless_full-agree _ _ _ _ refl reply_to_parent-agree
          reply_answering-agree false = nothing-agree

          reply_by_note-agree : (note : Note) → Agree (reply_by_note c x words p ns note) (reply_by_note c x words q ms note)
          reply_by_note-agree (local first joined) = unless_full-agree _ _ _ _ (reader_full-same (local first joined) x) (reply_to_readers-agree first joined)
          reply_by_note-agree no_note = reply_answering-agree (is_answering x p)
          reply_by_note-agree (up_read first joined) = reply_answering-agree (is_answering x p)
          reply_by_note-agree (up_erase d) = reply_answering-agree (is_answering x p)

        -- ---- a copy that leaves

        given-same : child_given x (child_at c ns) ≡ child_given x (child_at c ms)
        given-same = (seen-at c).given x

        other_copy-same : other_copy c x p ns ≡ other_copy c x q ms
        other_copy-same = ap (λ o. is_some o || is_parked x p) (other_holds-same c x)

        out_gone-agree : Agree (granted (out_gone c x p ns)) (granted (out_gone c x q ms))
        unfolding out_gone
        out_gone-agree = granted-agree _ _ (λ b. refl) (rw same refl) (one-related c (child_give_up x) (child_give_up x) (blind.give_up x))

        leave_parked-agree : (kind : TxKind) → Agree (granted (leave_parked c x p ns kind)) (granted (leave_parked c x q ms kind))
        unfolding leave_parked
        leave_parked-agree kind = granted-agree _ _ (λ b. refl) (rw (same, given-same) refl) (one-related c (child_give_up x) (child_give_up x) (blind.give_up x))

        leave_to-agree : (k : ℕ) → Agree (granted (leave_to c x p ns k)) (granted (leave_to c x q ms k))
        unfolding leave_to
        leave_to-agree k =
            granted-agree _ _ (λ b. refl) (rw same refl) (
            rw given-same (map_from-related R _ _ (λ i n m r. passed_on-related R blind i n m r c k x (child_given x (child_at c ms)) (stamp_of (counted p)) (stamp_of (counted q))) 0 ns ms related))

        leave_taker-same : leave_taker c x p ns ≡ leave_taker c x q ms
        leave_taker-same = first_some-same _ _ _ _ waits (first_some-same _ _ _ _ behind before_it)
          where
            waits : find_from (other_waits c x) 0 ns ≡ find_from (other_waits c x) 0 ms
            waits = found-same (other_waits c x) (λ i n m r. let seen = blind.seen i n m r in ap (λ b. not (nat_eq i c) && (b && child_room x n)) (seen.waits x) ∙ ap (λ b. not (nat_eq i c) && (child_waits x m && b)) (seen.room x))

            behind : find_from (room_after c x) 0 ns ≡ find_from (room_after c x) 0 ms
            behind = found-same (room_after c x) (λ i n m r. ap (λ b. nat_lt c i && b) ((blind.seen i n m r).room x))

            before_it : find_from (room_before (is_top p) c x) 0 ns ≡ find_from (room_before (is_top p) c x) 0 ms
            before_it = found-same (room_before (is_top p) c x) (λ i n m r. ap (λ b. is_top p && (nat_lt i c && b)) ((blind.seen i n m r).room x))

        parked_unless_full-agree : (kind : TxKind) → Agree (parked_unless_full c x p ns kind) (parked_unless_full c x q ms kind)
        parked_unless_full-agree kind =
            cond-agree (is_parked x p) _ _ _ _ nothing-agree (cond-agree (parking_full p) _ _ _ _ (refused-agree (ParkingFull p.bus)) (leave_parked-agree kind))

        leave_inject-agree : (k : Option ℕ) → Agree (leave_inject c x p ns k) (leave_inject c x q ms k)
        leave_inject-agree (Some k) = leave_to-agree k
        leave_inject-agree None = cond-agree (is_top p) _ _ _ _ (refused-agree (NoRoom x)) (parked_unless_full-agree InjectTx)

        injected : Agree (leave_inject c x p ns (leave_taker c x p ns)) (leave_inject c x q ms (leave_taker c x q ms))
        injected = at-same (leave_inject c x p ns) (leave_inject c x q ms) _ _ leave_taker-same leave_inject-agree

        leave_shared-agree : (other_one shared : Bool) → Agree (leave_shared c x p ns other_one shared) (leave_shared c x q ms other_one shared)
        leave_shared-agree true shared = out_gone-agree
        leave_shared-agree false true = parked_unless_full-agree OutTx
        leave_shared-agree false false = injected

        leave_by_hold-agree : (h : Hold) → Agree (leave_by_hold c x p ns h) (leave_by_hold c x q ms h)
        leave_by_hold-agree Hold.Invalid = injected
        leave_by_hold-agree Hold.Shared =
            at-same (λ b. leave_shared c x p ns b (is_shared (dir_hold x p))) (λ b. leave_shared c x q ms b (is_shared (dir_hold x p))) _ _ other_copy-same (λ b. leave_shared-agree b (is_shared (dir_hold x p)))
        leave_by_hold-agree Hold.Exclusive = injected

        leave_unless_pending-agree : (why : Option PendingWhy) (below : Option (ℕ × PendingWhy)) → Agree (leave_unless_pending c x p ns why below) (leave_unless_pending c x q ms why below)
        leave_unless_pending-agree (Some why) below = refused-agree (ItemPending p.bus x why)
        leave_unless_pending-agree None (Some w) = refused-agree (ItemPending w.0 x w.1)
        leave_unless_pending-agree None None = at-same (leave_by_hold c x p ns) (leave_by_hold c x q ms) _ _ ((seen-at c).hold x) leave_by_hold-agree

      request_turn-agree : (c : ℕ) (r : Option RequestValue) → Agree (request_turn above p ns c r) (request_turn now q ms c r)
      request_turn-agree c None = nothing-agree
      request_turn-agree c (Some r) = request_by_kind-agree c r.item r.kind

      reply_turn-agree : (c : ℕ) (r : Option CopyValue) → Agree (reply_turn above p ns c r) (reply_turn now q ms c r)
      reply_turn-agree c None = nothing-agree
      reply_turn-agree c (Some r) = reply_by_note-agree c r.item r.words (dir_note r.item p)

      leave_turn-agree : (c : ℕ) (o : Option ℕ) → Agree (leave_turn above p ns c o) (leave_turn now q ms c o)
      leave_turn-agree c None = nothing-agree
      leave_turn-agree c (Some x) =
          at-same (λ why. leave_unless_pending c x p ns why (pending_below x (child_at c ns))) (λ why. leave_unless_pending c x q ms why (pending_below x (child_at c ms))) _ _ (pending-same x)
          (λ why. at-same (leave_unless_pending c x p ns why) (leave_unless_pending c x q ms why) _ _ ((seen-at c).below x) (leave_unless_pending-agree c x why))

      -- ---- an entry of the down list, taken off p and q

      module _ (x : ℕ) where
        exclusive_to-agree : (d : ℕ) → Agree (granted (exclusive_to x p ns d)) (granted (exclusive_to x q ms d))
        unfolding exclusive_to
        exclusive_to-agree d = granted-agree _ _ (λ b. refl) (rw same refl) (one-related d _ _ (blind.take_exclusive x (stamp_of p) (stamp_of q)))

        down_exclusive-agree : (note : Note) → Agree (down_exclusive x p ns note) (down_exclusive x q ms note)
        down_exclusive-agree (up_erase d) = unless_full-agree _ _ _ _ ((seen-at d).full ExclusiveTx x) (exclusive_to-agree d)
        down_exclusive-agree no_note = nothing-agree
        down_exclusive-agree (local first joined) = nothing-agree
        down_exclusive-agree (up_read first joined) = nothing-agree

        erase_of_children-agree : Agree (granted (erase_of_children x p ns)) (granted (erase_of_children x q ms))
        unfolding erase_of_children
        erase_of_children-agree = granted-agree _ _ (λ b. refl) (rw same refl) (map_from-related R _ _ (blind.lose x (stamp_of p) (stamp_of q)) 0 ns ms related)

        down_erase-agree : Agree (down_erase x p ns) (down_erase x q ms)
        down_erase-agree = unless_full-agree _ _ _ _ (first_given-related R (full_to_lose x) (λ i n m r. (blind.seen i n m r).full EraseTx x) 0 ns ms related) erase_of_children-agree

        read_by_child-agree : (k : ℕ) → Agree (granted (read_by_child x p ns k)) (granted (read_by_child x q ms k))
        unfolding read_by_child
        read_by_child-agree k = granted-agree _ _ (λ b. refl) (rw same refl) (one-related k _ _ (blind.answer x (stamp_of p) (stamp_of q)))

        read_by_parked-agree : (words : List ℕ) → Agree (granted (read_by_parked x p ns words)) (granted (read_by_parked x q ms words))
        unfolding read_by_parked
        read_by_parked-agree words = granted-agree _ _ (λ b. refl) (rw same refl) related

        down_read-agree : (k : Option ℕ) (parked : Option (List ℕ)) → Agree (down_read x p ns k parked) (down_read x q ms k parked)
        down_read-agree (Some k) parked = unless_full-agree _ _ _ _ ((seen-at k).full ReadTx x) (read_by_child-agree k)
        down_read-agree None (Some words) = unless_full-agree _ _ _ _ refl (read_by_parked-agree words)
        down_read-agree None None = nothing-agree

        module _ (words : List ℕ) where
          to_readers : (note : Note) → EachRelated R 0 (map_from (reader_takes note x words (stamp_of p)) 0 ns) (map_from (reader_takes note x words (stamp_of q)) 0 ms)
          to_readers note = map_from-related R _ _ (λ i n m r. reader_takes-related R blind i n m r note x words (stamp_of p) (stamp_of q)) 0 ns ms related

          data_to_readers-agree : (first joined : ℕ) → Agree (granted (data_to_readers x p ns words first joined)) (granted (data_to_readers x q ms words first joined))
          unfolding data_to_readers
          data_to_readers-agree first joined = granted-agree _ _ (λ b. refl) (rw same refl) (to_readers (up_read first joined))

          down_data-agree : (note : Note) → Agree (down_data x p ns words note) (down_data x q ms words note)
          down_data-agree (up_read first joined) = unless_full-agree _ _ _ _ (reader_full-same (up_read first joined) x) (data_to_readers-agree first joined)
          down_data-agree no_note = nothing-agree
          down_data-agree (local first joined) = nothing-agree
          down_data-agree (up_erase d) = nothing-agree

          inject_to_reader-agree : (d : ℕ) → Agree (granted (inject_to_reader x p ns words d)) (granted (inject_to_reader x q ms words d))
          unfolding inject_to_reader
          inject_to_reader-agree d = granted-agree _ _ (λ b. refl) (rw same refl) (one-related d _ _ (blind.take_inject x words (stamp_of p) (stamp_of q)))

          inject_to_readers-agree : (first joined : ℕ) → Agree (granted (inject_to_readers x p ns words first joined)) (granted (inject_to_readers x q ms words first joined))
          unfolding inject_to_readers
          inject_to_readers-agree first joined = granted-agree _ _ (λ b. refl) (rw same refl) (to_readers (up_read first joined))

          inject_to_child-agree : (k : ℕ) → Agree (granted (inject_to_child x p ns words k)) (granted (inject_to_child x q ms words k))
          unfolding inject_to_child
          inject_to_child-agree k = granted-agree _ _ (λ b. refl) (rw same refl) (one-related k _ _ (blind.take_inject x words (stamp_of p) (stamp_of q)))

          inject_parked-agree : Agree (granted (inject_parked x p ns words)) (granted (inject_parked x q ms words))
          unfolding inject_parked
          inject_parked-agree = granted-agree _ _ (λ b. refl) (rw same refl) related

          inject_to_taker-agree : (k : Option ℕ) → Agree (inject_to_taker x p ns words k) (inject_to_taker x q ms words k)
          inject_to_taker-agree (Some k) = inject_to_child-agree k
          inject_to_taker-agree None = cond-agree (is_parked x p) _ _ _ _ nothing-agree (cond-agree (nat_eq p.reserved 0) _ _ _ _ nothing-agree inject_parked-agree)

          inject_to_only_reader-agree : (d : ℕ) → Agree (inject_to_only_reader x p ns words d) (inject_to_only_reader x q ms words d)
          inject_to_only_reader-agree d =
              at-same (λ b. if b then unless_full (child_full_for InjectTx x (child_at d ns)) (inject_to_reader x p ns words d) else nothing_there) (λ b. if b then unless_full (child_full_for InjectTx x (child_at d ms)) (inject_to_reader x q ms words d) else nothing_there) _ _
              ((seen-at d).reader_place x) (λ b. cond-agree b _ _ _ _ (unless_full-agree _ _ _ _ ((seen-at d).full InjectTx x) (inject_to_reader-agree d)) nothing-agree)

          inject_to_read-agree : (first joined : ℕ) → Agree (inject_to_read x p ns words first joined) (inject_to_read x q ms words first joined)
          inject_to_read-agree first joined =
              cond-agree (nat_eq joined 0) _ _ _ _ (inject_to_only_reader-agree first) (unless_full-agree _ _ _ _ (reader_full-same (up_read first joined) x) (inject_to_readers-agree first joined))

          inject_taker-same : inject_taker x p ns words ≡ inject_taker x q ms words
          inject_taker-same =
              first_some-same _ _ _ _ (found-same (waits_with_room x) (λ i n m r. let seen = blind.seen i n m r in ap (λ b. b && child_room x n) (seen.waits x) ∙ ap (λ b. child_waits x m && b) (seen.room x))) (found-same (has_room x) (λ i n m r. (blind.seen i n m r).room x))

          nobody_reads : Agree (inject_to_taker x p ns words (inject_taker x p ns words)) (inject_to_taker x q ms words (inject_taker x q ms words))
          nobody_reads = at-same (inject_to_taker x p ns words) (inject_to_taker x q ms words) _ _ inject_taker-same inject_to_taker-agree

          down_inject-agree : (note : Note) → Agree (down_inject x p ns words note) (down_inject x q ms words note)
          down_inject-agree (up_read first joined) = inject_to_read-agree first joined
          down_inject-agree no_note = nobody_reads
          down_inject-agree (local first joined) = nobody_reads
          down_inject-agree (up_erase d) = nobody_reads

          down_by_kind-agree : (kind : TxKind) → Agree (down_by_kind x p ns words kind) (down_by_kind x q ms words kind)
          down_by_kind-agree ReadTx =
              at-same (λ k. down_read x p ns k (parked_words x p)) (λ k. down_read x q ms k (parked_words x p)) _ _ (found-same (holds_item x) (λ i n m r. ap is_held ((blind.seen i n m r).hold x))) (λ k. down_read-agree k (parked_words x p))
          down_by_kind-agree DataTx = down_data-agree (dir_note x p)
          down_by_kind-agree EraseTx = down_erase-agree
          down_by_kind-agree ExclusiveTx = down_exclusive-agree (dir_note x p)
          down_by_kind-agree InjectTx = down_inject-agree (dir_note x p)
          down_by_kind-agree OutTx = nothing-agree

          down_by_note-agree : (kind : TxKind) (note : Note) → Agree (down_by_note x p ns words kind note) (down_by_note x q ms words kind note)
          down_by_note-agree kind (local first joined) = refused-agree (ItemPending p.bus x (PendingWhy.Local first))
          down_by_note-agree kind no_note = down_by_kind-agree kind
          down_by_note-agree kind (up_read first joined) = down_by_kind-agree kind
          down_by_note-agree kind (up_erase d) = down_by_kind-agree kind

  -- ---- a turn

  module _ (p : DirValue) (count : ℕ) (epoch : Stamp) (down : List DownValue) (same : map forget_entry p.down ≡ map forget_entry down) where
    abbrev late : DirValue
    late = record p { down = down; count = count; epoch = epoch }

    time_alone : forget_dir p ≡ forget_dir late
    time_alone = rw same refl

    abbrev Agrees : Judged → Judged → Type 0
    Agrees j o = SameTurn R (outcome_of p ns j) (outcome_of late ms o)

    front-agree : (e : DownValue) (s : Stamp) (rest later : List DownValue) → map forget_entry rest ≡ map forget_entry later → Agrees (down_turn p ns (e ∷ rest)) (down_turn late ms (stamped s e ∷ later))
    front-agree e s rest later rests =
        let taken = front_taken s later late in
        down_by_note-agree p late refl time_alone (front_taken e.stamp rest p) taken.count taken.epoch later rests e.item e.words e.kind (dir_note e.item p)

    down_turn-agree : (es fs : List DownValue) → map forget_entry es ≡ map forget_entry fs → Agrees (down_turn p ns es) (down_turn late ms fs)
    down_turn-agree [] [] lists = nothing-agree p late refl time_alone
    down_turn-agree [] (f ∷ fs) lists = cc
    down_turn-agree (e ∷ es) [] lists = cc
    down_turn-agree (e ∷ es) (f ∷ fs) lists =
        let entry : stamped f.stamp e ≡ f = ap (stamped f.stamp) (cons-head (forget_entry e) (forget_entry f) _ _ lists) in
        subst (λ a. Agrees (down_turn p ns (e ∷ es)) (down_turn late ms (a ∷ fs))) entry (front-agree e f.stamp es fs (cons-tail (forget_entry e) (forget_entry f) _ _ lists))

    judged-agree : (t : BusTurn) → Agrees (bus_judged above p ns t) (bus_judged now late ms t)
    judged-agree BusTurn.Down = down_turn-agree p.down down same
    judged-agree (BusTurn.Request c) =
        at-same p late refl time_alone (request_turn above p ns c) (request_turn now late ms c) _ _ (seen-at c).request (request_turn-agree p late refl time_alone p count epoch down same c)
    judged-agree (BusTurn.Reply c) =
        at-same p late refl time_alone (reply_turn above p ns c) (reply_turn now late ms c) _ _ (seen-at c).reply (reply_turn-agree p late refl time_alone p count epoch down same c)
    judged-agree (BusTurn.Leave c choice) =
        at-same p late refl time_alone (leave_turn above p ns c) (leave_turn now late ms c) _ _ ((seen-at c).leaving choice) (leave_turn-agree p late refl time_alone p count epoch down same c)

  pub bus_step-blind : (t : BusTurn) (p other : DirValue) → forget_dir p ≡ forget_dir other → SameTurn R (bus_step above t p ns) (bus_step now t other ms)
  unfolding bus_step
  bus_step-blind t p other same =
      let late : at_time_of other p ≡ other = ap (at_time_of other) same in
      subst (λ d. SameTurn R (outcome_of p ns (bus_judged above p ns t)) (outcome_of d ms (bus_judged now d ms t))) late (judged-agree p other.count other.epoch other.down (ap (λ d. d.down) same) t)
