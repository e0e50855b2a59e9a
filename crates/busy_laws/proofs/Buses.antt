-- A turn of a bus is refused exactly for the first of its reasons.
-- Letters: p is the parent, q is it after the first entry was taken from its down list, ns are the children, c and k child numbers,
-- x is an item.
use Rattle.std.proofs.Common.{◌≡◌, ℕ, Bool, true, false, not, nat_eq, List, [], ◌∷◌, Option, Some, None, refl, sym, ap, ◌∙◌}
use Rattle.std.specs.Prelude.{is_some, option_map, if◌then◌else◌}
use Rattle.busy_laws.specs.DdmTypes.declared.answers.TxKind.{TxKind}
use Rattle.busy_laws.specs.DdmTypes.declared.answers.TxKind.TheVariants.{ReadTx, DataTx, EraseTx, ExclusiveTx, InjectTx, OutTx}
use Rattle.busy_laws.specs.DdmTypes.declared.answers.PendingWhy.{PendingWhy}
use Rattle.busy_laws.specs.DdmTypes.declared.answers.QueueName.{QueueName}
use Rattle.busy_laws.specs.DdmTypes.declared.answers.BusyCause.{BusyCause}
use Rattle.busy_laws.specs.DdmTypes.declared.keys.Stamp.{Stamp}
use Rattle.busy_laws.specs.DdmTypes.declared.sizes.Hold.{Hold}
use Rattle.tree_model.specs.declared.BusTurn.{BusTurn}
use Rattle.tree_model.specs.State.Lists.{find_from, first_of, first_some, first_given, has_some, some_if}
use Rattle.tree_model.specs.State.States.{is_held, is_exclusive, is_shared}
use Rattle.tree_model.specs.State.Values.{RequestValue, CopyValue, DownValue, Note, no_note, local, up_read, up_erase, DirValue, Node, leaf_node, dir_node}
use Rattle.tree_model.specs.State.Leaf.{words_of_item}
use Rattle.tree_model.specs.State.Directory.{is_top, dir_hold, dir_note, is_answering, is_reader, is_parked, down_full, requests_full, replies_full, parking_full, pending, front_taken}
use Rattle.tree_model.specs.State.Child.{reader_has_place, child_full_for, child_hold, child_request, child_reply, child_leaving, pending_below}
use Rattle.tree_model.specs.Turns.Children.{child_at, holds_item, other_holds, other_full, full_to_lose, reader_full}
use Rattle.tree_model.specs.Turns.Grant.{Grant, Judged, nothing_there, refused, granted, unless_full}
use Rattle.tree_model.specs.Turns.RequestRead.{read_held, read_granted, read_unless_pending, request_read, read_of_child, read_of_parked, read_of_parent}
use Rattle.tree_model.specs.Turns.RequestErase.{request_erase, erase_list_full, erase_of_all}
use Rattle.tree_model.specs.Turns.Reply.{reply_answering, reply_by_note, reply_to_parent, reply_to_readers}
use Rattle.tree_model.specs.Turns.Down.{down_exclusive, down_read, down_data, down_inject, inject_parked, inject_to_parking, inject_to_taker, inject_taker, inject_to_only_reader, inject_to_reader, inject_to_readers, down_by_kind, down_by_note, down_turn, exclusive_to, erase_of_children, read_by_child, read_by_parked, data_to_readers}
use Rattle.tree_model.specs.Turns.Leave.{other_copy, leave_taker, leave_parked, parked_unless_full, leave_inject, leave_shared, leave_by_hold, leave_unless_pending}
use Rattle.tree_model.specs.Turns.Bus.{request_by_kind, request_turn, reply_turn, leave_turn, bus_judged}
use Rattle.busy_laws.specs.Reasons.{Needed, down_of, requests_of, replies_of, pending_under, first_full, told, told_each, readers_told, answered_by, read_needs, erase_needs, reply_needs, data_needs, exclusive_needs, inject_needs, down_needs, parking_reason, inject_reason, shared_reason, place_reason, read_reason, request_reason, down_reason, leave_reason, bus_reason}
use Rattle.busy_laws.proofs.Lists.{full_list, full-first, one-list, told-is, full-append, each-told}

-- the cause of what was judged
abbrev pub cause_of : Judged → Option BusyCause
cause_of nothing_there = None
cause_of (refused cause) = Some cause
cause_of (granted g) = None

unless : (o : Option QueueName) (g : Grant) → cause_of (unless_full o g) ≡ full_list o
unfolding unless_full
unless None g = refl
unless (Some list) g = refl

module _ (p : DirValue) (ns : List Node) where
  readers : (note : Note) (x : ℕ) → first_full (readers_told p ns note x) ≡ full_list (first_given (reader_full note x) 0 ns)
  readers note x = each-told (is_reader note) DataTx x (reader_full note x) (λ i n. refl) 0 ns

  -- ---- requests

  module _ (above : Stamp) (c x : ℕ) where
    abbrev pend : Option PendingWhy → Option BusyCause
    pend o = option_map (λ why. BusyCause.ItemPending p.bus x why) o

    held-read : (k : Option ℕ) (copies : List (List ℕ)) → cause_of (read_held c x p ns above k (first_of copies)) ≡ first_full (answered_by p ns x k (has_some copies) (down_of p))
    held-read (Some k) copies = unless (child_full_for ReadTx x (child_at k ns)) (read_of_child c x p ns k) ∙ sym (told-is ReadTx x (child_at k ns))
    held-read None [] = refl
    held-read None (words ∷ rest) = unless (some_if (down_full p) (QueueName.Down p.bus)) (read_of_parked c x p ns above words) ∙ sym (one-list (down_full p) (QueueName.Down p.bus))

    granted-read : (held : Bool) → cause_of (read_granted c x p ns above held) ≡ first_full (if held then answered_by p ns x (find_from (other_holds c x) 0 ns) (is_parked x p) (down_of p) else requests_of p ∷ [])
    granted-read true = held-read (find_from (other_holds c x) 0 ns) (words_of_item x p.parked)
    granted-read false = unless (some_if (requests_full p) (QueueName.Requests p.bus)) (read_of_parent c x p ns) ∙ sym (one-list (requests_full p) (QueueName.Requests p.bus))

    idle-read : (o : Option PendingWhy) → cause_of (read_unless_pending c x p ns above o) ≡ first_some (pend o) (first_full (read_needs p ns c x))
    idle-read (Some why) = refl
    idle-read None = granted-read (is_held (dir_hold x p))

    read-caused : (note : Note) → dir_note x p ≡ note → cause_of (request_read c x p ns above note) ≡ read_reason p ns c x
    read-caused no_note e = rw e (idle-read (pending x p))
    read-caused (local first joined) e = rw e refl
    read-caused (up_read first joined) e = rw e refl
    read-caused (up_erase k) e = rw e (idle-read (pending x p))

    own-erase : (b : Bool) → first_full ((if b then down_of p else requests_of p) ∷ []) ≡ full_list (erase_list_full above c x p ns b)
    own-erase true = one-list (down_full p) (QueueName.Down p.bus)
    own-erase false = one-list (requests_full p) (QueueName.Requests p.bus)

    others-lose : (i : ℕ) (n : Node) → other_full c x i n ≡ (if not (nat_eq i c) then child_full_for EraseTx x n else None)
    others-lose i n = by_test (nat_eq i c) where
      by_test : (b : Bool) → (if b then None else child_full_for EraseTx x n) ≡ (if not b then child_full_for EraseTx x n else None)
      by_test true = refl
      by_test false = refl

    erase-caused : (o : Option PendingWhy) → cause_of (request_erase above c x p ns o) ≡ first_some (pend o) (first_full (erase_needs p ns c x))
    erase-caused (Some why) = refl
    erase-caused None =
        let others = first_given (other_full c x) 0 ns in
        let own = erase_list_full above c x p ns (is_exclusive (dir_hold x p)) in
        let told_others = told_each (λ i. not (nat_eq i c)) EraseTx x 0 ns in
        let own_needed : List Needed = (if is_exclusive (dir_hold x p) then down_of p else requests_of p) ∷ [] in
        unless (first_some others own) (erase_of_all above c x p ns)
        ∙ full-first others own
        ∙ ap (λ o. first_some o (full_list own)) (sym (each-told (λ i. not (nat_eq i c)) EraseTx x (other_full c x) others-lose 0 ns))
        ∙ ap (first_some (first_full told_others)) (sym (own-erase (is_exclusive (dir_hold x p))))
        ∙ sym (full-append told_others own_needed)

    request-caused : (kind : TxKind) → cause_of (request_by_kind above p ns c x kind) ≡ request_reason p ns c x kind
    request-caused ReadTx = read-caused (dir_note x p) refl
    request-caused DataTx = refl
    request-caused EraseTx = erase-caused (pending x p)
    request-caused ExclusiveTx = refl
    request-caused InjectTx = refl
    request-caused OutTx = refl

  -- ---- replies

  module _ (c x : ℕ) (words : List ℕ) where
    answering : (b : Bool) → cause_of (reply_answering c x words p ns b) ≡ first_full (if b then replies_of p ∷ [] else [])
    answering true = unless (some_if (replies_full p) (QueueName.Replies p.bus)) (reply_to_parent c x words p ns) ∙ sym (one-list (replies_full p) (QueueName.Replies p.bus))
    answering false = refl

    reply-caused : (note : Note) → cause_of (reply_by_note c x words p ns note) ≡ first_full (reply_needs p ns x note)
    reply-caused (local first joined) = unless (first_given (reader_full (local first joined) x) 0 ns) (reply_to_readers c x words p ns first joined) ∙ sym (readers (local first joined) x)
    reply-caused no_note = answering (is_answering x p)
    reply-caused (up_read first joined) = answering (is_answering x p)
    reply-caused (up_erase k) = answering (is_answering x p)

  -- ---- what comes down

  module _ (s : Stamp) (rest : List DownValue) (x : ℕ) (words : List ℕ) where
    abbrev q : DirValue
    q = front_taken s rest p

    down-read : (k : Option ℕ) (copies : List (List ℕ)) → cause_of (down_read x q ns k (first_of copies)) ≡ first_full (answered_by p ns x k (has_some copies) (replies_of p))
    down-read (Some k) copies = unless (child_full_for ReadTx x (child_at k ns)) (read_by_child x q ns k) ∙ sym (told-is ReadTx x (child_at k ns))
    down-read None [] = refl
    down-read None (w ∷ ws) = unless (some_if (replies_full p) (QueueName.Replies p.bus)) (read_by_parked x q ns w) ∙ sym (one-list (replies_full p) (QueueName.Replies p.bus))

    data-caused : (note : Note) → cause_of (down_data x q ns words note) ≡ first_full (data_needs p ns x note)
    data-caused (up_read first joined) = unless (first_given (reader_full (up_read first joined) x) 0 ns) (data_to_readers x q ns words first joined) ∙ sym (readers (up_read first joined) x)
    data-caused no_note = refl
    data-caused (local first joined) = refl
    data-caused (up_erase k) = refl

    exclusive-caused : (note : Note) → cause_of (down_exclusive x q ns note) ≡ first_full (exclusive_needs p ns x note)
    exclusive-caused (up_erase k) = unless (child_full_for ExclusiveTx x (child_at k ns)) (exclusive_to x q ns k) ∙ sym (told-is ExclusiveTx x (child_at k ns))
    exclusive-caused no_note = refl
    exclusive-caused (local first joined) = refl
    exclusive-caused (up_read first joined) = refl

    parking-caused : cause_of (inject_to_parking x q ns words) ≡ None
    parking-caused = by_parked (is_parked x q) (nat_eq q.reserved 0) where
      by_parked : (a b : Bool) → cause_of (if a then nothing_there else (if b then nothing_there else granted (inject_parked x q ns words))) ≡ None
      by_parked true b = refl
      by_parked false true = refl
      by_parked false false = refl

    taker-caused : (o : Option ℕ) → cause_of (inject_to_taker x q ns words o) ≡ None
    taker-caused (Some k) = refl
    taker-caused None = parking-caused

    abbrev only_reader : ℕ → List Needed
    only_reader first = if reader_has_place x (child_at first ns) then told InjectTx x (child_at first ns) else []

    only-caused : (first : ℕ) → cause_of (inject_to_only_reader x q ns words first) ≡ first_full (only_reader first)
    only-caused first = by_place (reader_has_place x (child_at first ns)) where
      by_place : (b : Bool) → cause_of (if b then unless_full (child_full_for InjectTx x (child_at first ns)) (inject_to_reader x q ns words first) else nothing_there) ≡ first_full (if b then told InjectTx x (child_at first ns) else [])
      by_place true = unless (child_full_for InjectTx x (child_at first ns)) (inject_to_reader x q ns words first) ∙ sym (told-is InjectTx x (child_at first ns))
      by_place false = refl

    inject-caused : (note : Note) → cause_of (down_inject x q ns words note) ≡ first_full (inject_needs p ns x note)
    inject-caused (up_read first joined) = by_joined (nat_eq joined 0) where
      by_joined : (b : Bool) → cause_of (if b then inject_to_only_reader x q ns words first else unless_full (first_given (reader_full (up_read first joined) x) 0 ns) (inject_to_readers x q ns words first joined)) ≡ first_full (if b then only_reader first else readers_told p ns (up_read first joined) x)
      by_joined true = only-caused first
      by_joined false = unless (first_given (reader_full (up_read first joined) x) 0 ns) (inject_to_readers x q ns words first joined) ∙ sym (readers (up_read first joined) x)
    inject-caused no_note = taker-caused (inject_taker x q ns words)
    inject-caused (local first joined) = taker-caused (inject_taker x q ns words)
    inject-caused (up_erase k) = taker-caused (inject_taker x q ns words)

    kind-caused : (kind : TxKind) → cause_of (down_by_kind x q ns words kind) ≡ first_full (down_needs p ns x kind)
    kind-caused ReadTx = down-read (find_from (holds_item x) 0 ns) (words_of_item x p.parked)
    kind-caused DataTx = data-caused (dir_note x p)
    kind-caused EraseTx = unless (first_given (full_to_lose x) 0 ns) (erase_of_children x q ns) ∙ sym (each-told (λ i. true) EraseTx x (full_to_lose x) (λ i n. refl) 0 ns)
    kind-caused ExclusiveTx = exclusive-caused (dir_note x p)
    kind-caused InjectTx = inject-caused (dir_note x p)
    kind-caused OutTx = refl

    note-caused : (kind : TxKind) (note : Note) → cause_of (down_by_note x q ns words kind note) ≡ down_reason p ns x kind note
    note-caused kind (local first joined) = refl
    note-caused kind no_note = kind-caused kind
    note-caused kind (up_read first joined) = kind-caused kind
    note-caused kind (up_erase k) = kind-caused kind

  -- ---- copies that leave

  module _ (c x : ℕ) where
    parked-caused : (kind : TxKind) → cause_of (parked_unless_full c x p ns kind) ≡ parking_reason p ns x
    parked-caused kind = by_parked (is_parked x p) (parking_full p) where
      by_parked : (a b : Bool) → cause_of (if a then nothing_there else (if b then refused (BusyCause.ParkingFull p.bus) else granted (leave_parked c x p ns kind))) ≡ (if a then None else some_if b (BusyCause.ParkingFull p.bus))
      by_parked true b = refl
      by_parked false true = refl
      by_parked false false = refl

    inject-leaves : (o : Option ℕ) → cause_of (leave_inject c x p ns o) ≡ (if is_some o then None else (if is_top p then Some (BusyCause.NoRoom x) else parking_reason p ns x))
    inject-leaves (Some k) = refl
    inject-leaves None = by_top (is_top p) where
      by_top : (b : Bool) → cause_of (if b then refused (BusyCause.NoRoom x) else parked_unless_full c x p ns InjectTx) ≡ (if b then Some (BusyCause.NoRoom x) else parking_reason p ns x)
      by_top true = refl
      by_top false = parked-caused InjectTx

    shared-leaves : (a b : Bool) → cause_of (leave_shared c x p ns a b) ≡ (if a then None else (if b then parking_reason p ns x else inject_reason p ns c x))
    shared-leaves true b = refl
    shared-leaves false true = parked-caused OutTx
    shared-leaves false false = inject-leaves (leave_taker c x p ns)

    place-caused : (h : Hold) → cause_of (leave_by_hold c x p ns h) ≡ (if is_shared h then shared_reason p ns c x else inject_reason p ns c x)
    place-caused Hold.Invalid = inject-leaves (leave_taker c x p ns)
    place-caused Hold.Shared = shared-leaves (other_copy c x p ns) (is_shared (dir_hold x p))
    place-caused Hold.Exclusive = inject-leaves (leave_taker c x p ns)

    abbrev below : Option (ℕ × PendingWhy) → Option BusyCause
    below o = option_map (λ (w : ℕ × PendingWhy). BusyCause.ItemPending w.0 x w.1) o

    below-is : (n : Node) → below (pending_below x n) ≡ pending_under x n
    below-is (leaf_node v) = refl
    below-is (dir_node d ks) = by_why (pending x d) where
      by_why : (o : Option PendingWhy) → below (option_map (λ why. (d.bus, why)) o) ≡ option_map (λ why. BusyCause.ItemPending d.bus x why) o
      by_why None = refl
      by_why (Some why) = refl

    unless-pending : (o : Option PendingWhy) (w : Option (ℕ × PendingWhy)) → cause_of (leave_unless_pending c x p ns o w) ≡ first_some (option_map (λ why. BusyCause.ItemPending p.bus x why) o) (first_some (below w) (place_reason p ns c x))
    unless-pending (Some why) w = refl
    unless-pending None (Some w) = refl
    unless-pending None None = place-caused (child_hold x (child_at c ns))

    leave-caused : cause_of (leave_unless_pending c x p ns (pending x p) (pending_below x (child_at c ns))) ≡ leave_reason p ns c x
    leave-caused = rw (sym (below-is (child_at c ns))) (unless-pending (pending x p) (pending_below x (child_at c ns)))

  -- ---- every turn

  module _ (above : Stamp) where
    request-turn : (c : ℕ) (o : Option RequestValue) → child_request (child_at c ns) ≡ o → cause_of (request_turn above p ns c o) ≡ bus_reason p ns (BusTurn.Request c)
    request-turn c None e = rw e refl
    request-turn c (Some r) e = rw e (request-caused above c r.item r.kind)

    reply-turn : (c : ℕ) (o : Option CopyValue) → child_reply (child_at c ns) ≡ o → cause_of (reply_turn above p ns c o) ≡ bus_reason p ns (BusTurn.Reply c)
    reply-turn c None e = rw e refl
    reply-turn c (Some r) e = rw e (reply-caused c r.item r.words (dir_note r.item p))

    leave-turn : (c choice : ℕ) (o : Option ℕ) → child_leaving choice (child_at c ns) ≡ o → cause_of (leave_turn above p ns c o) ≡ bus_reason p ns (BusTurn.Leave c choice)
    leave-turn c choice None e = rw e refl
    leave-turn c choice (Some x) e = rw e (leave-caused c x)

    down-turn : (down : List DownValue) → p.down ≡ down → cause_of (down_turn p ns down) ≡ bus_reason p ns BusTurn.Down
    down-turn [] e = rw e refl
    down-turn (d ∷ rest) e = rw e (note-caused d.stamp rest d.item d.words d.kind (dir_note d.item p))

    pub bus-caused : (t : BusTurn) → cause_of (bus_judged above p ns t) ≡ bus_reason p ns t
    bus-caused BusTurn.Down = down-turn p.down refl
    bus-caused (BusTurn.Request c) = request-turn c (child_request (child_at c ns)) refl
    bus-caused (BusTurn.Reply c) = reply-turn c (child_reply (child_at c ns)) refl
    bus-caused (BusTurn.Leave c choice) = leave-turn c choice (child_leaving choice (child_at c ns)) refl
