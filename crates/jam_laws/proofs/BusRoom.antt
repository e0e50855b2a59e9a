-- A turn of a bus whose lists have a place finds none full.
-- Letters: x is the item, p the parent, q the parent after its first entry was taken, ns the children, c a child number.
use Rattle.std.proofs.Common.{◌≡◌, ℕ, zero, suc, ◌+◌, ◌<◌, Bool, true, false, List, [], ◌∷◌, Option, Some, None, refl, ap, ◌∙◌, arith}
use Rattle.std.specs.Prelude.{◌&&◌, nat_eq, if◌then◌else◌}
use Rattle.std.specs.List.{AllByRecursion}
use Rattle.std.proofs.lemmas.Bool.{true≢false}
use Rattle.jam_laws.specs.DdmTypes.declared.answers.PendingWhy.{PendingWhy}
use Rattle.jam_laws.specs.DdmTypes.declared.answers.QueueName.{QueueName}
use Rattle.jam_laws.specs.DdmTypes.declared.answers.TxKind.{TxKind}
use Rattle.jam_laws.specs.DdmTypes.declared.answers.TxKind.TheVariants.{ReadTx, DataTx, EraseTx, ExclusiveTx, InjectTx, OutTx}
use Rattle.jam_laws.specs.DdmTypes.declared.sizes.Hold.{Hold}
use Rattle.jam_laws.specs.DdmTypes.declared.keys.Stamp.{Stamp}
use Rattle.jam_laws.specs.TreeModel.declared.BusTurn.{BusTurn}
use Rattle.jam_laws.specs.TreeModel.State.Lists.{find_from, first_given, first_some, some_if}
use Rattle.jam_laws.specs.TreeModel.State.States.{is_held, is_exclusive, is_shared}
use Rattle.jam_laws.specs.TreeModel.State.Values.{RequestValue, CopyValue, DownValue, Note, no_note, local, up_read, up_erase, DirValue, Node, leaf_node, dir_node}
use Rattle.jam_laws.specs.TreeModel.State.Leaf.{leaf_replies_full}
use Rattle.jam_laws.specs.TreeModel.State.Directory.{is_top, dir_hold, dir_note, is_answering, is_reader, is_parked, parked_words, parking_full, pending, front_taken, down_full, requests_full, replies_full}
use Rattle.jam_laws.specs.TreeModel.State.Child.{child_hold, child_request, child_reply, child_leaving, child_full_for, pending_below, reader_has_place}
use Rattle.jam_laws.specs.TreeModel.State.Blank.{no_node}
use Rattle.jam_laws.specs.TreeModel.Turns.Grant.{granted, nothing_there, own_down_full, own_requests_full, own_replies_full}
use Rattle.jam_laws.specs.TreeModel.Turns.Children.{child_at, holds_item, other_holds, other_full, full_to_lose, reader_full}
use Rattle.jam_laws.specs.TreeModel.Turns.RequestRead.{read_held, read_granted, read_unless_pending, request_read}
use Rattle.jam_laws.specs.TreeModel.Turns.RequestErase.{erase_list_full, request_erase}
use Rattle.jam_laws.specs.TreeModel.Turns.Reply.{reply_answering, reply_by_note}
use Rattle.jam_laws.specs.TreeModel.Turns.Down.{down_exclusive, down_read, down_data, inject_parked, inject_to_taker, inject_to_only_reader, inject_to_read, inject_taker, down_inject, down_by_kind, down_by_note, down_turn}
use Rattle.jam_laws.specs.TreeModel.Turns.Leave.{other_copy, leave_taker, parked_unless_full, leave_inject, leave_shared, leave_by_hold, leave_unless_pending}
use Rattle.jam_laws.specs.TreeModel.Turns.Bus.{request_by_kind, request_turn, reply_turn, leave_turn, bus_judged}
use Rattle.jam_laws.proofs.TreeModel.Children.{found-within}
use Rattle.jam_laws.specs.TreeRules.Bus.Faces.{ParentFace, parent_face, faces_of}
use Rattle.jam_laws.specs.TreeRules.Bus.Item.{implies, Bits}
use Rattle.jam_laws.specs.TreeRules.Bus.Rules.{IsBusOk, IsChildOk}
use Rattle.jam_laws.proofs.TreeRules.Implying.{implies-use}
use Rattle.bus_laws.proofs.States.{each_state, state-at}
use Rattle.bus_laws.proofs.DirParts.{starts_with}
use Rattle.bus_laws.proofs.Calls.{child-read-taken, child-erase-taken, child-reply-taken}
use Rattle.bus_laws.proofs.OneChild.{asks-there, replies-there}
use Rattle.bus_laws.proofs.Before.{entry-known, entry-starts}
use Rattle.bus_laws.proofs.RowFrame.{all-kids_at}
use Rattle.jam_laws.proofs.Judged.{full, unless_full-room}

-- ---- places

-- a child has a place for what its bus tells it
abbrev pub HasPlace : Node → Type 0
HasPlace (leaf_node v) = leaf_replies_full v ≡ false
HasPlace (dir_node d ns) = down_full d ≡ false

-- a parent has a place for what comes of a turn of its bus: it asks only for what it doesn't hold Exclusive
pub record HasOwnPlace (n : ℕ) (p : DirValue) : Type 0 where
  pub down : down_full p ≡ false
  pub requests : (x : ℕ) → x < n → is_exclusive (dir_hold x p) ≡ false → requests_full p ≡ false
  pub replies : (x : ℕ) → x < n → is_answering x p ≡ true → replies_full p ≡ false

module _ (x : ℕ) where
  place-free : (kind : TxKind) (m : Node) → HasPlace m → child_full_for kind x m ≡ None
  place-free ReadTx (leaf_node v) place = ap (λ b. some_if b (QueueName.LeafReplies v.number)) place
  place-free DataTx (leaf_node v) place = refl
  place-free EraseTx (leaf_node v) place = refl
  place-free ExclusiveTx (leaf_node v) place = refl
  place-free InjectTx (leaf_node v) place = refl
  place-free OutTx (leaf_node v) place = refl
  place-free ReadTx (dir_node d ns) place = ap (λ b. some_if b (QueueName.Down d.bus)) place
  place-free DataTx (dir_node d ns) place = ap (λ b. some_if b (QueueName.Down d.bus)) place
  place-free EraseTx (dir_node d ns) place = by (is_held (dir_hold x d)) where
    by : (b : Bool) → some_if (b && down_full d) (QueueName.Down d.bus) ≡ None
    by true = ap (λ b. some_if b (QueueName.Down d.bus)) place
    by false = refl
  place-free ExclusiveTx (dir_node d ns) place = ap (λ b. some_if b (QueueName.Down d.bus)) place
  place-free InjectTx (dir_node d ns) place = ap (λ b. some_if b (QueueName.Down d.bus)) place
  place-free OutTx (dir_node d ns) place = refl

  -- a child that isn't there has one for all but a read
  place-free_at : (kind : TxKind) → child_full_for kind x no_node ≡ None → (c : ℕ) (ns : List Node) → AllByRecursion HasPlace ns → child_full_for kind x (child_at c ns) ≡ None
  place-free_at kind absent c [] places = absent
  place-free_at kind absent zero (m ∷ ns) places = place-free kind m places.0
  place-free_at kind absent (suc c) (m ∷ ns) places = place-free_at kind absent c ns places.1

  readers-free : (note : Note) (i : ℕ) (ns : List Node) → AllByRecursion HasPlace ns → first_given (reader_full note x) i ns ≡ None
  readers-free note i [] places = refl
  readers-free note i (m ∷ ns) places = by (is_reader note i) (readers-free note (i + 1) ns places.1) where
    by : (b : Bool) → first_given (reader_full note x) (i + 1) ns ≡ None → first_some (if b then child_full_for DataTx x m else None) (first_given (reader_full note x) (i + 1) ns) ≡ None
    by true rest = ap (λ o. first_some o (first_given (reader_full note x) (i + 1) ns)) (place-free DataTx m places.0) ∙ rest
    by false rest = rest

  losers-free : (i : ℕ) (ns : List Node) → AllByRecursion HasPlace ns → first_given (full_to_lose x) i ns ≡ None
  losers-free i [] places = refl
  losers-free i (m ∷ ns) places = ap (λ o. first_some o (first_given (full_to_lose x) (i + 1) ns)) (place-free EraseTx m places.0) ∙ losers-free (i + 1) ns places.1

  others-free : (c i : ℕ) (ns : List Node) → AllByRecursion HasPlace ns → first_given (other_full c x) i ns ≡ None
  others-free c i [] places = refl
  others-free c i (m ∷ ns) places = by (nat_eq i c) (others-free c (i + 1) ns places.1) where
    by : (b : Bool) → first_given (other_full c x) (i + 1) ns ≡ None → first_some (if b then None else child_full_for EraseTx x m) (first_given (other_full c x) (i + 1) ns) ≡ None
    by true rest = rest
    by false rest = ap (λ o. first_some o (first_given (other_full c x) (i + 1) ns)) (place-free EraseTx m places.0) ∙ rest

-- ---- a read comes down to a parent that is answering

abbrev answers : ParentFace → Bits → Bool
answers p k = implies (starts_with ReadTx p.queue) p.answering

each-answers : (note : Note) → each_state answers note ≡ true
unfolding implies
each-answers no_note = refl
each-answers (local first joined) = refl
each-answers (up_read first joined) = refl
each-answers (up_erase d) = refl

-- ---- a turn

module _ (n : ℕ) (above : Stamp) (p : DirValue) (ns : List Node) (bus : IsBusOk n p ns) (kids : AllByRecursion (IsChildOk n) ns) where
  own-down : HasOwnPlace n p → own_down_full p ≡ None
  own-down own = ap (λ b. some_if b (QueueName.Down p.bus)) own.down

  own-requests : HasOwnPlace n p → (x : ℕ) → x < n → is_exclusive (dir_hold x p) ≡ false → own_requests_full p ≡ None
  own-requests own x within shared = ap (λ b. some_if b (QueueName.Requests p.bus)) (own.requests x within shared)

  own-replies : HasOwnPlace n p → (x : ℕ) → x < n → is_answering x p ≡ true → own_replies_full p ≡ None
  own-replies own x within answering = ap (λ b. some_if b (QueueName.Replies p.bus)) (own.replies x within answering)

  -- ---- a request

  module _ (c x : ℕ) (within : x < n) (own : HasOwnPlace n p) (places : AllByRecursion HasPlace ns) where
    read_held-room : (k : Option ℕ) (words : Option (List ℕ)) → find_from (other_holds c x) 0 ns ≡ k → full (read_held c x p ns above k words) ≡ false
    read_held-room (Some k) words found = unless_full-room _ _ (place-free x ReadTx (child_at k ns) (all-kids_at HasPlace no_node ns k places (found-within (other_holds c x) k ns no_node found)))
    read_held-room None (Some words) found = unless_full-room _ _ (own-down own)
    read_held-room None None found = refl

    not-held : (h : Hold) → is_held h ≡ false → is_exclusive h ≡ false
    not-held Hold.Invalid e = refl
    not-held Hold.Shared e = refl
    not-held Hold.Exclusive e = absurd (true≢false e)

    read_granted-room : (b : Bool) → is_held (dir_hold x p) ≡ b → full (read_granted c x p ns above b) ≡ false
    read_granted-room true is = read_held-room (find_from (other_holds c x) 0 ns) (parked_words x p) refl
    read_granted-room false is = unless_full-room _ _ (own-requests own x within (not-held (dir_hold x p) is))

    read_unless_pending-room : (why : Option PendingWhy) → full (read_unless_pending c x p ns above why) ≡ false
    read_unless_pending-room (Some why) = refl
    read_unless_pending-room None = read_granted-room (is_held (dir_hold x p)) refl

    request_read-room : (note : Note) → full (request_read c x p ns above note) ≡ false
    request_read-room (local first joined) = refl
    request_read-room (up_read first joined) = refl
    request_read-room no_note = read_unless_pending-room (pending x p)
    request_read-room (up_erase d) = read_unless_pending-room (pending x p)

    erase_list-room : (b : Bool) → is_exclusive (dir_hold x p) ≡ b → erase_list_full above c x p ns b ≡ None
    erase_list-room true is = own-down own
    erase_list-room false is = own-requests own x within is

    request_erase-room : (why : Option PendingWhy) → full (request_erase above c x p ns why) ≡ false
    request_erase-room (Some why) = refl
    request_erase-room None = unless_full-room _ _ (ap (λ o. first_some o (erase_list_full above c x p ns (is_exclusive (dir_hold x p)))) (others-free x c 0 ns places) ∙ erase_list-room (is_exclusive (dir_hold x p)) refl)

  module _ (own : 0 < n → HasOwnPlace n p) (places : 0 < n → AllByRecursion HasPlace ns) where
    some-item : (x : ℕ) → x < n → 0 < n
    some-item x within = omega (arith, within)

    by_kind-room : (c x : ℕ) (kind : TxKind) → child_request (child_at c ns) ≡ Some (record { kind = kind; item = x }) → full (request_by_kind above p ns c x kind) ≡ false
    by_kind-room c x ReadTx asked =
        let within = (child-read-taken n x (child_at c ns) (all-kids_at (IsChildOk n) no_node ns c kids (asks-there c ns _ asked)) asked).known in
        request_read-room c x within (own (some-item x within)) (places (some-item x within)) (dir_note x p)
    by_kind-room c x EraseTx asked =
        let within = (child-erase-taken n x (child_at c ns) (all-kids_at (IsChildOk n) no_node ns c kids (asks-there c ns _ asked)) asked).known in
        request_erase-room c x within (own (some-item x within)) (places (some-item x within)) (pending x p)
    by_kind-room c x DataTx asked = refl
    by_kind-room c x ExclusiveTx asked = refl
    by_kind-room c x InjectTx asked = refl
    by_kind-room c x OutTx asked = refl

    request-room : (c : ℕ) (r : Option RequestValue) → child_request (child_at c ns) ≡ r → full (request_turn above p ns c r) ≡ false
    request-room c None asked = refl
    request-room c (Some r) asked = by_kind-room c r.item r.kind asked

    -- ---- a reply

    reply_answering-room : (c x : ℕ) (words : List ℕ) → x < n → (b : Bool) → is_answering x p ≡ b → full (reply_answering c x words p ns b) ≡ false
    reply_answering-room c x words within true is = unless_full-room _ _ (own-replies (own (some-item x within)) x within is)
    reply_answering-room c x words within false is = refl

    reply_by_note-room : (c x : ℕ) (words : List ℕ) → x < n → (note : Note) → full (reply_by_note c x words p ns note) ≡ false
    reply_by_note-room c x words within (local first joined) = unless_full-room _ _ (readers-free x (local first joined) 0 ns (places (some-item x within)))
    reply_by_note-room c x words within no_note = reply_answering-room c x words within (is_answering x p) refl
    reply_by_note-room c x words within (up_read first joined) = reply_answering-room c x words within (is_answering x p) refl
    reply_by_note-room c x words within (up_erase d) = reply_answering-room c x words within (is_answering x p) refl

    reply-room : (c : ℕ) (r : Option CopyValue) → child_reply (child_at c ns) ≡ r → full (reply_turn above p ns c r) ≡ false
    reply-room c None has = refl
    reply-room c (Some r) has =
        let within = (child-reply-taken n r.item r.words (child_at c ns) (all-kids_at (IsChildOk n) no_node ns c kids (replies-there c ns r has)) has).known in
        reply_by_note-room c r.item r.words within (dir_note r.item p)

    -- ---- the first entry that comes down

    module _ (e : DownValue) (rest : List DownValue) (front : p.down ≡ e ∷ rest) where
      abbrev x : ℕ
      x = e.item

      abbrev q : DirValue
      q = front_taken e.stamp rest p

      within : x < n
      within = entry-known n x p ns bus e rest front

      all-places : AllByRecursion HasPlace ns
      all-places = places (some-item x within)

      read-room : (c : Option ℕ) (words : Option (List ℕ)) → e.kind ≡ ReadTx → find_from (holds_item x) 0 ns ≡ c → full (down_read x q ns c words) ≡ false
      read-room (Some c) words is found = unless_full-room _ _ (place-free x ReadTx (child_at c ns) (all-kids_at HasPlace no_node ns c all-places (found-within (holds_item x) c ns no_node found)))
      read-room None (Some words) is found =
          let answering = implies-use _ _ (state-at answers each-answers (parent_face x p) (faces_of x ns) (bus.rules x within)) (entry-starts n x p ns bus e rest front ReadTx is refl) in
          unless_full-room _ _ (own-replies (own (some-item x within)) x within answering)
      read-room None None is found = refl

      data-room : (note : Note) → full (down_data x q ns e.words note) ≡ false
      data-room no_note = refl
      data-room (local first joined) = refl
      data-room (up_read first joined) = unless_full-room _ _ (readers-free x (up_read first joined) 0 ns all-places)
      data-room (up_erase d) = refl

      exclusive-room : (note : Note) → full (down_exclusive x q ns note) ≡ false
      exclusive-room no_note = refl
      exclusive-room (local first joined) = refl
      exclusive-room (up_read first joined) = refl
      exclusive-room (up_erase d) = unless_full-room _ _ (place-free_at x ExclusiveTx refl d ns all-places)

      to_parking-room : (b c : Bool) → full (if b then nothing_there else (if c then nothing_there else granted (inject_parked x q ns e.words))) ≡ false
      to_parking-room true c = refl
      to_parking-room false true = refl
      to_parking-room false false = refl

      to_taker-room : (c : Option ℕ) → full (inject_to_taker x q ns e.words c) ≡ false
      to_taker-room (Some c) = refl
      to_taker-room None = to_parking-room (is_parked x q) (nat_eq q.reserved 0)

      only_reader-room : (d : ℕ) (b : Bool) → reader_has_place x (child_at d ns) ≡ b → full (inject_to_only_reader x q ns e.words d) ≡ false
      only_reader-room d true is = rw is (unless_full-room _ _ (place-free_at x InjectTx refl d ns all-places))
      only_reader-room d false is = rw is refl

      to_read-room : (first joined : ℕ) (b : Bool) → nat_eq joined 0 ≡ b → full (inject_to_read x q ns e.words first joined) ≡ false
      to_read-room first joined true is = rw is (only_reader-room first (reader_has_place x (child_at first ns)) refl)
      to_read-room first joined false is = rw is (unless_full-room _ _ (readers-free x (up_read first joined) 0 ns all-places))

      inject-room : (note : Note) → full (down_inject x q ns e.words note) ≡ false
      inject-room (up_read first joined) = to_read-room first joined (nat_eq joined 0) refl
      inject-room no_note = to_taker-room (inject_taker x q ns e.words)
      inject-room (local first joined) = to_taker-room (inject_taker x q ns e.words)
      inject-room (up_erase d) = to_taker-room (inject_taker x q ns e.words)

      kind-room : (kind : TxKind) → e.kind ≡ kind → full (down_by_kind x q ns e.words kind) ≡ false
      kind-room ReadTx is = read-room (find_from (holds_item x) 0 ns) (parked_words x q) is refl
      kind-room DataTx is = data-room (dir_note x q)
      kind-room EraseTx is = unless_full-room _ _ (losers-free x 0 ns all-places)
      kind-room ExclusiveTx is = exclusive-room (dir_note x q)
      kind-room InjectTx is = inject-room (dir_note x q)
      kind-room OutTx is = refl

      note-room : (note : Note) → full (down_by_note x q ns e.words e.kind note) ≡ false
      note-room (local first joined) = refl
      note-room no_note = kind-room e.kind refl
      note-room (up_read first joined) = kind-room e.kind refl
      note-room (up_erase d) = kind-room e.kind refl

    down-room : (down : List DownValue) → p.down ≡ down → full (down_turn p ns down) ≡ false
    down-room [] front = refl
    down-room (e ∷ rest) front = note-room e rest front (dir_note e.item p)

    -- ---- a copy that leaves needs no place in a list

    module _ (c x : ℕ) where
      parked_unless-room : (kind : TxKind) (a b : Bool) → is_parked x p ≡ a → parking_full p ≡ b → full (parked_unless_full c x p ns kind) ≡ false
      parked_unless-room kind true b is place = rw is refl
      parked_unless-room kind false true is place = rw (is, place) refl
      parked_unless-room kind false false is place = rw (is, place) refl

      leave_inject-room : (taker : Option ℕ) (b : Bool) → is_top p ≡ b → full (leave_inject c x p ns taker) ≡ false
      leave_inject-room (Some k) b is = refl
      leave_inject-room None true is = rw is refl
      leave_inject-room None false is = rw is (parked_unless-room InjectTx (is_parked x p) (parking_full p) refl refl)

      leave_shared-room : (a b : Bool) → full (leave_shared c x p ns a b) ≡ false
      leave_shared-room true b = refl
      leave_shared-room false true = parked_unless-room OutTx (is_parked x p) (parking_full p) refl refl
      leave_shared-room false false = leave_inject-room (leave_taker c x p ns) (is_top p) refl

      leave_by_hold-room : (h : Hold) → full (leave_by_hold c x p ns h) ≡ false
      leave_by_hold-room Hold.Invalid = leave_inject-room (leave_taker c x p ns) (is_top p) refl
      leave_by_hold-room Hold.Shared = leave_shared-room (other_copy c x p ns) (is_shared (dir_hold x p))
      leave_by_hold-room Hold.Exclusive = leave_inject-room (leave_taker c x p ns) (is_top p) refl

      leave_of-room : (why : Option PendingWhy) (below : Option (ℕ × PendingWhy)) → full (leave_unless_pending c x p ns why below) ≡ false
      leave_of-room (Some why) below = refl
      leave_of-room None (Some w) = refl
      leave_of-room None None = leave_by_hold-room (child_hold x (child_at c ns))

    leave-room : (c : ℕ) (o : Option ℕ) → full (leave_turn above p ns c o) ≡ false
    leave-room c None = refl
    leave-room c (Some x) = leave_of-room c x (pending x p) (pending_below x (child_at c ns))

    pub turn-room : (t : BusTurn) → full (bus_judged above p ns t) ≡ false
    turn-room BusTurn.Down = down-room p.down refl
    turn-room (BusTurn.Request c) = request-room c (child_request (child_at c ns)) refl
    turn-room (BusTurn.Reply c) = reply-room c (child_reply (child_at c ns)) refl
    turn-room (BusTurn.Leave c choice) = leave-room c (child_leaving choice (child_at c ns))
