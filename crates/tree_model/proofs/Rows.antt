-- The rows of a bus's turn: each grant, with all that was found before it was granted.
use Rattle.std.proofs.Common.{◌≡◌, ℕ, Bool, true, false, List, [], ◌∷◌, Option, Some, None, refl, ap, subst, cond}
use Rattle.std.specs.Prelude.{nat_eq, ◌||◌, ◌&&◌}
use Rattle.std.proofs.Math.Bool.{and-false}
use Rattle.tree_model.specs.DdmTypes.declared.answers.PendingWhy.{PendingWhy}
use Rattle.tree_model.specs.DdmTypes.declared.answers.QueueName.{QueueName}
use Rattle.tree_model.specs.DdmTypes.declared.answers.BusyCause.{BusyCause}
use Rattle.tree_model.specs.DdmTypes.declared.answers.BusyCause.TheVariants.{QueueFull, NoRoom, ParkingFull, ItemPending}
use Rattle.tree_model.specs.DdmTypes.declared.answers.TxKind.{TxKind}
use Rattle.tree_model.specs.DdmTypes.declared.answers.TxKind.TheVariants.{ReadTx, DataTx, EraseTx, ExclusiveTx, InjectTx, OutTx}
use Rattle.tree_model.specs.DdmTypes.declared.sizes.Hold.{Hold}
use Rattle.tree_model.specs.DdmTypes.declared.keys.Stamp.{Stamp}
use Rattle.tree_model.specs.declared.BusTurn.{BusTurn}
use Rattle.tree_model.specs.State.Lists.{find_from, first_given, first_some}
use Rattle.tree_model.specs.State.States.{is_held, is_exclusive, is_shared}
use Rattle.tree_model.specs.State.Values.{RequestValue, CopyValue, DownValue, Note, no_note, local, up_read, up_erase, DirValue, Node}
use Rattle.tree_model.specs.State.Directory.{is_top, dir_hold, dir_note, is_answering, is_local, is_up_read, parking_full, parked_words, is_parked, pending, front_taken}
use Rattle.tree_model.specs.State.Child.{child_request, child_reply, child_leaving, child_hold, child_full_for, pending_below, reader_has_place}
use Rattle.tree_model.specs.Turns.Grant.{Grant, Judged, nothing_there, refused, granted, unless_full, own_down_full, own_requests_full, own_replies_full}
use Rattle.tree_model.specs.Turns.Children.{child_at, holds_item, other_holds, other_full, full_to_lose, reader_full}
use Rattle.tree_model.specs.Turns.RequestRead.{joins, read_of_child, read_of_parked, read_of_parent, read_held, read_granted, read_unless_pending, request_read}
use Rattle.tree_model.specs.Turns.RequestErase.{erase_list_full, erase_of_all, request_erase}
use Rattle.tree_model.specs.Turns.Reply.{reply_to_readers, reply_to_parent, reply_answering, reply_by_note}
use Rattle.tree_model.specs.Turns.Down.{exclusive_to, down_exclusive, erase_of_children, read_by_child, read_by_parked, down_read, data_to_readers, down_data, inject_to_reader, inject_to_readers, inject_to_child, inject_parked, inject_to_parking, inject_to_taker, inject_to_only_reader, inject_to_read, inject_taker, down_inject, down_by_kind, down_by_note, down_turn}
use Rattle.tree_model.specs.Turns.Leave.{other_copy, out_gone, leave_parked, leave_to, leave_taker, parked_unless_full, leave_inject, leave_shared, leave_by_hold, leave_unless_pending}
use Rattle.tree_model.proofs.Tests.{first_some-none_first, first_some-none_second}
use Rattle.tree_model.specs.Turns.Bus.{request_by_kind, request_turn, reply_turn, leave_turn, bus_judged}

-- what is granted, if something is, has this property
pub record EachGrant (P : Grant → Type 0) (j : Judged) : Type 0 where
  pub each : (g : Grant) → j ≡ granted g → P g

module _ (above : Stamp) (p : DirValue) (ns : List Node) where
  pub data Row : BusTurn → Grant → Type 0 where
    -- a request to read
    row_joins : (c x : ℕ) → child_request (child_at c ns) ≡ Some (record { kind = ReadTx; item = x }) → (is_local (dir_note x p) || is_up_read (dir_note x p)) ≡ true → Row (BusTurn.Request c) (joins c x p ns)
    row_read_of_child : (c x k : ℕ) → child_request (child_at c ns) ≡ Some (record { kind = ReadTx; item = x }) → pending x p ≡ None → is_held (dir_hold x p) ≡ true → find_from (other_holds c x) 0 ns ≡ Some k → child_full_for ReadTx x (child_at k ns) ≡ None → Row (BusTurn.Request c) (read_of_child c x p ns k)
    row_read_of_parked : (c x : ℕ) (words : List ℕ) → child_request (child_at c ns) ≡ Some (record { kind = ReadTx; item = x }) → pending x p ≡ None → is_held (dir_hold x p) ≡ true → find_from (other_holds c x) 0 ns ≡ None → parked_words x p ≡ Some words → own_down_full p ≡ None → Row (BusTurn.Request c) (read_of_parked c x p ns above words)
    row_read_of_parent : (c x : ℕ) → child_request (child_at c ns) ≡ Some (record { kind = ReadTx; item = x }) → pending x p ≡ None → is_held (dir_hold x p) ≡ false → own_requests_full p ≡ None → Row (BusTurn.Request c) (read_of_parent c x p ns)
    -- a request to erase
    row_erase_of_all : (c x : ℕ) → child_request (child_at c ns) ≡ Some (record { kind = EraseTx; item = x }) → pending x p ≡ None → first_given (other_full c x) 0 ns ≡ None → erase_list_full above c x p ns (is_exclusive (dir_hold x p)) ≡ None → Row (BusTurn.Request c) (erase_of_all above c x p ns)
    -- a reply
    row_reply_to_readers : (c x : ℕ) (words : List ℕ) (first joined : ℕ) → child_reply (child_at c ns) ≡ Some (record { item = x; words = words }) → dir_note x p ≡ local first joined → first_given (reader_full (local first joined) x) 0 ns ≡ None → Row (BusTurn.Reply c) (reply_to_readers c x words p ns first joined)
    row_reply_to_parent : (c x : ℕ) (words : List ℕ) → child_reply (child_at c ns) ≡ Some (record { item = x; words = words }) → is_local (dir_note x p) ≡ false → is_answering x p ≡ true → own_replies_full p ≡ None → Row (BusTurn.Reply c) (reply_to_parent c x words p ns)
    -- an entry of the down list
    row_exclusive_to : (e : DownValue) (rest : List DownValue) (d : ℕ) → p.down ≡ e ∷ rest → e.kind ≡ ExclusiveTx → dir_note e.item p ≡ up_erase d → child_full_for ExclusiveTx e.item (child_at d ns) ≡ None → Row BusTurn.Down (exclusive_to e.item (front_taken e.stamp rest p) ns d)
    row_erase_of_children : (e : DownValue) (rest : List DownValue) → p.down ≡ e ∷ rest → e.kind ≡ EraseTx → is_local (dir_note e.item p) ≡ false → first_given (full_to_lose e.item) 0 ns ≡ None → Row BusTurn.Down (erase_of_children e.item (front_taken e.stamp rest p) ns)
    row_read_by_child : (e : DownValue) (rest : List DownValue) (k : ℕ) → p.down ≡ e ∷ rest → e.kind ≡ ReadTx → is_local (dir_note e.item p) ≡ false → find_from (holds_item e.item) 0 ns ≡ Some k → child_full_for ReadTx e.item (child_at k ns) ≡ None → Row BusTurn.Down (read_by_child e.item (front_taken e.stamp rest p) ns k)
    row_read_by_parked : (e : DownValue) (rest : List DownValue) (words : List ℕ) → p.down ≡ e ∷ rest → e.kind ≡ ReadTx → is_local (dir_note e.item p) ≡ false → find_from (holds_item e.item) 0 ns ≡ None → parked_words e.item p ≡ Some words → own_replies_full p ≡ None → Row BusTurn.Down (read_by_parked e.item (front_taken e.stamp rest p) ns words)
    row_data_to_readers : (e : DownValue) (rest : List DownValue) (first joined : ℕ) → p.down ≡ e ∷ rest → e.kind ≡ DataTx → dir_note e.item p ≡ up_read first joined → first_given (reader_full (up_read first joined) e.item) 0 ns ≡ None → Row BusTurn.Down (data_to_readers e.item (front_taken e.stamp rest p) ns e.words first joined)
    row_inject_to_reader : (e : DownValue) (rest : List DownValue) (d joined : ℕ) → p.down ≡ e ∷ rest → e.kind ≡ InjectTx → dir_note e.item p ≡ up_read d joined → nat_eq joined 0 ≡ true → reader_has_place e.item (child_at d ns) ≡ true → child_full_for InjectTx e.item (child_at d ns) ≡ None → Row BusTurn.Down (inject_to_reader e.item (front_taken e.stamp rest p) ns e.words d)
    row_inject_to_readers : (e : DownValue) (rest : List DownValue) (first joined : ℕ) → p.down ≡ e ∷ rest → e.kind ≡ InjectTx → dir_note e.item p ≡ up_read first joined → nat_eq joined 0 ≡ false → first_given (reader_full (up_read first joined) e.item) 0 ns ≡ None → Row BusTurn.Down (inject_to_readers e.item (front_taken e.stamp rest p) ns e.words first joined)
    row_inject_to_child : (e : DownValue) (rest : List DownValue) (k : ℕ) → p.down ≡ e ∷ rest → e.kind ≡ InjectTx → is_local (dir_note e.item p) ≡ false → is_up_read (dir_note e.item p) ≡ false → inject_taker e.item (front_taken e.stamp rest p) ns e.words ≡ Some k → Row BusTurn.Down (inject_to_child e.item (front_taken e.stamp rest p) ns e.words k)
    row_inject_parked : (e : DownValue) (rest : List DownValue) → p.down ≡ e ∷ rest → e.kind ≡ InjectTx → is_local (dir_note e.item p) ≡ false → is_up_read (dir_note e.item p) ≡ false → inject_taker e.item (front_taken e.stamp rest p) ns e.words ≡ None → is_parked e.item p ≡ false → nat_eq p.reserved 0 ≡ false → Row BusTurn.Down (inject_parked e.item (front_taken e.stamp rest p) ns e.words)
    -- a copy that leaves
    row_out_gone : (c choice x : ℕ) → child_leaving choice (child_at c ns) ≡ Some x → pending x p ≡ None → pending_below x (child_at c ns) ≡ None → child_hold x (child_at c ns) ≡ Hold.Shared → other_copy c x p ns ≡ true → Row (BusTurn.Leave c choice) (out_gone c x p ns)
    row_out_parked : (c choice x : ℕ) → child_leaving choice (child_at c ns) ≡ Some x → pending x p ≡ None → pending_below x (child_at c ns) ≡ None → child_hold x (child_at c ns) ≡ Hold.Shared → other_copy c x p ns ≡ false → is_shared (dir_hold x p) ≡ true → is_parked x p ≡ false → parking_full p ≡ false → Row (BusTurn.Leave c choice) (leave_parked c x p ns OutTx)
    row_leave_to : (c choice x k : ℕ) → child_leaving choice (child_at c ns) ≡ Some x → pending x p ≡ None → pending_below x (child_at c ns) ≡ None → (is_shared (child_hold x (child_at c ns)) && (other_copy c x p ns || is_shared (dir_hold x p))) ≡ false → leave_taker c x p ns ≡ Some k → Row (BusTurn.Leave c choice) (leave_to c x p ns k)
    row_inject_up : (c choice x : ℕ) → child_leaving choice (child_at c ns) ≡ Some x → pending x p ≡ None → pending_below x (child_at c ns) ≡ None → (is_shared (child_hold x (child_at c ns)) && (other_copy c x p ns || is_shared (dir_hold x p))) ≡ false → leave_taker c x p ns ≡ None → is_top p ≡ false → is_parked x p ≡ false → parking_full p ≡ false → Row (BusTurn.Leave c choice) (leave_parked c x p ns InjectTx)

-- ---- what isn't granted

module _ (P : Grant → Type 0) where
  nothing-each : EachGrant P nothing_there
  nothing-each = record { each = λ g e. cc }

  refused-each : (cause : BusyCause) → EachGrant P (refused cause)
  refused-each cause = record { each = λ g e. cc }

  granted-each : (g : Grant) → P g → EachGrant P (granted g)
  granted-each g holds = record {
    each = λ h e.
        let same : g ≡ h = cc in
        subst P same holds;
  }

  unless_full-each : (list : Option QueueName) (g : Grant) → (list ≡ None → P g) → EachGrant P (unless_full list g)
  unfolding unless_full
  unless_full-each None g holds = granted-each g (holds refl)
  unless_full-each (Some q) g holds = refused-each (QueueFull q)

-- ---- each row by its turn

module _ (above : Stamp) (p : DirValue) (ns : List Node) where
  -- ---- a request to read

  module _ (c x : ℕ) (asks : child_request (child_at c ns) ≡ Some (record { kind = ReadTx; item = x })) where
    read_held-rows : (k : Option ℕ) (parked : Option (List ℕ)) → pending x p ≡ None → is_held (dir_hold x p) ≡ true → find_from (other_holds c x) 0 ns ≡ k → parked_words x p ≡ parked → EachGrant (Row above p ns (BusTurn.Request c)) (read_held c x p ns above k parked)
    read_held-rows (Some k) parked free held found words = unless_full-each _ (child_full_for ReadTx x (child_at k ns)) _ (λ room. row_read_of_child c x k asks free held found room)
    read_held-rows None (Some words) free held found parked = unless_full-each _ (own_down_full p) _ (λ room. row_read_of_parked c x words asks free held found parked room)
    read_held-rows None None free held found parked = nothing-each _

    read_granted-rows : (held : Bool) → pending x p ≡ None → is_held (dir_hold x p) ≡ held → EachGrant (Row above p ns (BusTurn.Request c)) (read_granted c x p ns above held)
    read_granted-rows true free held = read_held-rows (find_from (other_holds c x) 0 ns) (parked_words x p) free held refl refl
    read_granted-rows false free held = unless_full-each _ (own_requests_full p) _ (λ room. row_read_of_parent c x asks free held room)

    read_unless_pending-rows : (why : Option PendingWhy) → pending x p ≡ why → EachGrant (Row above p ns (BusTurn.Request c)) (read_unless_pending c x p ns above why)
    read_unless_pending-rows (Some why) is = refused-each _ (ItemPending p.bus x why)
    read_unless_pending-rows None free = read_granted-rows (is_held (dir_hold x p)) free refl

    request_read-rows : (note : Note) → dir_note x p ≡ note → EachGrant (Row above p ns (BusTurn.Request c)) (request_read c x p ns above note)
    request_read-rows (local first joined) is = granted-each _ (joins c x p ns) (row_joins c x asks (ap (λ note. is_local note || is_up_read note) is))
    request_read-rows (up_read first joined) is = granted-each _ (joins c x p ns) (row_joins c x asks (ap (λ note. is_local note || is_up_read note) is))
    request_read-rows no_note is = read_unless_pending-rows (pending x p) refl
    request_read-rows (up_erase d) is = read_unless_pending-rows (pending x p) refl

  -- ---- a request

  request_erase-rows : (c x : ℕ) → child_request (child_at c ns) ≡ Some (record { kind = EraseTx; item = x }) → (why : Option PendingWhy) → pending x p ≡ why → EachGrant (Row above p ns (BusTurn.Request c)) (request_erase above c x p ns why)
  request_erase-rows c x asks (Some why) is = refused-each _ (ItemPending p.bus x why)
  request_erase-rows c x asks None free =
      unless_full-each _ (first_some (first_given (other_full c x) 0 ns) (erase_list_full above c x p ns (is_exclusive (dir_hold x p)))) _ (λ room. row_erase_of_all c x asks free (first_some-none_first _ _ room) (first_some-none_second _ _ room))

  request_by_kind-rows : (c x : ℕ) (kind : TxKind) → child_request (child_at c ns) ≡ Some (record { kind = kind; item = x }) → EachGrant (Row above p ns (BusTurn.Request c)) (request_by_kind above p ns c x kind)
  request_by_kind-rows c x ReadTx asks = request_read-rows c x asks (dir_note x p) refl
  request_by_kind-rows c x DataTx asks = nothing-each _
  request_by_kind-rows c x EraseTx asks = request_erase-rows c x asks (pending x p) refl
  request_by_kind-rows c x ExclusiveTx asks = nothing-each _
  request_by_kind-rows c x InjectTx asks = nothing-each _
  request_by_kind-rows c x OutTx asks = nothing-each _

  request_turn-rows : (c : ℕ) (r : Option RequestValue) → child_request (child_at c ns) ≡ r → EachGrant (Row above p ns (BusTurn.Request c)) (request_turn above p ns c r)
  request_turn-rows c None asks = nothing-each _
  request_turn-rows c (Some r) asks = request_by_kind-rows c r.item r.kind asks

  -- ---- a reply

  module _ (c x : ℕ) (words : List ℕ) (has : child_reply (child_at c ns) ≡ Some (record { item = x; words = words })) where
    reply_answering-rows : (answering : Bool) → is_local (dir_note x p) ≡ false → is_answering x p ≡ answering → EachGrant (Row above p ns (BusTurn.Reply c)) (reply_answering c x words p ns answering)
    reply_answering-rows true other is = unless_full-each _ (own_replies_full p) _ (λ room. row_reply_to_parent c x words has other is room)
    reply_answering-rows false other is = nothing-each _

    reply_by_note-rows : (note : Note) → dir_note x p ≡ note → EachGrant (Row above p ns (BusTurn.Reply c)) (reply_by_note c x words p ns note)
    reply_by_note-rows (local first joined) is = unless_full-each _ (first_given (reader_full (local first joined) x) 0 ns) _ (λ room. row_reply_to_readers c x words first joined has is room)
    reply_by_note-rows no_note is = reply_answering-rows (is_answering x p) (ap is_local is) refl
    reply_by_note-rows (up_read first joined) is = reply_answering-rows (is_answering x p) (ap is_local is) refl
    reply_by_note-rows (up_erase d) is = reply_answering-rows (is_answering x p) (ap is_local is) refl

  reply_turn-rows : (c : ℕ) (r : Option CopyValue) → child_reply (child_at c ns) ≡ r → EachGrant (Row above p ns (BusTurn.Reply c)) (reply_turn above p ns c r)
  reply_turn-rows c None has = nothing-each _
  reply_turn-rows c (Some r) has = reply_by_note-rows c r.item r.words has (dir_note r.item p) refl

  -- ---- an entry of the down list

  module _ (e : DownValue) (rest : List DownValue) (front : p.down ≡ e ∷ rest) where
    down_exclusive-rows : (note : Note) → e.kind ≡ ExclusiveTx → dir_note e.item p ≡ note → EachGrant (Row above p ns BusTurn.Down) (down_exclusive e.item (front_taken e.stamp rest p) ns note)
    down_exclusive-rows (up_erase d) kind is = unless_full-each _ (child_full_for ExclusiveTx e.item (child_at d ns)) _ (λ room. row_exclusive_to e rest d front kind is room)
    down_exclusive-rows no_note kind is = nothing-each _
    down_exclusive-rows (local first joined) kind is = nothing-each _
    down_exclusive-rows (up_read first joined) kind is = nothing-each _

    down_read-rows : (k : Option ℕ) (parked : Option (List ℕ)) → e.kind ≡ ReadTx → is_local (dir_note e.item p) ≡ false → find_from (holds_item e.item) 0 ns ≡ k → parked_words e.item p ≡ parked → EachGrant (Row above p ns BusTurn.Down) (down_read e.item (front_taken e.stamp rest p) ns k parked)
    down_read-rows (Some k) parked kind other found words = unless_full-each _ (child_full_for ReadTx e.item (child_at k ns)) _ (λ room. row_read_by_child e rest k front kind other found room)
    down_read-rows None (Some words) kind other found parked = unless_full-each _ (own_replies_full (front_taken e.stamp rest p)) _ (λ room. row_read_by_parked e rest words front kind other found parked room)
    down_read-rows None None kind other found parked = nothing-each _

    down_data-rows : (note : Note) → e.kind ≡ DataTx → dir_note e.item p ≡ note → EachGrant (Row above p ns BusTurn.Down) (down_data e.item (front_taken e.stamp rest p) ns e.words note)
    down_data-rows (up_read first joined) kind is = unless_full-each _ (first_given (reader_full (up_read first joined) e.item) 0 ns) _ (λ room. row_data_to_readers e rest first joined front kind is room)
    down_data-rows no_note kind is = nothing-each _
    down_data-rows (local first joined) kind is = nothing-each _
    down_data-rows (up_erase d) kind is = nothing-each _

    -- ---- inject

    module _ (kind : e.kind ≡ InjectTx) where
      inject_to_only_reader-rows : (d joined : ℕ) → dir_note e.item p ≡ up_read d joined → nat_eq joined 0 ≡ true → EachGrant (Row above p ns BusTurn.Down) (inject_to_only_reader e.item (front_taken e.stamp rest p) ns e.words d)
      inject_to_only_reader-rows d joined is alone =
          elim (reader_has_place e.item (child_at d ns)) as (λ b. reader_has_place e.item (child_at d ns) ≡ b → EachGrant (Row above p ns BusTurn.Down) (inject_to_only_reader e.item (front_taken e.stamp rest p) ns e.words d)) [
            | true ↦ λ place. rw place (unless_full-each _ (child_full_for InjectTx e.item (child_at d ns)) _ (λ room. row_inject_to_reader e rest d joined front kind is alone place room))
            | false ↦ λ place. rw place (nothing-each _)
          ] refl

      inject_to_read-rows : (first joined : ℕ) → dir_note e.item p ≡ up_read first joined → EachGrant (Row above p ns BusTurn.Down) (inject_to_read e.item (front_taken e.stamp rest p) ns e.words first joined)
      inject_to_read-rows first joined is =
          elim (nat_eq joined 0) as (λ b. nat_eq joined 0 ≡ b → EachGrant (Row above p ns BusTurn.Down) (inject_to_read e.item (front_taken e.stamp rest p) ns e.words first joined)) [
            | true ↦ λ alone. rw alone (inject_to_only_reader-rows first joined is alone)
            | false ↦ λ others. rw others (unless_full-each _ (first_given (reader_full (up_read first joined) e.item) 0 ns) _ (λ room. row_inject_to_readers e rest first joined front kind is others room))
          ] refl

      module _ (not_local : is_local (dir_note e.item p) ≡ false) (not_read : is_up_read (dir_note e.item p) ≡ false) where
        inject_to_parking-rows : inject_taker e.item (front_taken e.stamp rest p) ns e.words ≡ None → EachGrant (Row above p ns BusTurn.Down) (inject_to_parking e.item (front_taken e.stamp rest p) ns e.words)
        inject_to_parking-rows nobody =
            elim (is_parked e.item p) as (λ b. is_parked e.item p ≡ b → EachGrant (Row above p ns BusTurn.Down) (inject_to_parking e.item (front_taken e.stamp rest p) ns e.words)) [
              | true ↦ λ there. rw there (nothing-each _)
              | false ↦ λ once. rw once (
                  elim (nat_eq p.reserved 0) as (λ b. nat_eq p.reserved 0 ≡ b → EachGrant (Row above p ns BusTurn.Down) (cond (nat_eq p.reserved 0) nothing_there (granted (inject_parked e.item (front_taken e.stamp rest p) ns e.words)))) [
                    | true ↦ λ none. rw none (nothing-each _)
                    | false ↦ λ some. rw some (granted-each _ (inject_parked e.item (front_taken e.stamp rest p) ns e.words) (row_inject_parked e rest front kind not_local not_read nobody once some))
                  ] refl)
            ] refl

        inject_to_taker-rows : (k : Option ℕ) → inject_taker e.item (front_taken e.stamp rest p) ns e.words ≡ k → EachGrant (Row above p ns BusTurn.Down) (inject_to_taker e.item (front_taken e.stamp rest p) ns e.words k)
        inject_to_taker-rows (Some k) is = granted-each _ (inject_to_child e.item (front_taken e.stamp rest p) ns e.words k) (row_inject_to_child e rest k front kind not_local not_read is)
        inject_to_taker-rows None is = inject_to_parking-rows is

      down_inject-rows : (note : Note) → is_local (dir_note e.item p) ≡ false → dir_note e.item p ≡ note → EachGrant (Row above p ns BusTurn.Down) (down_inject e.item (front_taken e.stamp rest p) ns e.words note)
      down_inject-rows (up_read first joined) other is = inject_to_read-rows first joined is
      down_inject-rows no_note other is = inject_to_taker-rows other (ap is_up_read is) (inject_taker e.item (front_taken e.stamp rest p) ns e.words) refl
      down_inject-rows (local first joined) other is = inject_to_taker-rows other (ap is_up_read is) (inject_taker e.item (front_taken e.stamp rest p) ns e.words) refl
      down_inject-rows (up_erase d) other is = inject_to_taker-rows other (ap is_up_read is) (inject_taker e.item (front_taken e.stamp rest p) ns e.words) refl

    down_by_kind-rows : (kind : TxKind) → e.kind ≡ kind → is_local (dir_note e.item p) ≡ false → EachGrant (Row above p ns BusTurn.Down) (down_by_kind e.item (front_taken e.stamp rest p) ns e.words kind)
    down_by_kind-rows ReadTx kind other = down_read-rows (find_from (holds_item e.item) 0 ns) (parked_words e.item p) kind other refl refl
    down_by_kind-rows DataTx kind other = down_data-rows (dir_note e.item p) kind refl
    down_by_kind-rows EraseTx kind other = unless_full-each _ (first_given (full_to_lose e.item) 0 ns) _ (λ room. row_erase_of_children e rest front kind other room)
    down_by_kind-rows ExclusiveTx kind other = down_exclusive-rows (dir_note e.item p) kind refl
    down_by_kind-rows InjectTx kind other = down_inject-rows kind (dir_note e.item p) other refl
    down_by_kind-rows OutTx kind other = nothing-each _

    down_by_note-rows : (note : Note) → dir_note e.item p ≡ note → EachGrant (Row above p ns BusTurn.Down) (down_by_note e.item (front_taken e.stamp rest p) ns e.words e.kind note)
    down_by_note-rows (local first joined) is = refused-each _ (ItemPending p.bus e.item (PendingWhy.Local first))
    down_by_note-rows no_note is = down_by_kind-rows e.kind refl (ap is_local is)
    down_by_note-rows (up_read first joined) is = down_by_kind-rows e.kind refl (ap is_local is)
    down_by_note-rows (up_erase d) is = down_by_kind-rows e.kind refl (ap is_local is)

  down_turn-rows : (down : List DownValue) → p.down ≡ down → EachGrant (Row above p ns BusTurn.Down) (down_turn p ns down)
  down_turn-rows [] front = nothing-each _
  down_turn-rows (e ∷ rest) front = down_by_note-rows e rest front (dir_note e.item p) refl

  -- ---- a copy that leaves

  module _ (c choice x : ℕ) (leaves : child_leaving choice (child_at c ns) ≡ Some x) (free : pending x p ≡ None) (free_below : pending_below x (child_at c ns) ≡ None) where
    parked-rows : (kind : TxKind) → (is_parked x p ≡ false → parking_full p ≡ false → Row above p ns (BusTurn.Leave c choice) (leave_parked c x p ns kind)) → EachGrant (Row above p ns (BusTurn.Leave c choice)) (parked_unless_full c x p ns kind)
    parked-rows kind row =
        elim (is_parked x p) as (λ b. is_parked x p ≡ b → EachGrant (Row above p ns (BusTurn.Leave c choice)) (parked_unless_full c x p ns kind)) [
          | true ↦ λ there. rw there (nothing-each _)
          | false ↦ λ once. rw once (
              elim (parking_full p) as (λ b. parking_full p ≡ b → EachGrant (Row above p ns (BusTurn.Leave c choice)) (cond (parking_full p) (refused (ParkingFull p.bus)) (granted (leave_parked c x p ns kind)))) [
                | true ↦ λ full. rw full (refused-each _ (ParkingFull p.bus))
                | false ↦ λ room. rw room (granted-each _ (leave_parked c x p ns kind) (row once room))
              ] refl)
        ] refl

    leave_inject-rows : (k : Option ℕ) → (is_shared (child_hold x (child_at c ns)) && (other_copy c x p ns || is_shared (dir_hold x p))) ≡ false → leave_taker c x p ns ≡ k → EachGrant (Row above p ns (BusTurn.Leave c choice)) (leave_inject c x p ns k)
    leave_inject-rows (Some k) last is = granted-each _ (leave_to c x p ns k) (row_leave_to c choice x k leaves free free_below last is)
    leave_inject-rows None last is =
        elim (is_top p) as (λ b. is_top p ≡ b → EachGrant (Row above p ns (BusTurn.Leave c choice)) (leave_inject c x p ns None)) [
          | true ↦ λ top. rw top (refused-each _ (NoRoom x))
          | false ↦ λ below. rw below (
              parked-rows InjectTx (λ once room. row_inject_up c choice x leaves free free_below last is below once room))
        ] refl

    leave_shared-rows : (other shared : Bool) → child_hold x (child_at c ns) ≡ Hold.Shared → other_copy c x p ns ≡ other → is_shared (dir_hold x p) ≡ shared → EachGrant (Row above p ns (BusTurn.Leave c choice)) (leave_shared c x p ns other shared)
    leave_shared-rows true shared held other is = granted-each _ (out_gone c x p ns) (row_out_gone c choice x leaves free free_below held other)
    leave_shared-rows false true held other is =
        parked-rows OutTx (λ once room. row_out_parked c choice x leaves free free_below held other is once room)
    leave_shared-rows false false held other is = leave_inject-rows (leave_taker c x p ns) (rw (other, is) (and-false (is_shared (child_hold x (child_at c ns))))) refl

    leave_by_hold-rows : (h : Hold) → child_hold x (child_at c ns) ≡ h → EachGrant (Row above p ns (BusTurn.Leave c choice)) (leave_by_hold c x p ns h)
    leave_by_hold-rows Hold.Invalid is = leave_inject-rows (leave_taker c x p ns) (ap (λ h. is_shared h && (other_copy c x p ns || is_shared (dir_hold x p))) is) refl
    leave_by_hold-rows Hold.Shared is = leave_shared-rows (other_copy c x p ns) (is_shared (dir_hold x p)) is refl refl
    leave_by_hold-rows Hold.Exclusive is = leave_inject-rows (leave_taker c x p ns) (ap (λ h. is_shared h && (other_copy c x p ns || is_shared (dir_hold x p))) is) refl

  leave_unless_pending-rows : (c choice x : ℕ) → child_leaving choice (child_at c ns) ≡ Some x → (why : Option PendingWhy) (below : Option (ℕ × PendingWhy)) → pending x p ≡ why → pending_below x (child_at c ns) ≡ below → EachGrant (Row above p ns (BusTurn.Leave c choice)) (leave_unless_pending c x p ns why below)
  leave_unless_pending-rows c choice x leaves (Some why) below is is_below = refused-each _ (ItemPending p.bus x why)
  leave_unless_pending-rows c choice x leaves None (Some w) is is_below = refused-each _ (ItemPending w.0 x w.1)
  leave_unless_pending-rows c choice x leaves None None free free_below = leave_by_hold-rows c choice x leaves free free_below (child_hold x (child_at c ns)) refl

  leave_turn-rows : (c choice : ℕ) (o : Option ℕ) → child_leaving choice (child_at c ns) ≡ o → EachGrant (Row above p ns (BusTurn.Leave c choice)) (leave_turn above p ns c o)
  leave_turn-rows c choice None leaves = nothing-each _
  leave_turn-rows c choice (Some x) leaves = leave_unless_pending-rows c choice x leaves (pending x p) (pending_below x (child_at c ns)) refl refl

  -- ---- every turn

  judged-rows : (t : BusTurn) → EachGrant (Row above p ns t) (bus_judged above p ns t)
  judged-rows BusTurn.Down = down_turn-rows p.down refl
  judged-rows (BusTurn.Request c) = request_turn-rows c (child_request (child_at c ns)) refl
  judged-rows (BusTurn.Reply c) = reply_turn-rows c (child_reply (child_at c ns)) refl
  judged-rows (BusTurn.Leave c choice) = leave_turn-rows c choice (child_leaving choice (child_at c ns)) refl

  pub row-of : (t : BusTurn) (g : Grant) → bus_judged above p ns t ≡ granted g → Row above p ns t g
  row-of t g e = (judged-rows t).each g e
