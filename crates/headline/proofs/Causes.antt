-- A turn of a bus that is refused names a cause that is a fact of the machine before it: requests, replies, and what comes down.
-- Letters: p is the parent of the bus that takes its turn, ns are its children, x is an item, c and k are child numbers.
use Rattle.std.proofs.Common.{◌≡◌, ℕ, ◌<◌, ◌≤◌, Bool, true, false, nat_eq, ◌⊎◌, inl, inr, List, [], ◌∷◌, length, Option, Some, None, refl, sym, ap, subst, ◌∙◌}
use Rattle.std.specs.Prelude.{⊤, if◌then◌else◌}
use Rattle.std.specs.List.{AllByRecursion}
use Rattle.std.proofs.lemmas.Bool.{eq-eqb, cases_lt}
use Rattle.headline.specs.DdmTypes.declared.answers.TxKind.{TxKind}
use Rattle.headline.specs.DdmTypes.declared.answers.TxKind.TheVariants.{ReadTx, DataTx, EraseTx, ExclusiveTx, InjectTx, OutTx}
use Rattle.headline.specs.DdmTypes.declared.answers.PendingWhy.{PendingWhy}
use Rattle.headline.specs.DdmTypes.declared.answers.QueueName.{QueueName}
use Rattle.headline.specs.DdmTypes.declared.turns.Turn.{Turn}
use Rattle.headline.specs.DdmTypes.declared.keys.Stamp.{Stamp}
use Rattle.headline.specs.TreeModel.State.Lists.{first_some, first_given, find_from}
use Rattle.headline.specs.TreeModel.State.States.{is_held, is_exclusive}
use Rattle.headline.specs.TreeModel.State.Values.{RequestValue, CopyValue, DownValue, Note, no_note, local, up_read, up_erase, DirValue, Node, Nodes, dir_node, children, MachineValue, root_of}
use Rattle.headline.specs.TreeModel.State.Blank.{no_node}
use Rattle.headline.specs.TreeModel.State.Directory.{dir_hold, dir_note, is_answering, is_reader, is_parked, down_full, requests_full, replies_full, parked_words, pending, front_taken}
use Rattle.headline.specs.TreeModel.State.Child.{child_full_for, reader_has_place}
use Rattle.headline.specs.TreeModel.State.Shape.{IsShaped}
use Rattle.headline.specs.TreeModel.Turns.Grant.{Grant, Judged, nothing_there, refused, granted, is_pending, unless_full, bus_answer, own_down_full, own_requests_full, own_replies_full}
use Rattle.headline.specs.TreeModel.Turns.Children.{child_at, holds_item, other_holds, other_full, full_to_lose, reader_full}
use Rattle.headline.specs.TreeModel.Turns.RequestRead.{read_of_child, read_of_parked, read_of_parent, read_held, read_granted, read_unless_pending, request_read}
use Rattle.headline.specs.TreeModel.Turns.RequestErase.{erase_list_full, erase_of_all, request_erase}
use Rattle.headline.specs.TreeModel.Turns.Reply.{reply_to_readers, reply_to_parent, reply_answering, reply_by_note}
use Rattle.headline.specs.TreeModel.Turns.Down.{exclusive_to, down_exclusive, erase_of_children, down_erase, read_by_child, read_by_parked, down_read, data_to_readers, down_data, inject_to_reader, inject_to_readers, inject_parked, inject_to_parking, inject_to_taker, inject_to_only_reader, inject_to_read, inject_taker, down_inject, down_by_kind, down_by_note, down_turn}
use Rattle.headline.specs.TreeModel.Turns.Bus.{request_by_kind, request_turn, reply_turn}
use Rattle.headline.proofs.TreeModel.Children.{found-within}
use Rattle.headline.specs.TreeRules.Bus.Rules.{IsMachineOk}
use Rattle.headline.specs.TreeRules.Witness.{is_note_of, pends_by, cause_holds, busy_has_cause}
use Rattle.headline.proofs.Standing.{StandsIn, in_below, stands-under}
use Rattle.headline.proofs.Numbered.{told-dir}
use Rattle.headline.proofs.FullLists.{pends, among-at, among-each, past-end, FullHolds, first-full, some-full, given-full, child-full, down-is_full, requests-are_full, replies-are_full}

module _ (m : MachineValue) (shaped : IsShaped m) (ok : IsMachineOk m) where
  abbrev There : Node → Type 0
  There n = StandsIn n (root_of m)

  abbrev Full : Option QueueName → Type 0
  Full o = FullHolds m shaped ok o

  module _ (t : Turn) (p : DirValue) (nodes : Nodes) (there : There (dir_node p nodes)) where
    abbrev pub ns : List Node
    ns = children nodes

    pub all_there : AllByRecursion There ns
    all_there = among-each There nodes (λ n i. stands-under n (dir_node p nodes) (root_of m) (in_below i) there)

    pub at_there : (k : ℕ) → k < length ns → There (child_at k ns)
    at_there k l = stands-under (child_at k ns) (dir_node p nodes) (root_of m) (in_below (among-at nodes k l)) there

    -- what was judged names a cause that is so
    abbrev pub IsCaused : Judged → Type 0
    IsCaused nothing_there = ⊤
    IsCaused (refused cause) = cause_holds t m cause ≡ true
    IsCaused (granted g) = ⊤

    unless : (o : Option QueueName) (g : Grant) → Full o → IsCaused (unless_full o g)
    unfolding unless_full
    unless None g h = tt
    unless (Some list) g h = h

    pub own-pending : (x : ℕ) (why : PendingWhy) → pends_by why x p ≡ true → IsCaused (is_pending p.bus x why)
    own-pending x why h = told-dir m shaped p nodes there (λ d ks. pends_by why x d) ∙ h

    full-at : (kind : TxKind) (x k : ℕ) → child_full_for kind x no_node ≡ None → Full (child_full_for kind x (child_at k ns))
    full-at kind x k none = go (cases_lt k (length ns)) where
      go : (k < length ns) ⊎ (length ns ≤ k) → Full (child_full_for kind x (child_at k ns))
      go (inl l) = child-full m shaped ok kind x (child_at k ns) (at_there k l)
      go (inr l) = subst (λ o. Full o) (sym (ap (child_full_for kind x) (past-end ns k l) ∙ none)) tt

    reader-full : (note : Note) (x i : ℕ) (n : Node) → There n → Full (reader_full note x i n)
    reader-full note x i n h = go (is_reader note i) where
      go : (b : Bool) → Full (if b then child_full_for DataTx x n else None)
      go true = child-full m shaped ok DataTx x n h
      go false = tt

    readers-full : (note : Note) (x : ℕ) → Full (first_given (reader_full note x) 0 ns)
    readers-full note x = given-full m shaped ok (reader_full note x) (reader-full note x) 0 ns all_there

    down-full : Full (own_down_full p)
    down-full = some-full m shaped ok (down_full p) (QueueName.Down p.bus) (down-is_full m shaped ok p nodes there)

    requests-full : Full (own_requests_full p)
    requests-full = some-full m shaped ok (requests_full p) (QueueName.Requests p.bus) (requests-are_full m shaped ok p nodes there)

    replies-full : Full (own_replies_full p)
    replies-full = some-full m shaped ok (replies_full p) (QueueName.Replies p.bus) (replies-are_full m shaped ok p nodes there)

    -- ---- requests

    module _ (above : Stamp) (c x : ℕ) where
      held-caused : (k : Option ℕ) → find_from (other_holds c x) 0 ns ≡ k → (parked : Option (List ℕ)) → IsCaused (read_held c x p ns above k parked)
      held-caused (Some k) e parked = unless (child_full_for ReadTx x (child_at k ns)) (read_of_child c x p ns k) (child-full m shaped ok ReadTx x (child_at k ns) (at_there k (found-within (other_holds c x) k ns no_node e)))
      held-caused None e (Some words) = unless (own_down_full p) (read_of_parked c x p ns above words) down-full
      held-caused None e None = tt

      granted-caused : (held : Bool) → IsCaused (read_granted c x p ns above held)
      granted-caused true = held-caused (find_from (other_holds c x) 0 ns) refl (parked_words x p)
      granted-caused false = unless (own_requests_full p) (read_of_parent c x p ns) requests-full

      unless-caused : (why : Option PendingWhy) → pending x p ≡ why → IsCaused (read_unless_pending c x p ns above why)
      unless-caused (Some why) e = own-pending x why (pends x p why e)
      unless-caused None e = granted-caused (is_held (dir_hold x p))

      read-caused : (note : Note) → IsCaused (request_read c x p ns above note)
      read-caused (local first joined) = tt
      read-caused (up_read first joined) = tt
      read-caused no_note = unless-caused (pending x p) refl
      read-caused (up_erase d) = unless-caused (pending x p) refl

      others-full : (i : ℕ) (n : Node) → There n → Full (other_full c x i n)
      others-full i n h = go (nat_eq i c) where
        go : (b : Bool) → Full (if b then None else child_full_for EraseTx x n)
        go true = tt
        go false = child-full m shaped ok EraseTx x n h

      list-full : (b : Bool) → Full (erase_list_full above c x p ns b)
      list-full true = down-full
      list-full false = requests-full

      erase-caused : (why : Option PendingWhy) → pending x p ≡ why → IsCaused (request_erase above c x p ns why)
      erase-caused (Some why) e = own-pending x why (pends x p why e)
      erase-caused None e =
          unless (first_some (first_given (other_full c x) 0 ns) (erase_list_full above c x p ns (is_exclusive (dir_hold x p)))) (erase_of_all above c x p ns)
          (first-full m shaped ok (first_given (other_full c x) 0 ns) _ (given-full m shaped ok (other_full c x) others-full 0 ns all_there) (list-full (is_exclusive (dir_hold x p))))

      kind-caused : (kind : TxKind) → IsCaused (request_by_kind above p ns c x kind)
      kind-caused ReadTx = read-caused (dir_note x p)
      kind-caused DataTx = tt
      kind-caused EraseTx = erase-caused (pending x p) refl
      kind-caused ExclusiveTx = tt
      kind-caused InjectTx = tt
      kind-caused OutTx = tt

    pub request-caused : (above : Stamp) (c : ℕ) (r : Option RequestValue) → IsCaused (request_turn above p ns c r)
    request-caused above c None = tt
    request-caused above c (Some r) = kind-caused above c r.item r.kind

    -- ---- replies

    pub reply-caused : (above : Stamp) (c : ℕ) (r : Option CopyValue) → IsCaused (reply_turn above p ns c r)
    reply-caused above c None = tt
    reply-caused above c (Some r) = by_note (dir_note r.item p) where
      answering : (b : Bool) → IsCaused (reply_answering c r.item r.words p ns b)
      answering true = unless (own_replies_full p) (reply_to_parent c r.item r.words p ns) replies-full
      answering false = tt

      by_note : (note : Note) → IsCaused (reply_by_note c r.item r.words p ns note)
      by_note (local first joined) = unless (first_given (reader_full (local first joined) r.item) 0 ns) (reply_to_readers c r.item r.words p ns first joined) (readers-full (local first joined) r.item)
      by_note no_note = answering (is_answering r.item p)
      by_note (up_read first joined) = answering (is_answering r.item p)
      by_note (up_erase d) = answering (is_answering r.item p)

    -- ---- what comes down

    module _ (e : DownValue) (rest : List DownValue) where
      abbrev q : DirValue
      q = front_taken e.stamp rest p

      exclusive-caused : (note : Note) → IsCaused (down_exclusive e.item q ns note)
      exclusive-caused (up_erase d) = unless (child_full_for ExclusiveTx e.item (child_at d ns)) (exclusive_to e.item q ns d) (full-at ExclusiveTx e.item d refl)
      exclusive-caused no_note = tt
      exclusive-caused (local first joined) = tt
      exclusive-caused (up_read first joined) = tt

      lose-caused : IsCaused (down_erase e.item q ns)
      lose-caused = unless (first_given (full_to_lose e.item) 0 ns) (erase_of_children e.item q ns) (given-full m shaped ok (full_to_lose e.item) (λ i n h. child-full m shaped ok EraseTx e.item n h) 0 ns all_there)

      answer-caused : (k : Option ℕ) → find_from (holds_item e.item) 0 ns ≡ k → (parked : Option (List ℕ)) → IsCaused (down_read e.item q ns k parked)
      answer-caused (Some k) f parked = unless (child_full_for ReadTx e.item (child_at k ns)) (read_by_child e.item q ns k) (child-full m shaped ok ReadTx e.item (child_at k ns) (at_there k (found-within (holds_item e.item) k ns no_node f)))
      answer-caused None f (Some words) = unless (own_replies_full q) (read_by_parked e.item q ns words) replies-full
      answer-caused None f None = tt

      data-caused : (note : Note) → IsCaused (down_data e.item q ns e.words note)
      data-caused (up_read first joined) = unless (first_given (reader_full (up_read first joined) e.item) 0 ns) (data_to_readers e.item q ns e.words first joined) (readers-full (up_read first joined) e.item)
      data-caused no_note = tt
      data-caused (local first joined) = tt
      data-caused (up_erase d) = tt

      parking-caused : IsCaused (inject_to_parking e.item q ns e.words)
      parking-caused = by_parked (is_parked e.item q) where
        by_place : (b : Bool) → IsCaused (if b then nothing_there else granted (inject_parked e.item q ns e.words))
        by_place true = tt
        by_place false = tt

        by_parked : (b : Bool) → IsCaused (if b then nothing_there else (if nat_eq q.reserved 0 then nothing_there else granted (inject_parked e.item q ns e.words)))
        by_parked true = tt
        by_parked false = by_place (nat_eq q.reserved 0)

      taker-caused : (o : Option ℕ) → IsCaused (inject_to_taker e.item q ns e.words o)
      taker-caused (Some k) = tt
      taker-caused None = parking-caused

      only-caused : (d : ℕ) → IsCaused (inject_to_only_reader e.item q ns e.words d)
      only-caused d = go (reader_has_place e.item (child_at d ns)) where
        go : (b : Bool) → IsCaused (if b then unless_full (child_full_for InjectTx e.item (child_at d ns)) (inject_to_reader e.item q ns e.words d) else nothing_there)
        go true = unless (child_full_for InjectTx e.item (child_at d ns)) (inject_to_reader e.item q ns e.words d) (full-at InjectTx e.item d refl)
        go false = tt

      reads-caused : (first joined : ℕ) → IsCaused (inject_to_read e.item q ns e.words first joined)
      reads-caused first joined = go (nat_eq joined 0) where
        go : (b : Bool) → IsCaused (if b then inject_to_only_reader e.item q ns e.words first else unless_full (first_given (reader_full (up_read first joined) e.item) 0 ns) (inject_to_readers e.item q ns e.words first joined))
        go true = only-caused first
        go false = unless (first_given (reader_full (up_read first joined) e.item) 0 ns) (inject_to_readers e.item q ns e.words first joined) (readers-full (up_read first joined) e.item)

      inject-caused : (note : Note) → IsCaused (down_inject e.item q ns e.words note)
      inject-caused (up_read first joined) = reads-caused first joined
      inject-caused no_note = taker-caused (inject_taker e.item q ns e.words)
      inject-caused (local first joined) = taker-caused (inject_taker e.item q ns e.words)
      inject-caused (up_erase d) = taker-caused (inject_taker e.item q ns e.words)

      down_kind-caused : (kind : TxKind) → IsCaused (down_by_kind e.item q ns e.words kind)
      down_kind-caused ReadTx = answer-caused (find_from (holds_item e.item) 0 ns) refl (parked_words e.item q)
      down_kind-caused DataTx = data-caused (dir_note e.item q)
      down_kind-caused EraseTx = lose-caused
      down_kind-caused ExclusiveTx = exclusive-caused (dir_note e.item q)
      down_kind-caused InjectTx = inject-caused (dir_note e.item q)
      down_kind-caused OutTx = tt

      entry-caused : (kind : TxKind) (note : Note) → dir_note e.item p ≡ note → IsCaused (down_by_note e.item q ns e.words kind note)
      entry-caused kind (local first joined) i = own-pending e.item (PendingWhy.Local first) (ap (is_note_of (PendingWhy.Local first)) i ∙ eq-eqb first first refl)
      entry-caused kind no_note i = down_kind-caused kind
      entry-caused kind (up_read first joined) i = down_kind-caused kind
      entry-caused kind (up_erase d) i = down_kind-caused kind

    pub down-caused : (down : List DownValue) → IsCaused (down_turn p ns down)
    down-caused [] = tt
    down-caused (e ∷ rest) = entry-caused e rest e.kind (dir_note e.item p) refl

    -- its answer
    pub answer-holds : (j : Judged) → IsCaused j → busy_has_cause t m (bus_answer p.bus j) ≡ true
    answer-holds nothing_there h = refl
    answer-holds (refused cause) h = h
    answer-holds (granted g) h = refl
