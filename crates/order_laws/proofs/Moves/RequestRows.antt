-- Where copies come from in a turn that grants a request or a reply, as for its own item.
-- Letters: p is the parent, ns its children, w where the parent stands, c the child that asks or replies, x the item.
use Rattle.std.proofs.Common.{◌≡◌, ℕ, ◌<◌, Bool, true, false, List, [], ◌∷◌, ◌++◌, length, Some, None, refl, ap, subst, ◌∙◌}
use Rattle.order_laws.specs.DdmTypes.declared.answers.TxKind.TheVariants.{DataTx, EraseTx, ExclusiveTx}
use Rattle.order_laws.specs.DdmTypes.declared.sizes.Hold.{Hold}
use Rattle.order_laws.specs.DdmTypes.declared.keys.Stamp.{Stamp}
use Rattle.order_laws.specs.TreeModel.State.Lists.{map_from, first_given}
use Rattle.order_laws.specs.TreeModel.State.States.{is_held, is_exclusive}
use Rattle.order_laws.specs.TreeModel.State.Values.{DownValue, Note, no_note, local, up_read, DirValue, Node, nodes}
use Rattle.order_laws.specs.TreeModel.State.Leaf.{blank, words_of_item}
use Rattle.order_laws.specs.TreeModel.State.Directory.{dir_note, is_reader, is_local, is_answering, queue_of, pending, parked_words, stamp_of, counted, with_note, with_hold, with_answering, pushed_down, pushed_reply, without_parked, joined_by}
use Rattle.order_laws.specs.TreeModel.State.Child.{child_request, child_reply, child_request_taken, child_reply_taken}
use Rattle.order_laws.specs.TreeModel.State.Place.{Where, at_top, at_child, where_path, spot_path, stamp_above}
use Rattle.order_laws.specs.TreeModel.Turns.Children.{child_at, only, reader_full, read_from, erased_by, replied_by}
use Rattle.order_laws.specs.TreeModel.Turns.RequestErase.{erase_noted}
use Rattle.order_laws.proofs.TreeModel.Children.{map_from-length}
use Rattle.order_laws.specs.TreeRules.Bus.Faces.{parent_face, child_face, faces_of}
use Rattle.order_laws.specs.TreeRules.Bus.Item.{bits_of}
use Rattle.order_laws.specs.TreeRules.Order.Copies.{cut, copy_here, first_erase, downs}
use Rattle.bus_laws.proofs.Answering.{child-hold}
use Rattle.bus_laws.proofs.Before.{none-exclusive, gives-at}
use Rattle.bus_laws.proofs.Calls.{IsGranted, child-erase-taken}
use Rattle.bus_laws.proofs.DirGives.{quiet-from_pending}
use Rattle.bus_laws.proofs.ItemLists.{words-pushed, words-without}
use Rattle.bus_laws.proofs.OneChild.{asks-there, replies-there, shared-all}
use Rattle.bus_laws.proofs.RowFrame.{all-kids_at}
use Rattle.order_laws.specs.TreeModel.State.Blank.{no_node}
use Rattle.order_laws.specs.TreeRules.Bus.Rules.{IsChildOk}
use Rattle.order_laws.specs.Moves.Moved.{In}
use Rattle.order_laws.specs.Moves.Parent.{bound_at, moment_in, erased_at, downs_at, hand_of}
use Rattle.order_laws.proofs.Moves.Sources.{Sub}
use Rattle.order_laws.proofs.Moves.Child.{IsFewer}
use Rattle.order_laws.proofs.Moves.Calls.{request-fewer, reply-fewer}
use Rattle.order_laws.proofs.Moves.Inside.{queue-pushed}
use Rattle.order_laws.proofs.Moves.Bus.{in-kid}
use Rattle.order_laws.proofs.Moves.Beside.{only-fewer, beside-all}
use Rattle.order_laws.proofs.Moves.BusFacts.{BusFacts, kid-tree, kid-ordered, none-gives, answered-queue, reply-known, replier-holds, gift-given, parked-in}
use Rattle.order_laws.proofs.Moves.Facts.{local-readers, reader-absent, reader-gets}
use Rattle.order_laws.proofs.Moves.Giving.{no-queue, reply-copy}
use Rattle.order_laws.proofs.Moves.GivenRows.{reply-hands}
use Rattle.order_laws.proofs.Moves.Hands.{Has, Hands, erased-same, downs-same}
use Rattle.order_laws.proofs.Moves.LoseRows.{MayLose, asked-hands}
use Rattle.order_laws.proofs.Moves.PlainRows.{request-hands, read_from-hands}
use Rattle.order_laws.proofs.Moves.Ready.{ready, lose-replies}
use Rattle.order_laws.proofs.Moves.RowTime.{RowTime}
use Rattle.order_laws.proofs.Moves.UpRows.{up-hands, down-hands}

-- one child is changed, and no copy comes to it
pub one-fewer : (x : ℕ) (p : DirValue) (ns : List Node) (c : ℕ) (f : Node → Node) → ((n : Node) → IsFewer x n (f n)) → (i : ℕ) → i < length ns → IsFewer x (child_at i ns) (child_at i (map_from (only c f) 0 ns))
one-fewer x p ns c f h = (beside-all x p p ns refl refl refl (only c f) (only-fewer x c f h)).kids

-- nothing of the item stands in the down list
pub erased-none : (x : ℕ) (w : Where) (p : DirValue) → queue_of x p.down ≡ [] → erased_at x w p ≡ None
erased-none x at_top p e = refl
erased-none x (at_child c) p e = ap (first_erase c.above) e

module _ (n : ℕ) (w : Where) (p : DirValue) (ns : List Node) (f : BusFacts n w p ns) where
  -- ---- a request to read

  pub joins-row : (c x : ℕ) → RowTime w p (with_note x (joined_by c (dir_note x p)) (counted p)) → Hands x w p ns (with_note x (joined_by c (dir_note x p)) (counted p)) (map_from (only c child_request_taken) 0 ns)
  joins-row c x time = request-hands x w p (with_note x (joined_by c (dir_note x p)) (counted p)) ns refl refl refl time c

  pub read_from-row : (c k x : ℕ) (q : DirValue) → q.down ≡ p.down → q.parked ≡ p.parked → q.replies ≡ p.replies → RowTime w p q → (s : Stamp) → Hands x w p ns q (map_from (read_from c k x s) 0 ns)
  read_from-row c k x q down parked replies time s = read_from-hands x w p q ns (erased-same x w p q (ap (queue_of x) down)) (downs-same x w p q (ap (queue_of x) down)) (ap (words_of_item x) parked) (ap (words_of_item x) replies) time c k s

  pub read_of_parked-row : (c x : ℕ) (words : List ℕ) → pending x p ≡ None → parked_words x p ≡ Some words → (let q : DirValue = pushed_down DataTx x words (stamp_above w) (without_parked x (with_note x (up_read c 0) (counted p))) in RowTime w p q → Hands x w p ns q (map_from (only c child_request_taken) 0 ns))
  read_of_parked-row c x words free parked time =
      let q : DirValue = pushed_down DataTx x words (stamp_above w) (without_parked x (with_note x (up_read c 0) (counted p))) in
      let e : DownValue = record { kind = DataTx; item = x; words = words; stamp = stamp_above w } in
      let empty : queue_of x p.down ≡ [] = no-queue x p (quiet-from_pending x p free).queue in
      let one : queue_of x q.down ≡ e ∷ [] = queue-pushed x p.down e refl ∙ ap (λ l. l ++ e ∷ []) empty in
      down-hands x w p q ns (map_from (only c child_request_taken) 0 ns) time f.ordered words empty e refl refl refl one (words-without x p.parked) refl (parked-in x p.parked words parked (where_path w) (bound_at w p)) (map_from-length (only c child_request_taken) 0 ns) (one-fewer x p ns c child_request_taken (request-fewer x))

  -- ---- a request to erase

  module _ (c x : ℕ) (asks : child_request (child_at c ns) ≡ Some (record { kind = EraseTx; item = x })) (free : pending x p ≡ None) where
    there : c < length ns
    there = asks-there c ns _ asks

    granted : IsGranted n x (child_at c ns) Hold.Shared false true
    granted = child-erase-taken n x (child_at c ns) (all-kids_at (IsChildOk n) no_node ns c f.kids there) asks

    within : x < n
    within = granted.known

    shared : (child_face x (child_at c ns)).hold ≡ Hold.Shared
    shared = ap (λ g. g.hold) granted.was

    none_exclusive : (bits_of (parent_face x p) (faces_of x ns)).exclusive ≡ false
    none_exclusive = shared-all n x p ns f.bus f.kids within c there (ap is_held shared) (ap is_exclusive shared)

    none_gives : (bits_of (parent_face x p) (faces_of x ns)).no_gift ≡ true
    none_gives =
        let quiet = quiet-from_pending x p free in
        none-gives n x p ns f.bus f.kids within (ap is_local quiet.note) quiet.answering

    empty : queue_of x p.down ≡ []
    empty = no-queue x p (quiet-from_pending x p free).queue

    may-lose : (q : DirValue) (time : RowTime w p q) (was : erased_at x w p ≡ None) (none : erased_at x w q ≡ None) (H : ℕ → Type 0) (i : ℕ) → i < length ns → MayLose x w p q ns time None was none tt H i (child_at i ns)
    may-lose q time was none H i l = record {
      ready = ready n x within (where_path w) (moment_in w p) (stamp_of q) None H tt i (stamp_of p) (child_at i ns) refl (kid-tree n ns i f.trees l) (kid-ordered w p ns i f.ordered l) (ap is_exclusive (child-hold x (child_at i ns)) ∙ none-exclusive n x p ns f.bus f.kids within none_exclusive i l);
      no_reply = lose-replies x (stamp_of q) (child_at i ns) (gives-at n x p ns f.bus f.kids within none_gives i l).1;
    }

    pub erase_of_all-row : (b : Bool) → RowTime w p (erase_noted (stamp_above w) c x p ns b) → Hands x w p ns (erase_noted (stamp_above w) c x p ns b) (map_from (erased_by c x (stamp_of (counted p))) 0 ns)
    erase_of_all-row true time =
        let q : DirValue = erase_noted (stamp_above w) c x p ns true in
        let e : DownValue = record { kind = ExclusiveTx; item = x; words = blank p.sizes.width; stamp = stamp_above w } in
        let one : queue_of x q.down ≡ e ∷ [] = queue-pushed x p.down e refl ∙ ap (λ l. l ++ e ∷ []) empty in
        let none : erased_at x w q ≡ None = none-then w q e refl one in
        asked-hands x w p q ns time (erased-none x w p empty) none c refl (nothing w q e refl one) refl (λ i l other. may-lose q time (erased-none x w p empty) none _ i l) where
          none-then : (w : Where) (q : DirValue) (e : DownValue) → e.kind ≡ ExclusiveTx → queue_of x q.down ≡ e ∷ [] → erased_at x w q ≡ None
          none-then at_top q e kind one = refl
          none-then (at_child c) q e kind one = ap (first_erase c.above) one ∙ rw kind refl

          nothing : (w : Where) (q : DirValue) (e : DownValue) → e.kind ≡ ExclusiveTx → queue_of x q.down ≡ e ∷ [] → Sub (downs_at x w q) (downs_at x w p)
          nothing at_top q e kind one j h = h
          nothing (at_child c) q e kind one j h =
              let none : downs (spot_path c) c.above (queue_of x q.down) ≡ [] = ap (downs (spot_path c) c.above) one ∙ rw kind refl in
              absurd (subst (λ l. In j l) none h)
    erase_of_all-row false time =
        let q : DirValue = erase_noted (stamp_above w) c x p ns false in
        asked-hands x w p q ns time (erased-none x w p empty) (erased-none x w q empty) c refl (downs-same x w p q refl) refl (λ i l other. may-lose q time (erased-none x w p empty) (erased-none x w q empty) _ i l)

  -- ---- a reply

  pub reply_to_readers-row : (c x : ℕ) (words : List ℕ) (first joined : ℕ) → child_reply (child_at c ns) ≡ Some (record { item = x; words = words }) → dir_note x p ≡ local first joined → first_given (reader_full (local first joined) x) 0 ns ≡ None → RowTime w p (with_note x no_note (counted p)) → Hands x w p ns (with_note x no_note (counted p)) (map_from (replied_by c (local first joined) x words (stamp_of (counted p))) 0 ns)
  reply_to_readers-row c x words first joined has note room time =
      let within : x < n = reply-known n x c words ns f.kids p f.bus has in
      let q : DirValue = with_note x no_note (counted p) in
      let u : Note = local first joined in
      let readers = local-readers n x p ns f.bus f.kids within first joined note in
      let l : c < length ns = replies-there c ns _ has in
      reply-hands x w p q ns time refl refl refl c l words has u (apart within readers note l) (reader-gets n x p ns f.bus f.kids within readers u note room words (stamp_of q)) where
        apart : (within : x < n) → (bits_of (parent_face x p) (faces_of x ns)).readers ≡ true → dir_note x p ≡ local first joined → c < length ns → is_reader (local first joined) c ≡ false
        apart within readers note l = by (is_reader (local first joined) c) refl where
          by : (b : Bool) → is_reader (local first joined) c ≡ b → b ≡ false
          by true is =
              let absent = reader-absent n x p ns f.bus f.kids within readers (local first joined) note c l is in
              let holds = replier-holds n x c words p ns f.bus f.kids within has in
              cc
          by false is = refl

  pub reply_to_parent-row : (c x : ℕ) (words : List ℕ) → child_reply (child_at c ns) ≡ Some (record { item = x; words = words }) → is_local (dir_note x p) ≡ false → is_answering x p ≡ true → (let q : DirValue = pushed_reply x words (with_answering x false (with_hold x Hold.Shared (counted p))) in RowTime w p q → Hands x w p ns q (map_from (only c child_reply_taken) 0 ns))
  reply_to_parent-row c x words has other answering time =
      let within : x < n = reply-known n x c words ns f.kids p f.bus has in
      let q : DirValue = pushed_reply x words (with_answering x false (with_hold x Hold.Shared (counted p))) in
      let ms : List Node = map_from (only c child_reply_taken) 0 ns in
      let l : c < length ns = replies-there c ns _ has in
      let empty : queue_of x p.down ≡ [] = no-queue x p (answered-queue n x p ns f.bus f.kids within answering other (gift-given n x c words p ns f.bus f.kids within has)) in
      let source : (b : List ℕ) → In (copy_here (where_path w) (bound_at w p) words) (hand_of x w b p (nodes ns)) = λ b. subst (λ o. In (cut o (copy_here (where_path w) (bound_at w p) words)) (hand_of x w b p (nodes ns))) (erased-none x w p empty) (in-kid x w b p q ns (Has x ns ms) c (copy_here (where_path w) (bound_at w p) words) l (reply-copy x (where_path w) (bound_at w p) (stamp_of p) c (child_at c ns) words has)) in
      up-hands x w p q ns ms time f.ordered words (erased-same x w p q refl) (downs-same x w p q refl) refl (words-pushed x p.replies (record { item = x; words = words }) refl) source (map_from-length (only c child_reply_taken) 0 ns) (one-fewer x p ns c child_reply_taken (reply-fewer x))
