-- Where copies come from in a turn that takes the first entry of the parent's down list, as for the entry's item.
-- Letters: p is the parent, ns its children, w where the parent stands, e the entry, rest what is behind it.
use Rattle.std.proofs.Common.{◌≡◌, ℕ, ◌<◌, true, false, List, [], ◌∷◌, map, length, Some, None, refl, sym, ap, subst, ◌∙◌}
use Rattle.order_laws.specs.DdmTypes.declared.answers.TxKind.{TxKind}
use Rattle.order_laws.specs.DdmTypes.declared.answers.TxKind.TheVariants.{ReadTx, EraseTx, ExclusiveTx, InjectTx}
use Rattle.order_laws.specs.DdmTypes.declared.sizes.Hold.{Hold}
use Rattle.order_laws.specs.DdmTypes.declared.keys.Stamp.{Stamp}
use Rattle.order_laws.specs.TreeModel.State.Kinds.{is_kind, has_kind, brings_copy}
use Rattle.order_laws.specs.TreeModel.State.Lists.{map_from, first_given, rest_of, has_some}
use Rattle.order_laws.specs.TreeModel.State.States.{is_exclusive}
use Rattle.order_laws.specs.TreeModel.State.Values.{DownValue, no_note, up_read, DirValue, Node, nodes}
use Rattle.order_laws.specs.TreeModel.State.Leaf.{words_of_item}
use Rattle.order_laws.specs.TreeModel.State.Directory.{dir_note, is_local, queue_of, queue_kinds, entry_kind, parked_words, stamp_of, front_taken, with_note, with_hold, with_answering, with_parked, without_parked, pushed_reply, place_released}
use Rattle.order_laws.specs.TreeModel.State.Child.{child_take_exclusive, child_answer, child_take_inject}
use Rattle.order_laws.specs.TreeModel.State.Place.{Where, at_top, at_child, where_path, spot_path}
use Rattle.order_laws.specs.TreeModel.Turns.Children.{child_at, only, loses, reader_full, reader_takes}
use Rattle.order_laws.specs.TreeModel.Turns.Down.{without_up_erase}
use Rattle.order_laws.specs.TreeRules.Order.Copies.{cut, copy_here, first_erase}
use Rattle.order_laws.specs.TreeRules.Order.Directories.{IsClocked}
use Rattle.order_laws.specs.TreeRules.Order.Moments.{moment_at}
use Rattle.bus_laws.proofs.Answering.{child-hold}
use Rattle.bus_laws.proofs.Before.{kid-ok, none-exclusive, gives-at, entry-known, entry-starts}
use Rattle.bus_laws.proofs.ItemLists.{words-pushed, words-without}
use Rattle.order_lists.proofs.Clocks.{here}
use Rattle.order_laws.specs.Moves.Moved.{In}
use Rattle.order_laws.specs.Moves.Parent.{bound_at, moment_in, erased_at, hand_of}
use Rattle.order_laws.proofs.Moves.Queues.{first_erase-none}
use Rattle.order_laws.proofs.Moves.Calls.{same-fewer}
use Rattle.order_laws.proofs.Moves.Inside.{queue-front}
use Rattle.order_laws.proofs.Moves.Bus.{in-parked}
use Rattle.order_laws.proofs.Moves.Brought.{readers-hands, taker-hands, parking-hands}
use Rattle.order_laws.proofs.Moves.BusFacts.{BusFacts, kid-tree, kid-ordered, read-queue, erase-known, parked-in}
use Rattle.order_laws.proofs.Moves.Facts.{top-exclusive, up-readers, reader-gets}
use Rattle.order_laws.proofs.Moves.Giving.{no-queue}
use Rattle.order_laws.proofs.Moves.Hands.{Has, Hands}
use Rattle.order_laws.proofs.Moves.LoseRows.{erase-hands}
use Rattle.order_laws.proofs.Moves.Next.{epoch-taken, taken-goes_on}
use Rattle.order_laws.proofs.Moves.PlainRows.{queue-is, erased-taken, downs-taken, answer-hands, exclusive-hands}
use Rattle.order_laws.proofs.Moves.Ready.{no-erase, ready, lose-replies}
use Rattle.order_laws.proofs.Moves.RowTime.{RowTime}
use Rattle.order_laws.proofs.Moves.Takers.{MayTake, takes-gets}
use Rattle.order_laws.proofs.Moves.UpRows.{up-hands}

other-kind : (k : TxKind) (kind : TxKind) → k ≡ kind → is_kind EraseTx kind ≡ false → is_kind EraseTx k ≡ false
other-kind k kind e h = ap (is_kind EraseTx) e ∙ h

brings-kind : (k : TxKind) (kind : TxKind) → k ≡ kind → brings_copy kind ≡ true → brings_copy k ≡ true
brings-kind k kind e h = ap brings_copy e ∙ h

module _ (n : ℕ) (p : DirValue) (ns : List Node) (e : DownValue) (rest : List DownValue) (front : p.down ≡ e ∷ rest) where
  abbrev x : ℕ
  x = e.item

  -- the parent without the entry
  abbrev t : DirValue
  t = front_taken e.stamp rest p

  abbrev s : Stamp
  s = stamp_of t

  within : (w : Where) → BusFacts n w p ns → x < n
  within w f = entry-known n x p ns f.bus e rest front

  -- ---- exclusive, or a read that a child answers

  pub exclusive-row : (w : Where) (d : ℕ) → e.kind ≡ ExclusiveTx → RowTime w p (with_note x no_note t) → Hands x w p ns (with_note x no_note t) (map_from (only d (child_take_exclusive x s)) 0 ns)
  exclusive-row w d kind time = exclusive-hands x w p (with_note x no_note t) ns (erased-taken w p (with_note x no_note t) e rest front refl (other-kind e.kind ExclusiveTx kind refl)) (downs-taken w p (with_note x no_note t) e rest front refl) refl refl time d s

  pub read_by_child-row : (w : Where) (k : ℕ) → e.kind ≡ ReadTx → RowTime w p t → Hands x w p ns t (map_from (only k (child_answer x s)) 0 ns)
  read_by_child-row w k kind time = answer-hands x w p t ns (erased-taken w p t e rest front refl (other-kind e.kind ReadTx kind refl)) (downs-taken w p t e rest front refl) refl refl time k s

  -- ---- a read that the parked copy answers

  pub read_by_parked-row : (w : Where) → BusFacts n w p ns → (words : List ℕ) → e.kind ≡ ReadTx → parked_words x p ≡ Some words → (let q : DirValue = pushed_reply x words (with_answering x false (with_hold x Hold.Shared t)) in RowTime w p q → Hands x w p ns q ns)
  read_by_parked-row w f words kind parked time =
      let q : DirValue = pushed_reply x words (with_answering x false (with_hold x Hold.Shared t)) in
      let erased : erased_at x w q ≡ erased_at x w p = erased-taken w p q e rest front refl (other-kind e.kind ReadTx kind refl) in
      let last : has_some (rest_of (queue_kinds x p.down)) ≡ false = read-queue n x p ns f.bus f.kids (within w f) (entry-starts n x p ns f.bus e rest front ReadTx kind refl) in
      let behind : has_some (queue_kinds x rest) ≡ false = subst (λ l. has_some (rest_of (map entry_kind l)) ≡ false) (ap (queue_of x) front ∙ queue-front e rest) last in
      let none : erased_at x w p ≡ None = sym erased ∙ empty w q (no-queue x q behind) in
      let source : (b : List ℕ) → In (copy_here (where_path w) (bound_at w p) words) (hand_of x w b p (nodes ns)) = λ b. subst (λ o. In (cut o (copy_here (where_path w) (bound_at w p) words)) (hand_of x w b p (nodes ns))) none (in-parked x w b p q ns (Has x ns ns) (copy_here (where_path w) (bound_at w p) words) (parked-in x p.parked words parked (where_path w) (bound_at w p))) in
      up-hands x w p q ns ns time f.ordered words erased (downs-taken w p q e rest front refl) refl (words-pushed x p.replies (record { item = x; words = words }) refl) source refl (λ i l. same-fewer x (child_at i ns)) where
        empty : (w : Where) (q : DirValue) → queue_of x q.down ≡ [] → erased_at x w q ≡ None
        empty at_top q h = refl
        empty (at_child c) q h = ap (first_erase c.above) h

  -- ---- data, or an inject that several read

  module _ (first joined : ℕ) (note : dir_note x p ≡ up_read first joined) (room : first_given (reader_full (up_read first joined) x) 0 ns ≡ None) where
    pub readers-row : (kind : TxKind) → e.kind ≡ kind → is_kind kind kind ≡ true → is_kind ExclusiveTx kind ≡ false → is_kind EraseTx kind ≡ false → brings_copy kind ≡ true → (w : Where) → BusFacts n w p ns → RowTime w p (with_note x no_note t) → Hands x w p ns (with_note x no_note t) (map_from (reader_takes (up_read first joined) x e.words s) 0 ns)
    readers-row kind is self other erase brings at_top f time = absurd (top-exclusive n p ns (f.top refl) e rest front f.bus kind is self other)
    readers-row kind is self other erase brings (at_child c) f time =
        let q : DirValue = with_note x no_note t in
        let clocked : IsClocked (here c p) = f.ordered.0.clocked in
        let readers = up-readers n x p ns f.bus f.kids (within (at_child c) f) first joined note in
        readers-hands c p q ns e rest front refl (epoch-taken p q refl refl e rest front refl refl c clocked) (other-kind e.kind kind is erase) (brings-kind e.kind kind is brings) time refl refl (up_read first joined) (reader-gets n x p ns f.bus f.kids (within (at_child c) f) readers (up_read first joined) note room e.words s)

  -- ---- an inject for one child, or for parking

  pub taker-row : (d : ℕ) → e.kind ≡ InjectTx → (w : Where) → BusFacts n w p ns → (q : DirValue) → q.level ≡ p.level → q.count ≡ t.count → q.down ≡ rest → q.epoch ≡ t.epoch → q.parked ≡ p.parked → q.replies ≡ p.replies → stamp_of q ≡ s → (d < length ns → MayTake x (child_at d ns)) → RowTime w p q → Hands x w p ns q (map_from (only d (child_take_inject x e.words s)) 0 ns)
  taker-row d kind at_top f q level count down epoch parked replies same may time = absurd (top-exclusive n p ns (f.top refl) e rest front f.bus InjectTx kind refl refl)
  taker-row d kind (at_child c) f q level count down epoch parked replies same may time =
      let clocked : IsClocked (here c p) = f.ordered.0.clocked in
      let ok : x < n = within (at_child c) f in
      subst (λ u. Hands x (at_child c) p ns q (map_from (only d (child_take_inject x e.words u)) 0 ns)) same (taker-hands c p q ns e rest front down (epoch-taken p q level count e rest front down epoch c clocked) (other-kind e.kind InjectTx kind refl) (brings-kind e.kind InjectTx kind refl) time (ap (words_of_item x) parked) (ap (words_of_item x) replies) d (λ l. takes-gets n x ok e.words (stamp_of q) (child_at d ns) (kid-ok n x p ns f.bus f.kids ok d l) (may l)))

  pub inject_parked-row : e.kind ≡ InjectTx → (w : Where) → BusFacts n w p ns → (let q : DirValue = with_parked x e.words (place_released t) in RowTime w p q → Hands x w p ns q ns)
  inject_parked-row kind at_top f time = absurd (top-exclusive n p ns (f.top refl) e rest front f.bus InjectTx kind refl refl)
  inject_parked-row kind (at_child c) f time =
      let q : DirValue = with_parked x e.words (place_released t) in
      let clocked : IsClocked (here c p) = f.ordered.0.clocked in
      parking-hands c p q ns e rest front refl (epoch-taken p q refl refl e rest front refl refl c clocked) (other-kind e.kind InjectTx kind refl) (brings-kind e.kind InjectTx kind refl) time (words-pushed x p.parked (record { item = x; words = e.words }) refl) refl

  -- ---- an erase

  pub erase-row : e.kind ≡ EraseTx → is_local (dir_note x p) ≡ false → (w : Where) → BusFacts n w p ns → (let q : DirValue = with_note x (without_up_erase (dir_note x p)) (without_parked x t) in RowTime w p q → Hands x w p ns q (map_from (loses x s) 0 ns))
  erase-row kind other at_top f time = absurd (top-exclusive n p ns (f.top refl) e rest front f.bus EraseTx kind refl refl)
  erase-row kind other (at_child c) f time =
      let q : DirValue = with_note x (without_up_erase (dir_note x p)) (without_parked x t) in
      let w : Where = at_child c in
      let clocked : IsClocked (here c p) = f.ordered.0.clocked in
      let ok : x < n = within w f in
      let known = erase-known n x p ns f.bus f.kids ok (entry-starts n x p ns f.bus e rest front EraseTx kind refl) other in
      let m : List ℕ = moment_at c.above e.stamp in
      let was : erased_at x w p ≡ Some m = ap (first_erase c.above) (queue-is w p q e rest front refl) ∙ rw kind refl in
      let behind : has_kind EraseTx (queue_kinds x rest) ≡ false = subst (λ l. has_kind EraseTx (rest_of (map entry_kind l)) ≡ false) (ap (queue_of x) front ∙ queue-front e rest) known.1.1 in
      let none : erased_at x w q ≡ None = first_erase-none c.above (queue_of x rest) (no-erase x rest behind) in
      let on = taken-goes_on p q refl refl e rest front refl refl c clocked in
      erase-hands x w p q ns time (Some m) was none on (words-without x p.parked) (downs-taken w p q e rest front refl) refl (λ i l. record {
        ready = ready n x ok (spot_path c) (moment_in w p) (stamp_of q) (Some m) _ on i (stamp_of p) (child_at i ns) refl (kid-tree n ns i f.trees l) (kid-ordered w p ns i f.ordered l) (ap is_exclusive (child-hold x (child_at i ns)) ∙ none-exclusive n x p ns f.bus f.kids ok known.1.0 i l);
        no_reply = lose-replies x (stamp_of q) (child_at i ns) (gives-at n x p ns f.bus f.kids ok known.0 i l).1;
      })
