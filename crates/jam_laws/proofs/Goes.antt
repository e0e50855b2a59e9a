-- Which turns of one bus go on. Each is granted but where a list that needs a place is full.
-- Letters: x is the item, p the parent, q the parent after its first entry was taken, ns the children, c a child number.
use Rattle.std.proofs.Common.{◌≡◌, ◌≢◌, ℕ, zero, suc, ◌+◌, ◌<◌, ◌≤◌, Bool, true, false, List, [], ◌∷◌, length, Option, Some, None, refl, sym, ap, subst, ◌∙◌, arith}
use Rattle.std.specs.Prelude.{not, ◌&&◌, ◌||◌, nat_eq, nat_lt}
use Rattle.std.specs.List.{AllByRecursion, list_any, list_all, range_with_len}
use native.Mathlib.Decide.{ℕ_discrete}
use Rattle.std.proofs.Math.Bool.{and-false}
use Rattle.std.proofs.lemmas.Bool.{and_parts, eqb-true, eq-eqb, ne_eqb, not-true, true≢false}
use Rattle.jam_laws.specs.DdmTypes.declared.answers.TxKind.{TxKind}
use Rattle.jam_laws.specs.DdmTypes.declared.answers.TxKind.TheVariants.{ReadTx, DataTx, EraseTx, ExclusiveTx, InjectTx, OutTx}
use Rattle.jam_laws.specs.DdmTypes.declared.keys.Stamp.{Stamp}
use Rattle.jam_laws.specs.TreeModel.State.Lists.{first_of, has_some, find_from}
use Rattle.jam_laws.specs.TreeModel.State.States.{is_held}
use Rattle.jam_laws.specs.TreeModel.State.Values.{CopyValue, DownValue, Note, no_note, local, up_read, up_erase, DirValue, Node, leaf_node, dir_node}
use Rattle.jam_laws.specs.TreeModel.State.Leaf.{words_of_item}
use Rattle.jam_laws.specs.TreeModel.State.Directory.{dir_note, is_answering, is_local, is_up_read, is_up_erase, is_reader, is_parked, parked_words, front_taken, queue_kinds}
use Rattle.jam_laws.specs.TreeModel.State.Child.{child_reply, child_holds, reader_has_place}
use Rattle.jam_laws.specs.TreeModel.State.Blank.{no_node}
use Rattle.jam_laws.specs.TreeModel.Turns.Children.{child_at, holds_item}
use Rattle.jam_laws.specs.TreeModel.Turns.Reply.{reply_answering, reply_by_note}
use Rattle.jam_laws.specs.TreeModel.Turns.Down.{down_exclusive, down_read, down_data, inject_to_parking, inject_to_taker, inject_to_read, inject_taker, down_inject, down_by_kind, down_by_note, down_turn}
use Rattle.jam_laws.specs.TreeModel.Turns.Bus.{reply_turn}
use Rattle.jam_laws.proofs.TreeModel.Children.{none-passes}
use Rattle.jam_laws.specs.TreeRules.Bus.Faces.{ParentFace, parent_face, child_face, faces_of}
use Rattle.jam_laws.specs.TreeRules.Bus.Own.{note_fits}
use Rattle.jam_laws.specs.TreeRules.Bus.Item.{implies, holds_it, gives_none, Bits, bits_of, kept_place}
use Rattle.jam_laws.specs.TreeRules.Bus.Rules.{IsBusOk, IsChildOk, kept_places}
use Rattle.jam_laws.proofs.TreeRules.Implying.{implies-use}
use Rattle.bus_laws.proofs.States.{each_state, state-at}
use Rattle.bus_laws.proofs.BitsOf.{any-false, all-at}
use Rattle.bus_laws.proofs.ItemLists.{queue-front}
use Rattle.bus_laws.proofs.DirParts.{dir-parts, note-at, lt-fact, starts_with, is_no_note}
use Rattle.bus_laws.proofs.Calls.{child-reply-taken}
use Rattle.bus_laws.proofs.OneChild.{replies-there}
use Rattle.bus_laws.proofs.Answering.{child-hold}
use Rattle.bus_laws.proofs.RowFrame.{all-kids_at}
use Rattle.bus_laws.proofs.Before.{reader-at, entry-known}
use Rattle.jam_laws.proofs.Judged.{goes, unless_full-goes}

-- ---- what the rules of an item say, computed at each state that they leave

-- of the first entry that comes down
abbrev first_entry : ParentFace → Bits → Bool
first_entry p k =
    implies (starts_with ReadTx p.queue) k.held && (implies (starts_with DataTx p.queue) (is_up_read p.note) && (implies (starts_with ExclusiveTx p.queue) (is_up_erase p.note)
    && (not (starts_with OutTx p.queue) && implies (starts_with InjectTx p.queue) (not p.parked && (k.readers && (is_up_read p.note || nat_eq (kept_place p) 1))))))

each-first_entry : (note : Note) → each_state first_entry note ≡ true
unfolding implies
each-first_entry no_note = refl
each-first_entry (local first joined) = refl
each-first_entry (up_read first joined) = refl
each-first_entry (up_erase d) = refl

-- of a child that gives, and of a parent that is to have it given
abbrev pub gift : ParentFace → Bits → Bool
gift p k = implies (not k.no_gift) (is_local p.note || p.answering) && implies (is_local p.note || (p.answering && not (has_some p.queue))) (not k.no_gift)

pub each-gift : (note : Note) → each_state gift note ≡ true
unfolding implies
each-gift no_note = refl
each-gift (local first joined) = refl
each-gift (up_read first joined) = refl
each-gift (up_erase d) = refl

-- of an item that isn't pending
abbrev pub calm : ParentFace → Bits → Bool
calm p k = implies (is_no_note p.note && (not p.answering && (not (has_some p.queue) && is_held p.hold))) k.held

pub each-calm : (note : Note) → each_state calm note ≡ true
unfolding implies
each-calm no_note = refl
each-calm (local first joined) = refl
each-calm (up_read first joined) = refl
each-calm (up_erase d) = refl

-- ---- a holder is found

absent : {X : Type 0} (xs : List X) → first_of xs ≡ None → has_some xs ≡ false
absent [] e = refl
absent (x ∷ xs) e = cc

-- where nothing is parked and no child holds the item, there is no holder
pub no-holder : (x : ℕ) (p : DirValue) (ns : List Node) → parked_words x p ≡ None → ((i : ℕ) → i < length ns → child_holds x (child_at i ns) ≡ false) → (bits_of (parent_face x p) (faces_of x ns)).held ≡ false
no-holder x p ns parked none =
    let free : is_parked x p ≡ false = absent (words_of_item x p.parked) parked in
    let nobody : list_any holds_it (faces_of x ns) ≡ false = any-false (child_face x) no_node holds_it ns (λ i l. ap is_held (sym (child-hold x (child_at i ns))) ∙ none i l) in
    ap (λ b. b || list_any holds_it (faces_of x ns)) free ∙ nobody

-- a place that is kept for an item is one of those kept
kept-one : (x : ℕ) (p : DirValue) (a n : ℕ) → a ≤ x → x < a + n → kept_place (parent_face x p) ≤ kept_places p (range_with_len a n)
kept-one x p a zero low high = absurd (omega arith)
kept-one x p a (suc n) low high = at (ℕ_discrete a x) (λ other. kept-one x p (a + 1) n (omega arith) (omega arith)) where
  at : Dec (a ≡ x) → (a ≢ x → kept_place (parent_face x p) ≤ kept_places p (range_with_len (a + 1) n)) → kept_place (parent_face x p) ≤ kept_places p (range_with_len a (suc n))
  at (yes same) rest =
      let here : kept_place (parent_face a p) ≡ kept_place (parent_face x p) = ap (λ z. kept_place (parent_face z p)) same in
      omega (arith, here)
  at (no other) rest =
      let behind = rest other in
      omega (arith, behind)

module _ (n : ℕ) (above : Stamp) (p : DirValue) (ns : List Node) (bus : IsBusOk n p ns) (kids : AllByRecursion (IsChildOk n) ns) where
  -- ---- the first entry that comes down

  module _ (e : DownValue) (rest : List DownValue) (front : p.down ≡ e ∷ rest) (other : is_local (dir_note e.item p) ≡ false) where
    abbrev x : ℕ
    x = e.item

    abbrev q : DirValue
    q = front_taken e.stamp rest p

    abbrev face : ParentFace
    face = parent_face x p

    abbrev k : Bits
    k = bits_of face (faces_of x ns)

    within : x < n
    within = entry-known n x p ns bus e rest front

    starts : (kind : TxKind) → e.kind ≡ kind → starts_with kind (kind ∷ []) ≡ true → starts_with kind face.queue ≡ true
    starts kind is self = ap (starts_with kind) (ap (queue_kinds x) front ∙ queue-front e rest) ∙ (ap (λ l. starts_with kind (l ∷ [])) is ∙ self)

    known : first_entry face k ≡ true
    known = state-at first_entry each-first_entry face (faces_of x ns) (bus.rules x within)

    -- the same as facts
    record Known : Type 0 where
      read : implies (starts_with ReadTx face.queue) k.held ≡ true
      data_comes : implies (starts_with DataTx face.queue) (is_up_read face.note) ≡ true
      exclusive : implies (starts_with ExclusiveTx face.queue) (is_up_erase face.note) ≡ true
      no_out : starts_with OutTx face.queue ≡ false
      inject : implies (starts_with InjectTx face.queue) (not face.parked && (k.readers && (is_up_read face.note || nat_eq (kept_place face) 1))) ≡ true

    facts : Known
    facts =
        let a = and_parts (implies (starts_with ReadTx face.queue) k.held) _ known in
        let b = and_parts (implies (starts_with DataTx face.queue) (is_up_read face.note)) _ a.1 in
        let c = and_parts (implies (starts_with ExclusiveTx face.queue) (is_up_erase face.note)) _ b.1 in
        let d = and_parts (not (starts_with OutTx face.queue)) _ c.1 in
        record { read = a.0; data_comes = b.0; exclusive = c.0; no_out = not-true _ d.0; inject = d.1 }

    read-goes : (c : Option ℕ) (words : Option (List ℕ)) → find_from (holds_item x) 0 ns ≡ c → parked_words x p ≡ words → k.held ≡ true → goes (down_read x q ns c words) ≡ true
    read-goes (Some c) words found parked held = unless_full-goes _ _
    read-goes None (Some words) found parked held = unless_full-goes _ _
    read-goes None None found parked held = absurd (true≢false (sym held ∙ no-holder x p ns parked (λ i l. none-passes (holds_item x) i ns no_node found l)))

    data-goes : (note : Note) → is_up_read note ≡ true → goes (down_data x q ns e.words note) ≡ true
    data-goes no_note is = cc
    data-goes (local first joined) is = cc
    data-goes (up_read first joined) is = unless_full-goes _ _
    data-goes (up_erase d) is = cc

    exclusive-goes : (note : Note) → is_up_erase note ≡ true → goes (down_exclusive x q ns note) ≡ true
    exclusive-goes no_note is = cc
    exclusive-goes (local first joined) is = cc
    exclusive-goes (up_read first joined) is = cc
    exclusive-goes (up_erase d) is = unless_full-goes _ _

    -- ---- inject

    module _ (inject : e.kind ≡ InjectTx) where
      taken-how : (not face.parked && (k.readers && (is_up_read face.note || nat_eq (kept_place face) 1))) ≡ true
      taken-how = implies-use (starts_with InjectTx face.queue) _ facts.inject (starts InjectTx inject refl)

      free : is_parked x p ≡ false
      free = not-true _ (and_parts (not face.parked) _ taken-how).0

      readers : k.readers ≡ true
      readers = (and_parts k.readers _ (and_parts (not face.parked) _ taken-how).1).0

      -- a place was kept
      place-kept : is_up_read (dir_note x p) ≡ false → nat_eq p.reserved 0 ≡ false
      place-kept none =
          let either : (is_up_read face.note || nat_eq (kept_place face) 1) ≡ true = (and_parts k.readers _ (and_parts (not face.parked) _ taken-how).1).1 in
          let one : kept_place face ≡ 1 = eqb-true _ _ (subst (λ b. (b || nat_eq (kept_place face) 1) ≡ true) none either) in
          let low : 0 ≤ x = omega arith in
          let few : kept_place face ≤ kept_places p (range_with_len 0 n) = kept-one x p 0 n low (omega (arith, within)) in
          let reserved : p.reserved ≡ kept_places p (range_with_len 0 n) = bus.reserved in
          ne_eqb _ _ (λ zero. omega (arith, zero, one, few, reserved))

      to_parking-goes : is_up_read (dir_note x p) ≡ false → goes (inject_to_parking x q ns e.words) ≡ true
      to_parking-goes none = rw (free, place-kept none) refl

      to_taker-goes : is_up_read (dir_note x p) ≡ false → (c : Option ℕ) → goes (inject_to_taker x q ns e.words c) ≡ true
      to_taker-goes none (Some c) = refl
      to_taker-goes none None = to_parking-goes none

      has-place : (m : Node) → (child_face x m).reads ≡ true → reader_has_place x m ≡ true
      has-place (leaf_node v) reads = refl
      has-place (dir_node d ms) reads =
          let a = and_parts (is_up_read (dir_note x d)) _ reads in
          let b = and_parts (not (has_some (queue_kinds x d.down))) _ a.1 in
          rw (a.0, not-true _ b.0) refl

      reader-has_place : (first joined : ℕ) → dir_note x p ≡ up_read first joined → reader_has_place x (child_at first ns) ≡ true
      reader-has_place first joined is =
          let fits : note_fits (length ns) (up_read first joined) ≡ true = subst (λ note. note_fits (length ns) note ≡ true) is (note-at n (length ns) x p (dir-parts n (length ns) p bus.own)) in
          let there = lt-fact first (length ns) (and_parts (nat_lt first (length ns)) _ fits).0 in
          let reader : is_reader face.note first ≡ true = rw (is, eq-eqb first first refl) refl in
          has-place (child_at first ns) (reader-at n x p ns bus kids within readers first there reader)

      to_read-goes : (first joined : ℕ) → dir_note x p ≡ up_read first joined → (alone : Bool) → nat_eq joined 0 ≡ alone → goes (inject_to_read x q ns e.words first joined) ≡ true
      to_read-goes first joined is true alone = rw (alone, reader-has_place first joined is) (unless_full-goes _ _)
      to_read-goes first joined is false others = rw others (unless_full-goes _ _)

      inject-goes : (note : Note) → dir_note x p ≡ note → goes (down_inject x q ns e.words note) ≡ true
      inject-goes (up_read first joined) is = to_read-goes first joined is (nat_eq joined 0) refl
      inject-goes no_note is = to_taker-goes (ap is_up_read is) (inject_taker x q ns e.words)
      inject-goes (local first joined) is = to_taker-goes (ap is_up_read is) (inject_taker x q ns e.words)
      inject-goes (up_erase d) is = to_taker-goes (ap is_up_read is) (inject_taker x q ns e.words)

    kind-goes : (kind : TxKind) → e.kind ≡ kind → goes (down_by_kind x q ns e.words kind) ≡ true
    kind-goes ReadTx is = read-goes (find_from (holds_item x) 0 ns) (parked_words x p) refl refl (implies-use (starts_with ReadTx face.queue) k.held facts.read (starts ReadTx is refl))
    kind-goes DataTx is = data-goes (dir_note x p) (implies-use (starts_with DataTx face.queue) _ facts.data_comes (starts DataTx is refl))
    kind-goes EraseTx is = unless_full-goes _ _
    kind-goes ExclusiveTx is = exclusive-goes (dir_note x p) (implies-use (starts_with ExclusiveTx face.queue) _ facts.exclusive (starts ExclusiveTx is refl))
    kind-goes InjectTx is = inject-goes is (dir_note x p) refl
    kind-goes OutTx is = absurd (true≢false (sym (starts OutTx is refl) ∙ facts.no_out))

    note-goes : (note : Note) → is_local note ≡ false → goes (down_by_note x q ns e.words e.kind note) ≡ true
    note-goes no_note is = kind-goes e.kind refl
    note-goes (local first joined) is = cc
    note-goes (up_read first joined) is = kind-goes e.kind refl
    note-goes (up_erase d) is = kind-goes e.kind refl

    pub down-goes : goes (down_turn p ns p.down) ≡ true
    down-goes = subst (λ down. goes (down_turn p ns down) ≡ true) (sym front) (note-goes (dir_note x p) other)

  -- ---- a reply

  module _ (c : ℕ) (r : CopyValue) (has : child_reply (child_at c ns) ≡ Some r) where
    there-r : c < length ns
    there-r = replies-there c ns r has

    abbrev y : ℕ
    y = r.item

    replied-known : y < n
    replied-known = (child-reply-taken n y r.words (child_at c ns) (all-kids_at (IsChildOk n) no_node ns c kids there-r) has).known

    gives : gives_none (child_face y (child_at c ns)) ≡ false
    gives =
        let some : 1 ≤ (child_face y (child_at c ns)).replies = (child-reply-taken n y r.words (child_at c ns) (all-kids_at (IsChildOk n) no_node ns c kids there-r) has).some in
        let more : nat_eq (child_face y (child_at c ns)).replies 0 ≡ false = ne_eqb _ _ (λ zero. omega (arith, some, zero)) in
        ap (λ b. not (child_face y (child_at c ns)).answers && b) more ∙ and-false (not (child_face y (child_at c ns)).answers)

    answered : (is_local (dir_note y p) || is_answering y p) ≡ true
    answered =
        let all = state-at gift each-gift (parent_face y p) (faces_of y ns) (bus.rules y replied-known) in
        implies-use (not (bits_of (parent_face y p) (faces_of y ns)).no_gift) _ (and_parts (implies (not (bits_of (parent_face y p) (faces_of y ns)).no_gift) _) _ all).0 (at (list_all gives_none (faces_of y ns)) refl) where
          at : (b : Bool) → list_all gives_none (faces_of y ns) ≡ b → not b ≡ true
          at true is = absurd (true≢false (sym (all-at (child_face y) no_node gives_none ns c is there-r) ∙ gives))
          at false is = refl

    answering-goes : (b : Bool) → b ≡ true → goes (reply_answering c y r.words p ns b) ≡ true
    answering-goes true is = unless_full-goes _ _
    answering-goes false is = cc

    by_note-goes : (note : Note) → dir_note y p ≡ note → (is_local note || is_answering y p) ≡ true → goes (reply_by_note c y r.words p ns note) ≡ true
    by_note-goes (local first joined) is either = unless_full-goes _ _
    by_note-goes no_note is either = answering-goes (is_answering y p) either
    by_note-goes (up_read first joined) is either = answering-goes (is_answering y p) either
    by_note-goes (up_erase d) is either = answering-goes (is_answering y p) either

    pub reply-goes : goes (reply_turn above p ns c (child_reply (child_at c ns))) ≡ true
    reply-goes = subst (λ o. goes (reply_turn above p ns c o) ≡ true) (sym has) (by_note-goes (dir_note y p) refl answered)
