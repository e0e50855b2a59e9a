-- A child that asks, or whose request was granted: its request goes on, or the item is under way on the bus.
-- Letters: x is the item, p the parent, ns its children, c a child number.
use Rattle.std.proofs.Common.{◌≡◌, ℕ, ◌<◌, Bool, true, false, ◌⊎◌, inl, inr, List, [], ◌∷◌, length, Option, Some, None, refl, sym, ap, subst, ◌∙◌}
use Rattle.std.specs.Prelude.{not, ◌&&◌, ◌||◌, nat_eq, filter, map}
use Rattle.std.specs.List.{AllByRecursion, list_all}
use native.Mathlib.Decide.{ℕ_discrete}
use Rattle.std.specs.Cmp.Derive.{both_true}
use Rattle.std.proofs.lemmas.Bool.{ne_eqb, true≢false}
use Rattle.jam_laws.specs.DdmTypes.declared.answers.PendingWhy.{PendingWhy}
use Rattle.jam_laws.specs.DdmTypes.declared.answers.TxKind.{TxKind}
use Rattle.jam_laws.specs.DdmTypes.declared.answers.TxKind.TheVariants.{ReadTx, DataTx, EraseTx, ExclusiveTx, InjectTx, OutTx}
use Rattle.jam_laws.specs.DdmTypes.declared.sizes.Hold.{Hold}
use Rattle.jam_laws.specs.DdmTypes.declared.sizes.LeafState.{LeafState}
use Rattle.jam_laws.specs.DdmTypes.declared.keys.Stamp.{Stamp}
use Rattle.jam_laws.specs.TreeModel.State.Lists.{has_some, first_of, find_from, names_item}
use Rattle.jam_laws.specs.TreeModel.State.Kinds.{goes_up}
use Rattle.jam_laws.specs.TreeModel.State.States.{is_held}
use Rattle.jam_laws.specs.TreeModel.State.Values.{RequestValue, DownValue, LeafValue, Note, no_note, local, up_read, up_erase, DirValue, Node, leaf_node, dir_node, children}
use Rattle.jam_laws.specs.TreeModel.State.Leaf.{state_at}
use Rattle.jam_laws.specs.TreeModel.State.Directory.{dir_hold, dir_note, is_answering, is_local, is_up_read, is_up_erase, is_reader, is_eraser, parked_words, pending, pending_by, note_why, in_down, entry_item, entry_kind, queue_of}
use Rattle.jam_laws.specs.TreeModel.State.Child.{child_request, child_holds}
use Rattle.jam_laws.specs.TreeModel.State.Blank.{no_node}
use Rattle.jam_laws.specs.TreeModel.Turns.Children.{child_at, other_holds}
use Rattle.jam_laws.specs.TreeModel.Turns.RequestRead.{read_held, read_granted, read_unless_pending, request_read}
use Rattle.jam_laws.specs.TreeModel.Turns.RequestErase.{request_erase}
use Rattle.jam_laws.specs.TreeModel.Turns.Bus.{request_by_kind, request_turn}
use Rattle.jam_laws.proofs.TreeModel.Children.{none-passes}
use Rattle.jam_laws.specs.TreeRules.Bus.Faces.{ParentFace, ChildFace, parent_face, face_reads, face_erases, child_face, faces_of}
use Rattle.jam_laws.specs.TreeRules.Bus.Own.{slot_suits, request_suits, slot_fits, request_fits, IsLeafOk}
use Rattle.jam_laws.specs.TreeRules.Bus.Item.{implies, Bits, bits_of, one_request, requests_fit}
use Rattle.jam_laws.specs.TreeRules.Bus.Rules.{IsBusOk, IsChildOk}
use Rattle.jam_laws.proofs.TreeRules.Implying.{implies-use}
use Rattle.bus_laws.proofs.States.{each_state, state-at}
use Rattle.bus_laws.proofs.ItemLists.{kinds-first}
use Rattle.bus_laws.proofs.DirParts.{dir-parts, lt-fact, is_no_note}
use Rattle.bus_laws.proofs.Lists.{pass-first}
use Rattle.bus_laws.proofs.DirGives.{quiet-from_pending}
use Rattle.bus_laws.proofs.Calls.{IsGranted, child-read-taken, child-erase-taken}
use Rattle.bus_laws.proofs.Answering.{child-hold}
use Rattle.bus_laws.proofs.RowFrame.{all-kids_at}
use Rattle.bus_laws.proofs.Before.{not-reads, not-erases}
use Rattle.jam_laws.proofs.Judged.{goes, unless_full-goes}
use Rattle.jam_laws.proofs.Goes.{calm, each-calm, no-holder}

-- ---- what is under way for one of n items on the bus of a directory

-- something comes down; a child is to give for a read; or the directory is answering
pub data ComesDown (n : ℕ) (d : DirValue) : Type 0 where
  entry_comes : has_some d.down ≡ true → ComesDown n d
  child_gives : (x : ℕ) → x < n → is_local (dir_note x d) ≡ true → ComesDown n d
  dir_answers : (x : ℕ) → x < n → is_answering x d ≡ true → ComesDown n d

-- a read or an erase went up
pub data WentUp (n : ℕ) (d : DirValue) : Type 0 where
  read_went : (x : ℕ) → x < n → is_up_read (dir_note x d) ≡ true → WentUp n d
  erase_went : (x : ℕ) → x < n → is_up_erase (dir_note x d) ≡ true → WentUp n d

pub data UnderWay (n : ℕ) (d : DirValue) : Type 0 where
  comes_down : ComesDown n d → UnderWay n d
  went_up : WentUp n d → UnderWay n d

-- a child asks its bus for one of n items, or its request was granted and isn't served yet
pub data Wants (n : ℕ) (m : Node) : Type 0 where
  asks : (r : RequestValue) → child_request m ≡ Some r → Wants n m
  reads : (x : ℕ) → x < n → (child_face x m).reads ≡ true → Wants n m
  erases : (x : ℕ) → x < n → (child_face x m).erases ≡ true → Wants n m

-- a request of the child goes on
abbrev pub Granted : Stamp → DirValue → List Node → ℕ → Type 0
Granted above p ns c = goes (request_turn above p ns c (child_request (child_at c ns))) ≡ true

pub some-queued : (x : ℕ) (d : DirValue) → in_down x d ≡ true → has_some d.down ≡ true
unfolding queue_of
some-queued x d h = at d.down h where
  at : (down : List DownValue) → has_some (map entry_kind (filter (names_item entry_item x) down)) ≡ true → has_some down ≡ true
  at [] h = h
  at (e ∷ down) h = refl

note-under_way : (n x : ℕ) (d : DirValue) → x < n → (note : Note) → dir_note x d ≡ note → is_no_note note ≡ false → UnderWay n d
note-under_way n x d within no_note is some = cc
note-under_way n x d within (local first joined) is some = comes_down (child_gives x within (ap is_local is))
note-under_way n x d within (up_read first joined) is some = went_up (read_went x within (ap is_up_read is))
note-under_way n x d within (up_erase c) is some = went_up (erase_went x within (ap is_up_erase is))

-- an item that is pending is under way
pending-under_way : (n x : ℕ) (d : DirValue) → x < n → (why : PendingWhy) → pending x d ≡ Some why → UnderWay n d
unfolding pending
pending-under_way n x d within why is = at (dir_note x d) refl where
  by : (answers comes : Bool) → is_answering x d ≡ answers → in_down x d ≡ comes → pending_by None answers comes ≡ Some why → UnderWay n d
  by true comes e1 e2 h = comes_down (dir_answers x within e1)
  by false true e1 e2 h = comes_down (entry_comes (some-queued x d e2))
  by false false e1 e2 h = cc

  at : (note : Note) → dir_note x d ≡ note → UnderWay n d
  at no_note none = by (is_answering x d) (in_down x d) refl refl (subst (λ note. pending_by (note_why note) (is_answering x d) (in_down x d) ≡ Some why) none is)
  at (local first joined) note = note-under_way n x d within (local first joined) note refl
  at (up_read first joined) note = note-under_way n x d within (up_read first joined) note refl
  at (up_erase c) note = note-under_way n x d within (up_erase c) note refl

-- what a child asks for is a read or an erase
leaf-asks : (n : ℕ) (v : LeafValue) (r : RequestValue) → IsLeafOk n v → v.slot ≡ Some r → goes_up r.kind ≡ true
leaf-asks n v r ok asked = suits r.kind (state_at r.item v) (subst (λ o. slot_suits v o ≡ true) asked (ok.each slot_fits)) where
  suits : (kind : TxKind) (o : Option LeafState) → request_suits kind o ≡ true → goes_up kind ≡ true
  suits ReadTx o h = refl
  suits EraseTx o h = refl
  suits DataTx o h = cc
  suits ExclusiveTx o h = cc
  suits InjectTx o h = cc
  suits OutTx o h = cc

request-below : (n : ℕ) (rs : List RequestValue) (r : RequestValue) → list_all (request_fits n) rs ≡ true → first_of rs ≡ Some r → r.item < n
request-below n [] r h first = cc
request-below n (q ∷ rs) r h first =
    let same : q ≡ r = cc in
    subst (λ (z : RequestValue). z.item < n) same (lt-fact q.item n (pass-first (request_fits n) q rs h))

first-goes_up : (k : TxKind) (ks : List TxKind) → requests_fit (k ∷ ks) ≡ true → goes_up k ≡ true
first-goes_up k [] h = h
first-goes_up k (l ∷ ks) h = cc

module _ (n : ℕ) (above : Stamp) (p : DirValue) (ns : List Node) (bus : IsBusOk n p ns) (kids : AllByRecursion (IsChildOk n) ns) where
  module _ (c : ℕ) (there : c < length ns) where
    abbrev m : Node
    m = child_at c ns

    ok : IsChildOk n m
    ok = all-kids_at (IsChildOk n) no_node ns c kids there

    -- ---- a read

    module _ (x : ℕ) (asked : child_request m ≡ Some (record { kind = ReadTx; item = x })) where
      granted : IsGranted n x m Hold.Invalid true false
      granted = child-read-taken n x m ok asked

      not-held : child_holds x m ≡ false
      not-held = ap is_held (child-hold x m ∙ ap (λ (f : ChildFace). f.hold) granted.was)

      -- where the item isn't pending and the parent holds it, there is a holder
      holder : pending x p ≡ None → is_held (dir_hold x p) ≡ true → (bits_of (parent_face x p) (faces_of x ns)).held ≡ true
      holder free held =
          let quiet = quiet-from_pending x p free in
          implies-use _ _ (state-at calm each-calm (parent_face x p) (faces_of x ns) (bus.rules x granted.known)) (both_true (ap is_no_note quiet.note) (both_true (ap not quiet.answering) (both_true (ap not quiet.queue) held)))

      none-at : find_from (other_holds c x) 0 ns ≡ None → (i : ℕ) → i < length ns → child_holds x (child_at i ns) ≡ false
      none-at found i l = at (ℕ_discrete i c) where
        at : Dec (i ≡ c) → child_holds x (child_at i ns) ≡ false
        at (yes same) = subst (λ j. child_holds x (child_at j ns) ≡ false) (sym same) not-held
        at (no other) =
            let fails = none-passes (other_holds c x) i ns no_node found l in
            let differs : nat_eq i c ≡ false = ne_eqb i c other in
            rw differs at fails

      held-goes : (k : Option ℕ) (words : Option (List ℕ)) → find_from (other_holds c x) 0 ns ≡ k → parked_words x p ≡ words → (bits_of (parent_face x p) (faces_of x ns)).held ≡ true → goes (read_held c x p ns above k words) ≡ true
      held-goes (Some k) words found parked held = unless_full-goes _ _
      held-goes None (Some words) found parked held = unless_full-goes _ _
      held-goes None None found parked held = absurd (true≢false (sym held ∙ no-holder x p ns parked (none-at found)))

      granted-goes : (held : Bool) → is_held (dir_hold x p) ≡ held → pending x p ≡ None → goes (read_granted c x p ns above held) ≡ true
      granted-goes true is free = held-goes (find_from (other_holds c x) 0 ns) (parked_words x p) refl refl (holder free is)
      granted-goes false is free = unless_full-goes _ _

      unless_pending-goes : (why : Option PendingWhy) → pending x p ≡ why → (goes (read_unless_pending c x p ns above why) ≡ true) ⊎ UnderWay n p
      unless_pending-goes (Some why) is = inr (pending-under_way n x p granted.known why is)
      unless_pending-goes None is = inl (granted-goes (is_held (dir_hold x p)) refl is)

      read-goes : (note : Note) → (goes (request_read c x p ns above note) ≡ true) ⊎ UnderWay n p
      read-goes (local first joined) = inl refl
      read-goes (up_read first joined) = inl refl
      read-goes no_note = unless_pending-goes (pending x p) refl
      read-goes (up_erase d) = unless_pending-goes (pending x p) refl

    -- ---- an erase

    erase-goes : (x : ℕ) → child_request m ≡ Some (record { kind = EraseTx; item = x }) → (why : Option PendingWhy) → pending x p ≡ why → (goes (request_erase above c x p ns why) ≡ true) ⊎ UnderWay n p
    erase-goes x asked (Some why) is = inr (pending-under_way n x p (child-erase-taken n x m ok asked).known why is)
    erase-goes x asked None is = inl (unless_full-goes _ _)

    -- ---- a request

    asked-kind : (m : Node) (r : RequestValue) → IsChildOk n m → child_request m ≡ Some r → goes_up r.kind ≡ true
    asked-kind (leaf_node v) r ok asked = leaf-asks n v r ok asked
    asked-kind (dir_node d ms) r ok asked =
        let known = request-below n d.requests r (dir-parts n (length (children ms)) d ok.own).requests asked in
        first-goes_up r.kind _ (subst (λ ks. requests_fit ks ≡ true) (kinds-first d.requests r asked) ((ok.rules r.item known).each one_request))

    by_kind-goes : (x : ℕ) (kind : TxKind) → child_request m ≡ Some (record { kind = kind; item = x }) → goes_up kind ≡ true → (goes (request_by_kind above p ns c x kind) ≡ true) ⊎ UnderWay n p
    by_kind-goes x ReadTx asked up = read-goes x asked (dir_note x p)
    by_kind-goes x EraseTx asked up = erase-goes x asked (pending x p) refl
    by_kind-goes x DataTx asked up = cc
    by_kind-goes x ExclusiveTx asked up = cc
    by_kind-goes x InjectTx asked up = cc
    by_kind-goes x OutTx asked up = cc

    -- ---- a child that wants something

    pub wants-goes : Wants n m → Granted above p ns c ⊎ UnderWay n p
    wants-goes (asks r asked) =
        subst (λ o. (goes (request_turn above p ns c o) ≡ true) ⊎ UnderWay n p) (sym asked) (by_kind-goes r.item r.kind asked (asked-kind m r ok asked))
    wants-goes (reads x within granted) = inr (at (dir_note x p) refl) where
      at : (note : Note) → dir_note x p ≡ note → UnderWay n p
      at no_note is = absurd (true≢false (sym granted ∙ not-reads n x p ns bus kids within c there (ap (λ note. is_reader note c) is)))
      at (local first joined) is = note-under_way n x p within (local first joined) is refl
      at (up_read first joined) is = note-under_way n x p within (up_read first joined) is refl
      at (up_erase d) is = absurd (true≢false (sym granted ∙ not-reads n x p ns bus kids within c there (ap (λ note. is_reader note c) is)))
    wants-goes (erases x within granted) = inr (at (dir_note x p) refl) where
      at : (note : Note) → dir_note x p ≡ note → UnderWay n p
      at no_note is = absurd (true≢false (sym granted ∙ not-erases n x p ns bus kids within c there (ap (λ note. is_eraser note c) is)))
      at (local first joined) is = absurd (true≢false (sym granted ∙ not-erases n x p ns bus kids within c there (ap (λ note. is_eraser note c) is)))
      at (up_read first joined) is = absurd (true≢false (sym granted ∙ not-erases n x p ns bus kids within c there (ap (λ note. is_eraser note c) is)))
      at (up_erase d) is = note-under_way n x p within (up_erase d) is refl

-- ---- what went up is wanted of the bus above, where nothing comes down

abbrev pub wanted : ParentFace → Bits → Bool
wanted p k =
    implies (is_up_read p.note && not (has_some p.queue)) (has_some p.requests || face_reads p)
    && implies (is_up_erase p.note && not (has_some p.queue)) (has_some p.requests || face_erases p)

pub each-wanted : (note : Note) → each_state wanted note ≡ true
unfolding implies
each-wanted no_note = refl
each-wanted (local first joined) = refl
each-wanted (up_read first joined) = refl
each-wanted (up_erase d) = refl
