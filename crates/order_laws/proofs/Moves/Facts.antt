-- What the rules of a bus say before a row, as far as the copies of its item are concerned.
-- Letters: n is the number of items, x the item, k the bits of the children, u a note, i a child.
use Rattle.std.proofs.Common.{◌≡◌, ℕ, ◌<◌, true, false, List, [], ◌∷◌, length, None, refl, ap, ◌∙◌}
use Rattle.std.specs.Prelude.{not, ◌&&◌}
use Rattle.std.specs.List.{AllByRecursion, list_all}
use Rattle.std.proofs.lemmas.Bool.{and_parts}
use Rattle.order_laws.specs.DdmTypes.declared.answers.TxKind.{TxKind}
use Rattle.order_laws.specs.DdmTypes.declared.answers.TxKind.TheVariants.{ReadTx, DataTx, EraseTx, ExclusiveTx, InjectTx, OutTx}
use Rattle.order_laws.specs.DdmTypes.declared.sizes.Hold.{Hold}
use Rattle.order_laws.specs.DdmTypes.declared.keys.Stamp.{Stamp}
use Rattle.order_laws.specs.TreeModel.State.Kinds.{is_kind}
use Rattle.order_laws.specs.TreeModel.State.Lists.{first_given}
use Rattle.order_laws.specs.TreeModel.State.States.{is_held}
use Rattle.order_laws.specs.TreeModel.State.Values.{leaf_node, dir_node, DownValue, Note, local, up_read, DirValue, Node}
use Rattle.order_laws.specs.TreeModel.State.Directory.{dir_note, is_reader, is_local, is_up_read}
use Rattle.order_laws.specs.TreeModel.State.Blank.{no_node}
use Rattle.order_laws.specs.TreeModel.State.Child.{child_hold, child_full_for, child_take_data}
use Rattle.order_laws.specs.TreeModel.Turns.Children.{child_at, reader_full}
use Rattle.order_laws.proofs.TreeModel.Children.{none-given}
use Rattle.order_laws.specs.TreeRules.Bus.Faces.{ParentFace, parent_face, child_face, faces_of}
use Rattle.order_laws.specs.TreeRules.Bus.Item.{Bits, bits_of, local_noted, up_read_noted, top_holds}
use Rattle.order_laws.specs.TreeRules.Bus.Rules.{IsBusOk, IsChildOk}
use Rattle.order_laws.proofs.TreeRules.Implying.{implies-use}
use Rattle.bus_laws.specs.KeepsBus.{IsTopBusOk}
use Rattle.bus_laws.proofs.Answering.{child-hold}
use Rattle.bus_laws.proofs.Before.{kid-ok, reader-at, reads-absent, entry-known, entry-starts}
use Rattle.bus_laws.proofs.Calls.{child-take_data}
use Rattle.bus_laws.proofs.DirParts.{starts_with}
use Rattle.order_laws.specs.Moves.Carries.{IsLeafFree}
use Rattle.order_laws.proofs.Moves.Child.{IsGiven}
use Rattle.order_laws.proofs.Moves.Calls.{data-given}

-- ---- the top

-- nothing but exclusives comes down to it
pub top-exclusive : (n : ℕ) (p : DirValue) (ns : List Node) → IsTopBusOk n p ns → (e : DownValue) (rest : List DownValue) → p.down ≡ e ∷ rest → IsBusOk n p ns → (kind : TxKind) → e.kind ≡ kind → is_kind kind kind ≡ true → is_kind ExclusiveTx kind ≡ false → ⊥
top-exclusive n p ns top e rest front bus kind is self other =
    let face : ParentFace = parent_face e.item p in
    let k : Bits = bits_of face (faces_of e.item ns) in
    let held : top_holds face k ≡ true = top.held e.item (entry-known n e.item p ns bus e rest front) in
    let parts : (k.held ≡ true) × ((not face.parked && list_all (is_kind ExclusiveTx) face.queue) ≡ true) = and_parts k.held (not face.parked && list_all (is_kind ExclusiveTx) face.queue) held in
    let rest : (not face.parked ≡ true) × (list_all (is_kind ExclusiveTx) face.queue ≡ true) = and_parts (not face.parked) (list_all (is_kind ExclusiveTx) face.queue) parts.1 in
    no face.queue rest.1 (entry-starts n e.item p ns bus e _ front kind is self) where
      no : (q : List TxKind) → list_all (is_kind ExclusiveTx) q ≡ true → starts_with kind q ≡ true → ⊥
      no [] h s = absurd (let wrong : false ≡ true = s in cc)
      no (t ∷ q) h s = both t kind (and_parts (is_kind ExclusiveTx t) (list_all (is_kind ExclusiveTx) q) h).0 s other where
        both : (t kind : TxKind) → is_kind ExclusiveTx t ≡ true → is_kind kind t ≡ true → is_kind ExclusiveTx kind ≡ false → ⊥
        both ExclusiveTx ReadTx a b c = cc
        both ExclusiveTx DataTx a b c = cc
        both ExclusiveTx EraseTx a b c = cc
        both ExclusiveTx ExclusiveTx a b c = cc
        both ExclusiveTx InjectTx a b c = cc
        both ExclusiveTx OutTx a b c = cc
        both ReadTx kind a b c = cc
        both DataTx kind a b c = cc
        both EraseTx kind a b c = cc
        both InjectTx kind a b c = cc
        both OutTx kind a b c = cc

-- ---- readers and takers

held-seen : (x : ℕ) (m : Node) (h : Hold) → (child_face x m).hold ≡ h → is_held h ≡ true → is_held (child_hold x m) ≡ true
held-seen x m h e is = ap is_held (child-hold x m ∙ e) ∙ is

absent-seen : (x : ℕ) (m : Node) (h : Hold) → (child_face x m).hold ≡ h → is_held h ≡ false → is_held (child_hold x m) ≡ false
absent-seen x m h e is = ap is_held (child-hold x m ∙ e) ∙ is

pub leaf-free : (x : ℕ) (m : Node) → is_held (child_hold x m) ≡ false → IsLeafFree x m
leaf-free x (leaf_node v) h = h
leaf-free x (dir_node d ns) h = tt

-- it holds the item then, and has these words
pub record HasGot (x : ℕ) (words : List ℕ) (s : Stamp) (n m : Node) : Type 0 where
  pub holds : is_held (child_hold x m) ≡ true
  pub free : IsLeafFree x n
  pub given : IsGiven x words s n m

module _ (n x : ℕ) (p : DirValue) (ns : List Node) (bus : IsBusOk n p ns) (kids : AllByRecursion (IsChildOk n) ns) (within : x < n) where
  abbrev pub k : Bits
  k = bits_of (parent_face x p) (faces_of x ns)

  pub local-readers : (first joined : ℕ) → dir_note x p ≡ local first joined → k.readers ≡ true
  local-readers first joined note = (and_parts k.readers k.held (implies-use (is_local (parent_face x p).note) (k.readers && k.held) ((bus.rules x within).each local_noted) (ap is_local note))).0

  pub up-readers : (first joined : ℕ) → dir_note x p ≡ up_read first joined → k.readers ≡ true
  up-readers first joined note = (and_parts k.readers (not k.held) (implies-use (is_up_read (parent_face x p).note) (k.readers && not k.held) ((bus.rules x within).each up_read_noted) (ap is_up_read note))).0

  pub reader-absent : k.readers ≡ true → (u : Note) → dir_note x p ≡ u → (i : ℕ) → i < length ns → is_reader u i ≡ true → is_held (child_face x (child_at i ns)).hold ≡ false
  reader-absent readers u note i l is = ap is_held (reads-absent n x p ns bus kids within i l (reader-at n x p ns bus kids within readers i l (ap (λ m. is_reader m i) note ∙ is)))

  -- a reader gets the words
  pub reader-gets : k.readers ≡ true → (u : Note) → dir_note x p ≡ u → first_given (reader_full u x) 0 ns ≡ None → (words : List ℕ) (s : Stamp) (i : ℕ) → i < length ns → is_reader u i ≡ true → HasGot x words s (child_at i ns) (child_take_data x words s (child_at i ns))
  reader-gets readers u note room words s i l is =
      let m : Node = child_at i ns in
      let reads = reader-at n x p ns bus kids within readers i l (ap (λ m. is_reader m i) note ∙ is) in
      let full : child_full_for DataTx x m ≡ None = rw is at (none-given (reader_full u x) i ns no_node room l) in
      let told = child-take_data n x within words s m (kid-ok n x p ns bus kids within i l) reads full in
      let holds = held-seen x (child_take_data x words s m) Hold.Shared (ap (λ f. f.hold) told.here) refl in
      let absent = absent-seen x m Hold.Invalid (reads-absent n x p ns bus kids within i l reads) refl in
      record { holds = holds; free = leaf-free x m absent; given = data-given x words s m absent holds }
