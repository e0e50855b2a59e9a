-- A child that is told an inject: a reader, or one with room.
-- Letters: n is the number of items, x the item, v a leaf, d a directory.
use Rattle.std.proofs.Common.{◌≡◌, ℕ, ◌<◌, Bool, true, false, List, length, Option, Some, None, is_none, is_some, refl, sym, ap, subst, ◌⊎◌, inl, inr}
use Rattle.std.specs.Prelude.{not, ◌&&◌, ◌||◌, nat_eq}
use Rattle.std.proofs.lemmas.Bool.{and_parts, eqb-true}
use Rattle.order_laws.specs.DdmTypes.declared.answers.TxKind.{TxKind}
use Rattle.order_laws.specs.DdmTypes.declared.answers.TxKind.TheVariants.{ReadTx, DataTx, EraseTx, ExclusiveTx, InjectTx, OutTx}
use Rattle.order_laws.specs.DdmTypes.declared.sizes.Hold.{Hold}
use Rattle.order_laws.specs.DdmTypes.declared.sizes.LeafState.{LeafState}
use Rattle.order_laws.specs.DdmTypes.declared.keys.Stamp.{Stamp}
use Rattle.order_laws.specs.TreeModel.State.Kinds.{is_kind}
use Rattle.order_laws.specs.TreeModel.State.States.{entry_hold, is_held, is_reading}
use Rattle.order_laws.specs.TreeModel.State.Values.{RequestValue, LeafValue, DirValue, Node, Nodes, leaf_node, dir_node, children}
use Rattle.order_laws.specs.TreeModel.State.Leaf.{slot_has, LeafEntry, leaf_entry, state_at, leaf_hold, leaf_room, free_way, leaf_take_inject}
use Rattle.order_laws.specs.TreeModel.State.Directory.{dir_item, dir_hold, with_hold, dir_take_inject}
use Rattle.order_laws.specs.TreeModel.State.Child.{child_hold, child_room, child_take_inject}
use Rattle.order_laws.specs.TreeRules.Bus.Faces.{child_face, in_state}
use Rattle.order_laws.specs.TreeRules.Bus.Own.{IsLeafOk, slot_fits, slot_suits, request_suits}
use Rattle.order_laws.specs.TreeRules.Bus.Rules.{IsChildOk}
use Rattle.bus_laws.proofs.DirParts.{dir-parts, item-same}
use Rattle.bus_laws.proofs.LeafGives.{leaf_take_inject-told}
use Rattle.order_laws.proofs.Moves.Calls.{inject-dir, inject-leaf}
use Rattle.order_laws.proofs.Moves.Facts.{HasGot}

-- it reads, or has room
abbrev pub MayTake : ℕ → Node → Type 0
MayTake x m = ((child_face x m).reads ≡ true) ⊎ (child_room x m ≡ true)

-- ---- a leaf that may take it holds nothing

reading-free : (o : Option LeafState) → in_state is_reading o ≡ true → is_held (entry_hold o) ≡ false
reading-free None h = refl
reading-free (Some LeafState.Shared) h = cc
reading-free (Some LeafState.Exclusive) h = cc
reading-free (Some LeafState.Waiting) h = cc
reading-free (Some LeafState.Reading) h = refl
reading-free (Some LeafState.ReadingWaiting) h = refl

suits-reading : (k : TxKind) (o : Option LeafState) → is_kind ReadTx k ≡ true → request_suits k o ≡ true → in_state is_reading o ≡ true
suits-reading ReadTx None h s = cc
suits-reading ReadTx (Some t) h s = s
suits-reading DataTx o h s = cc
suits-reading EraseTx o h s = cc
suits-reading ExclusiveTx o h s = cc
suits-reading InjectTx o h s = cc
suits-reading OutTx o h s = cc

module _ (n x : ℕ) (v : LeafValue) (ok : IsLeafOk n v) where
  free-by : in_state is_reading (state_at x v) ≡ true → is_held (leaf_hold x v) ≡ false
  unfolding leaf_hold
  free-by h = reading-free (state_at x v) h

  free-none : is_none (leaf_entry x v) ≡ true → is_held (leaf_hold x v) ≡ false
  unfolding leaf_hold
  free-none h = by (leaf_entry x v) refl where
    by : (o : Option LeafEntry) → leaf_entry x v ≡ o → is_held (leaf_hold x v) ≡ false
    by None is = rw is refl
    by (Some e) is = let wrong : false ≡ true = rw is at h in cc

  asks-free : (o : Option RequestValue) → slot_suits v o ≡ true → slot_has ReadTx x o ≡ true → is_held (leaf_hold x v) ≡ false
  asks-free None s h = cc
  asks-free (Some r) s h =
      let parts = and_parts (is_kind ReadTx r.kind) (nat_eq x r.item) h in
      let same : r.item ≡ x = sym (eqb-true x r.item parts.1) in
      free-by (subst (λ y. in_state is_reading (state_at y v) ≡ true) same (suits-reading r.kind (state_at r.item v) parts.0 s))

  room-free : leaf_room x v ≡ true → is_held (leaf_hold x v) ≡ false
  unfolding leaf_room
  room-free h = by (slot_has ReadTx x v.slot) refl h where
    by : (b : Bool) → slot_has ReadTx x v.slot ≡ b → (b || (is_none (leaf_entry x v) && is_some (free_way v.sizes x v.ways))) ≡ true → is_held (leaf_hold x v) ≡ false
    by true is h = asks-free v.slot (ok.each slot_fits) is
    by false is h = free-none (and_parts (is_none (leaf_entry x v)) (is_some (free_way v.sizes x v.ways)) h).0

  taker-free : MayTake x (leaf_node v) → is_held (leaf_hold x v) ≡ false
  taker-free (inl reads) = free-by (and_parts (in_state is_reading (state_at x v)) (not (slot_has ReadTx x v.slot)) reads).0
  taker-free (inr room) = room-free room

-- ---- a child

taken : (x : ℕ) (words : List ℕ) (s : Stamp) (d : DirValue) (ns : Nodes) → is_held (dir_hold x (with_hold x Hold.Exclusive d)) ≡ true → is_held (child_hold x (child_take_inject x words s (dir_node d ns))) ≡ true
unfolding dir_take_inject
taken x words s d ns h = h

pub takes-gets : (n x : ℕ) → x < n → (words : List ℕ) (s : Stamp) (m : Node) → IsChildOk n m → MayTake x m → HasGot x words s m (child_take_inject x words s m)
takes-gets n x within words s (leaf_node v) ok may =
    let told = leaf_take_inject-told n x v ok words within may in
    let holds : is_held (leaf_hold x (leaf_take_inject x words v)) ≡ true = ap (λ f. is_held f.hold) told.here in
    record { holds = holds; free = taker-free n x v ok may; given = inject-leaf n x within words s v ok (taker-free n x v ok may) holds }
takes-gets n x within words s (dir_node d ns) ok may = record { holds = holds; free = tt; given = inject-dir x words s d ns } where
  there : x < length d.items
  there = subst (λ k. x < k) (sym (dir-parts n (length (children ns)) d ok.own).within.items) within

  held : is_held (dir_hold x (with_hold x Hold.Exclusive d)) ≡ true
  held = ap (λ i. is_held i.hold) (item-same x (record (dir_item x d) { hold = Hold.Exclusive }) d there)

  holds : is_held (child_hold x (child_take_inject x words s (dir_node d ns))) ≡ true
  holds = taken x words s d ns held
