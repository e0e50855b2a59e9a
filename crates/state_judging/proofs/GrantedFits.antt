-- What was granted fits what is held: of a leaf by its states, of a directory by the rules of its own bus. So these make sure of what
-- the rules of the bus above say of it.
-- Letters: p is the face of the parent of a bus, cs are those of its children, x is an item, v a leaf.
use Rattle.std.specs.Prelude.{◌≡◌, ℕ, Bool, true, false, not, ◌&&◌, List, [], ◌∷◌, Option, Some, None, refl}
use Rattle.std.specs.List.{list_all}
use Rattle.std.specs.Bool.{beq}
use Rattle.std.proofs.Common.{subst, sym}
use Rattle.std.specs.Cmp.Derive.{both_true}
use Rattle.state_judging.specs.DdmTypes.declared.answers.TxKind.{TxKind}
use Rattle.state_judging.specs.DdmTypes.declared.answers.TxKind.TheVariants.{ReadTx, EraseTx, ExclusiveTx}
use Rattle.state_judging.specs.DdmTypes.declared.sizes.LeafState.{LeafState}
use Rattle.state_judging.specs.TreeModel.State.Lists.{has_some}
use Rattle.state_judging.specs.TreeModel.State.Kinds.{has_kind}
use Rattle.state_judging.specs.TreeModel.State.States.{entry_hold, is_held, is_reading, is_shared, is_upgrading}
use Rattle.state_judging.specs.TreeModel.State.Values.{LeafValue}
use Rattle.state_judging.specs.TreeModel.State.Leaf.{leaf_hold, slot_has, state_at}
use Rattle.state_judging.specs.TreeModel.State.Directory.{is_up_erase, is_up_read}
use Rattle.state_judging.specs.TreeRules.Bus.Faces.{ChildFace, ParentFace, face_above, in_state, leaf_face}
use Rattle.state_judging.specs.TreeRules.Bus.Item.{Bits, bits_of, copies_in, granted_fits, held_after, hold_follows, implies, item_holds, up_read_noted}
use Rattle.state_judging.proofs.TreeRules.BusTests.{item-at}

-- ---- with it and without it the rules of an item are the same

module _ (p : ParentFace) (cs : List ChildFace) where
  abbrev holds_with : Bool → Bool
  holds_with granted = item_holds p (record (bits_of p cs) { granted = granted })

  pub kept-holds : list_all granted_fits cs ≡ true → holds_with true ≡ true → item_holds p (bits_of p cs) ≡ true
  kept-holds fits e = subst (λ granted. holds_with granted ≡ true) (sym fits) e

  pub holds-kept : list_all granted_fits cs ≡ true → item_holds p (bits_of p cs) ≡ true → holds_with true ≡ true
  holds-kept fits e = subst (λ granted. holds_with granted ≡ true) fits e

-- ---- a leaf

state-fits : (s : Option LeafState) (read erase : Bool) → (implies (in_state is_reading s && read) (not (is_held (entry_hold s))) && implies (in_state is_upgrading s && erase) (is_shared (entry_hold s))) ≡ true
unfolding implies
state-fits None read erase = refl
state-fits (Some LeafState.Shared) read erase = refl
state-fits (Some LeafState.Exclusive) read erase = refl
state-fits (Some LeafState.Waiting) read true = refl
state-fits (Some LeafState.Waiting) read false = refl
state-fits (Some LeafState.Reading) true erase = refl
state-fits (Some LeafState.Reading) false erase = refl
state-fits (Some LeafState.ReadingWaiting) true erase = refl
state-fits (Some LeafState.ReadingWaiting) false erase = refl

pub leaf-fits : (x : ℕ) (v : LeafValue) → granted_fits (leaf_face x v) ≡ true
unfolding leaf_hold
leaf-fits x v = state-fits (state_at x v) (not (slot_has ReadTx x v.slot)) (not (slot_has EraseTx x v.slot))

-- ---- a directory

-- with an open read there is no holder, and nothing comes down: so it holds nothing
read-fits : (queue : List TxKind) (noted asked held readers below : Bool) → beq held (held_after below (copies_in queue)) ≡ true → implies noted (readers && not below) ≡ true → implies (noted && (not (has_some queue) && not asked)) (not held) ≡ true
unfolding implies
read-fits queue false asked held readers below follows none = refl
read-fits (k ∷ queue) true asked held readers below follows none = refl
read-fits [] true true held readers below follows none = refl
read-fits [] true false false readers below follows none = refl
read-fits [] true false true readers false follows none = cc
read-fits [] true false true true true follows none = cc
read-fits [] true false true false true follows none = cc

erase-fits : (shared rest : Bool) → implies (shared && rest) shared ≡ true
unfolding implies
erase-fits true true = refl
erase-fits true false = refl
erase-fits false rest = refl

module _ (p : ParentFace) (cs : List ChildFace) (replies : ℕ) where
  abbrev k : Bits
  k = record (bits_of p cs) { granted = true }

  pub dir-fits : item_holds p k ≡ true → granted_fits (face_above p replies) ≡ true
  dir-fits e =
      both_true
      (read-fits p.queue (is_up_read p.note) (has_kind ReadTx p.requests) (is_held p.hold) k.readers k.held (item-at hold_follows p k e) (item-at up_read_noted p k e))
      (erase-fits (is_shared p.hold) (is_up_erase p.note && (not (has_kind EraseTx p.requests) && (not (has_kind EraseTx p.queue) && not (has_kind ExclusiveTx p.queue)))))
