-- Of one item: what a bus sees of a child, and what its parent keeps. The rules of a bus look at nothing else.
-- To be believed where a rule is relied on; the order of the witness needs no reader here.
use Rattle.std.specs.Prelude.{ℕ, Bool, false, not, ◌&&◌, List, map, length, Option, Some, None}
use Rattle.tree_rules.specs.DdmTypes.declared.answers.TxKind.{TxKind}
use Rattle.tree_rules.specs.DdmTypes.declared.answers.TxKind.TheVariants.{ReadTx, EraseTx, ExclusiveTx}
use Rattle.tree_rules.specs.DdmTypes.declared.sizes.Hold.{Hold}
use Rattle.tree_rules.specs.DdmTypes.declared.sizes.LeafState.{LeafState}
use Rattle.tree_model.specs.State.Lists.{has_some}
use Rattle.tree_model.specs.State.Kinds.{has_kind}
use Rattle.tree_model.specs.State.States.{is_reading, is_upgrading, is_shared}
use Rattle.tree_model.specs.State.Values.{LeafValue, Note, DirValue, Node, leaf_node, dir_node}
use Rattle.tree_model.specs.State.Leaf.{words_of_item, slot_has, state_at, leaf_hold}
use Rattle.tree_model.specs.State.Directory.{dir_hold, dir_note, is_answering, is_up_read, is_up_erase, queue_kinds}
use Rattle.tree_model.specs.State.Directory.{request_kinds, is_parked}

-- ---- the face of a parent

pub record ParentFace : Type 0 where
  pub hold : Hold
  pub note : Note
  pub answering : Bool
  -- the kinds of the item's entries in the down list, in their order, and of its requests
  pub queue : List TxKind
  pub requests : List TxKind
  pub parked : Bool

abbrev pub parent_face : ℕ → DirValue → ParentFace
parent_face x d = record {
  hold = dir_hold x d;
  note = dir_note x d;
  answering = is_answering x d;
  queue = queue_kinds x d.down;
  requests = request_kinds x d.requests;
  parked = is_parked x d;
}

-- ---- the face of a child

pub record ChildFace : Type 0 where
  pub hold : Hold
  -- a granted read, a granted erase: the request was granted and isn't served yet
  pub reads : Bool
  pub erases : Bool
  -- how many replies of the item it has, and whether it is answering
  pub replies : ℕ
  pub answers : Bool

abbrev pub in_state : (LeafState → Bool) → Option LeafState → Bool
in_state test None = false
in_state test (Some s) = test s

-- a leaf has a granted read where its entry waits for data and its slot has no read of the item, a granted erase where its
-- entry waits to be exclusive and its slot has no erase of it
abbrev pub leaf_face : ℕ → LeafValue → ChildFace
leaf_face x v = record {
  hold = leaf_hold x v;
  reads = in_state is_reading (state_at x v) && not (slot_has ReadTx x v.slot);
  erases = in_state is_upgrading (state_at x v) && not (slot_has EraseTx x v.slot);
  replies = length (words_of_item x v.replies);
  answers = false;
}

-- a directory has a granted read where it has an open read (note UpRead, and nothing of the item comes down) and no read of
-- the item among its requests
abbrev pub face_reads : ParentFace → Bool
face_reads p = is_up_read p.note && (not (has_some p.queue) && not (has_kind ReadTx p.requests))

-- a granted erase where it holds the item Shared with a note UpErase, no erase of it among its requests, and neither an erase
-- nor an exclusive of it in its down list
abbrev pub face_erases : ParentFace → Bool
face_erases p =
    is_shared p.hold
    && (is_up_erase p.note
    && (not (has_kind EraseTx p.requests)
    && (not (has_kind EraseTx p.queue) && not (has_kind ExclusiveTx p.queue))))

-- a directory as the bus above sees it: by its own face, and how many replies of the item it has
abbrev pub face_above : ParentFace → ℕ → ChildFace
face_above p replies = record { hold = p.hold; reads = face_reads p; erases = face_erases p; replies = replies; answers = p.answering }

abbrev pub child_face : ℕ → Node → ChildFace
child_face x (leaf_node v) = leaf_face x v
child_face x (dir_node d ns) = face_above (parent_face x d) (length (words_of_item x d.replies))

abbrev pub faces_of : ℕ → List Node → List ChildFace
faces_of x ns = map (child_face x) ns
