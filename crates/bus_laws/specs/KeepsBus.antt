-- What a turn of a bus keeps: the rules of the bus itself, those of each child, what the bus above sees of the parent, and on
-- the top's bus those of the top.
-- To be believed where a rule is relied on; the order of the witness needs no reader here.
use Rattle.std.specs.Prelude.{◌≡◌, ℕ, ◌+◌, ◌<◌, true, false, List, length, IsTrue}
use Rattle.std.specs.List.{AllByRecursion}
use Rattle.bus_laws.specs.DdmTypes.declared.sizes.Hold.{Hold}
use Rattle.bus_laws.specs.DdmTypes.declared.keys.Stamp.{Stamp}
use Rattle.bus_laws.specs.DdmTypes.Keys.{stamp_zero}
use Rattle.bus_laws.specs.TreeModel.State.States.{is_held}
use Rattle.bus_laws.specs.TreeModel.State.Values.{DirValue, Node}
use Rattle.bus_laws.specs.TreeModel.State.Leaf.{words_of_item}
use Rattle.bus_laws.specs.TreeModel.Turns.Grant.{Outcome}
use Rattle.tree_rules.specs.Bus.Faces.{ChildFace, parent_face, face_above, faces_of}
use Rattle.tree_rules.specs.Bus.Own.{IsTopOk}
use Rattle.tree_rules.specs.Bus.Item.{bits_of, top_holds}
use Rattle.tree_rules.specs.Bus.Rules.{IsBusOk, IsChildOk}

-- ---- what the bus above sees of a parent

-- a directory as the bus above sees it
abbrev pub dir_face : ℕ → DirValue → ChildFace
dir_face x d = face_above (parent_face x d) (length (words_of_item x d.replies))

-- It was answering, and has now answered: it held the item and holds it Shared, and has one more reply. What was granted stays.
pub record HasAnswered (before after : ChildFace) : Type 0 where
  pub was_answering : before.answers ≡ true
  pub held : is_held before.hold ≡ true
  pub answers_no_more : after.answers ≡ false
  pub replies : after.replies ≡ before.replies + 1
  pub holds_shared : after.hold ≡ Hold.Shared
  pub reads : after.reads ≡ before.reads
  pub erases : after.erases ≡ before.erases

-- the bus above sees the same, or that it has answered
pub data IsSeenAbove (before after : ChildFace) : Type 0 where
  as_before : after ≡ before → IsSeenAbove before after
  having_answered : HasAnswered before after → IsSeenAbove before after

-- ---- the top's bus

-- the top by itself, and rule 11 of each item
pub record IsTopBusOk (n : ℕ) (p : DirValue) (ns : List Node) : Type 0 where
  pub own : IsTopOk p
  pub held : (x : ℕ) → x < n → IsTrue (top_holds (parent_face x p) (bits_of (parent_face x p) (faces_of x ns)))

-- ---- a turn, where the bus above has this present stamp

pub record KeepsBus (n : ℕ) (above : Stamp) (p : DirValue) (ns : List Node) (o : Outcome) : Type 0 where
  pub bus : IsBusOk n o.parent o.kids
  pub kids : AllByRecursion (IsChildOk n) o.kids
  pub seen : (x : ℕ) → IsSeenAbove (dir_face x p) (dir_face x o.parent)
  -- above the top there is no bus, and its stamp is 0
  pub top : above ≡ stamp_zero → IsTopBusOk n p ns → IsTopBusOk n o.parent o.kids
