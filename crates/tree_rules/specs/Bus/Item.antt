-- The rules of a bus, of one item: what holds of a parent and its children between turns. Source: the states and
-- transactions of the DDM protocol, with combined reads.
-- A holder is a child that holds the item, or the parent's parked copy of it. The readers are the children that a note Local
-- or UpRead names: the first and those that joined. A child's number is its place in the list of faces.
-- The rules ask eleven bits of the children; each rule is a test of these and of the parent's face.
-- To be believed where a rule is relied on; the order of the witness needs no reader here.
use Rattle.std.specs.Prelude.{ℕ, zero, suc, Bool, true, false, not, ◌&&◌, ◌||◌, nat_eq, List, [], ◌∷◌, filter, IsTrue, if◌then◌else◌}
use Rattle.std.specs.List.{list_any, list_all}
use Rattle.std.specs.Bool.{beq}
use Rattle.tree_rules.specs.DdmTypes.declared.answers.TxKind.{TxKind}
use Rattle.tree_rules.specs.DdmTypes.declared.answers.TxKind.TheVariants.{ReadTx, DataTx, EraseTx, ExclusiveTx, InjectTx, OutTx}
use Rattle.tree_model.specs.State.Lists.{all_from, has_some}
use Rattle.tree_model.specs.State.Kinds.{is_kind, has_kind, brings_copy, goes_up}
use Rattle.tree_model.specs.State.States.{is_held, is_exclusive, is_shared}
use Rattle.tree_model.specs.State.Values.{Note, no_note, local, up_read, up_erase}
use Rattle.tree_model.specs.State.Directory.{is_reader, is_eraser, is_local, is_up_read, is_up_erase}
use Rattle.tree_rules.specs.Bus.Faces.{ChildFace, ParentFace}

-- the second test wherever the first one passes
unfoldable pub implies : Bool → Bool → Bool
implies false b = true
implies true b = b

-- ---- what the rules ask of the children

abbrev pub holds_it : ChildFace → Bool
holds_it c = is_held c.hold

abbrev pub holds_exclusive : ChildFace → Bool
holds_exclusive c = is_exclusive c.hold

-- just one child holds the item
abbrev pub one_holds : List ChildFace → Bool
one_holds [] = false
one_holds (c ∷ cs) = if holds_it c then not (list_any holds_it cs) else one_holds cs

-- neither a reply nor answering; one reply, or answering, and not both
abbrev pub gives_none : ChildFace → Bool
gives_none c = not c.answers && nat_eq c.replies 0

abbrev pub gives_one : ChildFace → Bool
gives_one c = if c.answers then nat_eq c.replies 0 else nat_eq c.replies 1

-- just one child gives, and one gift
abbrev pub one_gives : List ChildFace → Bool
one_gives [] = false
one_gives (c ∷ cs) = if gives_none c then one_gives cs else gives_one c && list_all gives_none cs

abbrev pub has_reply : ChildFace → Bool
has_reply c = not (nat_eq c.replies 0)

-- who is answering holds the item, who has it in its replies holds it Shared
abbrev pub giver_holds : ChildFace → Bool
giver_holds c = implies c.answers (holds_it c) && implies (has_reply c) (is_shared c.hold)

-- a granted read holds nothing, a granted erase holds the item Shared
abbrev pub granted_fits : ChildFace → Bool
granted_fits c = implies c.reads (not (holds_it c)) && implies c.erases (is_shared c.hold)

abbrev pub reader_is_granted : Note → ℕ → ChildFace → Bool
reader_is_granted note i c = implies (is_reader note i) c.reads

abbrev pub reader_is_noted : Note → ℕ → ChildFace → Bool
reader_is_noted note i c = implies c.reads (is_reader note i)

abbrev pub eraser_is_noted : Note → ℕ → ChildFace → Bool
eraser_is_noted note i c = implies c.erases (is_eraser note i)

abbrev pub may_erase : ChildFace → Bool
may_erase c = c.erases && holds_it c

-- the child of this number passes
abbrev pub child_passes : (ChildFace → Bool) → ℕ → List ChildFace → Bool
child_passes test d [] = false
child_passes test zero (c ∷ cs) = test c
child_passes test (suc d) (c ∷ cs) = child_passes test d cs

-- the child that a note UpErase names has a granted erase and holds the item
abbrev pub eraser_is_granted : Note → List ChildFace → Bool
eraser_is_granted no_note cs = true
eraser_is_granted (local first joined) cs = true
eraser_is_granted (up_read first joined) cs = true
eraser_is_granted (up_erase d) cs = child_passes may_erase d cs

pub record Bits : Type 0 where
  -- there is a holder; there is just one; a child holds the item Exclusive
  pub held : Bool
  pub sole : Bool
  pub exclusive : Bool
  -- just one child gives; none does; those that do hold the item
  pub one_gift : Bool
  pub no_gift : Bool
  pub givers : Bool
  -- what is granted fits what is held
  pub granted : Bool
  -- each reader has a granted read; the child of a note UpErase has a granted erase
  pub readers : Bool
  pub eraser : Bool
  -- each granted read is a reader's; each granted erase that of the note's child
  pub reads : Bool
  pub erases : Bool

abbrev pub bits_of : ParentFace → List ChildFace → Bits
bits_of p cs = record {
  held = p.parked || list_any holds_it cs;
  sole = if p.parked then not (list_any holds_it cs) else one_holds cs;
  exclusive = list_any holds_exclusive cs;
  one_gift = one_gives cs;
  no_gift = list_all gives_none cs;
  givers = list_all giver_holds cs;
  granted = list_all granted_fits cs;
  readers = all_from (reader_is_granted p.note) 0 cs;
  eraser = eraser_is_granted p.note cs;
  reads = all_from (reader_is_noted p.note) 0 cs;
  erases = all_from (eraser_is_noted p.note) 0 cs;
}

-- ---- the queue of what comes down

-- who may stand behind whom: nothing behind a read; erase behind data, inject behind erase, and a read behind any of them
abbrev pub may_follow : TxKind → TxKind → Bool
may_follow DataTx k = is_kind EraseTx k || is_kind ReadTx k
may_follow EraseTx k = is_kind InjectTx k || is_kind ReadTx k
may_follow InjectTx k = is_kind ReadTx k
may_follow ExclusiveTx k = is_kind ReadTx k
may_follow ReadTx k = false
may_follow OutTx k = false

-- an out never comes down
abbrev pub queue_fits : List TxKind → Bool
queue_fits [] = true
queue_fits (k ∷ []) = not (is_kind OutTx k)
queue_fits (k ∷ l ∷ ks) = may_follow k l && queue_fits (l ∷ ks)

-- data, inject and erase decide who has copies below; read and exclusive don't
abbrev pub moves_copies : TxKind → Bool
moves_copies DataTx = true
moves_copies EraseTx = true
moves_copies InjectTx = true
moves_copies ReadTx = false
moves_copies ExclusiveTx = false
moves_copies OutTx = false

-- the data, inject and erase of a queue, in their order
abbrev pub copies_in : List TxKind → List TxKind
copies_in ks = filter moves_copies ks

-- the first of them is an erase where there is a holder, and data or inject where there is none
abbrev pub starts_for : Bool → List TxKind → Bool
starts_for held [] = true
starts_for held (k ∷ ks) = beq held (is_kind EraseTx k)

abbrev pub ends_with_inject : List TxKind → Bool
ends_with_inject [] = false
ends_with_inject (k ∷ []) = is_kind InjectTx k
ends_with_inject (k ∷ l ∷ ks) = ends_with_inject (l ∷ ks)

-- whether the item is held once these have come down, where it was or wasn't before
abbrev pub held_after : Bool → List TxKind → Bool
held_after held [] = held
held_after held (k ∷ ks) = held_after (brings_copy k) ks

-- ---- erases, answers and requests

-- exclusive comes down to a parent that holds the item Exclusive
abbrev pub exclusive_comes : ParentFace → Bool
exclusive_comes p = is_exclusive p.hold && has_kind ExclusiveTx p.queue

-- the erase is still on its way up from a parent that holds the item Shared
abbrev pub erase_goes_up : ParentFace → Bool
erase_goes_up p = is_shared p.hold && not (has_kind ExclusiveTx p.queue || has_kind EraseTx p.queue)

abbrev pub one_of_three : Bool → Bool → Bool → Bool
one_of_three true b c = not (b || c)
one_of_three false true c = not c
one_of_three false false c = c

-- the parent is answering, and its read isn't in its down list any more
abbrev pub asked_below : ParentFace → Bool
asked_below p = p.answering && not (has_kind ReadTx p.queue)

-- one request at most, a read or an erase
abbrev pub requests_fit : List TxKind → Bool
requests_fit [] = true
requests_fit (k ∷ []) = goes_up k
requests_fit (k ∷ l ∷ ks) = false

-- ---- the rules

pub data ItemRule : Type 0 where
  -- 0: where the parent is answering it holds the item
  answering_held : ItemRule
  -- 1: a child that holds it Exclusive is the only holder
  exclusive_alone : ItemRule
  -- 1: a parked copy is the only holder
  parked_alone : ItemRule
  -- 1: a child holds it Exclusive only where the parent does
  exclusive_covered : ItemRule
  -- 2, 7, 8: in the parent's down list comes behind data only erase, behind erase only inject, and behind each of these and
  -- behind an exclusive a read, behind which nothing comes
  queue_in_order : ItemRule
  -- 2: the first data, inject or erase is an erase where there is a holder, and data or inject where there is none
  queue_start : ItemRule
  -- 2: where the last of these is an inject the parent holds the item Exclusive
  inject_covered : ItemRule
  -- 2: where one is an erase no child holds the item Exclusive
  erased_shared : ItemRule
  -- 3: the parent holds the item exactly where the last of these brings it, or where none comes and there is a holder
  hold_follows : ItemRule
  -- 4: note Local: each reader has a granted read, and there is a holder
  local_noted : ItemRule
  -- 5: note UpRead: each reader has a granted read, and there is no holder
  up_read_noted : ItemRule
  -- 5: data comes only with note UpRead
  data_read : ItemRule
  -- 6: note UpErase: its child has a granted erase and is the only holder
  up_erase_noted : ItemRule
  -- 6: note UpErase: just one of these holds: exclusive comes, an erase comes first, the parent's own erase goes up
  erase_end : ItemRule
  -- 7: a child with a granted read is a reader
  reads_noted : ItemRule
  -- 7: a child with a granted erase is the one that UpErase names
  erases_noted : ItemRule
  -- 7: a granted read holds nothing, a granted erase holds the item Shared
  granted_held : ItemRule
  -- 7: exclusive comes only with note UpErase, where the parent holds the item Exclusive
  exclusive_noted : ItemRule
  -- 8: just one child gives with note Local or where a child was asked for the parent, else none
  giver : ItemRule
  -- 8: a child that is answering holds the item, and one that has a reply of it holds it Shared
  givers_held : ItemRule
  -- 8: a read comes down only where the parent is answering
  read_answered : ItemRule
  -- 8: where a child was asked for the parent, nothing comes down, and the note isn't Local
  asked_alone : ItemRule
  -- 9: the parent has one request at most, a read or an erase
  one_request : ItemRule
  -- 9: a read only with an open read
  request_open : ItemRule
  -- 9: an erase only where the parent's erase goes up
  request_noted : ItemRule

abbrev pub item_test : ItemRule → ParentFace → Bits → Bool
item_test answering_held p k = implies p.answering (is_held p.hold)
item_test exclusive_alone p k = implies k.exclusive k.sole
item_test parked_alone p k = implies p.parked k.sole
item_test exclusive_covered p k = implies k.exclusive (is_exclusive p.hold)
item_test queue_in_order p k = queue_fits p.queue
item_test queue_start p k = starts_for k.held (copies_in p.queue)
item_test inject_covered p k = implies (ends_with_inject (copies_in p.queue)) (is_exclusive p.hold)
item_test erased_shared p k = implies (has_kind EraseTx p.queue) (not k.exclusive)
item_test hold_follows p k = beq (is_held p.hold) (held_after k.held (copies_in p.queue))
item_test local_noted p k = implies (is_local p.note) (k.readers && k.held)
item_test up_read_noted p k = implies (is_up_read p.note) (k.readers && not k.held)
item_test data_read p k = implies (has_kind DataTx p.queue) (is_up_read p.note)
item_test up_erase_noted p k = implies (is_up_erase p.note) (k.eraser && k.sole)
item_test erase_end p k = implies (is_up_erase p.note) (one_of_three (exclusive_comes p) (has_kind EraseTx p.queue) (erase_goes_up p))
item_test reads_noted p k = k.reads
item_test erases_noted p k = k.erases
item_test granted_held p k = k.granted
item_test exclusive_noted p k = implies (has_kind ExclusiveTx p.queue) (is_up_erase p.note && is_exclusive p.hold)
item_test giver p k = if is_local p.note || asked_below p then k.one_gift else k.no_gift
item_test givers_held p k = k.givers
item_test read_answered p k = implies (has_kind ReadTx p.queue) p.answering
item_test asked_alone p k = implies (asked_below p) (not (has_some p.queue) && not (is_local p.note))
item_test one_request p k = requests_fit p.requests
item_test request_open p k = implies (has_kind ReadTx p.requests) (is_up_read p.note && not (has_some p.queue))
item_test request_noted p k = implies (has_kind EraseTx p.requests) (is_up_erase p.note && erase_goes_up p)

abbrev pub item_rules : List ItemRule
item_rules =
    answering_held ∷ exclusive_alone ∷ parked_alone ∷ exclusive_covered ∷ queue_in_order ∷
    queue_start ∷ inject_covered ∷ erased_shared ∷ hold_follows ∷ local_noted ∷
    up_read_noted ∷ data_read ∷ up_erase_noted ∷ erase_end ∷ reads_noted ∷
    erases_noted ∷ granted_held ∷ exclusive_noted ∷ giver ∷ givers_held ∷
    read_answered ∷ asked_alone ∷ one_request ∷ request_open ∷ request_noted ∷ []

-- as a test, and as a fact
abbrev pub item_holds : ParentFace → Bits → Bool
item_holds p k = list_all (λ r. item_test r p k) item_rules

pub record ItemRules (p : ParentFace) (cs : List ChildFace) : Type 0 where
  pub each : (r : ItemRule) → IsTrue (item_test r p (bits_of p cs))

-- ---- 10: places kept in parking

abbrev pub starts_with_inject : List TxKind → Bool
starts_with_inject [] = false
starts_with_inject (k ∷ ks) = is_kind InjectTx k

-- one place for an item with an inject in the down list, save where the note is UpRead and its first entry is the inject
abbrev pub kept_place : ParentFace → ℕ
kept_place p = if has_kind InjectTx p.queue && not (is_up_read p.note && starts_with_inject p.queue) then 1 else 0

-- ---- 11: the top's bus

-- there is a holder, no copy is parked, and only exclusives come down
abbrev pub top_holds : ParentFace → Bits → Bool
top_holds p k = k.held && (not p.parked && list_all (is_kind ExclusiveTx) p.queue)
