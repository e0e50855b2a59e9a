-- What a bus takes from a directory keeps the rules of the directory's own bus, and what is seen of it then: a request is
-- granted, a reply is taken, the parked copy leaves.
use Rattle.std.proofs.Common.{◌≡◌, ◌≢◌, ℕ, ◌+◌, ◌-◌, ◌<◌, Bool, true, false, List, length, Some, None, refl, sym, ap, subst, ◌∙◌, arith}
use Rattle.std.specs.Prelude.{not, ◌&&◌, nat_eq, if◌then◌else◌}
use Rattle.std.specs.List.{list_any}
use Rattle.std.specs.Cmp.Derive.{both_true}
use Rattle.std.proofs.lemmas.Bool.{and_parts, eqb-true}
use Rattle.bus_laws.specs.DdmTypes.declared.answers.TxKind.{TxKind}
use Rattle.bus_laws.specs.DdmTypes.declared.answers.TxKind.TheVariants.{ReadTx, EraseTx}
use Rattle.bus_laws.specs.DdmTypes.declared.sizes.Hold.{Hold}
use Rattle.bus_laws.specs.TreeModel.State.Lists.{first_of, rest_of, has_some}
use Rattle.bus_laws.specs.TreeModel.State.Kinds.{is_kind}
use Rattle.bus_laws.specs.TreeModel.State.States.{is_held}
use Rattle.bus_laws.specs.TreeModel.State.Values.{Note, no_note, local, up_read, up_erase, DirValue, Nodes, dir_node, children}
use Rattle.bus_laws.specs.TreeModel.State.Leaf.{is_copy, copy_item, words_of_item}
use Rattle.bus_laws.specs.TreeModel.State.Directory.{dir_item, dir_hold, dir_note, is_answering, note_why, in_down, pending_by, pending, queue_kinds, is_parked, dir_give_up}
use Rattle.bus_laws.proofs.TreeModel.Tests.{not-true}
use Rattle.bus_laws.proofs.TreeModel.DirRooms.{dir_give_up-within, dir_request_taken-within, dir_reply_taken-within}
use Rattle.tree_rules.specs.Bus.Faces.{ChildFace, ParentFace, parent_face, face_above, faces_of}
use Rattle.tree_rules.specs.Bus.Own.{item_fits, request_fits, copy_fits}
use Rattle.tree_rules.specs.Bus.Item.{implies, holds_it, one_holds, Bits, bits_of, item_holds, kept_place}
use Rattle.tree_rules.specs.Bus.Rules.{IsBusOk}
use Rattle.tree_rules.proofs.BusTests.{ItemRules-from_test}
use Rattle.tree_rules.proofs.Implying.{implies-use}
use Rattle.bus_laws.specs.KeepsBus.{dir_face}
use Rattle.bus_laws.proofs.Every.{every_bool, every_bool-at}
use Rattle.bus_laws.proofs.States.{each_state, state-at}
use Rattle.bus_laws.proofs.Lists.{pass-set, pass-rest, pass-filter, distinct-filter}
use Rattle.bus_laws.proofs.ItemLists.{kinds-first, kinds-first_other, words-first, words-first_other, words-without, words-without_other}
use Rattle.bus_laws.proofs.BusChanged.{IsSameOf, parent-is}
use Rattle.bus_laws.proofs.DirParts.{DirParts, dir-parts, note-at, item-same, item-other, is_seen, seen-is, child_seen, is_no_note, starts_with}
use Rattle.bus_laws.proofs.DirCalls.{follows, followed}
use Rattle.bus_laws.proofs.Told.{IsTold, dir-told}

-- ---- an item that isn't pending

-- no note, no answer, nothing that comes down
pub record IsQuiet (x : ℕ) (d : DirValue) : Type 0 where
  pub note : dir_note x d ≡ no_note
  pub answering : is_answering x d ≡ false
  pub queue : has_some (queue_kinds x d.down) ≡ false

quiet-by : (note : Note) (answering queued : Bool) → pending_by (note_why note) answering queued ≡ None → (note ≡ no_note) × (answering ≡ false) × (queued ≡ false)
quiet-by no_note true queued e = cc
quiet-by no_note false true e = cc
quiet-by no_note false false e = (refl, refl, refl)
quiet-by (local first joined) answering queued e = cc
quiet-by (up_read first joined) answering queued e = cc
quiet-by (up_erase d) answering queued e = cc

pub quiet-from_pending : (x : ℕ) (d : DirValue) → pending x d ≡ None → IsQuiet x d
unfolding pending
quiet-from_pending x d e =
    let q = quiet-by (dir_note x d) (is_answering x d) (in_down x d) e in
    record { note = q.0; answering = q.1; queue = q.2 }

-- ---- the faces after

-- its first request was granted
abbrev taken : ParentFace → ParentFace
taken p = record p { requests = rest_of p.requests }

-- where that was a read
abbrev may_take_read : ParentFace → Bits → Bool
may_take_read p k = implies (starts_with ReadTx p.requests) (follows p (taken p) k 0 Hold.Invalid true false p.answering && is_seen p Hold.Invalid false false p.answering)

-- where that was an erase
abbrev may_take_erase : ParentFace → Bits → Bool
may_take_erase p k = implies (starts_with EraseTx p.requests) (follows p (taken p) k 0 Hold.Shared false true p.answering && is_seen p Hold.Shared false false p.answering)

-- its parked copy left
abbrev given_up : ParentFace → ParentFace
given_up p = record p { hold = Hold.Invalid; parked = false }

-- the parked copy is the only holder
abbrev may_give_up : ParentFace → Bits → Bool
may_give_up p k = implies (p.parked && (not (has_some p.queue) && (not p.answering && is_no_note p.note))) (k.sole && (every_bool (λ s. item_holds (given_up p) (record k { held = false; sole = s }) && (nat_eq (kept_place (given_up p)) (kept_place p) && is_seen (given_up p) Hold.Invalid false false false)) && is_held p.hold))

each-may_take_read : (note : Note) → each_state may_take_read note ≡ true
unfolding implies
each-may_take_read no_note = refl
each-may_take_read (local first joined) = refl
each-may_take_read (up_read first joined) = refl
each-may_take_read (up_erase d) = refl

each-may_take_erase : (note : Note) → each_state may_take_erase note ≡ true
unfolding implies
each-may_take_erase no_note = refl
each-may_take_erase (local first joined) = refl
each-may_take_erase (up_read first joined) = refl
each-may_take_erase (up_erase d) = refl

each-may_give_up : (note : Note) → each_state may_give_up note ≡ true
unfolding implies
each-may_give_up no_note = refl
each-may_give_up (local first joined) = refl
each-may_give_up (up_read first joined) = refl
each-may_give_up (up_erase d) = refl

module _ (n x : ℕ) (d : DirValue) (ns : Nodes) (within : x < n) (bus : IsBusOk n d (children ns)) where
  abbrev parts : DirParts n (length (children ns)) d
  parts = dir-parts n (length (children ns)) d bus.own

  abbrev there : x < length d.items
  there = subst (λ k. x < k) (sym parts.within.items) within

  abbrev cs : List ChildFace
  cs = faces_of x (children ns)

  abbrev before : ParentFace
  before = parent_face x d

  abbrev copies : ℕ
  copies = length (words_of_item x d.replies)

  -- ---- a request is granted

  starts : (kind : TxKind) → is_kind kind kind ≡ true → first_of d.requests ≡ Some (record { kind = kind; item = x }) → starts_with kind before.requests ≡ true
  starts kind self asks = ap (starts_with kind) (kinds-first d.requests _ asks) ∙ self

  taken-parts : DirParts n (length (children ns)) (record d { requests = rest_of d.requests })
  taken-parts = record {
    within = dir_request_taken-within n d parts.within;
    notes = parts.notes;
    down = parts.down;
    requests = pass-rest (request_fits n) d.requests parts.requests;
    replies = parts.replies;
    parked = parts.parked;
    once = parts.once;
  }

  taken-face : (kind : TxKind) → first_of d.requests ≡ Some (record { kind = kind; item = x }) → parent_face x (record d { requests = rest_of d.requests }) ≡ taken before
  taken-face kind asks = parent-is x (record d { requests = rest_of d.requests }) (dir_item x d) _ _ _ refl refl (ap rest_of (sym (kinds-first d.requests _ asks))) refl

  taken-others : (kind : TxKind) → first_of d.requests ≡ Some (record { kind = kind; item = x }) → (y : ℕ) → y ≢ x → IsSameOf y d (record d { requests = rest_of d.requests })
  taken-others kind asks y ne = record { item = refl; queue = refl; requests = kinds-first_other y d.requests _ asks ne; parked = refl; replies = refl }

  -- it is told so, and was seen so before
  pub record IsTaken (hold : Hold) (reads erases : Bool) : Type 0 where
    pub told : IsTold n x (dir_node d ns) (dir_node (record d { requests = rest_of d.requests }) ns) (child_seen hold reads erases copies (is_answering x d))
    pub was : dir_face x d ≡ child_seen hold false false copies (is_answering x d)

  request-taken : (kind : TxKind) (hold : Hold) (reads erases : Bool) → first_of d.requests ≡ Some (record { kind = kind; item = x }) → (follows before (taken before) (bits_of before cs) 0 hold reads erases before.answering && is_seen before hold false false before.answering) ≡ true → IsTaken hold reads erases
  request-taken kind hold reads erases asks h =
      let both = and_parts (follows before (taken before) (bits_of before cs) 0 hold reads erases before.answering) (is_seen before hold false false before.answering) h in
      let f = followed before (taken before) cs 0 hold reads erases before.answering refl both.0 in
      record {
        told = dir-told n x d (record d { requests = rest_of d.requests }) ns (taken before) _ within bus taken-parts (taken-face kind asks) (taken-others kind asks) f.rules (omega (arith, f.kept)) (seen-is (taken before) hold reads erases before.answering copies f.seen);
        was = seen-is before hold false false before.answering copies both.1;
      }

  pub dir_read-taken : first_of d.requests ≡ Some (record { kind = ReadTx; item = x }) → IsTaken Hold.Invalid true false
  dir_read-taken asks = request-taken ReadTx Hold.Invalid true false asks (implies-use (starts_with ReadTx before.requests) _ (state-at may_take_read each-may_take_read before cs (bus.rules x within)) (starts ReadTx refl asks))

  pub dir_erase-taken : first_of d.requests ≡ Some (record { kind = EraseTx; item = x }) → IsTaken Hold.Shared false true
  dir_erase-taken asks = request-taken EraseTx Hold.Shared false true asks (implies-use (starts_with EraseTx before.requests) _ (state-at may_take_erase each-may_take_erase before cs (bus.rules x within)) (starts EraseTx refl asks))

  -- ---- a reply is taken

  pub dir_reply-taken : (words : List ℕ) → first_of d.replies ≡ Some (record { item = x; words = words }) → IsTold n x (dir_node d ns) (dir_node (record d { replies = rest_of d.replies }) ns) (record (dir_face x d) { replies = copies - 1 })
  dir_reply-taken words has =
      let fewer : length (words_of_item x (rest_of d.replies)) ≡ copies - 1 = omega (arith, ap length (words-first d.replies _ has)) in
      dir-told n x d (record d { replies = rest_of d.replies }) ns before _ within bus
      (record {
        within = dir_reply_taken-within n d parts.within;
        notes = parts.notes;
        down = parts.down;
        requests = parts.requests;
        replies = pass-rest (copy_fits n) d.replies parts.replies;
        parked = parts.parked;
        once = parts.once;
      })
      refl
      (λ y ne. record { item = refl; queue = refl; requests = refl; parked = refl; replies = words-first_other y d.replies _ has ne })
      (bus.rules x within)
      refl
      (ap (face_above before) fewer)

  -- ---- the parked copy leaves

  pub dir_parked-held : is_parked x d ≡ true → pending x d ≡ None → is_held (dir_hold x d) ≡ true
  dir_parked-held parked free =
      let q = quiet-from_pending x d free in
      let h = implies-use (before.parked && (not (has_some before.queue) && (not before.answering && is_no_note before.note))) _ (state-at may_give_up each-may_give_up before cs (bus.rules x within)) (both_true parked (both_true (ap not q.queue) (both_true (ap not q.answering) (ap is_no_note q.note)))) in
      let both = and_parts (bits_of before cs).sole _ h in
      (and_parts (every_bool (λ s. item_holds (given_up before) (record (bits_of before cs) { held = false; sole = s }) && (nat_eq (kept_place (given_up before)) (kept_place before) && is_seen (given_up before) Hold.Invalid false false false))) (is_held before.hold) both.1).1

  pub dir_give_up-told : is_parked x d ≡ true → pending x d ≡ None → IsTold n x (dir_node d ns) (dir_node (dir_give_up x d) ns) (child_seen Hold.Invalid false false copies false)
  dir_give_up-told parked free =
      let q = quiet-from_pending x d free in
      let h = implies-use (before.parked && (not (has_some before.queue) && (not before.answering && is_no_note before.note))) _ (state-at may_give_up each-may_give_up before cs (bus.rules x within)) (both_true parked (both_true (ap not q.queue) (both_true (ap not q.answering) (ap is_no_note q.note)))) in
      let both = and_parts (bits_of before cs).sole _ h in
      let alone : not (list_any holds_it cs) ≡ true = subst (λ b. if◌then◌else◌ b (not (list_any holds_it cs)) (one_holds cs) ≡ true) parked both.0 in
      let none : list_any holds_it cs ≡ false = not-true _ alone in
      let k : Bits = record (bits_of before cs) { held = false; sole = one_holds cs } in
      let more = and_parts (every_bool (λ s. item_holds (given_up before) (record (bits_of before cs) { held = false; sole = s }) && (nat_eq (kept_place (given_up before)) (kept_place before) && is_seen (given_up before) Hold.Invalid false false false))) (is_held before.hold) both.1 in
      let now = every_bool-at (λ s. item_holds (given_up before) (record (bits_of before cs) { held = false; sole = s }) && (nat_eq (kept_place (given_up before)) (kept_place before) && is_seen (given_up before) Hold.Invalid false false false)) more.0 (one_holds cs) in
      let parts3 = and_parts (item_holds (given_up before) k) _ now in
      let parts2 = and_parts (nat_eq (kept_place (given_up before)) (kept_place before)) _ parts3.1 in
      let bits : bits_of (given_up before) cs ≡ k = ap (λ any. record (bits_of before cs) { held = any; sole = one_holds cs }) none in
      dir-told n x d (dir_give_up x d) ns (given_up before) _ within bus
      (record {
        within = dir_give_up-within n x d parts.within;
        notes = pass-set (item_fits (length (children ns))) d.items x _ parts.notes (note-at n (length (children ns)) x d parts);
        down = parts.down;
        requests = parts.requests;
        replies = parts.replies;
        parked = pass-filter (copy_fits n) (λ c. not (is_copy x c)) d.parked parts.parked;
        once = distinct-filter copy_item (λ c. not (is_copy x c)) d.parked parts.once;
      })
      (parent-is x (dir_give_up x d) (record (dir_item x d) { hold = Hold.Invalid }) _ _ _ (item-same x _ d there) refl refl (ap has_some (words-without x d.parked)))
      (λ y ne. record { item = item-other x y _ d ne; queue = refl; requests = refl; parked = words-without_other x y d.parked ne; replies = refl })
      (ItemRules-from_test (given_up before) cs (subst (λ k. item_holds (given_up before) k ≡ true) (sym bits) parts3.0))
      (ap (λ k. d.reserved + k) (sym (eqb-true (kept_place (given_up before)) (kept_place before) parts2.0)))
      (seen-is (given_up before) Hold.Invalid false false false copies parts2.1)
