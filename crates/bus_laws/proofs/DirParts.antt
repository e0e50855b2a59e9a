-- What a directory keeps by itself, part by part.
use Rattle.std.proofs.Common.{◌≡◌, ◌≢◌, ℕ, zero, suc, ◌<◌, Bool, true, false, List, [], ◌∷◌, length, map, refl, ap, ◌∙◌, arith, get_or-set_same, get_or-set_other}
use Rattle.std.specs.Prelude.{◌&&◌, not, nat_lt, slice_index_or}
use Rattle.std.specs.Bool.{beq}
use Rattle.std.specs.List.{list_all}
use Rattle.std.specs.Cmp.Derive.{both_true}
use Rattle.std.proofs.lemmas.Bool.{and_parts}
use Rattle.std.proofs.lemmas.Bool.Decides.{nat_tests}
use Rattle.bus_laws.specs.DdmTypes.declared.sizes.Hold.{Hold}
use Rattle.bus_laws.specs.DdmTypes.declared.answers.TxKind.{TxKind}
use Rattle.bus_laws.specs.DdmTypes.declared.keys.Stamp.{Stamp}
use Rattle.bus_laws.specs.TreeModel.State.Kinds.{brings_copy, is_kind}
use Rattle.bus_laws.proofs.TreeModel.Tests.{not-true}
use Rattle.tree_rules.proofs.Implying.{implies-by}
use Rattle.bus_laws.specs.TreeModel.State.States.{is_held, is_exclusive, is_shared}
use Rattle.bus_laws.specs.TreeModel.State.Values.{Note, no_note, local, up_read, up_erase, DirItem, absent_item, DirValue}
use Rattle.bus_laws.specs.TreeModel.State.Leaf.{blank, copy_item}
use Rattle.bus_laws.specs.TreeModel.State.Directory.{dir_item, dir_note, with_item}
use Rattle.bus_laws.specs.TreeModel.State.Shape.{are_distinct}
use Rattle.bus_laws.proofs.TreeModel.DirRooms.{DirWithin, dir_within-facts, dir_within-test}
use Rattle.tree_rules.specs.Bus.Faces.{ChildFace, ParentFace, face_reads, face_erases, face_above}
use Rattle.tree_rules.specs.Bus.Own.{copy_fits, are_zero, down_fits, request_fits, note_fits, item_fits, DirRule, dir_lists, notes_fit, down_entries, dir_requests, dir_replies, parked_fit, parked_once, dir_test, IsDirOk}

-- what a directory keeps by itself, by names
pub record DirParts (n kids : ℕ) (d : DirValue) : Type 0 where
  pub within : DirWithin n d
  pub notes : list_all (item_fits kids) d.items ≡ true
  pub down : list_all (down_fits n) d.down ≡ true
  pub requests : list_all (request_fits n) d.requests ≡ true
  pub replies : list_all (copy_fits n) d.replies ≡ true
  pub parked : list_all (copy_fits n) d.parked ≡ true
  pub once : are_distinct (map copy_item d.parked) ≡ true

parts-each : (n kids : ℕ) (d : DirValue) → DirParts n kids d → (r : DirRule) → dir_test r n kids d ≡ true
parts-each n kids d p dir_lists = dir_within-test n d p.within
parts-each n kids d p notes_fit = p.notes
parts-each n kids d p down_entries = p.down
parts-each n kids d p dir_requests = p.requests
parts-each n kids d p dir_replies = p.replies
parts-each n kids d p parked_fit = p.parked
parts-each n kids d p parked_once = p.once

pub dir-ok : (n kids : ℕ) (d : DirValue) → DirParts n kids d → IsDirOk n kids d
dir-ok n kids d p = record { each = parts-each n kids d p }

pub dir-parts : (n kids : ℕ) (d : DirValue) → IsDirOk n kids d → DirParts n kids d
dir-parts n kids d ok = record {
  within = dir_within-facts n d (ok.each dir_lists);
  notes = ok.each notes_fit;
  down = ok.each down_entries;
  requests = ok.each dir_requests;
  replies = ok.each dir_replies;
  parked = ok.each parked_fit;
  once = ok.each parked_once;
}

-- ---- an item that is set

pub item-same : (x : ℕ) (i : DirItem) (d : DirValue) → x < length d.items → dir_item x (with_item x i d) ≡ i
item-same x i d within = get_or-set_same d.items x i absent_item within

pub item-other : (x y : ℕ) (i : DirItem) (d : DirValue) → y ≢ x → dir_item y (with_item x i d) ≡ dir_item y d
item-other x y i d ne = get_or-set_other d.items x y i absent_item ne

-- ---- small facts

pub lt-test : (a b : ℕ) → a < b → nat_lt a b ≡ true
lt-test a b l = grind (arith, nat_tests)

pub lt-fact : (a b : ℕ) → nat_lt a b ≡ true → a < b
lt-fact a b l = grind (arith, nat_tests)

pub blank-zero : (width : ℕ) → are_zero (blank width) ≡ true
blank-zero zero = refl
blank-zero (suc width) = blank-zero width

-- ---- a face as the bus above sees it, by a test

-- both are the same
abbrev pub same_hold : Hold → Hold → Bool
same_hold Hold.Invalid h = beq (is_held h) false
same_hold Hold.Shared h = is_shared h
same_hold Hold.Exclusive h = is_exclusive h

pub same_hold-is : (a b : Hold) → same_hold a b ≡ true → a ≡ b
same_hold-is Hold.Invalid Hold.Invalid e = refl
same_hold-is Hold.Invalid Hold.Shared e = cc
same_hold-is Hold.Invalid Hold.Exclusive e = cc
same_hold-is Hold.Shared Hold.Invalid e = cc
same_hold-is Hold.Shared Hold.Shared e = refl
same_hold-is Hold.Shared Hold.Exclusive e = cc
same_hold-is Hold.Exclusive Hold.Invalid e = cc
same_hold-is Hold.Exclusive Hold.Shared e = cc
same_hold-is Hold.Exclusive Hold.Exclusive e = refl

pub beq-is : (a b : Bool) → beq a b ≡ true → a ≡ b
beq-is true true e = refl
beq-is true false e = cc
beq-is false true e = cc
beq-is false false e = refl

-- it holds this, has these granted and answers so
abbrev pub is_seen : ParentFace → Hold → Bool → Bool → Bool → Bool
is_seen p hold reads erases answers = same_hold p.hold hold && (beq (face_reads p) reads && (beq (face_erases p) erases && beq p.answering answers))

-- a face by its parts
abbrev pub child_seen : Hold → Bool → Bool → ℕ → Bool → ChildFace
child_seen hold reads erases replies answers = record { hold = hold; reads = reads; erases = erases; replies = replies; answers = answers }

pub seen-is : (p : ParentFace) (hold : Hold) (reads erases answers : Bool) (replies : ℕ) → is_seen p hold reads erases answers ≡ true → face_above p replies ≡ child_seen hold reads erases replies answers
seen-is p hold reads erases answers replies h =
    let a = and_parts (same_hold p.hold hold) _ h in
    let b = and_parts (beq (face_reads p) reads) _ a.1 in
    let c = and_parts (beq (face_erases p) erases) (beq p.answering answers) b.1 in
    let e1 : p.hold ≡ hold = same_hold-is p.hold hold a.0 in
    let e2 : face_reads p ≡ reads = beq-is _ _ b.0 in
    let e3 : face_erases p ≡ erases = beq-is _ _ c.0 in
    let e4 : p.answering ≡ answers = beq-is _ _ c.1 in
    ap (λ h. child_seen h (face_reads p) (face_erases p) replies p.answering) e1 ∙ (ap (λ b. child_seen hold b (face_erases p) replies p.answering) e2 ∙ (ap (λ b. child_seen hold reads b replies p.answering) e3 ∙ ap (child_seen hold reads erases replies) e4))

-- ---- what passes for each item passes for one

pass-at : {X : Type 0} (t : X → Bool) (xs : List X) (k : ℕ) (d : X) → list_all t xs ≡ true → t d ≡ true → t (slice_index_or xs k d) ≡ true
pass-at t [] k d h e = e
pass-at t (x ∷ xs) zero d h e = (and_parts (t x) (list_all t xs) h).0
pass-at t (x ∷ xs) (suc k) d h e = pass-at t xs k d (and_parts (t x) (list_all t xs) h).1 e

pub note-at : (n kids x : ℕ) (d : DirValue) → DirParts n kids d → note_fits kids (dir_note x d) ≡ true
note-at n kids x d p = pass-at (item_fits kids) d.items x absent_item p.notes refl

-- an entry that comes down, with words only where it brings a copy
pub entry-fits : (n x : ℕ) (kind : TxKind) (words : List ℕ) (s : Stamp) → x < n → (brings_copy kind ≡ false → are_zero words ≡ true) → down_fits n (record { kind = kind; item = x; words = words; stamp = s }) ≡ true
entry-fits n x kind words s within bare = both_true (lt-test x n within) (implies-by (not (brings_copy kind)) (are_zero words) (λ e. bare (not-true (brings_copy kind) e)))

-- ---- tests of a face

-- nothing is under way
abbrev pub is_no_note : Note → Bool
is_no_note no_note = true
is_no_note (local first joined) = false
is_no_note (up_read first joined) = false
is_no_note (up_erase d) = false

-- the first of them is of this kind
abbrev pub starts_with : TxKind → List TxKind → Bool
starts_with kind [] = false
starts_with kind (k ∷ ks) = is_kind kind k
