-- An item as a word, and back.
use Rattle.std.proofs.Common.{◌≡◌, ◌∙◌, ap, sym, refl, ℕ, ◌+◌, ◌*◌, ◌/◌, ◌%◌, ◌<◌, ◌^◌, Bool, true, false, cond, nat_eq, Option, Some, None, arith, eqb-true}
use Rattle.directory.specs.DdmTypes.declared.answers.PendingWhy.{PendingWhy}
use Rattle.directory.specs.DdmTypes.declared.sizes.Hold.{Hold}
use Rattle.directory.specs.TreeModel.State.Values.{Note, no_note, local, up_read, up_erase, DirItem}
use Rattle.directory.specs.TreeModel.State.Directory.{is_up_read}
use Rattle.directory.specs.ItemStates.Parts.{joined_in, note_of, NamesChild}
use Rattle.directory.specs.Packed.{hold_bits, note_bits, answering_bits, packed_item, hold_in, note_in, note_with, unpacked_item, IsPacked}

-- ---- notes

-- the note has a place in a word
abbrev pub IsSmall : Note → Type 0
IsSmall no_note = Unit {0}
IsSmall (local first joined) = (first < 16) × (joined < 2 ^ 16)
IsSmall (up_read first joined) = (first < 16) × (joined < 2 ^ 16)
IsSmall (up_erase d) = d < 16

-- a note of a child that there may be has a place in a word
pub note_with-small : (o : Option PendingWhy) (joined : ℕ) → NamesChild (note_of o) → joined < 2 ^ 16 → IsSmall (note_with o joined)
note_with-small None joined c j = tt
note_with-small (Some (PendingWhy.Local d)) joined c j = (c, j)
note_with-small (Some (PendingWhy.UpRead d)) joined c j = (c, j)
note_with-small (Some (PendingWhy.UpErase d)) joined c j = c
note_with-small (Some PendingWhy.Answering) joined c j = tt
note_with-small (Some PendingWhy.InDown) joined c j = tt

-- ---- the parts of a word

abbrev kind_of : Note → ℕ
kind_of no_note = 0
kind_of (local first joined) = 1
kind_of (up_read first joined) = 2
kind_of (up_erase d) = 3

abbrev child_of : Note → ℕ
child_of no_note = 0
child_of (local first joined) = first
child_of (up_read first joined) = first
child_of (up_erase d) = d

abbrev flag_of : Bool → ℕ
flag_of b = cond b 1 0

record IsParts (w h k c f j : ℕ) : Type 0 where
  hold : w % 4 ≡ h
  kind : w / 4 % 4 ≡ k
  child : w / 16 % 16 ≡ c
  flag : w / 256 % 2 ≡ f
  joined : w / 65536 ≡ j

parts : (w h k c f j : ℕ) → h < 4 → k < 4 → c < 16 → f < 2 → w ≡ h + 4 * k + 16 * c + 256 * f + 65536 * j → IsParts w h k c f j
parts w h k c f j lh lk lc lf is = record {
  hold = omega arith;
  kind = omega arith;
  child = omega arith;
  flag = omega arith;
  joined = omega arith;
}

hold-small : (h : Hold) → hold_bits h < 3
hold-small Hold.Invalid = omega arith
hold-small Hold.Shared = omega arith
hold-small Hold.Exclusive = omega arith

flag-small : (b : Bool) → flag_of b < 2
flag-small true = omega arith
flag-small false = omega arith

kind-small : (n : Note) → kind_of n < 4
kind-small no_note = omega arith
kind-small (local first joined) = omega arith
kind-small (up_read first joined) = omega arith
kind-small (up_erase d) = omega arith

child-small : (n : Note) → IsSmall n → child_of n < 16
child-small no_note s = omega arith
child-small (local first joined) s = s.0
child-small (up_read first joined) s = s.0
child-small (up_erase d) s = s

joined-small : (n : Note) → IsSmall n → joined_in n < 2 ^ 16
joined-small no_note s = omega arith
joined-small (local first joined) s = s.1
joined-small (up_read first joined) s = s.1
joined-small (up_erase d) s = omega arith

note-split : (n : Note) → note_bits n ≡ 4 * kind_of n + 16 * child_of n + 65536 * joined_in n
note-split no_note = omega arith
note-split (local first joined) = refl
note-split (up_read first joined) = refl
note-split (up_erase d) = omega arith

flag-split : (b : Bool) → answering_bits b ≡ 256 * flag_of b
flag-split true = omega arith
flag-split false = omega arith

packed-parts : (i : DirItem) → IsSmall i.note → IsParts (packed_item i) (hold_bits i.hold) (kind_of i.note) (child_of i.note) (flag_of i.answering) (joined_in i.note)
unfolding packed_item
packed-parts i s =
    let h = hold-small i.hold in
    let k = kind-small i.note in
    let c = child-small i.note s in
    let f = flag-small i.answering in
    let n = note-split i.note in
    let a = flag-split i.answering in
    parts _ (hold_bits i.hold) (kind_of i.note) (child_of i.note) (flag_of i.answering) (joined_in i.note) (omega (arith, h)) k c f (omega (arith, n, a))

packed-fits : (i : DirItem) → IsSmall i.note → packed_item i < 2 ^ 32
unfolding packed_item
packed-fits i s =
    let h = hold-small i.hold in
    let k = kind-small i.note in
    let c = child-small i.note s in
    let j = joined-small i.note s in
    let f = flag-small i.answering in
    let n = note-split i.note in
    let a = flag-split i.answering in
    omega (arith, h, k, c, j, f, n, a)

hold-back : (h : Hold) → hold_in (hold_bits h) ≡ h
hold-back Hold.Invalid = refl
hold-back Hold.Shared = refl
hold-back Hold.Exclusive = refl

note-back : (n : Note) → note_in (kind_of n) (child_of n) (joined_in n) ≡ n
note-back no_note = refl
note-back (local first joined) = refl
note-back (up_read first joined) = refl
note-back (up_erase d) = refl

flag-back : (b : Bool) → nat_eq (flag_of b) 1 ≡ b
flag-back true = refl
flag-back false = refl

-- ---- the round trip

same_item : (i : DirItem) (h : Hold) (n : Note) (a : Bool) → h ≡ i.hold → n ≡ i.note → a ≡ i.answering → record { hold = h; note = n; answering = a } ≡ i
same_item i h n a sh sn sa = rw (sh, sn, sa) refl

pub unpacked-packed : (i : DirItem) → IsSmall i.note → unpacked_item (packed_item i) ≡ i
unfolding unpacked_item
unpacked-packed i s =
    let p = packed-parts i s in
    let h : hold_in (packed_item i % 4) ≡ i.hold = ap hold_in p.hold ∙ hold-back i.hold in
    let n : note_in (packed_item i / 4 % 4) (packed_item i / 16 % 16) (packed_item i / 65536) ≡ i.note = rw (p.kind, p.child, p.joined) (note-back i.note) in
    let a : nat_eq (packed_item i / 256 % 2) 1 ≡ i.answering = ap (λ f. nat_eq f 1) p.flag ∙ flag-back i.answering in
    same_item i _ _ _ h n a

pub packed-packed : (i : DirItem) → IsSmall i.note → IsPacked (packed_item i)
packed-packed i s = record { same = ap packed_item (unpacked-packed i s); fits = packed-fits i s }

note_in-small : (k c j : ℕ) → c < 16 → j < 2 ^ 16 → IsSmall (note_in k c j)
note_in-small k c j lc lj = by_tests (nat_eq k 1) (nat_eq k 2) (nat_eq k 3)
  where
    by_tests : (a b d : Bool) → IsSmall (cond a (local c j) (cond b (up_read c j) (cond d (up_erase c) no_note)))
    by_tests true b d = (lc, lj)
    by_tests false true d = (lc, lj)
    by_tests false false true = lc
    by_tests false false false = tt

-- the note in a word has a place there
pub unpacked-small : (w : ℕ) → w < 2 ^ 32 → IsSmall (unpacked_item w).note
unfolding unpacked_item
unpacked-small w fits = note_in-small (w / 4 % 4) (w / 16 % 16) (w / 65536) (omega arith) (omega arith)

-- those that joined stand from bit 16 on
pub unpacked-joined : (w : ℕ) → IsPacked w → w / 65536 ≡ joined_in (unpacked_item w).note
unpacked-joined w h = ap (λ v. v / 65536) (sym h.same) ∙ (packed-parts (unpacked_item w) (unpacked-small w h.fits)).joined

up_read-in : (k c j : ℕ) → is_up_read (note_in k c j) ≡ nat_eq k 2
up_read-in k c j = by_test (nat_eq k 1) refl
  where
    otherwise : (a b : Bool) → is_up_read (cond a (up_read c j) (cond b (up_erase c) no_note)) ≡ a
    otherwise true b = refl
    otherwise false true = refl
    otherwise false false = refl

    by_test : (b : Bool) → nat_eq k 1 ≡ b → is_up_read (cond b (local c j) (cond (nat_eq k 2) (up_read c j) (cond (nat_eq k 3) (up_erase c) no_note))) ≡ nat_eq k 2
    by_test true e = rw (eqb-true k 1 e) refl
    by_test false e = otherwise (nat_eq k 2) (nat_eq k 3)

-- the kind of the note stands in bits 2 and 3
pub unpacked-up_read : (w : ℕ) → is_up_read (unpacked_item w).note ≡ nat_eq (w / 4 % 4) 2
unfolding unpacked_item
unpacked-up_read w = up_read-in (w / 4 % 4) (w / 16 % 16) (w / 65536)
