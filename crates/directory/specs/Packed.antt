-- What a directory keeps of an item as one word of 32 bits: bits 0 and 1 have the hold, bits 2 and 3 the kind of the note,
-- bits 4 to 7 its child, bit 8 is set where it is answering, and bit 16 + c where child c joined.
-- To be believed: it is what is lent of a directory.
use Rattle.std.specs.Prelude.{◌≡◌, ℕ, ◌+◌, ◌*◌, ◌/◌, ◌%◌, ◌<◌, ◌^◌, Bool, nat_eq, Option, Some, None, if◌then◌else◌}
use Rattle.directory.specs.DdmTypes.declared.answers.PendingWhy.{PendingWhy}
use Rattle.directory.specs.DdmTypes.declared.sizes.Hold.{Hold}
use Rattle.directory.specs.TreeModel.State.Values.{Note, no_note, local, up_read, up_erase, DirItem}

-- ---- an item as a word

abbrev pub hold_bits : Hold → ℕ
hold_bits Hold.Invalid = 0
hold_bits Hold.Shared = 1
hold_bits Hold.Exclusive = 2

-- a note of this kind, of this child, with these that joined
abbrev pub noted : ℕ → ℕ → ℕ → ℕ
noted kind child joined = 4 * kind + 16 * child + 65536 * joined

abbrev pub note_bits : Note → ℕ
note_bits no_note = 0
note_bits (local first joined) = noted 1 first joined
note_bits (up_read first joined) = noted 2 first joined
note_bits (up_erase d) = noted 3 d 0

abbrev pub answering_bits : Bool → ℕ
answering_bits answering = if answering then 256 else 0

unfoldable pub packed_item : DirItem → ℕ
packed_item i = hold_bits i.hold + note_bits i.note + answering_bits i.answering

-- ---- a word as an item

abbrev pub hold_in : ℕ → Hold
hold_in n = if nat_eq n 0 then Hold.Invalid else (if nat_eq n 1 then Hold.Shared else Hold.Exclusive)

-- the note of this kind, of this child, with these that joined
abbrev pub note_in : ℕ → ℕ → ℕ → Note
note_in kind child joined =
    if nat_eq kind 1 then local child joined
    else (if nat_eq kind 2 then up_read child joined else (if nat_eq kind 3 then up_erase child else no_note))

unfoldable pub unpacked_item : ℕ → DirItem
unpacked_item w = record {
  hold = hold_in (w % 4);
  note = note_in (w / 4 % 4) (w / 16 % 16) (w / 65536);
  answering = nat_eq (w / 256 % 2) 1;
}

-- the word is one of an item
pub record IsPacked (w : ℕ) : Type 0 where
  pub same : packed_item (unpacked_item w) ≡ w
  pub fits : w < 2 ^ 32

-- ---- notes

-- the note of a reason, with these that joined; the others are no notes
abbrev pub note_with : Option PendingWhy → ℕ → Note
note_with (Some (PendingWhy.Local c)) joined = local c joined
note_with (Some (PendingWhy.UpRead c)) joined = up_read c joined
note_with (Some (PendingWhy.UpErase c)) joined = up_erase c
note_with (Some PendingWhy.Answering) joined = no_note
note_with (Some PendingWhy.InDown) joined = no_note
note_with None joined = no_note
