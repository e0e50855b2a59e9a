use Rattle.std.proofs.Common.{arith}
use Rattle.directory.specs.Packed.{note_with, packed_item}
use Rattle.directory.proofs.Packing.{IsSmall, unpacked-packed, packed-packed, note_with-small}
use Rattle.directory.proofs.packed.PackedItem.new.Goals as goal

pub invariant_of-result : goal.invariant_of-result
unfolding packed_item
invariant_of-result c =
    let small : IsSmall (note_with c.args.note c.args.joined) = note_with-small c.args.note c.args.joined c.requires (omega (arith, c.ranges.joined.fits)) in
    rw (c.hold_part.ensures, c.note_part.ensures, c.answering_part.ensures) (packed-packed (record { hold = c.args.hold; note = note_with c.args.note c.args.joined; answering = c.args.answering }) small)

pub returns : goal.returns
unfolding packed_item
returns c =
    let small : IsSmall (note_with c.args.note c.args.joined) = note_with-small c.args.note c.args.joined c.requires (omega (arith, c.ranges.joined.fits)) in
    rw (c.hold_part.ensures, c.note_part.ensures, c.answering_part.ensures) (unpacked-packed (record { hold = c.args.hold; note = note_with c.args.note c.args.joined; answering = c.args.answering }) small)
