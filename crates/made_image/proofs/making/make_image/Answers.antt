use Rattle.std.proofs.Common.{List, length, ap, ◌∙◌, arith}
use Rattle.made_image.specs.TreeModel.Start.Sources.{SegmentValue}
use Rattle.elf_load.specs.Written.{written_image}
use Rattle.made_image.proofs.Lengths.{made_length, program_length}
use Rattle.made_image.proofs.making.make_image.Goals as goal

pub made_segments-requires : goal.made_segments-requires
made_segments-requires c =
    let length_is = ap length c.in_ok-code.ensures ∙ program_length c.args.seed c.args.rounds in
    omega (arith, c.requires.few, length_is)

pub write_image-requires-clause-short : goal.write_image-requires-clause-short
write_image-requires-clause-short c =
    let length_is = ap length c.in_ok-code.ensures ∙ program_length c.args.seed c.args.rounds in
    let file_is = ap (λ (segments : List SegmentValue). length (written_image 0x10000 segments)) (c.deref.ensures.value ∙ c.in_ok-segments.ensures) ∙ made_length c.in_ok-code.code.items in
    omega (arith, c.requires.few, length_is, file_is)
