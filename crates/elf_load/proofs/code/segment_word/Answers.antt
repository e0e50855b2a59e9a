use Rattle.std.proofs.Common.{◌≡◌, ◌-◌, ◌∙◌}
use Rattle.elf_load.specs.ElfFile.{word_in}
use Rattle.elf_load.proofs.SegmentBytes.{own_word}
use Rattle.elf_load.proofs.code.segment_word.Goals as goal

pub returns-then-offset-len : goal.returns-then-offset-len
returns-then-offset-len c =
    let is : c.word_in.result ≡ word_in c.args.segment.now.bytes (c.args.address - c.args.segment.now.vaddr) = cc in
    is ∙ own_word c.args.segment.now c.args.address c.requires.above c.requires.below
