use Rattle.std.proofs.Common.{sym, ◌∙◌}
use Rattle.elf_load.specs.ElfFile.{is_outside}
use Rattle.elf_load.proofs.Finds.{find_here}
use Rattle.elf_load.proofs.file_rules.first_outside.Goals as goal

pub returns-then-is_outside : goal.returns-then-is_outside
returns-then-is_outside c =
    sym (c.loop-number.invariant ∙
    find_here (is_outside c.args.file.now) c.loop-number.number c.args.count c.loop-number-test.true (sym c.is_outside.ensures ∙ c.if-is_outside.true))
