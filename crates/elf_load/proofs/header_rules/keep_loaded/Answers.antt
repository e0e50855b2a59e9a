use Rattle.std.proofs.Common.{rules}
use Rattle.std.proofs.lemmas.List.Elements.{filter_from_retain}
use Rattle.elf_load.specs.ElfFile.{has_memory}
use Rattle.elf_load.proofs.header_rules.keep_loaded.Goals as goal

pub returns : goal.returns
returns c = filter_from_retain _ has_memory (λ p x b q k. search rules) _ _ _ c.retain.ensures.filtered
