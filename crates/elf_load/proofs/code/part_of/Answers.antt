use Rattle.std.proofs.Common.{ℕ, ◌*◌, refl, sym, ap, ◌∙◌}
use Rattle.elf_load.proofs.CodeParts.{blank_part, full_part}
use Rattle.elf_load.proofs.code.part_of.Goals as goal

pub returns-then-not-is_code : goal.returns-then-not-is_code
returns-then-not-is_code c = blank_part c.args.segment.now _ (sym c.is_code.ensures ∙ c.if-not-is_code.true) refl c.new.ensures.items

pub returns : goal.returns
returns c =
    full_part c.args.segment.now _ c.requires (sym c.is_code.ensures ∙ c.if-not-is_code.false) (ap (λ (n : ℕ). 4 * n) c.first_word.ensures) c.in_ok-segment_words.ensures
