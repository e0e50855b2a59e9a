use Rattle.std.proofs.Common.{ℕ, Some, sym, ap, ◌∙◌}
use Rattle.witness_check.proofs.ShortNumbers.{one_digit}
use Rattle.witness_check.proofs.words.number.Goals as goal

pub returns-then-is_digit : goal.returns-then-is_digit
returns-then-is_digit c = ap (λ (n : ℕ). Some n) c.from.ensures ∙ one_digit c.args.word.now c.if-word-ne1.false (sym c.if-is_digit.ensures)
