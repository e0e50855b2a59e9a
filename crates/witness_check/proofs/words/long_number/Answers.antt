use Rattle.std.proofs.Common.{sym, arith}
use Rattle.witness_check.proofs.DdmText.Spellings.{number_of-within}
use Rattle.witness_check.proofs.words.long_number.Goals as goal

pub overflow_cast-result : goal.overflow_cast-result
overflow_cast-result c = omega (arith, number_of-within c.args.word.now 4294967295 c.in-Ok.n (sym c.in-Ok.ensures.number))
