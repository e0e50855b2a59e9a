use Rattle.std.proofs.Common.{sym, arith}
use Rattle.schedule_log.proofs.Cuts.{small_number}
use Rattle.schedule_log.proofs.words.choice.Goals as goal

pub overflow_cast-result : goal.overflow_cast-result
overflow_cast-result c = omega (arith, small_number c.args.word.now 255 c.in-Ok.n (sym c.in-Ok.ensures.number))
