use Rattle.std.proofs.Common.{sym}
use Rattle.ddm_words.proofs.Numbers.{small_number}
use Rattle.ddm_words.proofs.words.number_in.Goals as goal

pub returns-in-Ok-clause-most : goal.returns-in-Ok-clause-most
returns-in-Ok-clause-most c = small_number c.as_bytes.result.now c.args.most c.in-Ok.n (sym c.in-Ok.ensures.number)
