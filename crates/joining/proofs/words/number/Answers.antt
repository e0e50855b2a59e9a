use Rattle.std.proofs.Common.{sym}
use Rattle.join_model.proofs.DdmText.Spellings.{number_of-within}
use Rattle.joining.proofs.words.number.Goals as goal

pub returns-in-Ok-clause-most : goal.returns-in-Ok-clause-most
returns-in-Ok-clause-most c = number_of-within c.args.word.now c.args.most c.in-Ok.n (sym c.in-Ok.ensures.number)
