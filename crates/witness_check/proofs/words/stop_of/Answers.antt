use Rattle.witness_check.proofs.Numbers.{first_stop, no_stop}
use Rattle.witness_check.proofs.words.stop_of.Goals as goal

pub returns-in-None-clause-pieces : goal.returns-in-None-clause-pieces
returns-in-None-clause-pieces c = no_stop c.args.text.now c.in-None.ensures

pub returns-in-Some-clause-pieces : goal.returns-in-Some-clause-pieces
returns-in-Some-clause-pieces c = first_stop c.in-Some.end c.args.text.now c.in-Some.ensures
