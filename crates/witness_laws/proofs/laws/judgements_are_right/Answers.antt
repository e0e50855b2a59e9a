use Rattle.witness_check.proofs.Accepting.{accepted_is, is_accepted}
use Rattle.witness_check.proofs.Refusing.{refused_is}
use Rattle.witness_laws.proofs.laws.judgements_are_right.Goals as goal

pub returns-clause-numbers : goal.returns-clause-numbers
returns-clause-numbers c s text lines = (accepted_is s text lines, is_accepted s text lines)

pub returns-clause-refusals : goal.returns-clause-refusals
returns-clause-refusals c = refused_is
