use Rattle.report.proofs.Written.{writes_front}
use Rattle.report.proofs.writing.offer.Goals as goal

pub returns-clause-took : goal.returns-clause-took
returns-clause-took g c = writes_front _ _ _ _ _ c.write.ensures.took
