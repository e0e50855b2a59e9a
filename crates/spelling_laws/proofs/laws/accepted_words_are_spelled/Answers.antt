use Rattle.spelling_laws.proofs.Machine.{accepted-spelled}
use Rattle.spelling_laws.proofs.laws.accepted_words_are_spelled.Goals as goal

pub returns-clause-words : goal.returns-clause-words
returns-clause-words c = λ fresh m retired k at ws rest can e. (accepted-spelled fresh m retired k at ws rest can e).0

pub returns-clause-next : goal.returns-clause-next
returns-clause-next c = λ fresh m retired k at ws rest can e. (accepted-spelled fresh m retired k at ws rest can e).1

pub returns-clause-completed : goal.returns-clause-completed
returns-clause-completed c = λ fresh m retired k at ws rest can e. (accepted-spelled fresh m retired k at ws rest can e).2
