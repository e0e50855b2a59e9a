use Rattle.jam_laws.proofs.NeverFull.{never-full}
use Rattle.jam_laws.proofs.LargeLists.{turn-large, made-large}
use Rattle.jam_laws.proofs.laws.lists_never_full.Goals as goal

pub returns-clause-never : goal.returns-clause-never
returns-clause-never c = λ t m ok large. never-full m ok large t

pub returns-clause-stay : goal.returns-clause-stay
returns-clause-stay c = turn-large

pub returns-clause-start : goal.returns-clause-start
returns-clause-start c = made-large
