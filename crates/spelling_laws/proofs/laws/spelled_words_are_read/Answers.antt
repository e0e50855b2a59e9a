use Rattle.spelling_laws.proofs.MachineTaken.{spelled-read}
use Rattle.spelling_laws.proofs.laws.spelled_words_are_read.Goals as goal

pub returns : goal.returns
returns c = spelled-read
