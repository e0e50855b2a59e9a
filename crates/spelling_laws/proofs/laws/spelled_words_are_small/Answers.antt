use Rattle.spelling_laws.proofs.SmallWords.{words-small, checkpoint-small}
use Rattle.spelling_laws.proofs.laws.spelled_words_are_small.Goals as goal

pub returns-clause-state : goal.returns-clause-state
returns-clause-state c = words-small

pub returns-clause-checkpoint : goal.returns-clause-checkpoint
returns-clause-checkpoint c = λ m turns retired granted busy shaped spelled small. checkpoint-small m shaped spelled small turns retired granted busy
