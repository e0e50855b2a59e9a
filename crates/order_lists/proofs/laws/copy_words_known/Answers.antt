use Rattle.order_lists.proofs.Contracts.{copies-known, copies-end_late}
use Rattle.order_lists.proofs.laws.copy_words_known.Goals as goal

pub returns-clause-words : goal.returns-clause-words
returns-clause-words c = copies-known

pub returns-clause-ends : goal.returns-clause-ends
returns-clause-ends c = copies-end_late
