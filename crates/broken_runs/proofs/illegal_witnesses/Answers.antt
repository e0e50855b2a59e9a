use Rattle.std.proofs.lemmas.Bool.{false≢true}
use Rattle.tree_rules.specs.Computing.{rules_compute}
use Rattle.broken_runs.proofs.illegal_witnesses.Goals as goal

pub returns-clause-from_the_end : goal.returns-clause-from_the_end
unfolding rules_compute
returns-clause-from_the_end c = λ w. false≢true w.legal

pub returns-clause-exchanged_in_hart : goal.returns-clause-exchanged_in_hart
unfolding rules_compute
returns-clause-exchanged_in_hart c = λ w. false≢true w.legal

pub returns-clause-exchanged_between_harts : goal.returns-clause-exchanged_between_harts
unfolding rules_compute
returns-clause-exchanged_between_harts c = λ w. false≢true w.legal

pub returns-clause-other_pc : goal.returns-clause-other_pc
unfolding rules_compute
returns-clause-other_pc c = λ w. false≢true w.legal

pub returns-clause-other_word_loaded : goal.returns-clause-other_word_loaded
unfolding rules_compute
returns-clause-other_word_loaded c = λ w. false≢true w.legal

pub returns-clause-other_word_stored : goal.returns-clause-other_word_stored
unfolding rules_compute
returns-clause-other_word_stored c = λ w. false≢true w.legal

pub returns-clause-other_byte : goal.returns-clause-other_byte
unfolding rules_compute
returns-clause-other_byte c = λ w. false≢true w.legal
