use Rattle.std.proofs.Common.{refl}
use Rattle.litmus_model.specs.Computing.{litmus_tests_compute}
use Rattle.litmus_model.proofs.examples.refused_texts.Goals as goal

pub returns-clause-open_comment : goal.returns-clause-open_comment
unfolding litmus_tests_compute
returns-clause-open_comment c = refl

pub returns-clause-other_architecture : goal.returns-clause-other_architecture
unfolding litmus_tests_compute
returns-clause-other_architecture c = refl

pub returns-clause-wide_load : goal.returns-clause-wide_load
unfolding litmus_tests_compute
returns-clause-wide_load c = refl

pub returns-clause-no_label : goal.returns-clause-no_label
unfolding litmus_tests_compute
returns-clause-no_label c = refl

pub returns-clause-given_twice : goal.returns-clause-given_twice
unfolding litmus_tests_compute
returns-clause-given_twice c = refl

pub returns-clause-open_bracket : goal.returns-clause-open_bracket
unfolding litmus_tests_compute
returns-clause-open_bracket c = refl
