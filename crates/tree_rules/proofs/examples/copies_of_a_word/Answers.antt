use Rattle.std.proofs.Common.{refl}
use Rattle.tree_rules.specs.Computing.{rules_compute}
use Rattle.tree_rules.proofs.examples.copies_of_a_word.Goals as goal

pub returns-clause-copies : goal.returns-clause-copies
unfolding rules_compute
returns-clause-copies c = record { read = refl; asked = refl; erased = refl; alone = refl; stored = refl; loaded = refl }

pub returns-clause-claims : goal.returns-clause-claims
unfolding rules_compute
returns-clause-claims c = record { none_when_read = refl; none_when_erased = refl; granted = refl; alone = refl; when_stored = refl }
