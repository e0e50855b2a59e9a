use Rattle.tree_rules.specs.Order.Rules.{words_right}
use Rattle.order_lists.proofs.Found.{found_is_current}
use Rattle.order_lists.proofs.laws.found_copy_is_current.Goals as goal

pub returns : goal.returns
returns c = λ s m x ok core below. found_is_current s m x ok below (core.copies x below words_right)
