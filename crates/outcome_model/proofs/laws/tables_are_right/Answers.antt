use Rattle.outcome_model.proofs.TableLaws.{tables-right}
use Rattle.outcome_model.proofs.laws.tables_are_right.Goals as goal

pub returns : goal.returns
returns c = tables-right
