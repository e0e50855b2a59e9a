use Rattle.outcome_model.proofs.TableLaws.{tables-right}
use Rattle.survey_model.specs.Survey.{seed_ends, survey_table}
use Rattle.survey_model.proofs.laws.surveys_are_right.Goals as goal

pub returns : goal.returns
unfolding survey_table
returns c = λ kind shape turns m first count. tables-right first (seed_ends kind shape turns m first count)
