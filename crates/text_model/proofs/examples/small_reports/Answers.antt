use Rattle.text_model.proofs.Reports
use Rattle.text_model.proofs.examples.small_reports.Goals as goal

pub returns-clause-store_and_load_back : goal.returns-clause-store_and_load_back
returns-clause-store_and_load_back c = Reports.store_and_load_back

pub returns-clause-in_short : goal.returns-clause-in_short
returns-clause-in_short c = Reports.store_and_load_in_short

pub returns-clause-before_any_turn : goal.returns-clause-before_any_turn
returns-clause-before_any_turn c = Reports.before_any_turn
