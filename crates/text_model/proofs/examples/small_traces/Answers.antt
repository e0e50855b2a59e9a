use Rattle.text_model.proofs.Reports
use Rattle.text_model.proofs.examples.small_traces.Goals as goal

pub returns-clause-one_read : goal.returns-clause-one_read
returns-clause-one_read c = Reports.one_read

pub returns-clause-other_answers : goal.returns-clause-other_answers
returns-clause-other_answers c = Reports.other_answers_trace
