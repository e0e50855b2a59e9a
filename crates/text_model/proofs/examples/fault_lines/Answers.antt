use Rattle.text_model.proofs.Reports
use Rattle.text_model.proofs.examples.fault_lines.Goals as goal

pub returns-clause-usage : goal.returns-clause-usage
returns-clause-usage c = Reports.usage

pub returns-clause-image : goal.returns-clause-image
returns-clause-image c = Reports.overlap

pub returns-clause-tree : goal.returns-clause-tree
returns-clause-tree c = Reports.bad_shape

pub returns-clause-tree_key : goal.returns-clause-tree_key
returns-clause-tree_key c = Reports.out_of_range

pub returns-clause-unknown_key : goal.returns-clause-unknown_key
returns-clause-unknown_key c = Reports.unknown_key

pub returns-clause-schedule : goal.returns-clause-schedule
returns-clause-schedule c = Reports.not_ended

pub returns-clause-unreadable : goal.returns-clause-unreadable
returns-clause-unreadable c = Reports.unreadable
