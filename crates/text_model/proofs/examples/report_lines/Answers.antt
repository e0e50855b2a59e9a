use Rattle.text_model.proofs.Reports
use Rattle.text_model.proofs.examples.report_lines.Goals as goal

pub returns-clause-turns : goal.returns-clause-turns
returns-clause-turns c = Reports.one_read_turns_line

pub returns-clause-one_byte_of_output : goal.returns-clause-one_byte_of_output
returns-clause-one_byte_of_output c = Reports.one_byte_of_output

pub returns-clause-no_output : goal.returns-clause-no_output
returns-clause-no_output c = Reports.no_output

pub returns-clause-bus : goal.returns-clause-bus
returns-clause-bus c = Reports.one_read_bus_line

pub returns-clause-item : goal.returns-clause-item
returns-clause-item c = Reports.one_read_item_line

pub returns-clause-parked_item : goal.returns-clause-parked_item
returns-clause-parked_item c = Reports.parked_item_line

pub returns-clause-op : goal.returns-clause-op
returns-clause-op c = Reports.first_load_line

pub returns-clause-deep_key : goal.returns-clause-deep_key
returns-clause-deep_key c = Reports.deep_key
