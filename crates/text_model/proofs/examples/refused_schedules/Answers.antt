use Rattle.text_model.proofs.Schedules
use Rattle.text_model.proofs.examples.refused_schedules.Goals as goal

pub returns-clause-unfinished : goal.returns-clause-unfinished
returns-clause-unfinished c = Schedules.unfinished

pub returns-clause-cut : goal.returns-clause-cut
returns-clause-cut c = Schedules.refused_where_cut

pub returns-clause-no_such_hart : goal.returns-clause-no_such_hart
returns-clause-no_such_hart c = Schedules.no_such_hart

pub returns-clause-no_such_bus : goal.returns-clause-no_such_bus
returns-clause-no_such_bus c = Schedules.no_such_bus

pub returns-clause-no_such_child : goal.returns-clause-no_such_child
returns-clause-no_such_child c = Schedules.no_such_child

pub returns-clause-two_spellings : goal.returns-clause-two_spellings
returns-clause-two_spellings c = Schedules.two_spellings

pub returns-clause-victim_too_large : goal.returns-clause-victim_too_large
returns-clause-victim_too_large c = Schedules.victim_too_large

pub returns-clause-two_spaces : goal.returns-clause-two_spaces
returns-clause-two_spaces c = Schedules.two_spaces

pub returns-clause-carriage_return : goal.returns-clause-carriage_return
returns-clause-carriage_return c = Schedules.carriage_return

pub returns-clause-line_of_24_bytes : goal.returns-clause-line_of_24_bytes
returns-clause-line_of_24_bytes c = Schedules.line_of_24_bytes

pub returns-clause-line_of_25_bytes : goal.returns-clause-line_of_25_bytes
returns-clause-line_of_25_bytes c = Schedules.line_of_25_bytes

pub returns-clause-goes_on_after_end : goal.returns-clause-goes_on_after_end
returns-clause-goes_on_after_end c = Schedules.goes_on_after_end

pub returns-clause-one_turn_too_many : goal.returns-clause-one_turn_too_many
returns-clause-one_turn_too_many c = Schedules.one_turn_too_many
