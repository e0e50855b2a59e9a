use Rattle.broken_runs.proofs.Turns.{two_words-witnessed, loads-another, loaded-in_order, wrong-at_first, twins-witnessed, goes-on, busy-witnessed, busy-without_cause, busy-later}
use Rattle.broken_runs.proofs.broken_turns.Goals as goal

pub returns-clause-loads_another_word : goal.returns-clause-loads_another_word
returns-clause-loads_another_word c = record { before = two_words-witnessed; refused = loads-another; each_refused = λ w. loads-another (w 1) }

pub returns-clause-wrong_at_first : goal.returns-clause-wrong_at_first
returns-clause-wrong_at_first c = record { in_the_end = loaded-in_order; refused = wrong-at_first }

pub returns-clause-goes_on_after_halt : goal.returns-clause-goes_on_after_halt
returns-clause-goes_on_after_halt c = record { machine = twins-witnessed; refused = goes-on }

pub returns-clause-busy_without_cause : goal.returns-clause-busy_without_cause
returns-clause-busy_without_cause c = record { machine = busy-witnessed; refused = busy-without_cause; later_refused = busy-later }
