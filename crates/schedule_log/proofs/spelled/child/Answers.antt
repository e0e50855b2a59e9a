use Rattle.schedule_log.proofs.Spellings.{◌▷◌}
use Rattle.schedule_log.proofs.spelled.child.Goals as goal

pub returns-clause-begins : goal.returns-clause-begins
returns-clause-begins c = record { few = c.in_ok-child.ensures.begins.few; front = c.in_ok-space.ensures.begins ▷ c.in_ok-last.ensures.begins ▷ c.in_ok-child.ensures.begins.front }
