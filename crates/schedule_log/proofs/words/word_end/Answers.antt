use Rattle.std.proofs.Common.{sym}
use Rattle.schedule_log.proofs.Cuts.{first_word, last_word}
use Rattle.schedule_log.proofs.words.word_end.Goals as goal

pub returns-in-Some-clause-more : goal.returns-in-Some-clause-more
returns-in-Some-clause-more c inside = first_word c.args.text.now c.in-Some.place (sym c.in-Some.ensures)

pub returns-in-None-clause-last : goal.returns-in-None-clause-last
returns-in-None-clause-last c whole = last_word c.args.text.now (sym c.in-None.ensures)
