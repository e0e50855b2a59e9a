use Rattle.leaf_protocol.proofs.Reading.{words-in-way, words-in-buffer}
use Rattle.leaf_protocol.proofs.entries.Entries.words.Goals as goal

pub returns-in-Some : goal.returns-in-Some
returns-in-Some g c = rw (← c.self.view_is) (words-in-way c.self.invariant c.args.item _ c.in-Some.ensures)

pub returns-in-None : goal.returns-in-None
returns-in-None g c = rw (← c.self.view_is) (words-in-buffer c.self.invariant c.args.item _ c.in-None.ensures c.words-in-None.ensures)
