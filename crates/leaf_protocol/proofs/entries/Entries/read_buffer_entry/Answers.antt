use Rattle.leaf_protocol.proofs.ReadBack.{suiting}
use Rattle.leaf_protocol.proofs.entries.Entries.read_buffer_entry.Goals as goal

pub returns-clause-words : goal.returns-clause-words
returns-clause-words g c = suiting c.state_of-state.result g.row.WORDS _ _ c.in_ok-words.words _ _ (rw c.has_words.ensures at c.in_ok-words.ensures.read)
