use Rattle.std.proofs.Common.{sym, ◌∙◌}
use Rattle.attraction_mem.proofs.memory.AttractionMem.sets.Goals as goal
use Rattle.attraction_mem.proofs.Reading.{sets_seen}

pub returns-clause-sets : goal.returns-clause-sets
returns-clause-sets g c = c.by.ensures ∙ sym (sets_seen g.row.WAYS c.self.inside.sets c.self.inside.tags.items c.self.inside.words.items c.self.view_is)
