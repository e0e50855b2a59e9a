use Rattle.attraction_mem.proofs.memory.AttractionMem.beside.Goals as goal

pub returns : goal.returns
returns g c = rw (← c.set_of.ensures.set) c.at.ensures
