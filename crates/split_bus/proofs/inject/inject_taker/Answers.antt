use Rattle.split_bus.proofs.inject.inject_taker.Goals as goal

pub returns-in-None : goal.returns-in-None
returns-in-None g c = rw (← c.entry.view_is, ← c.in-None.ensures.value) c.find-in-None.ensures.value
