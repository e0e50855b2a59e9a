use Rattle.leaf_protocol.proofs.Together.{on-true, one-standing}
use Rattle.leaf_protocol.proofs.entries.Entries.read_one_standing.Goals as goal

pub returns-clause-there : goal.returns-clause-there
returns-clause-there g c =
    λ ss there. one-standing there c.stand_beside-fits.new.self c.stand_beside-fits.ensures.sizes.sets c.in_ok-entry.entry c.in_ok-entry.ensures.item c.stand_beside-fits.result c.stand_beside-fits.ensures.value (on-true _ c.stand_beside-fits.ensures.ways) (λ h. c.stand_beside-fits.ensures.buffer)
