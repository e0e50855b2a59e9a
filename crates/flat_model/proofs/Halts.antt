-- What instructions ask for, each way to halt, and what effects are on.
use Rattle.std.proofs.Common.{refl}
use Rattle.flat_model.specs.Computing.{flat_computes}
use Rattle.flat_model.specs.Examples.{Asks, Halts, EffectsOnItems}

pub asks : Asks
unfolding flat_computes
asks = (refl, refl, refl, refl, refl, refl, refl)

pub halts : Halts
unfolding flat_computes
halts = (refl, refl, refl, refl, refl, refl, refl, refl, refl, refl, refl, refl, refl, refl, refl, refl)

pub effects_on_items : EffectsOnItems
unfolding flat_computes
effects_on_items = (refl, refl, refl, refl, refl, refl, refl, refl, refl, refl)
