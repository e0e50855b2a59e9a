-- Whatever a hart asks for that isn't a halt is ready.
use Rattle.std.proofs.Common.{◌≡◌, refl}
use Rattle.rv_hart.specs.DdmTypes.declared.operations.HaltCause.{HaltCause}
use Rattle.flat_model.specs.declared.Ask.{Ask}
use Rattle.flat_model.specs.declared.Ask.TheVariants.{Plain, Put, NeedsShared, NeedsExclusive, Conditional, Halt}
use Rattle.rv_hart.specs.Steps.{IsReady}

pub ready_unless_halt : (ask : Ask) → ((cause : HaltCause) → ask ≡ Halt cause → ⊥) → IsReady ask
ready_unless_halt Plain not_halt = tt
ready_unless_halt (Put byte) not_halt = tt
ready_unless_halt (NeedsShared x lr) not_halt = tt
ready_unless_halt (NeedsExclusive x) not_halt = tt
ready_unless_halt (Conditional x) not_halt = tt
ready_unless_halt (Halt cause) not_halt = not_halt cause refl
