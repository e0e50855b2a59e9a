-- Programs, step by step.
use Rattle.std.proofs.Common.{refl}
use Rattle.flat_model.specs.Computing.{flat_computes}
use Rattle.flat_model.specs.Examples.{StoreAndLoadBack, StoreAndLoadEnd, StoreAndLoadLegal, OneByteOfOutput, ReservationKept, ReservationLost, FailedConditional, OwnStore}

pub store_and_load_back : StoreAndLoadBack
unfolding flat_computes
store_and_load_back = refl

pub store_and_load_end : StoreAndLoadEnd
unfolding flat_computes
store_and_load_end = refl

pub store_and_load_legal : StoreAndLoadLegal
unfolding flat_computes
store_and_load_legal = λ key. (refl, refl, refl)

pub one_byte_of_output : OneByteOfOutput
unfolding flat_computes
one_byte_of_output = refl

pub reservation_kept : ReservationKept
unfolding flat_computes
reservation_kept = (refl, refl)

pub reservation_lost : ReservationLost
unfolding flat_computes
reservation_lost = (refl, refl)

pub failed_conditional : FailedConditional
unfolding flat_computes
failed_conditional = (refl, refl, refl)

pub own_store : OwnStore
unfolding flat_computes
own_store = (refl, refl)

-- What programs show of reservations.
pub ruleset reservation_programs = (reservation_kept, reservation_lost, failed_conditional, own_store)
