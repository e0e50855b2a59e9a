-- Single instructions at chosen operands.
use Rattle.std.proofs.Common.{refl}
use Rattle.flat_model.specs.Computing.{flat_computes}
use Rattle.flat_model.specs.Examples.{Results, Jumps, BytesAndHalves, OtherWords, AtomicOperations, AmoOverAddress}

pub results : Results
unfolding flat_computes
results = ((refl, refl, refl), (refl, refl, refl), (refl, refl, refl), (refl, refl, refl), (refl, refl, refl), (refl, refl, refl), (refl, refl, refl), (refl, refl, refl), (refl, refl, refl), (refl, refl, refl), (refl, refl, refl), (refl, refl, refl), (refl, refl, refl), (refl, refl, refl), (refl, refl, refl), (refl, refl, refl), (refl, refl, refl), (refl, refl, refl), (refl, refl, refl))

pub jumps : Jumps
unfolding flat_computes
jumps = ((refl, refl, refl), (refl, refl, refl), (refl, refl, refl), (refl, refl, refl), (refl, refl, refl), (refl, refl, refl))

pub bytes_and_halves : BytesAndHalves
unfolding flat_computes
bytes_and_halves = ((refl, refl), (refl, refl), (refl, refl), (refl, refl), (refl, refl), (refl, refl), (refl, refl), (refl, refl), (refl, refl), (refl, refl), (refl, refl), (refl, refl), (refl, refl), (refl, refl), (refl, refl), (refl, refl), (refl, refl), (refl, refl))

pub other_words : OtherWords
unfolding flat_computes
other_words = (refl, refl, refl, refl, refl)

pub atomic_operations : AtomicOperations
unfolding flat_computes
atomic_operations = ((refl, refl), (refl, refl), (refl, refl), (refl, refl), (refl, refl), (refl, refl), (refl, refl), (refl, refl), (refl, refl), (refl, refl), (refl, refl), (refl, refl), (refl, refl))

pub amo_over_address : AmoOverAddress
unfolding flat_computes
amo_over_address = refl

-- What single instructions show.
pub ruleset instruction_tables = (results, jumps, bytes_and_halves, other_words, atomic_operations, amo_over_address)
