use Rattle.elf_load.proofs.ReadBack.{loads_back}
use Rattle.elf_load.proofs.round_trip.written_loads_back.Goals as goal

pub returns : goal.returns
returns c = record { loads_back = loads_back }
