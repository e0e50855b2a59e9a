use Rattle.ddm_outside.proofs.Files.{faults_zero}
use Rattle.ddm_outside.proofs.memory_shelf.MemoryShelf.new.Goals as goal

pub returns-clause-sound : goal.returns-clause-sound
returns-clause-sound c = λ name. faults_zero c.args.files.items name c.requires
