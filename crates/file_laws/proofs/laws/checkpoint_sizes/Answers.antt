use Rattle.file_laws.proofs.CheckpointSizes.{checkpoints-bounded}
use Rattle.file_laws.proofs.laws.checkpoint_sizes.Goals as goal

pub returns : goal.returns
returns c = checkpoints-bounded
