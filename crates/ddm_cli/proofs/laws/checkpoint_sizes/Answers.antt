use Rattle.ddm_cli.proofs.CheckpointSizes.{grow-by_operations}
use Rattle.ddm_cli.proofs.laws.checkpoint_sizes.Goals as goal

pub returns : goal.returns
returns c = grow-by_operations
