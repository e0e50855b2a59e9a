use Rattle.serving_model.proofs.Harts.{run-keeps_leaves}
use Rattle.serving_model.proofs.laws.grants_keep_harts.Goals as goal

pub returns : goal.returns
returns c = run-keeps_leaves
