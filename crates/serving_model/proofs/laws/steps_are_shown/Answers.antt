use Rattle.serving_model.proofs.Shown.{shown}
use Rattle.serving_model.proofs.laws.steps_are_shown.Goals as goal

pub returns : goal.returns
returns c m f h g change s own step = shown m f h g s own change step
