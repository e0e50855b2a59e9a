use Rattle.serving_model.proofs.Listed.{listed}
use Rattle.serving_model.proofs.laws.lists_are_served.Goals as goal

pub returns : goal.returns
returns c = λ m f last ops line made shows harts run. listed ops m f last line made shows harts run
