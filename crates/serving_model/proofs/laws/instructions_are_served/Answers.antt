use Rattle.serving_model.proofs.Served.{served}
use Rattle.serving_model.proofs.laws.instructions_are_served.Goals as goal

pub returns : goal.returns
returns c = λ m flat h g change shaped ok rests room have may own step op hart pc effect. served m flat h g change shaped ok rests room have may own step op hart pc effect
