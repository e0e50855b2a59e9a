use Rattle.serving_model.proofs.Lose.{lose}
use Rattle.serving_model.proofs.laws.parts_lose.Goals as goal

pub returns : goal.returns
returns c = λ n flat x within m w s ends calm. lose n flat x within ends m w s calm
