use Rattle.serving_model.proofs.Instruction.{walked}
use Rattle.serving_model.proofs.laws.walks_bring_the_item.Goals as goal

pub returns : goal.returns
returns c = walked
