use Rattle.seed_draws.proofs.Draws.{skewed-next}
use Rattle.seed_draws.proofs.drawing.lets_by.Goals as goal

pub returns-in-Skewed-clause-draws : goal.returns-in-Skewed-clause-draws
returns-in-Skewed-clause-draws c = λ later. skewed-next c.args.kind c.args.skewing.now c.lets_by.new.self c.args.turn.now c.lets_by.result later c.in-Skewed.is c.lets_by.ensures.rates c.lets_by.ensures.by
