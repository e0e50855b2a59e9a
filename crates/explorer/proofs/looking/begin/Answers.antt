use Rattle.explorer.proofs.TurnsLooked.{begun-searched}
use Rattle.explorer.proofs.looking.begin.Goals as goal

pub returns-clause-begun : goal.returns-clause-begun
returns-clause-begun g c = begun-searched (g.M.States.start c.args.states.now) c.add.new.self _ _ _ c.new.ensures c.new-2.ensures.items c.new-3.ensures.items
