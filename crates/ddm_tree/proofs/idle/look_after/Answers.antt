use Rattle.ddm_tree.proofs.Resting.{after-looked}
use Rattle.ddm_tree.proofs.idle.look_after.Goals as goal

pub returns-then-may_change-clause-looked : goal.returns-then-may_change-clause-looked
returns-then-may_change-clause-looked g c = λ d. after-looked _ _ c.args.answered c.args.leaf c.args.idle.now c.look.new.idle (c.look.ensures.looked d)
