use Rattle.ddm_tree.proofs.Resting.{looked-put}
use Rattle.ddm_tree.proofs.idle.look.Goals as goal

pub returns-clause-looked : goal.returns-clause-looked
returns-clause-looked g c = λ d. rw (c.put_idle.ensures.put) (looked-put _ _ c.args.leaf c.rest_of.result c.args.idle.now (c.rest_of.ensures d))
