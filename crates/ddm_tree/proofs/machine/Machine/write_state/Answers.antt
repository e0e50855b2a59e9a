use Rattle.ddm_tree.specs.DdmText.Adds.{◌▸◌}
use Rattle.ddm_tree.specs.StateWords.Machine.{state_words}
use Rattle.ddm_tree.proofs.machine.Machine.write_state.Goals as goal

pub returns-clause-ok : goal.returns-clause-ok
unfolding state_words
returns-clause-ok g c =
    c.in_ok-write_tree.ensures.ok ▸ (rw c.ops.ensures at c.in_ok-push_ops.ensures.ok) ▸ c.in_ok-push_words.ensures.ok
