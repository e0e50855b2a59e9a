use Rattle.checkpoint.specs.DdmText.Adds.{◌▸◌}
use Rattle.checkpoint.specs.StateWords.Machine.{head_words}
use Rattle.checkpoint.proofs.front.push_head.Goals as goal

pub returns : goal.returns
unfolding head_words
returns c = c.in_ok-push_words.ensures.ok ▸ c.in_ok-push_words-2.ensures.ok ▸ c.in_ok-push_words-3.ensures.ok
