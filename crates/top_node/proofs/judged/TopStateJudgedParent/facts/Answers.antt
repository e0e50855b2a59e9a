use Rattle.std.proofs.Common.{refl}
use Rattle.top_node.specs.TreeModel.State.Directory.{request_kinds}
use Rattle.top_node.specs.TreeModel.State.Leaf.{words_of_item}
use Rattle.top_node.proofs.judged.TopStateJudgedParent.facts.Goals as goal

pub returns : goal.returns
unfolding request_kinds words_of_item
returns g c = rw (← c.self.view_is, c.hold.ensures, c.note.ensures, c.answering.ensures, c.down_facts.ensures, c.none.ensures) refl
