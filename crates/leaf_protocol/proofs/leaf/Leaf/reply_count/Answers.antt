use Rattle.std.proofs.Common.{length, ap, ◌∙◌}
use Rattle.leaf_protocol.specs.TreeModel.State.Leaf.{words_of_item}
use Rattle.bus_judging.proofs.Copies.{copies-counted}
use Rattle.leaf_protocol.specs.Leaf.{copy_value}
use Rattle.leaf_protocol.proofs.leaf.Leaf.reply_count.Goals as goal

pub returns : goal.returns
returns g c = c.naming.ensures ∙ copies-counted copy_value c.args.item c.self.inside.replies.list ∙ ap (λ v. length (words_of_item c.args.item v.replies)) c.self.view_is
