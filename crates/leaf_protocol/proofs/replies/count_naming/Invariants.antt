use Rattle.std.proofs.Common.{◌≡◌, take}
use Rattle.tx_queue.specs.QueueList.{count_naming}
use Rattle.leaf_protocol.specs.Leaf.{copied_item}
use Rattle.leaf_protocol.proofs.replies.count_naming.Given as goal

abbrev pub invariant-loop-reply : goal.invariant-loop-reply
invariant-loop-reply g l = l.count ≡ count_naming copied_item l.fn.item (take l.reply-index l.fn.replies)
