use Rattle.std.proofs.Common.{◌∙◌, sym}
use Rattle.tx_queue.proofs.Steps.{none_requested}
use Rattle.tx_queue.proofs.requests.Queue+tuple2+TxKind+ItemId.has_request.Goals as goal

pub returns-then-not-holds_item : goal.returns-then-not-holds_item
returns-then-not-holds_item c =
    sym (none_requested c.args.kind c.args.item c.args.self.now.list (sym c.holds_item.ensures ∙ c.if-not-holds_item.true))
