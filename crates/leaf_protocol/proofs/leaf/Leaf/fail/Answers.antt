use Rattle.std.proofs.Common.{ap, ◌∙◌, None}
use Rattle.leaf_protocol.specs.TreeModel.State.Values.{LeafValue}
use Rattle.leaf_protocol.specs.TreeModel.Turns.HartTurn.{words_here}
use Rattle.leaf_protocol.proofs.FlatModel.Steps.{finish_failing}
use Rattle.leaf_protocol.proofs.Deeds.{change-fail, completes-done}
use Rattle.leaf_protocol.proofs.leaf.Leaf.fail.Goals as goal

pub returns : goal.returns
returns g c =
    let same = finish_failing c.args.code.now c.args.items.now c.args.self.now.hart c.args.item c.requires.asks _ (words_here c.args.self.now c.args.item) in
    completes-done c.args.code.now c.args.items.now c.args.self.now c.args.now _ _ _ c.finish.new.answer _ (change-fail c.args.code.now c.args.items.now c.args.self.now c.args.item c.requires.asks c.requires.unreserved) same.0 same.1 c.finish.ensures.answer (rw c.clear.ensures (ap (λ (u : LeafValue). record u { reservation = None }) (c.self.view_is ∙ c.finish.ensures.after)))
