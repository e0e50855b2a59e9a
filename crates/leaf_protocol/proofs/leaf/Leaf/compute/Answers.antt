use Rattle.std.proofs.Common.{[], false}
use Rattle.leaf_protocol.proofs.FlatModel.Steps.{finish_plain}
use Rattle.leaf_protocol.proofs.Deeds.{change-plain, completes-done}
use Rattle.leaf_protocol.proofs.leaf.Leaf.compute.Goals as goal

pub returns : goal.returns
returns g c =
    let same = finish_plain c.args.code.now c.args.items.now c.args.self.now.hart _ [] false c.requires.plain in
    completes-done c.args.code.now c.args.items.now c.args.self.now c.args.now _ _ _ c.finish.new.answer c.finish.new.self (change-plain c.args.code.now c.args.items.now c.args.self.now c.requires.ready c.requires.plain) same.0 same.1 c.finish.ensures.answer c.finish.ensures.after
