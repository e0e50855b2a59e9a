use Rattle.std.proofs.Common.{rules, refl, ap}
use Rattle.leaf_protocol.specs.FlatModel.Flat.{asked_item}
use Rattle.leaf_protocol.proofs.FlatModel.Items.{asks_inside}
use Rattle.leaf_protocol.proofs.Deeds.{absent-words}
use Rattle.leaf_protocol.proofs.leaf.Leaf.read.Goals as goal

pub fetch-requires : goal.fetch-requires
fetch-requires g c =
    let inside = asks_inside c.args.code.now c.args.items.now c.args.self.now.hart c.args.item (ap asked_item c.requires.asks) in
    (search rules, (rw (← c.requires.can.items) inside, (absent-words c.args.code.now c.args.items.now c.args.victim c.args.self.now c.args.item (rw (← c.self.view_is) c.in-None.ensures), (refl, c.requires.can.alone))))

pub returns-in-None : goal.returns-in-None
returns-in-None g c = rw (absent-words c.args.code.now c.args.items.now c.args.victim c.args.self.now c.args.item (rw (← c.self.view_is) c.in-None.ensures)) (c.fetch.ensures c.args.now)
