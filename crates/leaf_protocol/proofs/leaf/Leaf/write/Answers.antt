use Rattle.std.proofs.Common.{rules, refl, sym, ap, ◌∙◌, Some}
use Rattle.leaf_protocol.specs.FlatModel.Flat.{asked_item}
use Rattle.leaf_protocol.proofs.FlatModel.Items.{asks_inside}
use Rattle.leaf_protocol.proofs.Deeds.{absent-state, write-shared, write-asks}
use Rattle.leaf_protocol.proofs.leaf.Leaf.write.Goals as goal

pub fetch-requires : goal.fetch-requires
fetch-requires g c =
    let inside = asks_inside c.args.code.now c.args.items.now c.args.self.now.hart c.args.item (ap asked_item c.requires.asks ∙ write-asks c.args.conditional c.args.item) in
    (search rules, (rw (← c.requires.can.items) inside, (absent-state c.args.code.now c.args.items.now c.args.victim c.args.self.now c.args.item (rw (← c.self.view_is) c.in_default.ensures.state), (refl, c.requires.can.alone))))

pub returns-in_default : goal.returns-in_default
returns-in_default g c = rw (absent-state c.args.code.now c.args.items.now c.args.victim c.args.self.now c.args.item (rw (← c.self.view_is) c.in_default.ensures.state)) (c.fetch.ensures c.args.now)

pub returns-in-Shared : goal.returns-in-Shared
returns-in-Shared g c = rw (write-shared c.args.code.now c.args.items.now c.args.victim c.args.self.now c.args.item (ap Some (sym c.in-Shared.is) ∙ rw (← c.self.view_is) c.in-Some.ensures.state)) (c.upgrade.ensures c.args.now)

pub upgrade-requires : goal.upgrade-requires
upgrade-requires g c =
    let inside = asks_inside c.args.code.now c.args.items.now c.args.self.now.hart c.args.item (ap asked_item c.requires.asks ∙ write-asks c.args.conditional c.args.item) in
    (search rules, (rw (← c.requires.can.items) inside, (sym (ap Some (sym c.in-Shared.is) ∙ rw (← c.self.view_is) c.in-Some.ensures.state), (rw (← c.self.view_is) c.in-Some.ensures.place, c.requires.can.alone))))
