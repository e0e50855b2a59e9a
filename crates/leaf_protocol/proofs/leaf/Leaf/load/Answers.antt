use Rattle.std.proofs.Common.{refl, ap, ◌∙◌, ◌<◌, length, Some, arith}
use Rattle.leaf_protocol.specs.FlatModel.Flat.{asked_item}
use Rattle.leaf_protocol.proofs.FlatModel.Items.{asks_inside}
use Rattle.leaf_protocol.specs.TreeModel.State.Values.{LeafValue}
use Rattle.leaf_protocol.proofs.Deeds.{load-done}
use Rattle.leaf_protocol.proofs.Told.{parts-reserved}
use Rattle.leaf_protocol.proofs.leaf.Leaf.load.Goals as goal

pub invariant_of-self : goal.invariant_of-self
invariant_of-self g c =
    let asked = asks_inside c.args.code.now c.args.items.now c.args.self.now.hart c.args.item (ap asked_item c.requires.asks) in
    let inside : c.args.item < length c.args.self.now.ways = rw (← c.requires.can.items) asked in
    let same = ap (λ (u : LeafValue). length u.ways) (c.self.view_is ∙ c.finish.ensures.after) in
    rw c.set.ensures (parts-reserved c.args.item c.self.invariant (omega (arith, inside, same, c.self.invariant.items)))

pub returns-then-lr : goal.returns-then-lr
returns-then-lr g c = load-done c.args.code.now c.args.items.now c.args.self.now c.args.now c.args.item c.args.lr c.args.words (Some c.args.item) c.finish.new.answer _ c.requires.asks c.requires.here (rw c.if-lr.true refl) c.finish.ensures.answer (rw c.set.ensures (ap (λ (u : LeafValue). record u { reservation = Some c.args.item }) (c.self.view_is ∙ c.finish.ensures.after)))

pub returns-else-lr : goal.returns-else-lr
returns-else-lr g c = load-done c.args.code.now c.args.items.now c.args.self.now c.args.now c.args.item c.args.lr c.args.words c.args.self.now.reservation c.finish.new.answer _ c.requires.asks c.requires.here (rw c.if-lr.false refl) c.finish.ensures.answer c.finish.ensures.after
