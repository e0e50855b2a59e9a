use Rattle.std.proofs.Common.{refl, sym, ap, ◌∙◌, None}
use Rattle.leaf_protocol.specs.DdmTypes.declared.sizes.LeafState.TheVariants.{Exclusive}
use Rattle.leaf_protocol.specs.FlatModel.Hart.{finish_of}
use Rattle.leaf_protocol.specs.TreeModel.State.Values.{LeafValue}
use Rattle.leaf_protocol.specs.TreeModel.State.Leaf.{becomes, ways_after, buffer_after}
use Rattle.leaf_protocol.proofs.Deeds.{store-done}
use Rattle.leaf_protocol.proofs.Told.{words-here}
use Rattle.leaf_protocol.proofs.leaf.Leaf.store.Goals as goal

pub returns-then-conditional : goal.returns-then-conditional
returns-then-conditional g c =
    store-done c.args.code.now c.args.items.now c.args.self.now c.args.now c.args.item c.args.conditional c.words_at-words.result None c.finish.new.answer _ c.requires.asks c.requires.reserved (rw (← c.self.view_is) (sym (words-here _ c.words_at-words.result c.words_at-words.ensures))) (rw c.if-conditional.true refl) c.finish.ensures.answer (rw (c.clear.ensures, c.set_at.ensures, c.finish.ensures.words) (ap (λ (u : LeafValue). record u { ways = ways_after c.args.item (becomes Exclusive (finish_of c.args.code.now c.args.items.now c.args.self.now.hart c.words_at-words.result c.args.conditional).words) u.ways; buffer = buffer_after c.args.item (becomes Exclusive (finish_of c.args.code.now c.args.items.now c.args.self.now.hart c.words_at-words.result c.args.conditional).words) u.ways u.buffer; reservation = None }) (c.self-2.view_is ∙ c.finish.ensures.after)))

pub returns-else-conditional : goal.returns-else-conditional
returns-else-conditional g c =
    store-done c.args.code.now c.args.items.now c.args.self.now c.args.now c.args.item c.args.conditional c.words_at-words.result c.args.self.now.reservation c.finish.new.answer _ c.requires.asks c.requires.reserved (rw (← c.self.view_is) (sym (words-here _ c.words_at-words.result c.words_at-words.ensures))) (rw c.if-conditional.false refl) c.finish.ensures.answer (rw (c.set_at.ensures, c.finish.ensures.words) (ap (λ (u : LeafValue). record u { ways = ways_after c.args.item (becomes Exclusive (finish_of c.args.code.now c.args.items.now c.args.self.now.hart c.words_at-words.result c.args.conditional).words) u.ways; buffer = buffer_after c.args.item (becomes Exclusive (finish_of c.args.code.now c.args.items.now c.args.self.now.hart c.words_at-words.result c.args.conditional).words) u.ways u.buffer }) (c.self-2.view_is ∙ c.finish.ensures.after)))
