use Rattle.std.proofs.Common.{rules}
use Rattle.leaf_protocol.specs.DdmTypes.declared.sizes.LeafState.TheVariants.{Exclusive}
use Rattle.leaf_protocol.specs.TreeModel.State.Leaf.{enters_free}
use Rattle.leaf_protocol.specs.Entries.{ways_of, lowest_way}
use Rattle.leaf_protocol.proofs.Ways.{ways_of-length}
use Rattle.leaf_protocol.proofs.Changing.{entry_none, placed-kept, placed-sets, placed-way, placed-full, placed-ways, placed-buffer, fate-is}
use Rattle.leaf_protocol.proofs.entries.Entries.place.Goals as goal

pub place-requires : goal.place-requires
place-requires g c = (search rules, (search (rules, c.self.invariant.words_fit), entry_none c.self.invariant c.args.item (rw (← c.self.view_is) at c.requires.absent)))

pub invariant_of-self : goal.invariant_of-self
invariant_of-self g c =
    let inside = rw (← c.self.view_is, ways_of-length c.self.inside.items c.self.inside.memory) at c.requires.inside in
    placed-kept c.self.invariant c.args.item (rw (← c.self.view_is) at c.requires.absent) inside c.args.words c.place.result c.place.new.self c.place.ensures.placed c.place.ensures.same

pub returns-clause-way : goal.returns-clause-way
returns-clause-way g c =
    let inside = rw (← c.self.view_is, ways_of-length c.self.inside.items c.self.inside.memory) at c.requires.inside in
    rw (← c.self.view_is) (placed-way c.self.invariant c.args.item (rw (← c.self.view_is) at c.requires.absent) inside c.args.words c.place.result c.place.new.self c.place.ensures.placed c.place.ensures.same c.place.ensures.lowest)

pub returns-clause-full : goal.returns-clause-full
returns-clause-full g c =
    let inside = rw (← c.self.view_is, ways_of-length c.self.inside.items c.self.inside.memory) at c.requires.inside in
    rw (← c.self.view_is) (placed-full c.self.invariant c.args.item (rw (← c.self.view_is) at c.requires.absent) inside c.args.words c.place.result c.place.new.self c.place.ensures.placed c.place.ensures.same (λ e. e.0) c.place.ensures.full c.place.ensures.set)

pub returns-clause-after : goal.returns-clause-after
returns-clause-after g c =
    let inside = rw (← c.self.view_is, ways_of-length c.self.inside.items c.self.inside.memory) at c.requires.inside in
    rw (← c.self.view_is) (fate-is c.args.item (enters_free Exclusive c.args.words (lowest_way c.self.inside.memory.sets g.row.WAYS c.args.item (ways_of c.self.inside.items c.self.inside.memory))) c.self.inside.memory.sets _ c.self.inside.buffer.capacity (ways_of c.self.inside.items c.self.inside.memory) _ c.self.inside.buffer.list _ (placed-sets c.self.invariant c.args.item (rw (← c.self.view_is) at c.requires.absent) inside c.args.words c.place.result c.place.new.self c.place.ensures.placed c.place.ensures.same) (placed-ways c.self.invariant c.args.item (rw (← c.self.view_is) at c.requires.absent) inside c.args.words c.place.result c.place.new.self c.place.ensures.placed c.place.ensures.same c.place.ensures.lowest c.place.ensures.full) (placed-buffer c.self.invariant c.args.item (rw (← c.self.view_is) at c.requires.absent) inside c.args.words c.place.result c.place.new.self c.place.ensures.placed c.place.ensures.same))
