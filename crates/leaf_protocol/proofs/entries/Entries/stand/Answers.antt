use Rattle.std.proofs.Common.{rules, refl}
use Rattle.leaf_protocol.specs.TreeModel.State.Leaf.{enters, words_in}
use Rattle.leaf_protocol.proofs.Fits.{are-below}
use Rattle.leaf_protocol.proofs.Ways.{none-free, ways_of-length}
use Rattle.leaf_protocol.proofs.Changing.{entry_none, enter-ways, fate-is}
use Rattle.leaf_protocol.proofs.Putting.{stand-kept}
use Rattle.leaf_protocol.proofs.entries.Entries.stand.Goals as goal

pub place_at-requires : goal.place_at-requires
place_at-requires g c =
    (search rules, (search (rules, c.self.invariant.words_fit), (entry_none c.self.invariant c.args.item (rw (← c.self.view_is) at c.requires.absent), (c.requires.exists, none-free c.self.inside.items c.self.inside.memory (are-below c.self.invariant) c.args.item c.args.way (rw (← c.self.view_is) at c.requires.free)))))

pub invariant_of-self : goal.invariant_of-self
invariant_of-self g c =
    let inside = rw (← c.self.view_is, ways_of-length c.self.inside.items c.self.inside.memory) at c.requires.inside in
    rw (c.place_at.ensures, c.waiting_after-self-inside.ensures, c.waits.ensures, c.words_in.ensures) (stand-kept c.self.invariant c.args.item c.args.state c.args.words (rw (← c.self.view_is) at c.requires.absent) inside (rw (← c.self.view_is) at c.requires.alone) c.args.way)

pub returns : goal.returns
returns g c =
    let inside = rw (← c.self.view_is, ways_of-length c.self.inside.items c.self.inside.memory) at c.requires.inside in
    let suiting = words_in c.args.state g.row.WORDS c.args.words in
    let ways = enter-ways c.self.invariant c.args.item (rw (← c.self.view_is) at c.requires.absent) inside c.args.way c.args.state suiting in
    rw (← c.self.view_is, c.place_at.ensures, c.words_in.ensures) (fate-is c.args.item (enters c.args.way c.args.state suiting) c.self.inside.memory.sets c.self.inside.memory.sets c.self.inside.buffer.capacity _ _ _ _ refl ways refl)
