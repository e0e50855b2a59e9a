use Rattle.std.proofs.Common.{rules, refl, sym, ◌∙◌}
use Rattle.leaf_protocol.specs.TreeModel.State.Leaf.{ends}
use Rattle.leaf_protocol.proofs.Changing.{end-ways, end-way-kept, end-way-buffer, end-buffer-kept, end-buffer-ways, fate-is}
use Rattle.leaf_protocol.proofs.Reading.{stands-at, stands-nowhere}
use Rattle.leaf_protocol.proofs.entries.Entries.end_at.Goals as goal

pub remove_at-requires : goal.remove_at-requires
remove_at-requires g c =
    let at = stands-at c.self.invariant c.args.item c.in-Some.place (sym c.in-Some.is ∙ rw (← c.self.view_is) at c.requires) in
    (search rules, at.0)

pub invariant_of-self : goal.invariant_of-self
invariant_of-self g c =
    let at = stands-at c.self.invariant c.args.item c.in-Some.place (sym c.in-Some.is ∙ rw (← c.self.view_is) at c.requires) in
    rw (c.remove_at.ensures, c.waiting_after-self-inside.ensures) (end-way-kept c.self.invariant c.args.item at.1.0 at.1.1)

pub returns-in-Some : goal.returns-in-Some
returns-in-Some g c =
    let at = stands-at c.self.invariant c.args.item c.in-Some.place (sym c.in-Some.is ∙ rw (← c.self.view_is) at c.requires) in
    rw (← c.self.view_is, c.remove_at.ensures) (fate-is c.args.item ends c.self.inside.memory.sets c.self.inside.memory.sets c.self.inside.buffer.capacity _ _ _ _ refl (end-ways c.self.invariant c.args.item) (end-way-buffer c.self.invariant c.args.item at.1.0 at.1.1))

pub invariant_of-self-2 : goal.invariant_of-self-2
invariant_of-self-2 g c =
    let none = stands-nowhere c.self.invariant c.args.item (sym c.in_default.is ∙ rw (← c.self.view_is) at c.requires) in
    rw (c.remove.ensures.rest, c.waiting_after-self-inside.ensures) (end-buffer-kept c.self.invariant c.args.item none)

pub returns : goal.returns
returns g c =
    let none = stands-nowhere c.self.invariant c.args.item (sym c.in_default.is ∙ rw (← c.self.view_is) at c.requires) in
    rw (← c.self.view_is, c.remove.ensures.rest) (fate-is c.args.item ends c.self.inside.memory.sets c.self.inside.memory.sets c.self.inside.buffer.capacity _ _ _ _ refl (end-buffer-ways c.self.invariant c.args.item none) refl)
