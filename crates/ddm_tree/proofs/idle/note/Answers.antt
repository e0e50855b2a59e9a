use Rattle.std.proofs.Common.{◌≡◌, sym, ap, ◌∙◌}
use Rattle.ddm_tree.specs.TreeModel.Turns.Machine.{named_by}
use Rattle.ddm_tree.specs.TreeModel.Turns.Tree.{leaf_of_number, bus_of_number}
use Rattle.ddm_tree.specs.Named.{name_of}
use Rattle.ddm_tree.proofs.Resting.{noted-looked, noted-told}
use Rattle.ddm_tree.proofs.idle.note.Goals as goal

pub returns-in-Bus-clause-noted : goal.returns-in-Bus-clause-noted
returns-in-Bus-clause-noted g c = λ d.
    let named : named_by c.args.turn.now ≡ bus_of_number c.bus.inside.0 = sym c.named.ensures ∙ ap name_of c.in-Bus.is ∙ ap bus_of_number (sym c.bus.view_is) in
    c.look_on.ensures.noted d c.args.turn.now c.in-Granted.entry named c.in-Granted.is c.answered_by.ensures

pub returns-in-Some-clause-noted : goal.returns-in-Some-clause-noted
returns-in-Some-clause-noted g c = λ d. rw (c.keep_idle.ensures.put) (noted-told c.args.answer.now _ _ _ _ c.args.idle.now c.args.turn.now c.in-Some.known (sym c.idle_told.ensures ∙ c.in-Some.is))

pub returns-in-Leaf-clause-noted : goal.returns-in-Leaf-clause-noted
returns-in-Leaf-clause-noted g c = λ d.
    let named : named_by c.args.turn.now ≡ leaf_of_number c.leaf.inside.0 = sym c.named-in-Issued.ensures ∙ ap name_of c.in-Leaf.is ∙ ap leaf_of_number (sym c.leaf.view_is) in
    noted-looked c.args.answer.now _ _ _ _ c.args.idle.now c.args.turn.now c.leaf.inside.0 named c.look.new.idle (c.look.ensures.looked d)
