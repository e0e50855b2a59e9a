use Rattle.std.proofs.Common.{sym, ◌∙◌}
use Rattle.leaf_protocol.proofs.Fits.{are-below}
use Rattle.leaf_protocol.proofs.Changing.{entry-both}
use Rattle.leaf_protocol.proofs.Standing.{standing-none, standing-some}
use Rattle.leaf_protocol.proofs.entries.Entries.standing.Goals as goal

pub returns-in_err-item : goal.returns-in_err-item
returns-in_err-item g c =
    let inside = rw (← c.self.view_is) at c.requires.set in
    rw (← c.self.view_is, c.from_residual.ensures) (sym (standing-none c.self.inside.items c.self.inside.memory (are-below c.self.invariant) c.args.set c.args.way inside c.at.result c.at.ensures c.in_err-item.was))

pub returns : goal.returns
returns g c =
    let inside = rw (← c.self.view_is) at c.requires.set in
    let there = entry-both _ c.unwrap-way.result c.unwrap-words.result (sym c.unwrap-way.ensures ∙ c.find.ensures.value) (sym c.unwrap-words.ensures ∙ c.words.ensures) in
    rw (← c.self.view_is) (sym (standing-some c.self.inside.items c.self.inside.memory (are-below c.self.invariant) c.args.set c.args.way inside c.in_ok-item.item _ (rw c.in_ok-item.was at c.at.ensures) there))
