use Rattle.std.proofs.Common.{rules, refl, ◌≡◌, None}
use Rattle.leaf_protocol.proofs.Told.{no-spot, no-entry-spot}
use Rattle.leaf_protocol.proofs.leaf.Leaf.entry.Goals as goal

pub returns-in_err-state-clause-spot : goal.returns-in_err-state-clause-spot
returns-in_err-state-clause-spot g c =
    let none : c.from_residual.result ≡ None = search rules in
    rw (none, ← c.self.view_is, no-spot c.args.item c.self.inside.entries.ways c.self.inside.entries.buffer c.in_err-state.ensures) refl

pub returns-in_err-spot-clause-entry : goal.returns-in_err-spot-clause-entry
returns-in_err-spot-clause-entry g c =
    let none : c.from_residual-in_err-spot.result ≡ None = search rules in
    rw (none, ← c.self.view_is, no-entry-spot c.args.item c.self.inside.entries.ways c.self.inside.entries.buffer c.in_err-spot.ensures) refl
