use Rattle.std.proofs.Common.{◌∙◌}
use Rattle.leaf_protocol.proofs.Putting.{is-taken}
use Rattle.leaf_protocol.proofs.entries.Entries.is_taken.Goals as goal

pub returns : goal.returns
returns g c = rw (← c.self.view_is) (c.is_some.ensures ∙ is-taken c.self.invariant c.args.item c.args.way c.beside.result c.beside.ensures)
