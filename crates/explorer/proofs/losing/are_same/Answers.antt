use Rattle.std.proofs.Common.{sym, ◌∙◌}
use Rattle.explorer.proofs.Lefts.{same-flags}
use Rattle.explorer.proofs.losing.are_same.Goals as goal

pub returns : goal.returns
returns c same = same-flags c.args.stay.now c.args.left.now (sym c.eq.ensures ∙ same)
