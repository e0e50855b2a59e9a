use Rattle.std.proofs.Common.{◌∙◌, ap, sym}
use Rattle.replacement.proofs.First.{first_removed, none_removed}
use Rattle.replacement.proofs.Placed.{arrived}
use Rattle.replacement.proofs.arrivals.Arrivals.take_out.Goals as goal

pub returns-in-Some-clause-rest : goal.returns-in-Some-clause-rest
returns-in-Some-clause-rest g c =
    c.remove.ensures ∙ ap (λ l. arrived l c.args.self.now.capacity) (first_removed g.T.Named.named c.args.item c.in-Some.index c.args.self.now.list c.requires (sym c.in-Some.ensures.index))

pub returns-in-None-clause-rest : goal.returns-in-None-clause-rest
returns-in-None-clause-rest g c =
    ap (λ l. arrived l c.args.self.now.capacity) (sym (none_removed g.T.Named.named c.args.item c.args.self.now.list (sym c.in-None.ensures.index)))
