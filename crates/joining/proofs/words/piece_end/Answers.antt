use Rattle.std.proofs.Common.{sym, refl, eq-eqb}
use Rattle.joining.proofs.Cuts.{cut-here, first-piece, last-piece}
use Rattle.joining.proofs.words.piece_end.Goals as goal

pub returns-in-Some-clause-more : goal.returns-in-Some-clause-more
returns-in-Some-clause-more c inside = first-piece c.args.separator c.args.text.now c.in-Some.place (eq-eqb c.args.separator c.args.separator refl) (sym c.in-Some.ensures)

pub returns-in-Some-clause-here : goal.returns-in-Some-clause-here
returns-in-Some-clause-here c inside = cut-here c.args.separator c.args.text.now c.in-Some.place (sym c.in-Some.ensures)

pub returns-in-None-clause-last : goal.returns-in-None-clause-last
returns-in-None-clause-last c whole = last-piece c.args.separator c.args.text.now (sym c.in-None.ensures)
