use Rattle.std.proofs.Common.{◌<◌, ◌+◌, ◌++◌, drop, length, sym, ap, ◌∙◌, arith}
use Rattle.report.specs.DdmText.Adds.{alone}
use Rattle.text_model.specs.Trace.{trace_from}
use Rattle.report.proofs.TraceParts.{line-some, trace-more, trace-none}
use Rattle.report.proofs.trace_pieces.TracePiecesParts.put_next.Goals as goal

pub returns-then-self-clause-end : goal.returns-then-self-clause-end
returns-then-self-clause-end c = λ none. sym c.self.view_is ∙ trace-none c.self.inside.turns.now _ c.self.inside.given (omega (arith, c.if-self.true))

pub returns-clause-part : goal.returns-clause-part
returns-clause-part c =
    let turns = c.self.inside.turns.now in
    let answers = c.self.inside.answers.now in
    let k = c.self.inside.given in
    let inside : k < length turns = omega (arith, c.self.invariant.within, c.if-self.false) in
    let rest = trace_from (k + 1) (drop (k + 1) turns) (drop (k + 1) answers) in
    sym c.self.view_is
    ∙ trace-more turns answers k c.index-self-self.result c.index-self-self-2.result inside (omega (arith, inside, c.self.invariant.same))
    ∙ ap (λ l. l ++ rest) (sym (alone c.in-Ok.ensures.text c.requires))

pub returns-clause-end : goal.returns-clause-end
returns-clause-end c = λ none. absurd (line-some _ _ _ (sym (alone c.in-Ok.ensures.text c.requires) ∙ none))
