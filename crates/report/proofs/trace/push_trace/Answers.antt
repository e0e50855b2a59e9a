use Rattle.std.proofs.Common.{◌<◌, ◌+◌, ◌++◌, length, sym, ap, ◌∙◌, arith}
use Rattle.std.proofs.lemmas.List.{append-nil}
use Rattle.report.specs.DdmText.Adds.{alone}
use Rattle.text_model.specs.Trace.{trace_from, trace_line}
use Rattle.report.proofs.TraceParts.{trace-next}
use Rattle.report.proofs.trace.push_trace.Goals as goal

pub loop-at-init : goal.loop-at-init
unfolding trace_from
loop-at-init c = sym (append-nil c.args.text.now.items)

pub loop-at-preserved : goal.loop-at-preserved
loop-at-preserved c =
    let old = c.args.text.now.items in
    let now = c.loop-at.text.items in
    let inside : c.loop-at.at < length c.args.turns.now = omega (arith, c.loop-at-test.true) in
    let line = c.as_slice.ensures ∙ alone c.in-Ok.ensures.text c.clear.ensures in
    let number = ap (λ n. now ++ trace_line (n + c.loop-at.at) c.index-turns-at.result c.index-answers-at.result) c.from.ensures in
    trace-next old now _ c.args.first c.loop-at.at c.args.turns.now c.args.answers.now c.index-turns-at.result c.index-answers-at.result inside (omega (arith, inside, c.requires)) c.index-turns-at.is c.index-answers-at.is c.loop-at.invariant (c.in_ok-extend_from_slice.ensures.items ∙ ap (λ t. now ++ t) line ∙ number)
