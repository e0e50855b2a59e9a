use Rattle.std.proofs.Common.{◌++◌, ◌∷◌, [], ◌∙◌, sym, arith}
use Rattle.std.proofs.lemmas.List.{take_more}
use Rattle.machine_tests.proofs.with_report.listed.Goals as goal

pub loop-place-preserved : goal.loop-place-preserved
loop-place-preserved c =
    let op = c.get.result in
    let place = c.loop-place.place in
    let more = take_more c.args.ops.now.items place op (omega (arith, c.len-place-end.ensures.length, c.loop-place.auto.place-end, c.loop-place-test.true)) in
    c.in_ok-push.ensures.items ∙ (λ k. c.loop-place.invariant k ++ c.get.ensures op k ∷ []) ∙ sym more
