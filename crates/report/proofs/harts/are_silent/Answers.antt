use Rattle.std.proofs.Common.{◌<◌, true, false, length, sym, ◌∙◌, arith}
use Rattle.report.proofs.Lines.{silent-from}
use Rattle.report.proofs.harts.are_silent.Goals as goal

pub returns-then-is_put : goal.returns-then-is_put
returns-then-is_put c =
    let inside : c.loop-place.place < length c.args.ops.now.items = omega (arith, c.loop-place-test.true, c.len-place-end.ensures) in
    sym (silent-from c.loop-place.place c.args.ops.now.items c.get-op.result true inside (c.get-op.ensures _) (sym c.is_put.ensures ∙ c.if-is_put.true)) ∙ c.loop-place.invariant

pub loop-place-preserved : goal.loop-place-preserved
loop-place-preserved c =
    let inside : c.loop-place.place < length c.args.ops.now.items = omega (arith, c.loop-place-test.true, c.len-place-end.ensures) in
    sym (silent-from c.loop-place.place c.args.ops.now.items c.get-op.result false inside (c.get-op.ensures _) (sym c.is_put.ensures ∙ c.if-is_put.false)) ∙ c.loop-place.invariant
