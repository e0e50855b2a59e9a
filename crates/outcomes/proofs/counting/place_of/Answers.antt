use Rattle.std.proofs.Common.{◌∙◌, sym, arith}
use Rattle.outcome_model.specs.Table.{is_outcome}
use Rattle.outcomes.proofs.Lines.{found-here, found-later, found-none}
use Rattle.outcomes.proofs.counting.place_of.Goals as goal

pub loop-place-init : goal.loop-place-init
loop-place-init c = omega arith

pub returns-then-is : goal.returns-then-is
returns-then-is c =
    let here = found-here (is_outcome c.args.text.now) c.loop-place.place c.args.lines.now c.index-lines-place.result c.loop-place-test.true c.index-lines-place.is (sym c.is.ensures ∙ c.if-is.true) in
    omega (arith, c.loop-place.invariant, here)

pub loop-place-preserved : goal.loop-place-preserved
loop-place-preserved c =
    let later = found-later (is_outcome c.args.text.now) c.loop-place.place c.args.lines.now c.index-lines-place.result c.loop-place-test.true c.index-lines-place.is (sym c.is.ensures ∙ c.if-is.false) in
    omega (arith, c.loop-place.invariant, later)

pub returns : goal.returns
returns c =
    let none = found-none (is_outcome c.args.text.now) c.loop-place.place c.args.lines.now c.loop-place-test.false in
    omega (arith, c.loop-place.invariant, none, c.loop-place-test.false)
