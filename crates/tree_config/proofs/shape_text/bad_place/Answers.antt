use Rattle.std.proofs.Common.{◌≡◌, ◌∙◌, length, sym, arith}
use Rattle.tree_config.proofs.Scans.{is_whole-not, place_from-ends, place_from-goes_on, place_from-stops}
use Rattle.tree_config.proofs.shape_text.bad_place.Goals as goal

pub returns-in-None-clause-place : goal.returns-in-None-clause-place
returns-in-None-clause-place c = sym (c.reading.invariant.0 ∙ place_from-stops c.reading.progress c.reading.at c.args.text.now c.reading-test.true (sym c.in-None.ensures.progress))

pub reading-preserved : goal.reading-preserved
reading-preserved c = (
  c.reading.invariant.0 ∙ place_from-goes_on c.reading.progress c.reading.at c.args.text.now c.in-Some.next c.reading-test.true (sym c.in-Some.ensures.progress),
  omega (arith, c.reading.invariant.1, c.in-Some.ensures.open),
)

pub returns-in-Whole-clause-place : goal.returns-in-Whole-clause-place
returns-in-Whole-clause-place c = sym (c.reading.invariant.0 ∙ place_from-ends c.reading.progress c.reading.at c.args.text.now c.reading-test.false ∙ rw c.in-Whole.is)

pub returns-in_default-clause-place : goal.returns-in_default-clause-place
returns-in_default-clause-place c =
    let at : c.reading.at ≡ length c.args.text.now = omega (arith, c.reading.auto.at-end, c.reading-test.false) in
    sym (c.reading.invariant.0 ∙ place_from-ends c.reading.progress c.reading.at c.args.text.now c.reading-test.false ∙ rw (is_whole-not c.reading.progress c.in_default.not-Whole, at))
