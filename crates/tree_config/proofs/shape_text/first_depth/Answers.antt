use Rattle.std.proofs.Common.{◌∙◌, sym, ap, arith}
use Rattle.std.specs.Prelude.{slice_index}
use Rattle.std.proofs.lemmas.Bool.Decides.{nat_tests}
use Rattle.tree_config.proofs.Scans.{depths_in-ends, depths_in-leaf, depths_in-other}
use Rattle.tree_config.proofs.shape_text.first_depth.Goals as goal

pub returns-then-byte-eq76 : goal.returns-then-byte-eq76
returns-then-byte-eq76 c = sym (c.reading.invariant.0 ∙ ap (λ ds. slice_index ds 0) (depths_in-leaf c.reading.depth c.reading.byte-index c.args.text.now c.reading-test.true (grind (arith, nat_tests, c.if-byte-eq76.true))))

pub reading-preserved : goal.reading-preserved
reading-preserved c = (
  rw c.depth_behind-depth.ensures.depth (c.reading.invariant.0 ∙ ap (λ ds. slice_index ds 0) (depths_in-other c.reading.depth c.reading.byte-index c.args.text.now c.reading-test.true (grind (arith, nat_tests, c.if-byte-eq76.false)))),
  omega (arith, c.reading.invariant.1, c.depth_behind-depth.ensures.small),
)

pub returns : goal.returns
returns c = sym (c.reading.invariant.0 ∙ ap (λ ds. slice_index ds 0) (depths_in-ends c.reading.depth c.reading.byte-index c.args.text.now c.reading-test.false))
