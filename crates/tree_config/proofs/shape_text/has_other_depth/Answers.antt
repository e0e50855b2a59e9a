use Rattle.std.proofs.Common.{◌∙◌, sym, ap, arith}
use Rattle.std.specs.Prelude.{nat_eq, not}
use Rattle.std.specs.List.{list_any}
use Rattle.tree_config.proofs.Scans.{any_depth-more, depths_in-ends}
use Rattle.tree_config.proofs.shape_text.has_other_depth.Goals as goal

pub returns-then-is_other_leaf : goal.returns-then-is_other_leaf
returns-then-is_other_leaf c =
    sym (c.reading.invariant.0 ∙ any_depth-more (λ d. not (nat_eq d c.args.first)) c.reading.depth c.reading.byte-index c.args.text.now c.reading-test.true
    ∙ rw (sym c.is_other_leaf.ensures ∙ c.if-is_other_leaf.true))

pub reading-preserved : goal.reading-preserved
reading-preserved c = (
  rw c.depth_behind-depth.ensures.depth (c.reading.invariant.0 ∙ any_depth-more (λ d. not (nat_eq d c.args.first)) c.reading.depth c.reading.byte-index c.args.text.now c.reading-test.true
      ∙ rw (sym c.is_other_leaf.ensures ∙ c.if-is_other_leaf.false)),
  omega (arith, c.reading.invariant.1, c.depth_behind-depth.ensures.small),
)

pub returns : goal.returns
returns c = sym (c.reading.invariant.0 ∙ ap (list_any (λ d. not (nat_eq d c.args.first))) (depths_in-ends c.reading.depth c.reading.byte-index c.args.text.now c.reading-test.false))
