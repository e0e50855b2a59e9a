use Rattle.std.proofs.Common.{◌∙◌, sym, arith}
use Rattle.tree_config.proofs.Scans.{widths_in-ends, widths_in-step}
use Rattle.tree_config.proofs.shape_text.level_widths.Goals as goal

pub reading-preserved : goal.reading-preserved
reading-preserved c = (
  widths_in-step c.args.level c.reading.depth c.reading.count c.reading.byte-index c.args.text.now c.reading.widths.items c.depth_behind-depth.result c.count_behind-count.result c.push_if.new.widths.items c.is_end.result
      c.reading-test.true c.is_end.ensures c.in_ok-push_if.ensures c.depth_behind-depth.ensures.depth c.count_behind-count.ensures.nodes ∙ c.reading.invariant.0,
  (omega (arith, c.reading.invariant.1.0, c.depth_behind-depth.ensures.small), omega (arith, c.reading.invariant.1.1, c.count_behind-count.ensures.small)),
)

pub returns : goal.returns
returns c = sym (widths_in-ends c.args.level c.reading.depth c.reading.count c.reading.byte-index c.args.text.now c.reading.widths.items c.reading-test.false) ∙ c.reading.invariant.0
