use Rattle.std.specs.Prelude.{codes, decimal}
use Rattle.report.specs.DdmText.Adds.{◌▸◌}
use Rattle.measuring.proofs.Named.{named}
use Rattle.measure_model.specs.Text.{leaf_most_line}
use Rattle.measuring.proofs.lines.push_leaf_most.Goals as goal

pub returns : goal.returns
unfolding leaf_most_line
returns c =
    let replies_put = named (codes " replies ") (decimal c.args.most.now.replies) c.in_ok-push_named.ensures.text c.in_ok-push_named-2.ensures.text in
    let buffer_put = named (codes " buffer ") (decimal c.args.most.now.buffer) replies_put c.in_ok-push_named-3.ensures.text in
    buffer_put ▸ c.in_ok-push_bytes.ensures.text
