use Rattle.std.specs.Prelude.{codes, decimal}
use Rattle.report.specs.DdmText.Adds.{◌▸◌}
use Rattle.measuring.proofs.Named.{named}
use Rattle.measure_model.specs.Text.{most_line}
use Rattle.measuring.proofs.lines.push_most.Goals as goal

pub returns : goal.returns
unfolding most_line
returns c =
    let down_put = named (codes " down ") (decimal c.args.most.now.down) c.in_ok-push_named.ensures.text c.in_ok-push_named-2.ensures.text in
    let requests_put = named (codes " requests ") (decimal c.args.most.now.requests) down_put c.in_ok-push_named-3.ensures.text in
    let replies_put = named (codes " replies ") (decimal c.args.most.now.replies) requests_put c.in_ok-push_named-4.ensures.text in
    let parking_put = named (codes " parking ") (decimal c.args.most.now.parking) replies_put c.in_ok-push_named-5.ensures.text in
    parking_put ▸ c.in_ok-push_bytes.ensures.text
