use Rattle.std.specs.Prelude.{codes, decimal}
use Rattle.report.specs.DdmText.Adds.{◌▸◌}
use Rattle.measuring.proofs.Named.{named}
use Rattle.measure_model.specs.Text.{totals_line}
use Rattle.measuring.proofs.lines.push_totals.Goals as goal

pub returns : goal.returns
unfolding totals_line
returns c =
    let drawn_put = named (codes " drawn ") (decimal c.args.totals.now.drawn) c.in_ok-push_named.ensures.text c.in_ok-push_named-2.ensures.text in
    let retired_put = named (codes " retired ") (decimal c.args.totals.now.retired) drawn_put c.in_ok-push_named-3.ensures.text in
    let issued_put = named (codes " issued ") (decimal c.args.totals.now.issued) retired_put c.in_ok-push_named-4.ensures.text in
    let granted_put = named (codes " granted ") (decimal c.args.totals.now.granted) issued_put c.in_ok-push_named-5.ensures.text in
    let halted_put = named (codes " halted ") (decimal c.args.totals.now.halted) granted_put c.in_ok-push_named-6.ensures.text in
    let busy_put = named (codes " busy ") (decimal c.args.totals.now.busy) halted_put c.in_ok-push_named-7.ensures.text in
    busy_put ▸ c.in_ok-push_bytes.ensures.text
