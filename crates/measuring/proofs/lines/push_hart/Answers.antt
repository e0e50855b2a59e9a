use Rattle.std.specs.Prelude.{codes, decimal}
use Rattle.report.specs.DdmText.Adds.{◌▸◌}
use Rattle.measuring.proofs.Named.{named}
use Rattle.report.specs.DdmText.Hex.{hex8}
use Rattle.measure_model.specs.Text.{hart_counts_line}
use Rattle.measuring.proofs.lines.push_hart.Goals as goal

pub returns : goal.returns
unfolding hart_counts_line
returns c = λ v is.
    let state_put = c.in_ok-push_named.ensures.text ▸ c.in_ok-push_bytes.ensures.text ▸ c.in_ok-push_state.ensures.text in
    let pc_put = named (codes " pc ") (hex8 c.pc.result) state_put c.in_ok-push_named_word.ensures.text in
    let done_put = named (codes " done ") (decimal c.done.result) pc_put c.in_ok-push_named-2.ensures.text in
    let loads_put = named (codes " loads ") (decimal c.args.counts.now.loads) done_put c.in_ok-push_named-3.ensures.text in
    let stores_put = named (codes " stores ") (decimal c.args.counts.now.stores) loads_put c.in_ok-push_named-4.ensures.text in
    let amos_put = named (codes " amos ") (decimal c.args.counts.now.amos) stores_put c.in_ok-push_named-5.ensures.text in
    let failed_put = named (codes " failed ") (decimal c.args.counts.now.failed) amos_put c.in_ok-push_named-6.ensures.text in
    let reads_put = named (codes " reads ") (decimal c.args.counts.now.reads) failed_put c.in_ok-push_named-7.ensures.text in
    let erases_put = named (codes " erases ") (decimal c.args.counts.now.erases) reads_put c.in_ok-push_named-8.ensures.text in
    let busy_put = named (codes " busy ") (decimal c.args.counts.now.busy) erases_put c.in_ok-push_named-9.ensures.text in
    rw (is.number, is.hart, is.done) (rw (c.halted.ensures, c.pc.ensures, c.done.ensures) at (busy_put ▸ c.in_ok-push_bytes-2.ensures.text))
