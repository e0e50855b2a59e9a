use Rattle.std.specs.Prelude.{codes, decimal}
use Rattle.report.specs.DdmText.Adds.{◌▸◌}
use Rattle.measuring.proofs.Named.{named}
use Rattle.measure_model.specs.Text.{bus_counts_line}
use Rattle.measuring.proofs.lines.push_bus.Goals as goal

pub returns : goal.returns
unfolding bus_counts_line
returns c =
    let read_put = named (codes " read ") (decimal c.args.traffic.now.reads) c.in_ok-push_named.ensures.text c.in_ok-push_named-2.ensures.text in
    let data_put = named (codes " data ") (decimal c.args.traffic.now.copies) read_put c.in_ok-push_named-3.ensures.text in
    let erase_put = named (codes " erase ") (decimal c.args.traffic.now.erases) data_put c.in_ok-push_named-4.ensures.text in
    let exclusive_put = named (codes " exclusive ") (decimal c.args.traffic.now.exclusives) erase_put c.in_ok-push_named-5.ensures.text in
    let out_put = named (codes " out ") (decimal c.args.traffic.now.outs) exclusive_put c.in_ok-push_named-6.ensures.text in
    let inject_put = named (codes " inject ") (decimal c.args.traffic.now.injects) out_put c.in_ok-push_named-7.ensures.text in
    let busy_put = named (codes " busy ") (decimal c.args.busy) inject_put c.in_ok-push_named-8.ensures.text in
    busy_put ▸ c.in_ok-push_bytes.ensures.text
