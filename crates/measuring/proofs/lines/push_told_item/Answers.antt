use Rattle.std.specs.Prelude.{codes, decimal}
use Rattle.report.specs.DdmText.Adds.{◌▸◌}
use Rattle.measuring.proofs.Named.{named}
use Rattle.report.specs.DdmText.Hex.{hex8}
use Rattle.measuring.proofs.lines.push_told_item.Goals as goal

pub returns : goal.returns
returns c =
    let address_put = named (codes " ") (hex8 c.args.address) c.in_ok-push_named.ensures.text c.in_ok-push_named_word.ensures.text in
    let reads_put = named (codes " reads ") (decimal c.args.counts.now.reads) address_put c.in_ok-push_named-2.ensures.text in
    let erases_put = named (codes " erases ") (decimal c.args.counts.now.erases) reads_put c.in_ok-push_named-3.ensures.text in
    let injects_put = named (codes " injects ") (decimal c.args.counts.now.injects) erases_put c.in_ok-push_named-4.ensures.text in
    injects_put ▸ c.in_ok-push_bytes.ensures.text
