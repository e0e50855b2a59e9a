use Rattle.std.proofs.Common.{rules, sym, ap, ◌∙◌}
use Rattle.report.specs.DdmText.Adds.{alone}
use Rattle.report.proofs.DdmTree.LeafList.{leaf-there}
use Rattle.any_machine.specs.Any.{state_in}
use Rattle.report.specs.MachineView.{harts_of}
use Rattle.report.specs.ReportLeft.{hart_front, no_view}
use Rattle.report.proofs.MachineLines.{got-is, hart-shown}
use Rattle.report.proofs.machine_parts.put_hart.Goals as goal

pub hart-requires : goal.hart-requires
hart-requires g c = (search rules, leaf-there c.args.leaf (state_in c.args.machine.now).machine c.requires.shape c.requires.leaf)

pub returns : goal.returns
returns g c =
    let m = (state_in c.args.machine.now).machine in
    let shown = hart-shown m c.args.leaf c.hart.result.now c.requires.shape c.hart.ensures in
    alone c.in-Ok.ensures.text c.requires.empty ∙ ap hart_front (sym (got-is (harts_of m) c.args.leaf _ no_view shown))
