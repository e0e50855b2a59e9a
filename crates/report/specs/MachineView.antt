-- What a report shows of a machine.
use Rattle.std.specs.Prelude.{◌≡◌, List}
use Rattle.report.specs.DdmTypes.declared.operations.Op.{Op}
use Rattle.report.specs.TreeModel.State.Shape.{IsShaped, depth_of}
use Rattle.report.specs.TreeModel.State.Values.{MachineValue}
use Rattle.report.specs.TreeModel.Turns.Witness.{sorted_ops}
use Rattle.text_model.specs.declared.RunCounts.{RunCounts}
use Rattle.text_model.specs.Report.{HartView, ReportView}
use Rattle.text_model.specs.Run.{no_counts, view_of}
use Rattle.report.specs.ReportLeft.{HasPart, HasSize}
use Rattle.report.specs.declared.report_parts.ReportPart.{ReportPart}
use Rattle.report.specs.declared.report_parts.ReportSize.{ReportSize}

abbrev pub harts_of : MachineValue → List HartView
harts_of m = (view_of 0 no_counts m).harts

-- after turns that came to these counts
abbrev pub shown : RunCounts → MachineValue → ReportView
shown counts m = view_of (depth_of m) counts m

-- What is kept while a machine's report is given: the operations in order of their keys, how much there is, and the part that
-- comes next.
pub record IsGiven (counts : RunCounts) (m : MachineValue) (ops : List Op) (extent : ReportSize) (part : ReportPart) : Type 0 where
  pub shaped : IsShaped m
  pub witness : ops ≡ sorted_ops m.ops
  pub size : HasSize (shown counts m) extent
  pub there : HasPart (shown counts m) part
