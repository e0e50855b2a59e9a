-- What is left of a machine's report that is given piece by piece.
use Rattle.std.specs.Prelude.{ℕ, List}
use Rattle.any_machine.specs.Any.{machine_state}
use Rattle.report.specs.MachineView.{shown, IsGiven}
use Rattle.report.specs.ReportLeft.{from_part}
use Rattle.report.specs.declared.report_pieces.ReportPieces.TheInside.{Inside}

abbrev pub report_left : Inside → List ℕ
report_left r = from_part (shown r.counts (machine_state r.machine.now).machine) r.next

abbrev pub IsReport : Inside → Type 0
IsReport r = IsGiven r.counts (machine_state r.machine.now).machine r.witness r.size r.next
