-- What is printed of a run, and of a witness that is accepted.
-- Letters: m is a machine, t a turn.
use Rattle.std.specs.Prelude.{ℕ, List, ◌++◌, Option, Some, None, Result, MatchResult, codes, decimal}
use Rattle.ddm_cli.specs.DdmTypes.declared.turns.Turn.{Turn}
use Rattle.ddm_cli.specs.TreeModel.State.Values.{MachineValue}
use Rattle.ddm_cli.specs.TreeModel.State.Shape.{depth_of}
use Rattle.ddm_cli.specs.TreeModel.Turns.Machine.{run_of}
use Rattle.ddm_cli.specs.TextModel.Report.{report_of, summary_of}
use Rattle.ddm_cli.specs.TextModel.Run.{counts_of, report_text_of, summary_text_of, trace_and_report_of, view_of}
use Rattle.ddm_cli.specs.TextModel.Schedule.{turn_text}
use Rattle.ddm_cli.specs.JamLaws.GoesOn.{unjamming_turn}
use Rattle.ddm_cli.specs.ReportCrate.Appends.{Appends, AppendsPart}
use Rattle.checkpoint.specs.Resumed.{Resumed}
use Rattle.checkpoint.specs.Saved.{saved}
use Rattle.ddm_cli.specs.Made.{counts_plus}
use Rattle.ddm_words.specs.declared.command.Prints.{Prints}
use Rattle.ddm_cli.specs.declared.making.Made.{Made}
use Rattle.ddm_words.specs.declared.command.Prints.TheVariants.{Report, Trace, Summary, Unjamming, Checkpoint}

-- the turn of a bus that goes on, if a leaf waits
abbrev pub unjam_line : Option Turn → List ℕ
unjam_line None = codes "none\n"
unjam_line (Some t) = codes "turn " ++ turn_text t ++ codes "\n"

-- after these turns
unfoldable pub unjam_text_of : List Turn → MachineValue → List ℕ
unjam_text_of turns m = unjam_line (unjamming_turn (run_of turns m).machine)

-- the checkpoint after these turns
unfoldable pub saved_after : List Turn → MachineValue → List ℕ
saved_after turns m = let run = run_of turns m in saved run.machine (counts_of run.answers)

-- of these turns from a machine, whose keys are as long as the tree is deep
abbrev pub printed : Prints → ℕ → List Turn → MachineValue → List ℕ
printed Report depth turns m = report_text_of depth turns m
printed Trace depth turns m = trace_and_report_of depth turns m
printed Summary depth turns m = summary_text_of depth turns m
printed Unjamming depth turns m = unjam_text_of turns m
printed Checkpoint depth turns m = saved_after turns m

-- the report after these turns of a machine that a checkpoint gave, with what its turns before came to
unfoldable pub resumed_report : List Turn → Resumed → List ℕ
resumed_report turns r =
    let run = run_of turns r.machine in
    report_of (view_of (depth_of r.machine) (counts_plus r.counts (counts_of run.answers)) run.machine)

-- the same of turns that were made, whose trace is kept where it is asked for
abbrev pub made_text : Prints → MachineValue → Made → List ℕ
made_text Summary m made = summary_of (view_of (depth_of m) made.counts m)
made_text Unjamming m made = unjam_line (unjamming_turn m)
made_text Checkpoint m made = saved m made.counts
made_text Report m made = made.trace.items ++ report_of (view_of (depth_of m) made.counts m)
made_text Trace m made = made.trace.items ++ report_of (view_of (depth_of m) made.counts m)

-- of a witness of so many lines
abbrev pub legal_line : ℕ → List ℕ
legal_line lines = codes "legal " ++ decimal lines ++ codes "\n"

-- a text was written after what was there, or a first part of it where a write failed
abbrev pub Writes : {E : Type 0} → Option (List ℕ) → Option (List ℕ) → List ℕ → Result (Unit {0}) E → Type 0
Writes old new text result = MatchResult result (λ u. Appends old new text) (λ e. AppendsPart old new text)
