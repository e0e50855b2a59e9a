-- A machine that makes a recorded run keeps its nodes, code and items.
use Rattle.std.proofs.Common.{◌≡◌, ◌∙◌, ap, sym, ℕ}
use Rattle.outcomes.specs.TreeModel.State.Shape.{frame_of}
use Rattle.outcomes.specs.TreeModel.State.Values.{MachineValue}
use Rattle.outcomes.specs.TextModel.Schedule.{ShapeView}
use Rattle.outcomes.proofs.TreeModel.FrameKept.{run-frame}
use Rattle.recording_model.specs.declared.SeedKind.{SeedKind}
use Rattle.recording_model.specs.LetBy.{seed_draws}
use Rattle.recording_model.specs.Recording.{Recording, drawn_limit, recording_of}
use Rattle.recording_model.proofs.Recordings.{left-out-changes-nothing}

pub recording-frame : (kind : SeedKind) (shape : ShapeView) (seed turns : ℕ) (m : MachineValue) → frame_of (recording_of kind shape seed turns m).machine ≡ frame_of m
unfolding recording_of
recording-frame kind shape seed turns m =
    let r : Recording = recording_of kind shape seed turns m in
    let same = left-out-changes-nothing turns (seed_draws kind shape seed drawn_limit) m in
    ap frame_of (sym same.recorded) ∙ run-frame r.turns m
