-- The witness of a run of accepted files is accepted: its premises are what accepted files give.
-- Letters: t is a tree, i an image.
use Rattle.std.proofs.Common.{◌≡◌, ◌⊎◌, inl, inr, ℕ, ◌+◌, ◌≤◌, List, length, Ok, sym, ap, subst, ◌∙◌, arith}
use Rattle.witness_laws.specs.DdmTypes.declared.turns.Turn.{Turn}
use Rattle.witness_laws.specs.TreeModel.Start.Sources.{TreeValue, ImageValue}
use Rattle.file_laws.specs.TextModel.Schedule.{turn_limit}
use Rattle.file_laws.specs.ScheduleLog.Shapes.{shape_view}
use Rattle.file_laws.proofs.ScheduleLog.SeedTurns.{seeded_count}
use Rattle.witness_check.proofs.TextModel.Given.{turns-schedule_of}
use Rattle.witness_check.proofs.Accepting as accepting
use Rattle.witness_check.specs.Reader.{setting_of}
use Rattle.witness_laws.specs.Printed.{ops_of_run, printed_witness}
use Rattle.witness_laws.proofs.Printed.{is_accepted}
use Rattle.witness_laws.specs.OfFiles.{AreOfFiles, AreSeeded, AreWritten, IsChecked, WitnessesOfFilesAreChecked}
use Rattle.file_laws.proofs.Trees.{accepted_tree}
use Rattle.file_laws.proofs.Images.{image-bytes}

pub few-turns : (t : TreeValue) (turns : List Turn) → AreWritten t turns ⊎ AreSeeded t turns → length turns ≤ turn_limit
few-turns t turns (inl written) = let given = turns-schedule_of (shape_view t.levels) 0 written.0 turns (omega arith) written.1 in omega (arith, given.room)
few-turns t turns (inr seeded) = subst (λ ts. length ts ≤ turn_limit) (sym seeded.3) (omega (arith, seeded_count (shape_view t.levels) seeded.0 seeded.1, seeded.2))

pub witness-checked : WitnessesOfFilesAreChecked
witness-checked tree image t i files turns of =
    let is_tree = (accepted_tree tree t files.tree_is).tree in
    let accepted = is_accepted t i turns is_tree files.starts (image-bytes t.item_bytes image i files.bytes files.image_is) (few-turns t turns of) in
    record { accepted = accepted; judged = accepting.is_accepted (setting_of t i) (printed_witness t i turns) (length (ops_of_run t i turns)) accepted }
