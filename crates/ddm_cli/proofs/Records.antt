-- What a recorded run needs of a machine at its start, and its text as the command's.
use Rattle.std.proofs.Common.{◌≡◌, ℕ, List, Option, Some, None, Ok, refl, sym, ap, ◌∙◌, arith}
use Rattle.std.specs.Prelude.{IfSome}
use Rattle.ddm_cli.specs.TreeModel.Start.Sources.{TreeValue, ImageValue}
use Rattle.ddm_cli.specs.BusLaws.IsTree.{IsTree}
use Rattle.ddm_cli.specs.ElfLoad.ElfFile.{image_of}
use Rattle.ddm_cli.specs.DdmTree.Machine.{MachineState}
use Rattle.ddm_cli.specs.ScheduleLog.Shapes.{shape_view}
use Rattle.ddm_cli.specs.RecordingModel.Recording.{record_text}
use Rattle.ddm_cli.specs.RecordingCrate.Runs.{IsStart as CanBegin}
use Rattle.ddm_cli.specs.Causes.{AcceptedAs}
use Rattle.ddm_words.specs.Commands.{Recorded}
use Rattle.ddm_cli.specs.Parts.{HasStart, IsStart, tree_at}
use Rattle.ddm_cli.specs.Top.{AcceptsParts, Both, record_at, record_of}
use Rattle.ddm_words.specs.declared.command.Prints.TheVariants.{Report}
use Rattle.ddm_cli.proofs.Causes.{takes_parts}
use Rattle.ddm_cli.proofs.Judged.{both_taken}
use Rattle.ddm_cli.proofs.Surveys.{has_shape}

pub can_record : (t : TreeValue) (tree : IsTree t) (s : MachineState) (start : HasStart t s) → CanBegin (shape_view t.levels) s
can_record t tree s start =
    let none : s.turns ≡ 0 = ap (λ (r : MachineState). r.turns) start.1.machine in
    record { parts = has_shape t tree s start; few = omega (arith, none) }

-- the text of the machine of files that were taken
module _ (r : Recorded) (t : TreeValue) (i : ImageValue) (s : MachineState) (text : List ℕ) (start : IsStart t i s) (is : text ≡ record_text r.kind (shape_view t.levels) r.seed r.turns s.machine) where
  text_is : record_at r (record { tree = t; image = i }) ≡ text
  unfolding record_at
  text_is = sym (is ∙ ap (λ (k : MachineState). record_text r.kind (shape_view t.levels) r.seed r.turns k.machine) start.machine)

  has_record : (tree image : Option (List ℕ)) → AcceptedAs tree_at tree t → IfSome image (λ f. image_of t.item_bytes f ≡ Ok i) → Both tree image (λ f g. record_of r f g ≡ Some text)
  has_record None image taken loaded = tt
  has_record (Some f) None taken loaded = tt
  has_record (Some f) (Some g) taken loaded = rw (both_taken f g t i taken loaded start.accepted) (ap Some text_is)

  pub record_taken : (tree image : Option (List ℕ)) → AcceptedAs tree_at tree t → IfSome image (λ f. image_of t.item_bytes f ≡ Ok i) → AcceptsParts Report tree image × Both tree image (λ f g. record_of r f g ≡ Some text)
  record_taken tree image taken loaded = (takes_parts Report t i start.accepted refl tree image taken loaded, has_record tree image taken loaded)
