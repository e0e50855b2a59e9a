-- The text of a survey of recorded runs as the command's.
use Rattle.std.proofs.Common.{◌≡◌, ℕ, List, Option, Some, None, Ok, refl, sym, ap, ◌∙◌}
use Rattle.std.specs.Prelude.{IfSome}
use Rattle.ddm_cli.specs.TreeModel.Start.Sources.{TreeValue, ImageValue}
use Rattle.ddm_cli.specs.ElfLoad.ElfFile.{image_of}
use Rattle.ddm_cli.specs.DdmTree.Machine.{MachineState}
use Rattle.ddm_cli.specs.ScheduleLog.Shapes.{shape_view}
use Rattle.ddm_cli.specs.SurveyModel.Survey.{survey_text}
use Rattle.ddm_cli.specs.Causes.{AcceptedAs}
use Rattle.ddm_words.specs.Commands.{Survey}
use Rattle.ddm_cli.specs.Parts.{IsStart, tree_at}
use Rattle.ddm_cli.specs.Top.{AcceptsParts, Both, survey_at, survey_of}
use Rattle.ddm_words.specs.declared.command.Prints.TheVariants.{Report}
use Rattle.ddm_cli.proofs.Causes.{takes_parts}
use Rattle.ddm_cli.proofs.Judged.{both_taken}

module _ (o : Survey) (t : TreeValue) (i : ImageValue) (s : MachineState) (text : List ℕ) (start : IsStart t i s) (is : text ≡ survey_text o.kind (shape_view t.levels) o.turns s.machine o.first o.count) where
  text_is : survey_at o (record { tree = t; image = i }) ≡ text
  unfolding survey_at
  text_is = sym (is ∙ ap (λ (r : MachineState). survey_text o.kind (shape_view t.levels) o.turns r.machine o.first o.count) start.machine)

  has_ends : (tree image : Option (List ℕ)) → AcceptedAs tree_at tree t → IfSome image (λ f. image_of t.item_bytes f ≡ Ok i) → Both tree image (λ f g. survey_of o f g ≡ Some text)
  has_ends None image taken loaded = tt
  has_ends (Some f) None taken loaded = tt
  has_ends (Some f) (Some g) taken loaded = rw (both_taken f g t i taken loaded start.accepted) (ap Some text_is)

  pub ends_taken : (tree image : Option (List ℕ)) → AcceptedAs tree_at tree t → IfSome image (λ f. image_of t.item_bytes f ≡ Ok i) → AcceptsParts Report tree image × Both tree image (λ f g. survey_of o f g ≡ Some text)
  ends_taken tree image taken loaded = (takes_parts Report t i start.accepted refl tree image taken loaded, has_ends tree image taken loaded)
