-- The text of the measures of a recorded run as the command's.
use Rattle.std.proofs.Common.{◌≡◌, ℕ, List, Option, Some, None, Ok, refl, sym, ap, ◌∙◌}
use Rattle.std.specs.Prelude.{IfSome}
use Rattle.ddm_cli.specs.TreeModel.Start.Sources.{TreeValue, ImageValue}
use Rattle.ddm_cli.specs.ElfLoad.ElfFile.{image_of}
use Rattle.ddm_cli.specs.DdmTree.Machine.{MachineState}
use Rattle.ddm_cli.specs.ScheduleLog.Shapes.{shape_view}
use Rattle.ddm_cli.specs.MeasureModel.Text.{measure_text}
use Rattle.ddm_cli.specs.Causes.{AcceptedAs}
use Rattle.ddm_words.specs.Commands.{Recorded}
use Rattle.ddm_cli.specs.Parts.{IsStart, tree_at}
use Rattle.ddm_cli.specs.Top.{AcceptsParts, Both, measure_at, measure_of}
use Rattle.ddm_words.specs.declared.command.Prints.TheVariants.{Report}
use Rattle.ddm_cli.proofs.Causes.{takes_parts}
use Rattle.ddm_cli.proofs.Judged.{both_taken}

module _ (r : Recorded) (t : TreeValue) (i : ImageValue) (s : MachineState) (text : List ℕ) (start : IsStart t i s) (is : text ≡ measure_text r.kind (shape_view t.levels) r.seed r.turns s.machine) where
  text_is : measure_at r (record { tree = t; image = i }) ≡ text
  unfolding measure_at
  text_is = sym (is ∙ ap (λ (k : MachineState). measure_text r.kind (shape_view t.levels) r.seed r.turns k.machine) start.machine)

  has_measures : (tree image : Option (List ℕ)) → AcceptedAs tree_at tree t → IfSome image (λ f. image_of t.item_bytes f ≡ Ok i) → Both tree image (λ f g. measure_of r f g ≡ Some text)
  has_measures None image taken loaded = tt
  has_measures (Some f) None taken loaded = tt
  has_measures (Some f) (Some g) taken loaded = rw (both_taken f g t i taken loaded start.accepted) (ap Some text_is)

  pub measures_taken : (tree image : Option (List ℕ)) → AcceptedAs tree_at tree t → IfSome image (λ f. image_of t.item_bytes f ≡ Ok i) → AcceptsParts Report tree image × Both tree image (λ f g. measure_of r f g ≡ Some text)
  measures_taken tree image taken loaded = (takes_parts Report t i start.accepted refl tree image taken loaded, has_measures tree image taken loaded)
