-- What a survey of seeds needs of a machine at its start, and its text as the command's.
use Rattle.std.proofs.Common.{◌≡◌, ℕ, ◌≤◌, List, Option, Some, None, Ok, refl, sym, ap, subst, ◌∙◌, arith}
use Rattle.std.specs.Prelude.{IfSome}
use Rattle.ddm_cli.specs.TreeModel.Start.Sources.{TreeValue, ImageValue}
use Rattle.ddm_cli.specs.TreeModel.Start.Machine.{start_machine}
use Rattle.ddm_cli.specs.BusLaws.IsTree.{IsTree}
use Rattle.ddm_cli.specs.ElfLoad.ElfFile.{image_of}
use Rattle.ddm_cli.specs.DdmTree.Machine.{MachineState}
use Rattle.ddm_cli.specs.AnyRuns.Run.{NameParts}
use Rattle.ddm_cli.specs.ScheduleLog.Shapes.{shape_view}
use Rattle.ddm_cli.specs.OutcomeModel.Outcomes.{outcomes_text}
use Rattle.outcomes.specs.Runs.{HasShape, IsStart as CanBegin}
use Rattle.ddm_cli.specs.Causes.{AcceptedAs}
use Rattle.ddm_words.specs.Commands.{Seeds}
use Rattle.ddm_cli.specs.Parts.{HasStart, IsStart, tree_at}
use Rattle.ddm_cli.specs.Top.{AcceptsParts, Both, outcomes_at, outcomes_of}
use Rattle.ddm_words.specs.declared.command.Prints.TheVariants.{Report}
use Rattle.ddm_cli.proofs.Causes.{takes_parts}
use Rattle.ddm_cli.proofs.Judged.{both_taken}
use Rattle.ddm_cli.proofs.StartNames.{named_parts, start_ops}
use Rattle.ddm_cli.proofs.StartNames.{named_parts}

module _ (t : TreeValue) (tree : IsTree t) (s : MachineState) (start : HasStart t s) where
  machine_is : s.machine ≡ start_machine t start.0
  machine_is = ap (λ (r : MachineState). r.machine) start.1.machine

  -- each turn of the tree names a part of it
  pub has_shape : HasShape (shape_view t.levels) s.machine
  has_shape ts each = subst (NameParts ts) (sym machine_is) (named_parts t start.0 tree start.1.accepted ts each)

  pub can_begin : (turns : ℕ) → turns ≤ 1048576 → CanBegin turns s
  can_begin turns few =
      let none : s.turns ≡ 0 = ap (λ (r : MachineState). r.turns) start.1.machine in
      record { none = start_ops t s start; few = omega (arith, none, few) }

-- the text of the machine of files that were taken
module _ (o : Seeds) (t : TreeValue) (i : ImageValue) (s : MachineState) (text : List ℕ) (start : IsStart t i s) (is : text ≡ outcomes_text (shape_view t.levels) o.turns s.machine o.first o.count) where
  text_is : outcomes_at o (record { tree = t; image = i }) ≡ text
  unfolding outcomes_at
  text_is = sym (is ∙ ap (λ (r : MachineState). outcomes_text (shape_view t.levels) o.turns r.machine o.first o.count) start.machine)

  has_outcomes : (tree image : Option (List ℕ)) → AcceptedAs tree_at tree t → IfSome image (λ f. image_of t.item_bytes f ≡ Ok i) → Both tree image (λ f g. outcomes_of o f g ≡ Some text)
  has_outcomes None image taken loaded = tt
  has_outcomes (Some f) None taken loaded = tt
  has_outcomes (Some f) (Some g) taken loaded = rw (both_taken f g t i taken loaded start.accepted) (ap Some text_is)

  pub survey_taken : (tree image : Option (List ℕ)) → AcceptedAs tree_at tree t → IfSome image (λ f. image_of t.item_bytes f ≡ Ok i) → AcceptsParts Report tree image × Both tree image (λ f g. outcomes_of o f g ≡ Some text)
  survey_taken tree image taken loaded = (takes_parts Report t i start.accepted refl tree image taken loaded, has_outcomes tree image taken loaded)
