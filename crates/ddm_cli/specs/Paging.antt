-- The page of the turns that a schedule has.
-- Letters: t is a tree, m a machine.
use Rattle.std.specs.Prelude.{◌≡◌, ℕ, List, Option}
use Rattle.ddm_cli.specs.DdmTypes.declared.turns.Turn.{Turn}
use Rattle.ddm_cli.specs.TreeModel.Start.Sources.{TreeValue}
use Rattle.ddm_cli.specs.TreeModel.State.Values.{MachineValue}
use Rattle.film_runs.specs.Paged.{page_of}
use Rattle.ddm_cli.specs.Causes.{AcceptedAs}
use Rattle.ddm_cli.specs.Parts.{before_page, turns_at}

-- the text is the page of these turns of a machine, which the schedule has where it is told
pub record IsPageBy (t : TreeValue) (told : Option (List ℕ)) (m : MachineValue) (text : List ℕ) : Type 0 where
  pub turns : List Turn
  pub accepted : AcceptedAs (turns_at t.levels before_page) told turns
  pub text_is : text ≡ page_of t turns m
