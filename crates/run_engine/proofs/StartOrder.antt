-- The machine of a tree and an image keeps the rules from the start.
-- Letters: t is a tree, i an image.
use Rattle.std.proofs.Common.{◌≡◌, [], None, Ok, refl, subst, sym}
use Rattle.run_engine.specs.TreeModel.Start.Machine.{start_machine, start_of, start_refusal}
use Rattle.run_engine.specs.TreeModel.Start.Sources.{TreeValue, ImageValue}
use Rattle.run_engine.specs.TreeModel.Turns.Machine.{run_of}
use Rattle.run_engine.specs.BusLaws.IsTree.{IsTree}
use Rattle.run_engine.specs.DdmTree.Machine.{MachineState}
use Rattle.run_engine.specs.Started.{StartsInOrder, started}
use Rattle.run_engine.proofs.HeadlineCrate.Runs.{run-in_order}

start-of : (t : TreeValue) (i : ImageValue) → start_refusal t i ≡ None → start_of t i ≡ Ok (start_machine t i)
unfolding start_of
start-of t i accepted = rw accepted refl

of-start : (t : TreeValue) (i : ImageValue) → IsTree t → start_refusal t i ≡ None → StartsInOrder t i (started t i)
unfolding StartsInOrder run_of
of-start t i tree accepted = run-in_order t i (start_machine t i) tree (start-of t i accepted) []

pub starts_in_order : (t : TreeValue) (i : ImageValue) (s : MachineState) → s ≡ started t i → start_refusal t i ≡ None → IsTree t → StartsInOrder t i s
starts_in_order t i s is accepted tree = subst (StartsInOrder t i) (sym is) (of-start t i tree accepted)
