-- The machine of an accepted tree with room shows every order of one flat memory.
use Rattle.std.proofs.Common.{◌≡◌, List, Some, Ok, ap, ◌∙◌}
use Rattle.std.specs.Prelude.{true, if◌then◌else◌, Err}
use Rattle.serving_model.specs.DdmTypes.declared.operations.Op.{Op}
use Rattle.bus_laws.specs.FlatModel.Flat.{FlatMachine}
use Rattle.bus_laws.specs.IsTree.{IsTree}
use Rattle.serving_model.specs.TreeModel.State.Values.{MachineValue}
use Rattle.serving_model.specs.TreeModel.Start.Sources.{ImageValue, TreeValue}
use Rattle.serving_model.specs.TreeModel.Start.Machine.{start_of, flat_start_of}
use Rattle.serving_model.specs.Rest.{has_room}
use Rattle.serving_model.specs.Serving.{no_room, serve_from, serve_of}
use Rattle.serving_model.specs.ServedLists.{storing_run, IsServedList, served, too_many, StartShows, IsServed, shown, too_long}
use Rattle.serving_model.proofs.Listed.{listed}
use Rattle.serving_model.proofs.StartShows.{start-shows}

pub every-order : (t : TreeValue) (i : ImageValue) (m : MachineValue) → IsTree t → start_of t i ≡ Ok m → has_room m ≡ true → (ops : List Op) (last : FlatMachine) → storing_run m.code m.items (flat_start_of t i) ops ≡ Some last → IsServed ops m last
unfolding serve_of
every-order t i m tree built room ops last run = by (listed ops m (flat_start_of t i) last 1 0 s.shows s.harts run) where
  s : StartShows m (flat_start_of t i)
  s = start-shows t i m tree built room

  serves : serve_of ops m ≡ serve_from 1 0 ops m
  serves = ap (λ b. if b then serve_from 1 0 ops m else Err no_room) room

  by : IsServedList 1 0 m ops last → IsServed ops m last
  by (served turns is d) = shown turns (serves ∙ is) d
  by (too_many at is) = too_long at (serves ∙ is)
