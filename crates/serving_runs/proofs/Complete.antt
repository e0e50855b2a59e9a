-- The run on the schedule of legal operations completes just these, in their order.
use Rattle.std.proofs.Common.{◌≡◌, Bool, true, false, List, [], ◌++◌, Option, Some, None, Result, Ok, Err, refl, sym, ap, subst, ◌∙◌}
use Rattle.std.specs.Prelude.{IsSome, if◌then◌else◌}
use Rattle.std.proofs.lemmas.Bool.{true≢false}
use Rattle.serving_runs.specs.BusLaws.IsTree.{IsTree}
use Rattle.serving_runs.specs.DdmTypes.ItemTable.{item_count}
use Rattle.serving_runs.specs.DdmTypes.declared.operations.Op.{Op}
use Rattle.serving_runs.specs.DdmTypes.declared.turns.Turn.{Turn}
use Rattle.serving_runs.specs.FlatModel.Flat.{FlatMachine}
use Rattle.serving_runs.specs.FlatModel.Legal.{Legal, legal_run}
use Rattle.serving_runs.specs.TreeModel.Start.Machine.{StartRefusal, start_machine, start_or, start_refusal, start_of, flat_start_of}
use Rattle.serving_runs.specs.TreeModel.Start.Sources.{ImageValue, TreeValue}
use Rattle.serving_runs.specs.TreeModel.State.Values.{MachineValue}
use Rattle.serving_runs.specs.TreeModel.Turns.Machine.{run_of}
use Rattle.serving_runs.specs.ServingModel.Rest.{has_room, sizes_have_room}
use Rattle.serving_runs.specs.ServingModel.ServedLists.{Completed, same_operations}
use Rattle.serving_runs.specs.ServingModel.Serving.{ServingRefusal, no_room, serve_from, serve_of}
use Rattle.serving_runs.proofs.ServingModel.ServedLegal.{served-completed}
use Rattle.serving_runs.proofs.ServingModel.StartRoom.{start-room}
use Rattle.serving_runs.specs.Served.{ServedRunsComplete, served_of}

pub runs-complete : ServedRunsComplete
unfolding served_of serve_of start_of start_machine
runs-complete t i m tree built ops turns legal is = by (legal_run m.code m.items (flat_start_of t i) ops) refl legal where
  sizes : sizes_have_room t (item_count m.items) ≡ true
  sizes = at (sizes_have_room t (item_count m.items)) is where
    at : (b : Bool) → (if b then serve_from 1 0 ops m else Err no_room) ≡ Ok turns → b ≡ true
    at true e = refl
    at false e = cc

  room : has_room m ≡ true
  room = start-room t i m built sizes

  served : serve_of ops m ≡ Ok turns
  served = ap (λ b. if b then serve_from 1 0 ops m else Err no_room) (room ∙ sym sizes) ∙ is

  nothing : m.ops ≡ []
  nothing = of (start_refusal t i) built where
    of : (o : Option StartRefusal) → start_or o t i ≡ Ok m → m.ops ≡ []
    of None e = sym (one e) where
      one : {a b : MachineValue} → (let r : Result MachineValue StartRefusal = Ok a in r ≡ Ok b) → a.ops ≡ b.ops
      one e = cc
    of (Some r) e = cc

  by : (o : Option FlatMachine) → legal_run m.code m.items (flat_start_of t i) ops ≡ o → IsSome o → same_operations ops (run_of turns m).machine.ops ≡ true
  by (Some last) run some =
      let d : Completed m ops last turns = served-completed t i m tree built room ops last turns run served in
      subst (λ done. same_operations ops done ≡ true) (sym (d.operations ∙ ap (λ made. made ++ d.done) nothing)) d.same
  by None run none = absurd (true≢false (sym none))
