-- The turns of a machine that is in order are in order.
-- Letters: t is a tree or a turn, i an image, m a machine.
use Rattle.std.proofs.Common.{◌≡◌, List, [], ◌∷◌, None, Ok, take, refl}
use Rattle.headline.specs.DdmTypes.declared.turns.Turn.{Turn}
use Rattle.headline.specs.TreeModel.Start.Sources.{TreeValue, ImageValue, start_of_harts}
use Rattle.headline.specs.TreeModel.Start.Memory.{start_words}
use Rattle.headline.specs.TreeModel.Start.Machine.{flat_start_of, start_machine, start_of, start_refusal}
use Rattle.headline.specs.TreeModel.State.Values.{MachineValue}
use Rattle.headline.specs.TreeModel.Turns.Machine.{run_of, turn_of}
use Rattle.headline.specs.TreeModel.Turns.Witness.{sorted_ops}
use Rattle.headline.specs.FlatModel.Flat.{flat_start}
use Rattle.headline.specs.OrderLaws.EveryTurn.{IsOrderly}
use Rattle.headline.proofs.OrderLaws.EveryTurn.{run-orderly, turn-orderly}
use Rattle.headline.proofs.OrderLaws.Hart.Completed.{whole_words}
use Rattle.headline.proofs.Runs.{run-witnessed}
use Rattle.headline.proofs.StartOrder.{start-orderly}
use Rattle.text_model.proofs.Outputs.{put_texts-same}
use Rattle.busy_laws.proofs.Turns.{busy-run}
use Rattle.lr_sc_laws.proofs.Between.{each-sc}
use Rattle.lr_sc_laws.proofs.Failing.{turn-fails}
use Rattle.run_laws.specs.AfterATurn.{TurnsKeepPairs}
use Rattle.run_laws.specs.InOrder.{EachFailsUnreserved, RunInOrder, AllRunsInOrder, AllTurnsJudged}

failing : (ts : List Turn) (m : MachineValue) → EachFailsUnreserved ts m
failing [] m = tt
failing (t ∷ ts) m = (turn-fails t m, failing ts (turn_of t m).machine)

pub judged : AllTurnsJudged
judged turns m = record { busy = busy-run turns m; failing = failing turns m }

in-order : (t : TreeValue) (i : ImageValue) (m : MachineValue) (turns : List Turn) → IsOrderly (flat_start_of t i) m → RunInOrder (flat_start_of t i) m turns
in-order t i m turns orderly = record {
  witnessed = λ k. run-witnessed (flat_start_of t i) (take k turns) m orderly;
  output = λ k h. put_texts-same h _ _ ((run-witnessed (flat_start_of t i) (take k turns) m orderly).machine.own_order h);
  pairs = λ k.
      let after = (run_of (take k turns) m).machine in
      let shaped = (run-orderly (flat_start_of t i) m (take k turns) orderly).shaped in
      each-sc after.code after.items (start_of_harts t i) (start_words t i) (whole_words after shaped) (sorted_ops after.ops) (run-witnessed (flat_start_of t i) (take k turns) m orderly).machine.legal;
  judged = judged turns m;
}

starts : (t : TreeValue) (i : ImageValue) → start_refusal t i ≡ None → start_of t i ≡ Ok (start_machine t i)
unfolding start_of
starts t i accepted = rw accepted refl

pub runs-in_order : AllRunsInOrder
runs-in_order t i tree accepted first turns =
    in-order t i (run_of first (start_machine t i)).machine turns (run-orderly (flat_start_of t i) (start_machine t i) first (start-orderly t i (start_machine t i) tree (starts t i accepted)))

pub turns-keep_pairs : TurnsKeepPairs
unfolding run_of
turns-keep_pairs start words t m shaped buses timed core =
    let s = flat_start start words in
    let orderly : IsOrderly s m = record { shaped = shaped; buses = buses; timed = timed; core = core } in
    let after = (turn_of t m).machine in
    each-sc after.code after.items start words (whole_words after (turn-orderly s m t orderly).shaped) (sorted_ops after.ops) (run-witnessed s (t ∷ []) m orderly).machine.legal
