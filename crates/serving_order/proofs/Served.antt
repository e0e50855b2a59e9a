-- Keys rise in the run of a list that is served: each of its operations completes in a machine at rest.
-- Letters: s is the flat machine at the start, f the one before an operation, m the machine, h a hart, c the change of its
-- step.
use Rattle.std.proofs.Common.{◌≡◌, ℕ, ◌+◌, true, List, [], ◌∷◌, ◌++◌, length, Option, Some, None, Result, Ok, Err, refl, sym, ap, subst, ◌∙◌, ◌⊎◌, inl, inr}
use Rattle.std.specs.Prelude.{nat_lt, option_and_then, if◌then◌else◌}
use Rattle.headline.specs.DdmTypes.ItemTable.{ItemTable}
use Rattle.headline.specs.DdmTypes.declared.answers.TurnAnswer.{TurnAnswer}
use Rattle.headline.specs.DdmTypes.declared.answers.TxKind.{TxKind}
use Rattle.headline.specs.DdmTypes.declared.keys.Key.{Key}
use Rattle.headline.specs.DdmTypes.declared.operations.Op.{Op}
use Rattle.headline.specs.DdmTypes.declared.turns.Turn.{Turn}
use Rattle.headline.specs.FlatModel.Flat.{Change, FlatHart, FlatMachine, flat_hart, item_words, hart_step}
use Rattle.headline.specs.TreeModel.Start.Sources.{ImageValue, TreeValue}
use Rattle.headline.specs.TreeModel.Start.Machine.{StartRefusal, start_machine, start_refusal, start_or, start_of, flat_start_of}
use Rattle.headline.specs.TreeModel.State.Values.{MachineValue}
use Rattle.headline.specs.TreeModel.State.Shape.{Frame}
use Rattle.headline.specs.TreeModel.Turns.Machine.{turn_of, run_of}
use Rattle.headline.proofs.TreeModel.FrameKept.{turn-frame, run-frame}
use Rattle.headline.specs.TreeRules.Statements.{Holds, each_pair}
use Rattle.headline.proofs.TreeRules.Statements.{each-facts}
use Rattle.headline.specs.BusLaws.IsTree.{IsTree}
use Rattle.headline.specs.OrderLaws.EveryTurn.{IsOrderly}
use Rattle.headline.proofs.OrderLaws.EveryTurn.{turn-orderly, run-orderly}
use Rattle.headline.proofs.OrderLaws.Hart.HartMachine.{ops_with, ops_after}
use Rattle.headline.proofs.OrderLists.Listed.{each_pair-push}
use Rattle.headline.proofs.StartOrder.{start-orderly}
use Rattle.serving_model.specs.Rest.{is_at_rest, has_room}
use Rattle.serving_model.specs.OneLeaf.{hart_at}
use Rattle.serving_model.specs.Serving.{ServingRefusal, no_room, turn_limit, walks_of, turns_behind, turns_to_complete, completes_op, serve_from, serve_of}
use Rattle.serving_model.specs.Shows.{Shows}
use Rattle.serving_model.specs.ServedLists.{storing_step, storing_run, StartShows}
use Rattle.serving_model.proofs.Instruction.{run-on}
use Rattle.serving_model.proofs.Served.{operation}
use Rattle.serving_model.proofs.Shown.{first-answer, walks-keep, last-answer, rests3}
use Rattle.serving_model.proofs.Listed.{Stepped, stepped, Harts, own-hart, shows-next, harts-next}
use Rattle.serving_model.proofs.ServedLegal.{GoesOn, chosen}
use Rattle.serving_model.proofs.StartShows.{start-shows}
use Rattle.serving_order.specs.Rising.{has_lesser_key, KeysRise, ServedKeysRise}
use Rattle.serving_order.proofs.Rising.{turns-rise}

-- ---- one turn

one-rises : (s : FlatMachine) (m : MachineValue) (h : ℕ) (op : Op) → IsOrderly s m → is_at_rest m ≡ true → (turn_of (Turn.Hart h 0) m).answer ≡ TurnAnswer.Retired op → KeysRise m.items m.ops → KeysRise m.items (turn_of (Turn.Hart h 0) m).machine.ops
one-rises s m h op orderly rests is rise x =
    subst (λ ops. Holds (each_pair (has_lesser_key m.items x) ops)) (sym (ops_after (Turn.Hart h 0) m ∙ ap (λ a. ops_with a m.ops) is))
    (each_pair-push (has_lesser_key m.items x) m.ops op (rise x) (each-facts (λ o. has_lesser_key m.items x o op) m.ops (turns-rise s m h 0 op orderly rests is x)))

-- ---- one operation

module _ (s : FlatMachine) (m : MachineValue) (f : FlatMachine) (h : ℕ) (g : FlatHart) (c : Change) (shows : Shows m f) (own : hart_at h m ≡ Some g) (step : hart_step m.code m.items (flat_hart f h) (item_words f) true ≡ Ok c) (orderly : IsOrderly s m) (rise : KeysRise m.items m.ops) where
  abbrev t : Turn
  t = Turn.Hart h 0

  abbrev m1 : MachineValue
  m1 = (turn_of t m).machine

  at-once : (key : Key) → (turn_of t m).answer ≡ TurnAnswer.Retired (operation key h g c) → KeysRise m.items (run_of (turns_behind h (turn_of t m).answer m1) m1).machine.ops
  unfolding run_of
  at-once key is = subst (λ a. KeysRise m.items (run_of (turns_behind h a m1) m1).machine.ops) (sym is) (one-rises s m h (operation key h g c) orderly shows.rests is rise)

  by-walks : (kind : TxKind) (x : ℕ) → (turn_of t m).answer ≡ TurnAnswer.Issued kind x → KeysRise m.items (run_of (turns_behind h (turn_of t m).answer m1) m1).machine.ops
  unfolding run_of
  by-walks kind x is =
      let m3 = (run_of (walks_of h m1) m1).machine in
      let last = last-answer m f h g shows own c step kind x is in
      let kept : m3.ops ≡ m.ops = walks-keep m f h g shows own c step kind x is ∙ (ops_after t m ∙ ap (λ a. ops_with a m.ops) is) in
      let items : m3.items ≡ m.items = ap (λ (a : Frame). a.items) (run-frame (walks_of h m1) m1 ∙ turn-frame t m) in
      let before : KeysRise m3.items m3.ops = subst (λ ops. KeysRise m3.items ops) (sym kept) (subst (λ i. KeysRise i m.ops) (sym items) rise) in
      let after : KeysRise m3.items (turn_of t m3).machine.ops = one-rises s m3 h (operation last.0 h g c) (run-orderly s m1 (walks_of h m1) (turn-orderly s m t orderly)) (rests3 m f h g shows own c step kind x is) last.1 before in
      subst (λ a. KeysRise m.items (run_of (turns_behind h a m1) m1).machine.ops) (sym is) (subst (λ (k : MachineValue). KeysRise m.items k.ops) (sym (run-on (walks_of h m1) (t ∷ []) m1)) (subst (λ i. KeysRise i (turn_of t m3).machine.ops) items after))

  completing-rises : KeysRise m.items (run_of (turns_to_complete h m) m).machine.ops
  unfolding run_of turns_to_complete
  completing-rises = by (first-answer m f h g shows own c step) where
    by : ((key : Key) × ((turn_of t m).answer ≡ TurnAnswer.Retired (operation key h g c))) ⊎ ((kind : TxKind) × (x : ℕ) × ((turn_of t m).answer ≡ TurnAnswer.Issued kind x)) → KeysRise m.items (run_of (turns_behind h (turn_of t m).answer m1) m1).machine.ops
    by (inl once) = at-once once.0 once.1
    by (inr issued) = by-walks issued.0 issued.1 issued.2

-- ---- lists

-- what holds before each operation
record Before (s : FlatMachine) (m : MachineValue) (f : FlatMachine) : Type 0 where
  shows : Shows m f
  harts : Harts m f
  orderly : IsOrderly s m
  rise : KeysRise m.items m.ops

module _ (s : FlatMachine) where
  after-one : (m : MachineValue) (f next : FlatMachine) (op : Op) → Before s m f → Stepped m.code m.items f op next → Before s (run_of (turns_to_complete op.hart m) m).machine next
  after-one m f next op was one =
      let ts = turns_to_complete op.hart m in
      let hart = own-hart m f op next was.shows was.harts one in
      record {
        shows = shows-next m f op next was.shows was.harts one;
        harts = harts-next m f op next was.shows was.harts one;
        orderly = run-orderly s m ts was.orderly;
        rise = subst (λ (a : Frame). KeysRise a.items (run_of ts m).machine.ops) (sym (run-frame ts m)) (completing-rises s m f op.hart hart.0 one.change was.shows hart.1 one.step was.orderly was.rise);
      }

  list-rises : (ops : List Op) (m : MachineValue) (f last : FlatMachine) (line made : ℕ) (turns : List Turn) → Before s m f → storing_run m.code m.items f ops ≡ Some last → serve_from line made ops m ≡ Ok turns → KeysRise m.items (run_of turns m).machine.ops
  unfolding serve_from run_of
  list-rises [] m f last line made turns was run e = subst (λ ts. KeysRise m.items (run_of ts m).machine.ops) (same e) was.rise where
    same : (let r : Result (List Turn) ServingRefusal = Ok [] in r ≡ Ok turns) → [] ≡ turns
    same e = cc
  list-rises (op ∷ ops) m f last line made turns was run e = at (λ m2 f2 line made later was run e. list-rises ops m2 f2 last line made later was run e) (storing_step m.code m.items f op) refl run where
    g : GoesOn (completes_op op (run_of (turns_to_complete op.hart m) m).answers) (turns_to_complete op.hart m) (serve_from (line + 1) (made + length (turns_to_complete op.hart m)) ops (run_of (turns_to_complete op.hart m) m).machine) turns
    g = chosen (nat_lt turn_limit (made + length (turns_to_complete op.hart m))) (completes_op op (run_of (turns_to_complete op.hart m) m).answers) (turns_to_complete op.hart m) (serve_from (line + 1) (made + length (turns_to_complete op.hart m)) ops (run_of (turns_to_complete op.hart m) m).machine) line turns e

    at : ((k : MachineValue) (f2 : FlatMachine) (line made : ℕ) (later : List Turn) → Before s k f2 → storing_run k.code k.items f2 ops ≡ Some last → serve_from line made ops k ≡ Ok later → KeysRise k.items (run_of later k).machine.ops)
        → (o : Option FlatMachine) → storing_step m.code m.items f op ≡ o → option_and_then (λ next. storing_run m.code m.items next ops) o ≡ Some last → KeysRise m.items (run_of turns m).machine.ops
    at rest None is run = cc
    at rest (Some next) is run =
        let after = after-one m f next op was (stepped m.code m.items f op next is) in
        let later : storing_run (run_of (turns_to_complete op.hart m) m).machine.code (run_of (turns_to_complete op.hart m) m).machine.items next ops ≡ Some last = subst (λ (a : Frame). storing_run a.code a.items next ops ≡ Some last) (sym (run-frame (turns_to_complete op.hart m) m)) run in
        let rises : KeysRise (run_of (turns_to_complete op.hart m) m).machine.items (run_of g.later (run_of (turns_to_complete op.hart m) m).machine).machine.ops = rest (run_of (turns_to_complete op.hart m) m).machine next (line + 1) (made + length (turns_to_complete op.hart m)) g.later after later g.served in
        subst (λ us. KeysRise m.items (run_of us m).machine.ops) (sym g.joined) (subst (λ (k : MachineValue). KeysRise m.items k.ops) (sym (run-on (turns_to_complete op.hart m) g.later m)) (subst (λ (a : Frame). KeysRise a.items (run_of g.later (run_of (turns_to_complete op.hart m) m).machine).machine.ops) (run-frame (turns_to_complete op.hart m) m) rises))

-- ---- from the start

pub served-rise : ServedKeysRise
unfolding serve_of start_of start_machine
served-rise t i m tree built room ops last turns run is = list-rises (flat_start_of t i) ops m (flat_start_of t i) last 1 0 turns (record { shows = begins.shows; harts = begins.harts; orderly = start-orderly t i m tree built; rise = nothing }) run (sym (ap (λ b. if b then serve_from 1 0 ops m else Err no_room) room) ∙ is) where
  begins : StartShows m (flat_start_of t i)
  begins = start-shows t i m tree built room

  made : (o : Option StartRefusal) → start_or o t i ≡ Ok m → start_machine t i ≡ m
  made None e = one (start_machine t i) m e where
    one : (a b : MachineValue) → (let r : Result MachineValue StartRefusal = Ok a in r ≡ Ok b) → a ≡ b
    one a b e = cc
  made (Some refusal) e = cc

  nothing : KeysRise m.items m.ops
  nothing x = subst (λ (k : MachineValue). Holds (each_pair (has_lesser_key k.items x) k.ops)) (made (start_refusal t i) built) tt
