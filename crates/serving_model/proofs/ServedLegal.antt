-- A legal list that is served is one in which each SC stores whose hart has its item reserved; so its run completes just
-- its operations.
-- Letters: f is a flat machine, m the machine that shows it, g a hart, ts are turns.
use Rattle.std.proofs.Common.{◌≡◌, ℕ, ◌+◌, Bool, true, false, ◌&&◌, List, [], ◌∷◌, ◌++◌, length, Option, Some, None, Result, Ok, Err, refl, sym, ap, subst, ◌∙◌}
use Rattle.std.specs.Prelude.{nat_eq, nat_lt, option_and_then, if◌then◌else◌}
use Rattle.std.proofs.lemmas.Bool.{and_parts, true≢false}
use Rattle.serving_model.specs.DdmTypes.CodeMap.{CodeWord}
use Rattle.serving_model.specs.DdmTypes.ItemTable.{ItemTable}
use Rattle.serving_model.specs.DdmTypes.declared.operations.Effect.{Effect}
use Rattle.serving_model.specs.DdmTypes.declared.operations.HaltCause.{HaltCause}
use Rattle.serving_model.specs.DdmTypes.declared.operations.Op.{Op}
use Rattle.serving_model.specs.DdmTypes.declared.turns.Turn.{Turn}
use Rattle.bus_laws.specs.FlatModel.declared.Ask.{Ask}
use Rattle.bus_laws.specs.FlatModel.Hart.{Finished, ask_of, finish_of}
use Rattle.bus_laws.specs.FlatModel.Flat.{Change, change_by, unless_halted, FlatHart, FlatMachine, flat_hart, item_words, hart_step}
use Rattle.bus_laws.specs.IsTree.{IsTree}
use Rattle.serving_model.specs.FlatModel.Legal.{is_sc_ok, same_effect, legal_step, legal_run}
use Rattle.bus_laws.proofs.FlatModel.Insert.{LegalFirst, in_range, legal_first, record_change}
use Rattle.bus_laws.proofs.FlatModel.Runs.{same_effect_is}
use Rattle.serving_model.specs.TreeModel.State.Values.{MachineValue}
use Rattle.serving_model.specs.TreeModel.State.Shape.{Frame}
use Rattle.serving_model.specs.TreeModel.Start.Sources.{ImageValue, TreeValue}
use Rattle.serving_model.specs.TreeModel.Start.Machine.{start_of, flat_start_of}
use Rattle.serving_model.specs.TreeModel.Turns.Machine.{run_of}
use Rattle.serving_model.specs.Rest.{has_room}
use Rattle.serving_model.specs.OneLeaf.{hart_at}
use Rattle.serving_model.specs.Serving.{ServingRefusal, no_room, not_served, too_many_turns, turn_limit, with_turns, turns_to_complete, same_operation, completes_op, serve_from, serve_of}
use Rattle.serving_model.specs.Shows.{Shows}
use Rattle.serving_model.specs.ServedLists.{storing_step, storing_run, fails_by, fails_reserved, Completed, StartShows, IsServed, shown, too_long}
use Rattle.serving_model.proofs.TreeModel.FrameKept.{run-frame}
use Rattle.serving_model.proofs.EveryOrder.{every-order}
use Rattle.serving_model.proofs.Listed.{Harts, harts-next, shows-next, some-hart, stepped}
use Rattle.serving_model.proofs.Shown.{op-completes}
use Rattle.serving_model.proofs.StartShows.{start-shows}
use Rattle.serving_model.proofs.StoringRuns.{not-failed, step-stores}

-- ---- a schedule that goes on

-- the line completes its operation, and the schedule is that of the rest behind these turns
pub record GoesOn (completed : Bool) (ts : List Turn) (rest : Result (List Turn) ServingRefusal) (turns : List Turn) : Type 0 where
  pub completes : completed ≡ true
  pub later : List Turn
  pub served : rest ≡ Ok later
  pub joined : turns ≡ ts ++ later

goes-on : (ts : List Turn) (rest : Result (List Turn) ServingRefusal) (turns : List Turn) → with_turns ts rest ≡ Ok turns → GoesOn true ts rest turns
goes-on ts (Ok later) turns e = record { completes = refl; later = later; served = refl; joined = same e } where
  same : (let r : Result (List Turn) ServingRefusal = Ok (ts ++ later) in r ≡ Ok turns) → turns ≡ ts ++ later
  same e = cc
goes-on ts (Err refusal) turns e = cc

pub chosen : (many completed : Bool) (ts : List Turn) (rest : Result (List Turn) ServingRefusal) (line : ℕ) (turns : List Turn) → (if many then Err (too_many_turns line) else if completed then with_turns ts rest else Err (not_served line)) ≡ Ok turns → GoesOn completed ts rest turns
chosen true completed ts rest line turns e = cc
chosen false true ts rest line turns e = goes-on ts rest turns e
chosen false false ts rest line turns e = cc

-- ---- a step that goes on where an SC fails goes on where it stores

goes : (ask : Ask) (r : Option ℕ) (finish : List ℕ → Bool → Finished) (words : ℕ → List ℕ) (sc_ok : Bool) (c : Change) → change_by ask r finish words sc_ok ≡ Ok c → (d : Change) × (change_by ask r finish words true ≡ Ok d)
goes Ask.Plain r finish words sc_ok c e = (_, refl)
goes (Ask.Put byte) r finish words sc_ok c e = (_, refl)
goes (Ask.NeedsShared x lr) r finish words sc_ok c e = (_, refl)
goes (Ask.NeedsExclusive x) r finish words sc_ok c e = (_, refl)
goes (Ask.Conditional x) r finish words sc_ok c e = (_, refl)
goes (Ask.Halt cause) r finish words sc_ok c e = cc

module _ (code : List CodeWord) (items : ItemTable) (words : ℕ → List ℕ) (g : FlatHart) where
  abbrev by : Bool → Result Change HaltCause
  by b = change_by (ask_of code items g.hart) g.reserved (finish_of code items g.hart) words b

  step-goes : (sc_ok : Bool) (c : Change) → hart_step code items g words sc_ok ≡ Ok c → (d : Change) × (hart_step code items g words true ≡ Ok d)
  unfolding hart_step
  step-goes sc_ok c e = at g.hart.halt refl e where
    at : (o : Option HaltCause) → g.hart.halt ≡ o → unless_halted o (by sc_ok) ≡ Ok c → (d : Change) × (unless_halted g.hart.halt (by true) ≡ Ok d)
    at None is e =
        let d = goes (ask_of code items g.hart) g.reserved (finish_of code items g.hart) words sc_ok c e in
        (d.0, ap (λ o. unless_halted o (by true)) is ∙ d.1)
    at (Some cause) is e = cc

-- ---- one operation

-- what is served isn't an SC that fails though its hart has the item reserved
served-step : (m : MachineValue) (f next : FlatMachine) (op : Op) → Shows m f → Harts m f → legal_step m.code m.items f op ≡ Some next → completes_op op (run_of (turns_to_complete op.hart m) m).answers ≡ true → storing_step m.code m.items f op ≡ Some next
served-step m f next op shows harts legal completes = at (fails_reserved m.code m.items f op) refl where
  at : (b : Bool) → fails_reserved m.code m.items f op ≡ b → storing_step m.code m.items f op ≡ Some next
  at false none = step-stores m.code m.items f next op legal none
  at true fails =
      let c = record_change m.code m.items f next op legal in
      let d = step-goes m.code m.items (item_words f) (flat_hart f op.hart) (is_sc_ok op.effect) c.change c.step in
      let g = some-hart (hart_at op.hart m) (harts op.hart (in_range m.code m.items f op.hart (item_words f) true d.0 d.1)) in
      let made = op-completes m f op.hart g.0 shows g.1 d.0 d.1 op in
      let same = (and_parts (nat_eq op.pc g.0.hart.pc) (same_effect op.effect d.0.effect) (and_parts (nat_eq op.hart op.hart) (nat_eq op.pc g.0.hart.pc && same_effect op.effect d.0.effect) (sym made.1 ∙ completes)).1).1 in
      let stores : fails_reserved m.code m.items f op ≡ false = subst (λ (a : Effect). fails_by (ask_of m.code m.items (flat_hart f op.hart).hart) (flat_hart f op.hart).reserved a ≡ false) (sym (same_effect_is op.effect d.0.effect same)) (not-failed m.code m.items (item_words f) (flat_hart f op.hart) d.0 d.1) in
      absurd (true≢false (sym fails ∙ stores))

-- ---- lists

module _ (m : MachineValue) (f : FlatMachine) (op : Op) (ops : List Op) (last : FlatMachine) (line made : ℕ) (turns : List Turn) (shows : Shows m f) (harts : Harts m f) where
  abbrev ts : List Turn
  ts = turns_to_complete op.hart m

  abbrev m2 : MachineValue
  m2 = (run_of ts m).machine

  abbrev goes-so : Type 0
  goes-so = GoesOn (completes_op op (run_of ts m).answers) ts (serve_from (line + 1) (made + length ts) ops m2) turns

  on : ((k : MachineValue) (f2 : FlatMachine) (line made : ℕ) (later : List Turn) → Shows k f2 → Harts k f2 → legal_run k.code k.items f2 ops ≡ Some last → serve_from line made ops k ≡ Ok later → storing_run k.code k.items f2 ops ≡ Some last) → goes-so → LegalFirst m.code m.items f op ops last → storing_run m.code m.items f (op ∷ ops) ≡ Some last
  on rest g first =
      let stores = served-step m f first.next op shows harts first.step g.completes in
      let one = stepped m.code m.items f op first.next stores in
      let legal : legal_run m2.code m2.items first.next ops ≡ Some last = subst (λ (a : Frame). legal_run a.code a.items first.next ops ≡ Some last) (sym (run-frame ts m)) first.rest in
      let later : storing_run m2.code m2.items first.next ops ≡ Some last = rest m2 first.next (line + 1) (made + length ts) g.later (shows-next m f op first.next shows harts one) (harts-next m f op first.next shows harts one) legal g.served in
      ap (option_and_then (λ next. storing_run m.code m.items next ops)) stores ∙ subst (λ (a : Frame). storing_run a.code a.items first.next ops ≡ Some last) (run-frame ts m) later

  goes-here : serve_from line made (op ∷ ops) m ≡ Ok turns → goes-so
  unfolding serve_from
  goes-here e = chosen (nat_lt turn_limit (made + length ts)) (completes_op op (run_of ts m).answers) ts (serve_from (line + 1) (made + length ts) ops m2) line turns e

pub served-stores : (ops : List Op) (m : MachineValue) (f last : FlatMachine) (line made : ℕ) (turns : List Turn) → Shows m f → Harts m f → legal_run m.code m.items f ops ≡ Some last → serve_from line made ops m ≡ Ok turns → storing_run m.code m.items f ops ≡ Some last
unfolding serve_from legal_run
served-stores [] m f last line made turns shows harts run e = run
served-stores (op ∷ ops) m f last line made turns shows harts run e =
    on m f op ops last line made turns shows harts (λ m2 f2 line made later shows harts run e. served-stores ops m2 f2 last line made later shows harts run e) (goes-here m f op ops last line made turns shows harts e) (legal_first m.code m.items f op ops last run)

pub served-completed : (t : TreeValue) (i : ImageValue) (m : MachineValue) → IsTree t → start_of t i ≡ Ok m → has_room m ≡ true → (ops : List Op) (last : FlatMachine) (turns : List Turn) → legal_run m.code m.items (flat_start_of t i) ops ≡ Some last → serve_of ops m ≡ Ok turns → Completed m ops last turns
unfolding serve_of
served-completed t i m tree built room ops last turns run is = by (every-order t i m tree built room ops last stores) where
  s : StartShows m (flat_start_of t i)
  s = start-shows t i m tree built room

  stores : storing_run m.code m.items (flat_start_of t i) ops ≡ Some last
  stores = served-stores ops m (flat_start_of t i) last 1 0 turns s.shows s.harts run (sym (ap (λ b. if b then serve_from 1 0 ops m else Err no_room) room) ∙ is)

  one : (a b : List Turn) → (let r : Result (List Turn) ServingRefusal = Ok a in r ≡ Ok b) → a ≡ b
  one a b e = cc

  never : (at : ℕ) → (let r : Result (List Turn) ServingRefusal = Err (too_many_turns at) in r ≡ Ok turns) → ⊥
  never at e = cc

  by : IsServed ops m last → Completed m ops last turns
  by (shown ts made d) = subst (Completed m ops last) (one ts turns (sym made ∙ is)) d
  by (too_long at made) = absurd (never at (sym made ∙ is))
