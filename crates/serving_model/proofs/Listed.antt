-- A list of operations of a flat machine, served one at a time from a machine that shows it.
-- Letters: f is the flat machine, m the machine, h a hart, g its state, c the change of its step.
use Rattle.std.proofs.Common.{◌≡◌, ℕ, ◌+◌, ◌<◌, Bool, true, false, List, [], ◌∷◌, ◌++◌, length, Option, Some, None, is_some, Ok, Err, refl, sym, ap, subst, ◌∙◌, append-nil, append_assoc, ◌⊎◌, inl, inr}
use Rattle.std.specs.Prelude.{nat_eq, nat_lt, option_and_then, if◌then◌else◌}
use Rattle.std.specs.Cmp.Derive.{both_true}
use Rattle.std.proofs.lemmas.Bool.{true≢false, eqb-true}
use Rattle.serving_model.specs.DdmTypes.CodeMap.{CodeWord}
use Rattle.serving_model.specs.DdmTypes.ItemTable.{ItemTable}
use Rattle.serving_model.specs.DdmTypes.declared.answers.TurnAnswer.{TurnAnswer}
use Rattle.serving_model.specs.DdmTypes.declared.answers.TxKind.{TxKind}
use Rattle.serving_model.specs.DdmTypes.declared.keys.Key.{Key}
use Rattle.serving_model.specs.DdmTypes.declared.operations.Effect.{Effect}
use Rattle.serving_model.specs.DdmTypes.declared.operations.Op.{Op}
use Rattle.serving_model.specs.DdmTypes.declared.turns.Turn.{Turn}
use Rattle.bus_laws.specs.FlatModel.Flat.{Change, FlatHart, no_flat_hart, FlatMachine, FlatStepped, flat_hart, item_words, with_change, hart_step, flat_step}
use Rattle.serving_model.specs.FlatModel.Legal.{same_effect, if_effect}
use Rattle.bus_laws.proofs.FlatModel.Frames.{same_counts}
use Rattle.bus_laws.proofs.FlatModel.Insert.{change_of, in_range}
use Rattle.bus_laws.proofs.FlatModel.Runs.{same_effect_is}
use Rattle.serving_model.specs.TreeModel.State.Values.{Node, leaf_node, dir_node, MachineValue, root_of}
use Rattle.serving_model.specs.TreeModel.State.Place.{at_top}
use Rattle.serving_model.specs.TreeModel.State.Shape.{Frame, frame_of}
use Rattle.serving_model.specs.TreeModel.Turns.Tree.{leaf_of_number, of_leaf}
use Rattle.serving_model.specs.TreeModel.Turns.Machine.{Turned, with_root, turn_root, turn_of, run_of}
use Rattle.serving_model.specs.OneLeaf.{leaf_hart, hart_at}
use Rattle.serving_model.specs.Serving.{turn_limit, with_turns, walks_of, turns_behind, turns_to_complete, completes_op, serve_from}
use Rattle.serving_model.specs.Shows.{Shows}
use Rattle.serving_model.specs.ServedLists.{storing_step, storing_run, Completed, IsServedList, served, too_many}
use Rattle.serving_model.proofs.TreeModel.FrameKept.{run-frame}
use Rattle.serving_model.proofs.TreeModel.NamedNode.{read_in-is_some}
use Rattle.serving_model.proofs.TreeModel.TurnChanges.{turn-answered}
use Rattle.serving_model.proofs.Spine.{bone_over, over-is}
use Rattle.serving_model.proofs.Instruction.{run-on, issued-answer}
use Rattle.serving_model.proofs.Served.{operation, same-op}
use Rattle.serving_model.proofs.Shown.{same-hart, first-answer, walks-keep, last-answer, op-served, shown}

-- ---- the operations of a turn

root-keeps : (n : Node) (m : MachineValue) → (with_root n m).ops ≡ m.ops
root-keeps (leaf_node v) m = refl
root-keeps (dir_node d ns) m = refl

retired-adds : (t : Turn) (m : MachineValue) (op : Op) → (turn_of t m).answer ≡ TurnAnswer.Retired op → (turn_of t m).machine.ops ≡ m.ops ++ op ∷ []
retired-adds t m op is = ap (λ (o : Turned). o.machine.ops) (turn-answered t m (TurnAnswer.Retired op) (issued-answer t m (TurnAnswer.Retired op) is (λ e. cc))) ∙ ap (λ ops. ops ++ op ∷ []) (root-keeps (turn_root t m) m)

issued-keeps : (t : Turn) (m : MachineValue) (kind : TxKind) (x : ℕ) → (turn_of t m).answer ≡ TurnAnswer.Issued kind x → (turn_of t m).machine.ops ≡ m.ops
issued-keeps t m kind x is = ap (λ (o : Turned). o.machine.ops) (turn-answered t m (TurnAnswer.Issued kind x) (issued-answer t m (TurnAnswer.Issued kind x) is (λ e. cc))) ∙ root-keeps (turn_root t m) m

-- ---- one operation

module _ (m : MachineValue) (f : FlatMachine) (h : ℕ) (g : FlatHart) (c : Change) (s : Shows m f) (own : hart_at h m ≡ Some g) (step : hart_step m.code m.items (flat_hart f h) (item_words f) true ≡ Ok c) where
  abbrev t : Turn
  t = Turn.Hart h 0

  abbrev m1 : MachineValue
  m1 = (turn_of t m).machine

  pub record Adds (k : MachineValue) : Type 0 where
    pub key : Key
    pub adds : k.ops ≡ m.ops ++ operation key h g c ∷ []

  by-answer : (a : TurnAnswer) → (turn_of t m).answer ≡ a → ((key : Key) → a ≡ TurnAnswer.Retired (operation key h g c) → Adds (run_of (turns_behind h a m1) m1).machine)
  unfolding run_of
  by-answer a is key e = subst (λ b. Adds (run_of (turns_behind h b m1) m1).machine) (sym e) (record { key = key; adds = retired-adds t m (operation key h g c) (is ∙ e) })

  by-walks : (kind : TxKind) (x : ℕ) → (turn_of t m).answer ≡ TurnAnswer.Issued kind x → Adds (run_of (turns_behind h (TurnAnswer.Issued kind x) m1) m1).machine
  unfolding run_of
  by-walks kind x is =
      let last = last-answer m f h g s own c step kind x is in
      let m3 = (run_of (walks_of h m1) m1).machine in
      let kept : m3.ops ≡ m.ops = walks-keep m f h g s own c step kind x is ∙ issued-keeps t m kind x is in
      let adds : (turn_of t m3).machine.ops ≡ m.ops ++ operation last.0 h g c ∷ [] = retired-adds t m3 (operation last.0 h g c) last.1 ∙ ap (λ ops. ops ++ operation last.0 h g c ∷ []) kept in
      subst Adds (sym (run-on (walks_of h m1) (t ∷ []) m1)) (record { key = last.0; adds = adds })

  pub adds-one : Adds (run_of (turns_to_complete h m) m).machine
  unfolding run_of turns_to_complete
  adds-one = by (first-answer m f h g s own c step) where
    by : ((key : Key) × ((turn_of t m).answer ≡ TurnAnswer.Retired (operation key h g c))) ⊎ ((kind : TxKind) × (x : ℕ) × ((turn_of t m).answer ≡ TurnAnswer.Issued kind x)) → Adds (run_of (turns_behind h (turn_of t m).answer m1) m1).machine
    by (inl once) = by-answer (turn_of t m).answer refl once.0 once.1
    by (inr issued) = subst (λ a. Adds (run_of (turns_behind h a m1) m1).machine) (sym issued.2) (by-walks issued.0 issued.1 issued.2)

-- ---- a step of the flat machine

pub record Stepped (code : List CodeWord) (items : ItemTable) (f : FlatMachine) (op : Op) (next : FlatMachine) : Type 0 where
  pub change : Change
  pub step : hart_step code items (flat_hart f op.hart) (item_words f) true ≡ Ok change
  pub pc : (flat_hart f op.hart).hart.pc ≡ op.pc
  pub effect : change.effect ≡ op.effect
  pub after : with_change f op.hart change ≡ next

pub stepped : (code : List CodeWord) (items : ItemTable) (f : FlatMachine) (op : Op) (next : FlatMachine) → storing_step code items f op ≡ Some next → Stepped code items f op next
stepped code items f op next e = by-pc (nat_eq (flat_hart f op.hart).hart.pc op.pc) refl e where
  one : (a b : FlatMachine) → Some a ≡ Some b → a ≡ b
  one a b e = cc

  by-effect : (effect : Effect) (n : FlatMachine) (b : Bool) → same_effect effect op.effect ≡ b → nat_eq (flat_hart f op.hart).hart.pc op.pc ≡ true → flat_step code items f op.hart true ≡ Ok (effect, n) → (if b then Some n else None) ≡ Some next → Stepped code items f op next
  by-effect effect n true same pc is e =
      let c = change_of code items f n op.hart true effect is in
      record { change = c.change; step = c.step; pc = eqb-true _ _ pc; effect = c.made ∙ same_effect_is effect op.effect same; after = c.after ∙ one n next e }
  by-effect effect n false same pc is e = cc

  by-step : (r : FlatStepped) → flat_step code items f op.hart true ≡ r → nat_eq (flat_hart f op.hart).hart.pc op.pc ≡ true → if_effect op.effect r ≡ Some next → Stepped code items f op next
  by-step (Ok x) is pc e = by-effect x.0 x.1 (same_effect x.0 op.effect) refl pc is e
  by-step (Err cause) is pc e = cc

  by-pc : (b : Bool) → nat_eq (flat_hart f op.hart).hart.pc op.pc ≡ b → (if b then if_effect op.effect (flat_step code items f op.hart true) else None) ≡ Some next → Stepped code items f op next
  by-pc true is e = by-step (flat_step code items f op.hart true) refl is e
  by-pc false is e = cc

-- ---- harts

abbrev pub Harts : MachineValue → FlatMachine → Type 0
Harts m f = (h : ℕ) → h < length f.harts → is_some (hart_at h m) ≡ true

pub hart-bones : (h : ℕ) (m : MachineValue) → is_some (hart_at h m) ≡ bone_over h (frame_of m).bones
hart-bones h m = read_in-is_some (leaf_of_number h) (of_leaf (λ w v. leaf_hart v) no_flat_hart) at_top (root_of m) ∙ over-is h (root_of m)

pub same-harts : (h : ℕ) (ts : List Turn) (m : MachineValue) → is_some (hart_at h (run_of ts m).machine) ≡ is_some (hart_at h m)
same-harts h ts m = hart-bones h (run_of ts m).machine ∙ (ap (λ (a : Frame). bone_over h a.bones) (run-frame ts m) ∙ sym (hart-bones h m))

pub some-hart : (o : Option FlatHart) → is_some o ≡ true → (g : FlatHart) × (o ≡ Some g)
some-hart None e = absurd (true≢false (sym e))
some-hart (Some g) e = (g, refl)

-- ---- after one operation

module _ (m : MachineValue) (f : FlatMachine) (op : Op) (next : FlatMachine) (s : Shows m f) (harts : Harts m f) (one : Stepped m.code m.items f op next) where
  abbrev after : MachineValue
  after = (run_of (turns_to_complete op.hart m) m).machine

  pub own-hart : (g : FlatHart) × (hart_at op.hart m ≡ Some g)
  own-hart = some-hart (hart_at op.hart m) (harts op.hart (in_range m.code m.items f op.hart (item_words f) true one.change one.step))

  pub shows-next : Shows after next
  shows-next = subst (Shows after) one.after (shown m f op.hart own-hart.0 s own-hart.1 one.change one.step)

  pub harts-next : Harts after next
  harts-next i l = same-harts i (turns_to_complete op.hart m) m ∙ harts i (subst (λ k. i < k) (ap (λ (n : FlatMachine). length n.harts) (sym one.after) ∙ (same_counts f op.hart one.change).0) l)

-- ---- the list

module _ (m : MachineValue) (f : FlatMachine) (op : Op) (ops : List Op) (next last : FlatMachine) (line made : ℕ) (s : Shows m f) (harts : Harts m f) (one : Stepped m.code m.items f op next)
    (rest : (m2 : MachineValue) (line made : ℕ) → Shows m2 next → Harts m2 next → storing_run m2.code m2.items next ops ≡ Some last → IsServedList line made m2 ops last) (later : storing_run m.code m.items next ops ≡ Some last) where
  abbrev h : ℕ
  h = op.hart

  abbrev c : Change
  c = one.change

  hart : (g : FlatHart) × (hart_at h m ≡ Some g)
  hart = own-hart m f op next s harts one

  abbrev g : FlatHart
  g = hart.0

  abbrev ts : List Turn
  ts = turns_to_complete h m

  abbrev m2 : MachineValue
  m2 = (run_of ts m).machine

  later2 : storing_run m2.code m2.items next ops ≡ Some last
  later2 = subst (λ (a : Frame). storing_run a.code a.items next ops ≡ Some last) (sym (run-frame ts m)) later

  pc : op.pc ≡ g.hart.pc
  pc = sym one.pc ∙ ap (λ (a : FlatHart). a.hart.pc) (sym (same-hart m f h g s hart.1))

  effect : op.effect ≡ c.effect
  effect = sym one.effect

  completes : completes_op op (run_of ts m).answers ≡ true
  completes = op-served m f h g s hart.1 c one.step op refl pc effect

  adds : Adds m f h g c s hart.1 one.step m2
  adds = adds-one m f h g c s hart.1 one.step

  on : (turns : List Turn) → Completed m2 ops last turns → Completed m (op ∷ ops) last (ts ++ turns)
  on turns d = record {
    done = operation adds.key h g c ∷ d.done;
    operations = ap (λ (k : MachineValue). k.ops) (run-on ts turns m) ∙ (d.operations ∙ (ap (λ l. l ++ d.done) adds.adds ∙ append_assoc m.ops (operation adds.key h g c ∷ []) d.done));
    same = both_true (same-op op adds.key h g c refl pc effect) d.same;
    shows = subst (λ k. Shows k last) (sym (run-on ts turns m)) d.shows;
  }

  step-on : IsServedList line made m (op ∷ ops) last
  unfolding serve_from
  step-on = at (nat_lt turn_limit (made + length ts)) refl where
    serves : nat_lt turn_limit (made + length ts) ≡ false → serve_from line made (op ∷ ops) m ≡ with_turns ts (serve_from (line + 1) (made + length ts) ops m2)
    serves few = rw (few, completes) refl

    by : nat_lt turn_limit (made + length ts) ≡ false → IsServedList (line + 1) (made + length ts) m2 ops last → IsServedList line made m (op ∷ ops) last
    by few (served turns is d) = served (ts ++ turns) (serves few ∙ ap (with_turns ts) is) (on turns d)
    by few (too_many at is) = too_many at (serves few ∙ ap (with_turns ts) is)

    at : (b : Bool) → nat_lt turn_limit (made + length ts) ≡ b → IsServedList line made m (op ∷ ops) last
    at true many = too_many line (rw many refl)
    at false few = by few (rest m2 (line + 1) (made + length ts) (shows-next m f op next s harts one) (harts-next m f op next s harts one) later2)

pub listed : (ops : List Op) (m : MachineValue) (f last : FlatMachine) (line made : ℕ) → Shows m f → Harts m f → storing_run m.code m.items f ops ≡ Some last → IsServedList line made m ops last
unfolding serve_from run_of
listed [] m f last line made s harts e = served [] refl (record { done = []; operations = sym (append-nil m.ops); same = refl; shows = subst (Shows m) (one f last e) s }) where
  one : (a b : FlatMachine) → Some a ≡ Some b → a ≡ b
  one a b e = cc
listed (op ∷ ops) m f last line made s harts e = at (λ m2 f2 line made shows harts run. listed ops m2 f2 last line made shows harts run) (storing_step m.code m.items f op) refl e where
  at : ((m2 : MachineValue) (f2 : FlatMachine) (line made : ℕ) → Shows m2 f2 → Harts m2 f2 → storing_run m2.code m2.items f2 ops ≡ Some last → IsServedList line made m2 ops last) → (o : Option FlatMachine) → storing_step m.code m.items f op ≡ o → option_and_then (λ next. storing_run m.code m.items next ops) o ≡ Some last → IsServedList line made m (op ∷ ops) last
  at rest None is e = cc
  at rest (Some next) is e = step-on m f op ops next last line made s harts (stepped m.code m.items f op next is) (λ m2 line made shows harts run. rest m2 next line made shows harts run) e
