-- The turns that complete a hart's next instruction, in a machine at rest with room.
-- Letters: h is the hart, m a machine, ts and us are turns, a an answer.
use Rattle.std.proofs.Common.{◌≡◌, ℕ, true, List, [], ◌∷◌, ◌++◌, Some, Result, Ok, refl, sym, ap, subst, ◌∙◌, arith}
use Rattle.std.specs.Prelude.{nat_eq}
use Rattle.std.specs.List.{list_all}
use Rattle.std.specs.Cmp.Derive.{both_true}
use Rattle.std.proofs.lemmas.Bool.{and_parts, eq-eqb}
use Rattle.std.proofs.lemmas.Bool.Decides.{nat_tests}
use Rattle.serving_model.specs.DdmTypes.declared.answers.TurnAnswer.{TurnAnswer}
use Rattle.serving_model.specs.DdmTypes.declared.answers.TxKind.{TxKind}
use Rattle.serving_model.specs.DdmTypes.declared.keys.Key.{Key}
use Rattle.serving_model.specs.DdmTypes.declared.operations.HaltCause.{HaltCause}
use Rattle.serving_model.specs.DdmTypes.declared.operations.Op.{Op}
use Rattle.serving_model.specs.DdmTypes.declared.turns.Turn.{Turn}
use Rattle.bus_laws.specs.FlatModel.Flat.{Change, FlatHart, hart_step}
use Rattle.serving_model.specs.FlatModel.Legal.{same_effect}
use Rattle.bus_laws.proofs.FlatModel.Runs.{same_effect_refl}
use Rattle.serving_model.specs.TreeModel.State.Values.{LeafValue, dir_node, MachineValue}
use Rattle.serving_model.specs.TreeModel.State.Place.{at_top, key_at_leaf}
use Rattle.serving_model.specs.TreeModel.State.Shape.{Frame, IsShaped}
use Rattle.serving_model.specs.TreeModel.Turns.HartTurn.{deed_of, answer_of_deed, leaf_step}
use Rattle.serving_model.specs.TreeModel.Turns.Machine.{Turned, answer_here, turn_of, run_of}
use Rattle.serving_model.specs.TreeRules.Bus.Rules.{IsMachineOk, items_of_machine}
use Rattle.serving_model.specs.Rest.{is_at_rest, has_room}
use Rattle.serving_model.specs.Parts.{is_granted, FlatView, AllHave}
use Rattle.serving_model.specs.OneLeaf.{leaf_hart, hart_at, MayEndFor}
use Rattle.serving_model.specs.Serving.{walks_of, turns_behind, turns_to_complete, same_operation, completes_op}
use Rattle.serving_model.specs.Laws.{Completes}
use Rattle.serving_model.proofs.TreeModel.FrameKept.{turn-frame, run-frame}
use Rattle.serving_model.proofs.TreeModel.TurnChanges.{turn-answered}
use Rattle.serving_model.proofs.Instruction.{Reads, root-reads, came}
use Rattle.serving_model.proofs.Completing.{completed}
use Rattle.serving_model.proofs.AtRest.{Does, retires, issues, does}
use Rattle.serving_model.proofs.Found.{RootFound, root-found}

-- ---- answers

skips : (op : Op) (a : TurnAnswer) (answers : List TurnAnswer) → is_granted a ≡ true → completes_op op (a ∷ answers) ≡ completes_op op answers
skips op (TurnAnswer.Granted e) answers granted = refl
skips op (TurnAnswer.Retired o) answers granted = cc
skips op (TurnAnswer.Issued kind x) answers granted = cc
skips op (TurnAnswer.Waiting x) answers granted = cc
skips op (TurnAnswer.Halted cause) answers granted = cc
skips op TurnAnswer.Empty answers granted = cc
skips op (TurnAnswer.Busy cause) answers granted = cc

-- what is granted completes nothing
granted-first : (op : Op) (ts us : List Turn) (m : MachineValue) → list_all is_granted (run_of ts m).answers ≡ true → completes_op op (run_of (ts ++ us) m).answers ≡ completes_op op (run_of us (run_of ts m).machine).answers
unfolding run_of
granted-first op [] us m granted = refl
granted-first op (t ∷ ts) us m granted =
    let both = and_parts (is_granted (turn_of t m).answer) _ granted in
    skips op (turn_of t m).answer (run_of (ts ++ us) (turn_of t m).machine).answers both.0 ∙ granted-first op ts us (turn_of t m).machine both.1

-- the operation, with any key
abbrev pub operation : Key → ℕ → FlatHart → Change → Op
operation key h g c = record { key = key; hart = h; pc = g.hart.pc; effect = c.effect }

pub same-op : (op : Op) (key : Key) (h : ℕ) (g : FlatHart) (c : Change) → op.hart ≡ h → op.pc ≡ g.hart.pc → op.effect ≡ c.effect → same_operation op (operation key h g c) ≡ true
same-op op key h g c hart pc effect = both_true (eq-eqb op.hart h hart) (both_true (eq-eqb op.pc g.hart.pc pc) (subst (λ e. same_effect op.effect e ≡ true) effect (same_effect_refl op.effect)))

module _ (m : MachineValue) (flat : FlatView) (h : ℕ) (g : FlatHart) (c : Change) (shaped : IsShaped m) (ok : IsMachineOk m) (rests : is_at_rest m ≡ true) (room : has_room m ≡ true) (have : AllHave flat m.kids) (may : MayEndFor flat h m) (own : hart_at h m ≡ Some g) (step : hart_step m.code m.items g flat.words true ≡ Ok c) where
  abbrev n : ℕ
  n = items_of_machine m

  abbrev t : Turn
  t = Turn.Hart h 0

  abbrev m1 : MachineValue
  m1 = (turn_of t m).machine

  -- what the hart's first turn answers
  pub data Answers : Type 0 where
    at_once : (key : Key) → (turn_of t m).answer ≡ TurnAnswer.Retired (operation key h g c) → Answers
    asks : (kind : TxKind) (x : ℕ) → (turn_of t m).answer ≡ TurnAnswer.Issued kind x → Answers

  f : RootFound m flat h g ok rests room have own
  f = root-found m flat h g ok rests room have own

  one : Reads (answer_here m.code m.items t) n flat h (λ v. v ≡ f.leaf) at_top (dir_node m.top m.kids)
  one = root-reads (answer_here m.code m.items t) n flat h (λ v. v ≡ f.leaf) m.top m.kids f.root

  now : Key
  now = key_at_leaf one.place one.leaf.done

  leaf-step : hart_step m.code m.items (leaf_hart f.leaf) flat.words true ≡ Ok c
  leaf-step = subst (λ k. hart_step m.code m.items k flat.words true ≡ Ok c) (sym f.is) step

  said : (turn_of t m).answer ≡ answer_of_deed now f.leaf (deed_of m.code m.items 0 f.leaf)
  unfolding leaf_step now deed_of
  said = ap (λ (o : Turned). o.answer) (turn-answered t m _ one.says) ∙ ap (λ v. answer_of_deed now v (deed_of m.code m.items 0 v)) one.is

  number : f.leaf.number ≡ h
  number = eq-fact f.leaf.number h (subst (λ (v : LeafValue). nat_eq v.number h ≡ true) one.is one.number) where
    eq-fact : (a b : ℕ) → nat_eq a b ≡ true → a ≡ b
    eq-fact a b e = grind (arith, nat_tests)

  pub answers : Answers
  answers = by (does m.code m.items flat f.leaf f.calm.rules f.calm.settled c leaf-step 0) where
    by : Does m.code m.items flat f.leaf f.calm.rules f.calm.settled c leaf-step 0 → Answers
    by (retires deed stored kept) = at_once now (said ∙ (ap (answer_of_deed now f.leaf) deed ∙ (ap (λ k. TurnAnswer.Retired (operation now k (leaf_hart f.leaf) c)) number ∙ ap (λ k. TurnAnswer.Retired (operation now h k c)) f.is)))
    by (issues kind x e) = asks kind x (said ∙ e now)

  -- the turn after the walks
  module _ (kind : TxKind) (x : ℕ) (is : (turn_of t m).answer ≡ TurnAnswer.Issued kind x) where
    abbrev pub m3 : MachineValue
    m3 = (run_of (walks_of h m1) m1).machine

    walks-granted : list_all is_granted (run_of (walks_of h m1) m1).answers ≡ true
    walks-granted = (came m flat h 0 kind x shaped ok rests room have may is).served.brings.granted

    pub done : Completes m3 t g flat.words h
    done = completed m flat h 0 kind x shaped ok rests room have may is g own 0

    pub step3 : hart_step m3.code m3.items g flat.words true ≡ Ok c
    step3 = subst (λ (k : Frame). hart_step k.code k.items g flat.words true ≡ Ok c) (sym (run-frame (walks_of h m1) m1 ∙ turn-frame t m)) step

    pub done-same : done.change ≡ c
    done-same = one-of (sym done.step ∙ step3) where
      one-of : {a b : Change} → (let r : Result Change HaltCause = Ok a in r ≡ Ok b) → a ≡ b
      one-of e = cc

  module _ (op : Op) where
    abbrev whole : TurnAnswer → List TurnAnswer
    whole a = a ∷ (run_of (turns_behind h a m1) m1).answers

    by-answer : Answers → (key : Key) × (completes_op op (whole (turn_of t m).answer) ≡ same_operation op (operation key h g c))
    unfolding run_of
    by-answer (at_once key is) = (key, ap (λ a. completes_op op (whole a)) is)
    by-answer (asks kind x is) =
        let d = done kind x is in
        let last : completes_op op ((turn_of t (m3 kind x is)).answer ∷ []) ≡ same_operation op (operation d.key h g c) = ap (λ a. completes_op op (a ∷ [])) d.answer ∙ ap (λ (e : Change). same_operation op (operation d.key h g e)) (done-same kind x is) in
        (d.key, ap (λ a. completes_op op (whole a)) is ∙ (granted-first op (walks_of h m1) (t ∷ []) m1 (walks-granted kind x is) ∙ last))

    -- what the turns complete is that of the step, whatever is asked for
    pub completes-step : (key : Key) × (completes_op op (run_of (turns_to_complete h m) m).answers ≡ same_operation op (operation key h g c))
    unfolding run_of turns_to_complete
    completes-step = by-answer answers

    pub served : op.hart ≡ h → op.pc ≡ g.hart.pc → op.effect ≡ c.effect → completes_op op (run_of (turns_to_complete h m) m).answers ≡ true
    served hart pc effect = completes-step.1 ∙ same-op op completes-step.0 h g c hart pc effect
