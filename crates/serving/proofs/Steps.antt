-- In a machine that shows a flat machine an operation is completed only where its hart's step on the flat memory is, and
-- then the machine shows the flat machine after it.
-- Letters: m is the machine, f the flat one, h a hart, g its state, v its leaf, a an answer, c a change.
use Rattle.std.proofs.Common.{◌≡◌, ℕ, List, ◌∷◌, Option, Some, None, Result, Ok, Err, true, false, refl, sym, ap, subst, ◌∙◌}
use Rattle.std.proofs.lemmas.Bool.{true≢false}
use Rattle.serving.specs.DdmTypes.CodeMap.{CodeWord}
use Rattle.serving.specs.DdmTypes.ItemTable.{ItemTable}
use Rattle.serving.specs.DdmTypes.Keys.{key_zero}
use Rattle.serving.specs.DdmTypes.declared.answers.TurnAnswer.{TurnAnswer}
use Rattle.serving.specs.DdmTypes.declared.answers.TxKind.{TxKind}
use Rattle.serving.specs.DdmTypes.declared.keys.Key.{Key}
use Rattle.serving.specs.DdmTypes.declared.operations.HaltCause.{HaltCause}
use Rattle.serving.specs.DdmTypes.declared.operations.Op.{Op}
use Rattle.serving.specs.DdmTypes.declared.turns.Turn.{Turn}
use Rattle.serving.specs.FlatModel.declared.Ask.{Ask}
use Rattle.serving.specs.FlatModel.Hart.{ask_of, finish_of}
use Rattle.serving.specs.FlatModel.Flat.{Change, FlatHart, no_flat_hart, FlatMachine, flat_hart, item_words, change_by, unless_halted, with_change, hart_step}
use Rattle.serving.specs.TreeModel.State.Place.{at_top, key_at_leaf}
use Rattle.serving.specs.TreeModel.State.Shape.{Skeleton, leaf_bone, dir_bone, Frame, frame_of}
use Rattle.serving.specs.TreeModel.State.Values.{LeafValue, dir_node, MachineValue, root_of}
use Rattle.serving.specs.TreeModel.Turns.HartTurn.{need_of, words_here, change_here, deed_of_change, deed_by_need, deed_unless_waiting, deed_unless_halted, deed_of, answer_of_deed, leaf_step}
use Rattle.serving.specs.TreeModel.Turns.Machine.{Turned, answer_here, names_part, turn_of, run_of}
use Rattle.serving.specs.TreeModel.Turns.Tree.{leaf_of_number, of_leaf}
use Rattle.serving.specs.TreeRules.Bus.Rules.{items_of_machine}
use Rattle.serving.proofs.TreeModel.FrameKept.{run-frame}
use Rattle.serving.proofs.TreeModel.NamedNode.{read_in-is_some}
use Rattle.serving.proofs.TreeModel.TurnChanges.{turn-answered}
use Rattle.serving.specs.ServingModel.OneLeaf.{leaf_hart, hart_at}
use Rattle.serving.specs.ServingModel.Serving.{turns_behind, turns_to_complete, completes_op}
use Rattle.serving.specs.ServingModel.Shows.{view, Shows}
use Rattle.serving.specs.ServingModel.Told.{AreTold}
use Rattle.serving.proofs.ServingModel.Completing.{nothing-waits}
use Rattle.serving.proofs.ServingModel.Found.{RootFound, root-found}
use Rattle.serving.proofs.ServingModel.Instruction.{Reads, root-reads}
use Rattle.serving.proofs.ServingModel.Listed.{some-hart}
use Rattle.serving.proofs.ServingModel.Settled.{LeafRests, leaf-rests}
use Rattle.serving.proofs.ServingModel.Shown.{same-hart, told-here, shown}
use Rattle.serving.specs.Shown.{IsShown}

-- ---- a leaf at rest whose hart's step halts

abbrev IsHalted : TurnAnswer → Type 0
IsHalted a = (cause : HaltCause) × (a ≡ TurnAnswer.Halted cause)

module _ (code : List CodeWord) (items : ItemTable) (v : LeafValue) (rests : LeafRests v) (words : ℕ → List ℕ) (now : Key) where
  abbrev answer : TurnAnswer
  answer = answer_of_deed now v (deed_of code items 0 v)

  running-halts : v.hart.halt ≡ None → (a : Ask) → ask_of code items v.hart ≡ a → (cause : HaltCause) → change_by a v.reservation (finish_of code items v.hart) words true ≡ Err cause → IsHalted answer
  unfolding deed_of change_here
  running-halts running Ask.Plain is cause e = cc
  running-halts running (Ask.Put byte) is cause e = cc
  running-halts running (Ask.NeedsShared x lr) is cause e = cc
  running-halts running (Ask.NeedsExclusive x) is cause e = cc
  running-halts running (Ask.Conditional x) is cause e = cc
  running-halts running (Ask.Halt d) is cause e = (
    d,
    ap (answer_of_deed now v) (ap (deed_unless_halted code items 0 v) running ∙ (ap (deed_unless_waiting code items 0 v) (nothing-waits v rests) ∙ (ap (λ a. deed_by_need code items 0 v (need_of a v)) is ∙ ap (λ a. deed_of_change (change_by a v.reservation (finish_of code items v.hart) (words_here v) true)) is))),
  )

  pub halts : (cause : HaltCause) → hart_step code items (leaf_hart v) words true ≡ Err cause → IsHalted answer
  unfolding hart_step deed_of
  halts cause e = by v.hart.halt refl e where
    by : (o : Option HaltCause) → v.hart.halt ≡ o → unless_halted o (change_by (ask_of code items v.hart) v.reservation (finish_of code items v.hart) words true) ≡ Err cause → IsHalted answer
    by None running e = running-halts running (ask_of code items v.hart) refl cause e
    by (Some d) halted e = (d, ap (λ o. answer_of_deed now v (deed_unless_halted code items 0 v o)) halted)

-- ---- the machine

pub owner : (m : MachineValue) (h : ℕ) → names_part (Turn.Hart h 0) m ≡ true → (g : FlatHart) × (hart_at h m ≡ Some g)
owner m h named = some-hart (hart_at h m) (read_in-is_some (leaf_of_number h) (of_leaf (λ w v. leaf_hart v) no_flat_hart) at_top (root_of m) ∙ (sym (read_in-is_some (leaf_of_number h) (of_leaf (λ w v. key_at_leaf w v.done) key_zero) at_top (root_of m)) ∙ named))

module _ (m : MachineValue) (f : FlatMachine) (h : ℕ) (g : FlatHart) (s : Shows m f) (own : hart_at h m ≡ Some g) where
  abbrev t : Turn
  t = Turn.Hart h 0

  abbrev m1 : MachineValue
  m1 = (turn_of t m).machine

  found : RootFound m (view f) h g s.rules s.rests s.room s.leaves own
  found = root-found m (view f) h g s.rules s.rests s.room s.leaves own

  one : Reads (answer_here m.code m.items t) (items_of_machine m) (view f) h (λ v. v ≡ found.leaf) at_top (dir_node m.top m.kids)
  one = root-reads (answer_here m.code m.items t) (items_of_machine m) (view f) h (λ v. v ≡ found.leaf) m.top m.kids found.root

  now : Key
  now = key_at_leaf one.place one.leaf.done

  said : (turn_of t m).answer ≡ answer_of_deed now found.leaf (deed_of m.code m.items 0 found.leaf)
  unfolding leaf_step now deed_of
  said = ap (λ (o : Turned). o.answer) (turn-answered t m _ one.says) ∙ ap (λ v. answer_of_deed now v (deed_of m.code m.items 0 v)) one.is

  halted : (cause : HaltCause) → hart_step m.code m.items (flat_hart f h) (item_words f) true ≡ Err cause → IsHalted (turn_of t m).answer
  halted cause e =
      let here : hart_step m.code m.items (leaf_hart found.leaf) (item_words f) true ≡ Err cause = subst (λ k. hart_step m.code m.items k (item_words f) true ≡ Err cause) (sym (found.is ∙ same-hart m f h g s own)) e in
      let at = halts m.code m.items found.leaf (leaf-rests found.leaf found.calm.settled.rests) (item_words f) now cause here in
      (at.0, said ∙ at.1)

  abbrev answers : TurnAnswer → List TurnAnswer
  answers a = a ∷ (run_of (turns_behind h a m1) m1).answers

  -- what is completed is a step of the flat machine
  pub step-of : (op : Op) → completes_op op (run_of (turns_to_complete h m) m).answers ≡ true → (c : Change) × (hart_step m.code m.items (flat_hart f h) (item_words f) true ≡ Ok c)
  unfolding run_of turns_to_complete
  step-of op done = by (hart_step m.code m.items (flat_hart f h) (item_words f) true) refl where
    by : (r : Result Change HaltCause) → hart_step m.code m.items (flat_hart f h) (item_words f) true ≡ r → (c : Change) × (hart_step m.code m.items (flat_hart f h) (item_words f) true ≡ Ok c)
    by (Ok c) is = (c, is)
    by (Err cause) is =
        let stops = halted cause is in
        absurd (true≢false (sym done ∙ subst (λ a. completes_op op (answers a) ≡ false) (sym stops.1) refl))

-- ---- what is shown

pub same-bus : (m k : MachineValue) → frame_of k ≡ frame_of m → m.top.bus ≡ 0 → k.top.bus ≡ 0
same-bus m k same top = ap (λ (f : Frame). bus_in f.bones) same ∙ top where
  bus_in : Skeleton → ℕ
  bus_in (leaf_bone number sizes) = 0
  bus_in (dir_bone bus level sizes bones) = bus

module _ (m : MachineValue) (h : ℕ) (is : IsShown m) (named : names_part (Turn.Hart h 0) m ≡ true) where
  -- the walks for what a hart's turn issues
  pub walks-told : (kind : TxKind) (x : ℕ) → (turn_of (Turn.Hart h 0) m).answer ≡ TurnAnswer.Issued kind x → AreTold (turn_of (Turn.Hart h 0) m).machine kind h x
  walks-told kind x issued =
      let own = owner m h named in
      told-here m is.flat h own.0 is.shows own.1 kind x issued

  pub shown-next : (op : Op) → completes_op op (run_of (turns_to_complete h m) m).answers ≡ true → IsShown (run_of (turns_to_complete h m) m).machine
  shown-next op done =
      let own = owner m h named in
      let step = step-of m is.flat h own.0 is.shows own.1 op done in
      record {
        flat = with_change is.flat h step.0;
        shows = shown m is.flat h own.0 is.shows own.1 step.0 step.1;
        top = same-bus m (run_of (turns_to_complete h m) m).machine (run-frame (turns_to_complete h m) m) is.top;
      }
