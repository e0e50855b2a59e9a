-- The hart whose walks have brought its item completes its instruction at its next turn.
-- Letters: n is how many items there are, x the item, h the hart and its leaf, g the hart on the flat machine, v the
-- leaf, m a machine.
use Rattle.std.proofs.Common.{◌≡◌, ℕ, ◌+◌, Bool, true, false, List, [], ◌∷◌, Option, Some, None, Ok, refl, sym, ap, subst, ◌∙◌, arith}
use Rattle.std.specs.Prelude.{nat_eq, if◌then◌else◌}
use Rattle.std.specs.List.{list_all}
use Rattle.std.proofs.lemmas.Bool.{and_parts}
use Rattle.std.proofs.lemmas.Bool.Decides.{nat_tests}
use Rattle.serving_model.specs.DdmTypes.CodeMap.{CodeWord}
use Rattle.serving_model.specs.DdmTypes.ItemTable.{ItemTable}
use Rattle.serving_model.specs.DdmTypes.declared.answers.TurnAnswer.{TurnAnswer}
use Rattle.serving_model.specs.DdmTypes.declared.answers.TxKind.{TxKind}
use Rattle.serving_model.specs.DdmTypes.declared.keys.Key.{Key}
use Rattle.serving_model.specs.DdmTypes.declared.sizes.LeafState.{LeafState}
use Rattle.serving_model.specs.DdmTypes.declared.turns.Turn.{Turn}
use Rattle.bus_laws.specs.FlatModel.declared.Ask.{Ask}
use Rattle.bus_laws.specs.FlatModel.Hart.{HartValue, Finished, ask_of, finish_of}
use Rattle.bus_laws.specs.FlatModel.Flat.{Change, change_by, unless_halted, leaving, storing_to, conditional, FlatHart, hart_step}
use Rattle.serving_model.specs.TreeModel.State.Lists.{find_from}
use Rattle.serving_model.specs.TreeModel.State.States.{is_reading, may_leave, is_waiting}
use Rattle.serving_model.specs.TreeModel.State.Values.{WayValue, LeafValue, MachineValue}
use Rattle.serving_model.specs.TreeModel.State.Leaf.{way_entry, entry_at, leaf_entry, way_waits, waiting_item}
use Rattle.serving_model.specs.TreeModel.State.Place.{key_at_leaf}
use Rattle.serving_model.specs.TreeModel.State.Shape.{Frame, frame_of, IsShaped}
use Rattle.serving_model.specs.TreeModel.Turns.HartTurn.{completes, no_need, need_of, words_here, change_here, deed_of_change, deed_by_need, deed_unless_waiting, deed_unless_halted, deed_of, answer_of_deed, leaf_step}
use Rattle.serving_model.specs.TreeModel.Turns.Machine.{Turned, answer_here, turn_of, run_of}
use Rattle.serving_model.specs.TreeRules.Bus.Rules.{IsMachineOk, items_of_machine}
use Rattle.serving_model.specs.Rest.{way_rests, is_at_rest, has_room}
use Rattle.serving_model.specs.Parts.{FlatView, AllHave}
use Rattle.serving_model.specs.OneLeaf.{leaf_hart, hart_at, MayEndFor, LeafIs}
use Rattle.serving_model.specs.Serving.{walks_of}
use Rattle.serving_model.specs.Laws.{Completes}
use Rattle.serving_model.proofs.TreeModel.FrameKept.{turn-frame, run-frame}
use Rattle.serving_model.proofs.TreeModel.TurnChanges.{turn-answered}
use Rattle.serving_model.proofs.Settled.{LeafRests, leaf-rests}
use Rattle.serving_model.proofs.Wants.{WantsTo, to_read, to_write, to_write_reserved, Wants}
use Rattle.serving_model.proofs.Instruction.{settled-leaf, root-same, root-reads, came}

-- where all entries rest none waits
none-waits : (i : ℕ) (ways : List (Option WayValue)) → list_all way_rests ways ≡ true → find_from way_waits i ways ≡ None
none-waits i [] rests = refl
none-waits i (None ∷ ways) rests = none-waits (i + 1) ways rests
none-waits i (Some e ∷ ways) rests =
    let both = and_parts (may_leave e.state) (list_all way_rests ways) rests in
    rw (not-waiting e.state both.0) (none-waits (i + 1) ways both.1) where
      not-waiting : (s : LeafState) → may_leave s ≡ true → is_waiting s ≡ false
      not-waiting LeafState.Shared rests = refl
      not-waiting LeafState.Exclusive rests = refl
      not-waiting LeafState.Waiting rests = cc
      not-waiting LeafState.Reading rests = cc
      not-waiting LeafState.ReadingWaiting rests = cc

pub nothing-waits : (v : LeafValue) → LeafRests v → waiting_item v.ways v.buffer ≡ None
unfolding waiting_item
nothing-waits v r = rw (none-waits 0 v.ways r.ways, r.buffer) refl

-- ---- the change

module _ (x : ℕ) (reserved : Option ℕ) (ask : Ask) (finish : List ℕ → Bool → Finished) (words here : ℕ → List ℕ) (same : here x ≡ words x) where
  -- on the words that are here it is the same
  pub record Made : Type 0 where
    pub change : Change
    pub step : change_by ask reserved finish words true ≡ Ok change
    pub at_leaf : change_by ask reserved finish here true ≡ Ok change

  made : (state : LeafState) → WantsTo x reserved ask state → Made
  made s (to_read lr is) = record { change = leaving (finish (words x) false) (if lr then Some x else reserved); step = rw is refl; at_leaf = rw (is, same) refl }
  made s (to_write is) = record { change = storing_to x (finish (words x) false) reserved; step = rw is refl; at_leaf = rw (is, same) refl }
  made s (to_write_reserved is has) = record { change = conditional true x (finish (words x)); step = rw (is, has) refl; at_leaf = rw (is, has, same) refl }

module _ (code : List CodeWord) (items : ItemTable) (n : ℕ) (flat : FlatView) (g : FlatHart) (x : ℕ) (state : LeafState) (usable : may_leave state ≡ true) (wants : Wants code items g x state) (v : LeafValue) (is : LeafIs n flat g x state None v) where
  r : LeafRests v
  r = leaf-rests v (settled-leaf n flat g x state usable v is).rests

  entry-is : leaf_entry x v ≡ Some (way_entry is.entry)
  unfolding entry_at
  entry-is = rw is.here refl

  pub here-same : words_here v x ≡ flat.words x
  here-same = rw entry-is (is.copies.each x is.entry is.here (ap is_reading is.in_state ∙ read-done state usable)) where
    read-done : (s : LeafState) → may_leave s ≡ true → is_reading s ≡ false
    read-done LeafState.Shared e = refl
    read-done LeafState.Exclusive e = refl
    read-done LeafState.Waiting e = cc
    read-done LeafState.Reading e = cc
    read-done LeafState.ReadingWaiting e = cc

  at-hand : (s : LeafState) → is.entry.state ≡ s → (ask : Ask) → WantsTo x v.reservation ask s → need_of ask v ≡ no_need
  at-hand s stands ask (to_read lr e) = rw (e, entry-is) refl
  at-hand s stands ask (to_write e) = rw (e, entry-is, stands) refl
  at-hand s stands ask (to_write_reserved e has) = rw (e, has, entry-is, stands) refl

  leaf-wants : WantsTo x v.reservation (ask_of code items v.hart) state
  leaf-wants = subst (λ k. WantsTo x v.reservation (ask_of code items k) state) (sym is.hart) (subst (λ k. WantsTo x k (ask_of code items g.hart) state) (sym is.reserved) wants.asks)

  pub change : Made x v.reservation (ask_of code items v.hart) (finish_of code items v.hart) flat.words (words_here v) here-same
  change = made x v.reservation (ask_of code items v.hart) (finish_of code items v.hart) flat.words (words_here v) here-same state leaf-wants

  running : v.hart.halt ≡ None
  running = ap (λ h. h.halt) is.hart ∙ wants.running

  pub own-is : leaf_hart v ≡ g
  own-is = ap (λ (h : HartValue). record { hart = h; reserved = v.reservation }) is.hart ∙ ap (λ (o : Option ℕ). record { hart = g.hart; reserved = o }) is.reserved

  pub step-is : hart_step code items g flat.words true ≡ Ok change.change
  unfolding hart_step
  step-is = subst (λ k. hart_step code items k flat.words true ≡ Ok change.change) own-is own-step where
    own-step : hart_step code items (leaf_hart v) flat.words true ≡ Ok change.change
    own-step = ap (λ o. unless_halted o (change_by (ask_of code items v.hart) v.reservation (finish_of code items v.hart) flat.words true)) running ∙ change.step

  pub deed-is : (victim : ℕ) → deed_of code items victim v ≡ completes change.change
  unfolding deed_of change_here
  deed-is victim = ap (deed_unless_halted code items victim v) running ∙ (ap (deed_unless_waiting code items victim v) (nothing-waits v r) ∙ (ap (deed_by_need code items victim v) (at-hand state is.in_state (ask_of code items v.hart) leaf-wants) ∙ ap deed_of_change change.at_leaf))

  abbrev pub retired : Key → ℕ → ℕ → TurnAnswer
  retired now h pc = TurnAnswer.Retired (record { key = now; hart = h; pc = pc; effect = change.change.effect })

  pub completing : (h victim : ℕ) (now : Key) → v.number ≡ h → (leaf_step code items now victim v).answer ≡ retired now h g.hart.pc
  unfolding leaf_step
  completing h victim now number = ap (answer_of_deed now v) (deed-is victim) ∙ (ap (λ k. retired now k v.hart.pc) number ∙ ap (λ (b : HartValue). retired now h b.pc) is.hart)

-- ---- of a machine

module _ (m : MachineValue) (flat : FlatView) (h victim : ℕ) (kind : TxKind) (x : ℕ) (shaped : IsShaped m) (ok : IsMachineOk m) (rests : is_at_rest m ≡ true) (room : has_room m ≡ true) (have : AllHave flat m.kids) (may : MayEndFor flat h m) (issued : (turn_of (Turn.Hart h victim) m).answer ≡ TurnAnswer.Issued kind x) (g : FlatHart) (own : hart_at h m ≡ Some g) (later : ℕ) where
  abbrev m1 : MachineValue
  m1 = (turn_of (Turn.Hart h victim) m).machine

  abbrev m3 : MachineValue
  m3 = (run_of (walks_of h m1) m1).machine

  same-frame : (R : Frame → Type 0) → R (frame_of m) → R (frame_of m3)
  same-frame R r = subst R (sym (run-frame (walks_of h m1) m1 ∙ turn-frame (Turn.Hart h victim) m)) r

  pub completed : Completes m3 (Turn.Hart h later) g flat.words h
  completed =
      let c = came m flat h victim kind x shaped ok rests room have may issued in
      let n = items_of_machine m1 in
      let Q : LeafValue → Type 0 = λ v. LeafIs n flat c.g x c.state None v in
      let root = root-same n flat h Q m3.top c.served.top m3.kids c.served.kids c.served.brings.root c.served.rests in
      let one = root-reads (answer_here m3.code m3.items (Turn.Hart h later)) n flat h Q m3.top m3.kids root in
      let wants = same-frame (λ f. Wants f.code f.items c.g x c.state) c.wants in
      let made = change m3.code m3.items n flat c.g x c.state c.usable wants one.leaf one.is in
      let now = key_at_leaf one.place one.leaf.done in
      let says = completing m3.code m3.items n flat c.g x c.state c.usable wants one.leaf one.is h later now (eq-fact one.leaf.number h one.number) in
      let answered = ap (λ (o : Turned). o.answer) (turn-answered (Turn.Hart h later) m3 _ one.says) ∙ says in
      let same : c.g ≡ g = one-of (sym c.own ∙ own) in
      subst (λ k. Completes m3 (Turn.Hart h later) k flat.words h) same (record {
        change = made.change;
        step = step-is m3.code m3.items n flat c.g x c.state c.usable wants one.leaf one.is;
        key = now;
        answer = answered;
      }) where
        eq-fact : (a b : ℕ) → nat_eq a b ≡ true → a ≡ b
        eq-fact a b e = grind (arith, nat_tests)

        one-of : {a b : FlatHart} → Some a ≡ Some b → a ≡ b
        one-of e = cc
