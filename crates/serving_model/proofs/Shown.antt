-- A machine at rest that shows a flat machine, after the turns that complete a hart's next instruction: it shows the
-- flat machine after the hart's step.
-- Letters: f is the flat machine before, h the hart, g the hart's state, c the change of its step, m the machine.
use Rattle.std.proofs.Common.{◌≡◌, ℕ, ◌<◌, Bool, true, false, List, [], ◌∷◌, length, Option, Some, None, Result, Ok, Err, refl, sym, ap, subst, ◌∙◌, arith, ◌⊎◌, inl, inr}
use Rattle.std.specs.Prelude.{nat_eq, nat_lt, ◌&&◌, ◌||◌}
use Rattle.std.proofs.lemmas.Bool.{or_right, true≢false}
use Rattle.std.proofs.lemmas.Bool.Decides.{nat_tests}
use Rattle.serving_model.specs.DdmTypes.ItemTable.{ItemTable, item_count}
use Rattle.serving_model.specs.DdmTypes.declared.answers.TurnAnswer.{TurnAnswer}
use Rattle.serving_model.specs.DdmTypes.declared.answers.TxKind.{TxKind}
use Rattle.serving_model.specs.DdmTypes.declared.keys.Key.{Key}
use Rattle.serving_model.specs.DdmTypes.declared.operations.HaltCause.{HaltCause}
use Rattle.serving_model.specs.DdmTypes.declared.operations.Op.{Op}
use Rattle.serving_model.specs.DdmTypes.declared.sizes.LeafState.{LeafState}
use Rattle.serving_model.specs.DdmTypes.declared.turns.Turn.{Turn}
use Rattle.bus_laws.specs.FlatModel.declared.Ask.{Ask}
use Rattle.bus_laws.specs.FlatModel.Hart.{HartValue, ask_of, finish_of}
use Rattle.bus_laws.specs.FlatModel.Flat.{Stored, Change, conditional, change_by, unless_halted, has_reserved, FlatHart, no_flat_hart, FlatMachine, flat_hart, item_words, with_change, hart_step}
use Rattle.bus_laws.proofs.FlatModel.Insert.{in_range}
use Rattle.bus_laws.proofs.TreeKept.{turn-keeps_rules, run-keeps_rules}
use Rattle.serving_model.specs.TreeModel.State.Values.{LeafValue, Node, Nodes, leaf_node, dir_node, no_nodes, more_nodes, MachineValue}
use Rattle.serving_model.specs.TreeModel.State.Leaf.{unreserved}
use Rattle.serving_model.specs.TreeModel.State.Place.{at_top}
use Rattle.serving_model.specs.TreeModel.State.Shape.{Skeleton, leaf_bone, dir_bone, Frame, frame_of}
use Rattle.serving_model.specs.TreeModel.Turns.Tree.{of_leaf}
use Rattle.serving_model.specs.TreeModel.Turns.Machine.{turn_of, run_of}
use Rattle.serving_model.specs.TreeRules.Bus.Rules.{items_of_machine}
use Rattle.serving_model.specs.Rest.{tree_rests, trees_have_room, is_at_rest, has_room}
use Rattle.serving_model.specs.Parts.{FlatView, MayEnd, Have, AllHave}
use Rattle.serving_model.specs.OneLeaf.{leaf_hart, hart_at, written_item, MayEndFor, LeafIs}
use Rattle.serving_model.specs.Serving.{walks_of, turns_behind, turns_to_complete, same_operation, completes_op}
use Rattle.serving_model.specs.Shows.{same_reservation, view, Shows}
use Rattle.serving_model.specs.Laws.{Comes}
use Rattle.serving_model.specs.Told.{AreTold}
use Rattle.serving_model.proofs.TreeModel.FrameKept.{turn-frame, run-frame, turn-shape, run-shape}
use Rattle.serving_model.proofs.Wants.{WantsTo, to_read, to_write, to_write_reserved, Wants}
use Rattle.serving_model.proofs.Instruction.{run-on, same-top, root-same, Reads, root-reads, Came, came, walked, told}
use Rattle.serving_model.proofs.Completing.{own-is}
use Rattle.serving_model.proofs.Found.{RootFound, root-found}
use Rattle.serving_model.proofs.Served.{operation, Answers, at_once, asks, answers, done, done-same, step3, completes-step, served}
use Rattle.serving_model.proofs.Stepped.{same-is, same-self, Ended}
use Rattle.serving_model.proofs.Turned.{turn-shows}

-- ---- reservations before a store

-- hart k's reservation, or, before a store to an item, that without one on it
ended : Option ℕ → Option ℕ → Option ℕ → Bool
ended None reserved r = false
ended (Some x) reserved r = same_reservation (unreserved x reserved) r

abbrev may_before : FlatMachine → Option ℕ → ℕ → Option ℕ → Bool
may_before f written k r = same_reservation (flat_hart f k).reserved r || ended written (flat_hart f k).reserved r

abbrev view_before : FlatMachine → Option ℕ → FlatView
view_before f written = record { words = item_words f; hart = λ k. (flat_hart f k).hart; may_reserve = may_before f written }

or-left : (a b : Bool) → a ≡ true → (a || b) ≡ true
or-left true b e = refl
or-left false b e = cc

mutual
  weaker : (f : FlatMachine) (written : Option ℕ) (m : Node) → Have (view f) m → Have (view_before f written) m
  weaker f written (leaf_node v) has = record { each = has.each; same_hart = has.same_hart; allowed = or-left _ _ has.allowed; here = has.here }
  weaker f written (dir_node d ns) has = all-weaker f written ns has

  all-weaker : (f : FlatMachine) (written : Option ℕ) (ns : Nodes) → AllHave (view f) ns → AllHave (view_before f written) ns
  all-weaker f written no_nodes has = tt
  all-weaker f written (more_nodes m ns) has = (weaker f written m has.0, all-weaker f written ns has.1)

unreserved-again : (x : ℕ) (r : Option ℕ) → unreserved x (unreserved x r) ≡ unreserved x r
unreserved-again x r = at (has_reserved r x) refl where
  at : (b : Bool) → has_reserved r x ≡ b → unreserved x (unreserved x r) ≡ unreserved x r
  at true has = rw has refl
  at false none =
      let same : unreserved x r ≡ r = rw none refl in
      ap (unreserved x) same

may-end : (f : FlatMachine) (x : ℕ) → MayEnd (view_before f (Some x)) x
unfolding ended
may-end f x k r allowed = by (same_reservation (flat_hart f k).reserved r) refl allowed where
  last : unreserved x (flat_hart f k).reserved ≡ unreserved x r → may_before f (Some x) k (unreserved x r) ≡ true
  last same = or_right (same_reservation (flat_hart f k).reserved (unreserved x r)) (same_reservation (unreserved x (flat_hart f k).reserved) (unreserved x r)) (subst (λ o. same_reservation (unreserved x (flat_hart f k).reserved) o ≡ true) same (same-self (unreserved x (flat_hart f k).reserved)))

  by : (b : Bool) → same_reservation (flat_hart f k).reserved r ≡ b → (b || same_reservation (unreserved x (flat_hart f k).reserved) r) ≡ true → may_before f (Some x) k (unreserved x r) ≡ true
  by true is e = last (ap (unreserved x) (same-is (flat_hart f k).reserved r is))
  by false is e = last (sym (unreserved-again x (flat_hart f k).reserved) ∙ ap (unreserved x) (same-is (unreserved x (flat_hart f k).reserved) r e))

-- ---- one instruction

-- room, by what no turn changes
room-of : Skeleton → ItemTable → Bool
room-of (leaf_bone number sizes) items = false
room-of (dir_bone bus level sizes bones) items = nat_lt 0 sizes.down_room && trees_have_room (item_count items) bones

module _ (m : MachineValue) (f : FlatMachine) (h : ℕ) (g : FlatHart) (s : Shows m f) (own : hart_at h m ≡ Some g) where
  abbrev t : Turn
  t = Turn.Hart h 0

  abbrev m1 : MachineValue
  m1 = (turn_of t m).machine

  found : RootFound m (view f) h g s.rules s.rests s.room s.leaves own
  found = root-found m (view f) h g s.rules s.rests s.room s.leaves own

  number : found.leaf.number ≡ h
  number = eq-fact found.leaf.number h (subst (λ (v : LeafValue). nat_eq v.number h ≡ true) one.is one.number) where
    eq-fact : (a b : ℕ) → nat_eq a b ≡ true → a ≡ b
    eq-fact a b e = grind (arith, nat_tests)

    one : Reads (of_leaf (λ w v. leaf_hart v) no_flat_hart) (items_of_machine m) (view f) h (λ v. v ≡ found.leaf) at_top (dir_node m.top m.kids)
    one = root-reads (of_leaf (λ w v. leaf_hart v) no_flat_hart) (items_of_machine m) (view f) h (λ v. v ≡ found.leaf) m.top m.kids found.root

  -- the leaf's hart is that of the flat machine
  pub same-hart : g ≡ flat_hart f h
  same-hart =
      let has = found.calm.settled.copies in
      sym found.is ∙ (ap (λ (a : HartValue). record { hart = a; reserved = found.leaf.reservation }) has.same_hart ∙ (ap (λ (a : Option ℕ). record { hart = (flat_hart f found.leaf.number).hart; reserved = a }) (sym (same-is _ _ has.allowed)) ∙ ap (flat_hart f) number))

  abbrev written : Option ℕ
  written = written_item (ask_of m.code m.items g.hart)

  abbrev flat : FlatView
  flat = view_before f written

  have : AllHave flat m.kids
  have = all-weaker f written m.kids s.leaves

  may : MayEndFor flat h m
  may g2 own2 x is = subst (λ o. MayEnd (view_before f o) x) (sym (ap (λ (a : FlatHart). written_item (ask_of m.code m.items a.hart)) (one g g2 (sym own ∙ own2)) ∙ is)) (may-end f x) where
    one : (a b : FlatHart) → Some a ≡ Some b → a ≡ b
    one a b e = cc

  -- the walks for what it issues can be told
  pub told-here : (kind : TxKind) (x : ℕ) → (turn_of t m).answer ≡ TurnAnswer.Issued kind x → AreTold m1 kind h x
  told-here kind x is = told m flat h 0 kind x s.shaped s.rules s.rests s.room have may is

  module _ (c : Change) (flat-step : hart_step m.code m.items (flat_hart f h) (item_words f) true ≡ Ok c) where
    step : hart_step m.code m.items g (item_words f) true ≡ Ok c
    step = subst (λ a. hart_step m.code m.items a (item_words f) true ≡ Ok c) (sym same-hart) flat-step

    within : h < length f.harts
    within = in_range m.code m.items f h (item_words f) true c flat-step

    abbrev Ended-here : ℕ → Option ℕ → Type 0
    Ended-here k r = (r ≡ (flat_hart f k).reserved) ⊎ Ended f h c k r

    at-once : (op : Op) → (turn_of t m).answer ≡ TurnAnswer.Retired op → Shows m1 (with_change f h c)
    at-once op is = turn-shows f h c (λ k r. same_reservation (flat_hart f k).reserved r) (λ k r allowed. inl (sym (same-is _ _ allowed))) m g 0 s.shaped s.rules s.rests s.room s.leaves own step within s.words op is

    -- after walks
    module _ (kind : TxKind) (x : ℕ) (is : (turn_of t m).answer ≡ TurnAnswer.Issued kind x) where
      abbrev ts : List Turn
      ts = walks_of h m1

      abbrev m3 : MachineValue
      m3 = (run_of ts m1).machine

      all : Came m flat h 0 kind x s.shaped s.rules s.rests s.room have may is ts
      all = came m flat h 0 kind x s.shaped s.rules s.rests s.room have may is

      comes : Comes m1 ts flat h x
      comes = walked m flat h 0 kind x s.shaped s.rules s.rests s.room have may is

      frames : frame_of m3 ≡ frame_of m
      frames = run-frame ts m1 ∙ turn-frame t m

      -- what an ended reservation was ended for
      stored-is : {state : LeafState} → (k : ℕ) (r : Option ℕ) (ask : Ask) → WantsTo x g.reserved ask state → change_by ask g.reserved (finish_of m.code m.items g.hart) (item_words f) true ≡ Ok c → ended (written_item ask) (flat_hart f k).reserved r ≡ true → Ended f h c k r
      unfolding ended
      stored-is k r ask (to_read lr e) change left = absurd (true≢false (sym left ∙ ap (λ a. ended (written_item a) (flat_hart f k).reserved r) e))
      stored-is k r ask (to_write e) change left = ends (subst (λ a. change_by a g.reserved (finish_of m.code m.items g.hart) (item_words f) true ≡ Ok c) e change) (subst (λ a. ended (written_item a) (flat_hart f k).reserved r ≡ true) e left) where
        stored-of : Result Change HaltCause → Option Stored
        stored-of (Ok d) = d.stored
        stored-of (Err cause) = None

        ends : change_by (Ask.NeedsExclusive x) g.reserved (finish_of m.code m.items g.hart) (item_words f) true ≡ Ok c → same_reservation (unreserved x (flat_hart f k).reserved) r ≡ true → Ended f h c k r
        ends change left = record { store = record { item = x; words = (finish_of m.code m.items g.hart (item_words f x) false).words }; is = sym (ap stored-of change); left = sym (same-is _ _ left) }
      stored-is k r ask (to_write_reserved e has) change left = ends (subst (λ a. change_by a g.reserved (finish_of m.code m.items g.hart) (item_words f) true ≡ Ok c) e change) (subst (λ a. ended (written_item a) (flat_hart f k).reserved r ≡ true) e left) where
        stored-of : Result Change HaltCause → Option Stored
        stored-of (Ok d) = d.stored
        stored-of (Err cause) = None

        ends : change_by (Ask.Conditional x) g.reserved (finish_of m.code m.items g.hart) (item_words f) true ≡ Ok c → same_reservation (unreserved x (flat_hart f k).reserved) r ≡ true → Ended f h c k r
        ends change left = record { store = record { item = x; words = (finish_of m.code m.items g.hart (item_words f x) true).words }; is = sym (ap stored-of (sym (ap (λ b. Ok (conditional b x (finish_of m.code m.items g.hart (item_words f x)))) has) ∙ change)); left = sym (same-is _ _ left) }

      same-g : all.g ≡ g
      same-g = one all.g g (sym all.own ∙ own) where
        one : (a b : FlatHart) → Some a ≡ Some b → a ≡ b
        one a b e = cc

      wants : Wants m.code m.items g x all.state
      wants = subst (λ a. Wants m.code m.items a x all.state) same-g all.wants

      change : change_by (ask_of m.code m.items g.hart) g.reserved (finish_of m.code m.items g.hart) (item_words f) true ≡ Ok c
      unfolding hart_step
      change = ap (λ o. unless_halted o (change_by (ask_of m.code m.items g.hart) g.reserved (finish_of m.code m.items g.hart) (item_words f) true)) (sym wants.running) ∙ step

      allows : (k : ℕ) (r : Option ℕ) → may_before f written k r ≡ true → Ended-here k r
      allows k r allowed = by (same_reservation (flat_hart f k).reserved r) refl allowed where
        by : (b : Bool) → same_reservation (flat_hart f k).reserved r ≡ b → (b || ended written (flat_hart f k).reserved r) ≡ true → Ended-here k r
        by true is e = inl (sym (same-is _ _ is))
        by false is e = inr (stored-is k r (ask_of m.code m.items g.hart) wants.asks change e)

      parts : (m3.top ≡ comes.served.top) × (m3.kids ≡ comes.served.kids)
      parts = same-top m3.top comes.served.top m3.kids comes.served.kids comes.served.brings.root

      pub rests3 : is_at_rest m3 ≡ true
      rests3 = ap tree_rests comes.served.brings.root ∙ comes.rests

      have3 : AllHave flat m3.kids
      have3 = subst (AllHave flat) (sym parts.1) comes.copies

      room3 : has_room m3 ≡ true
      unfolding room-of
      room3 = ap (λ (a : Frame). room-of a.bones a.items) frames ∙ s.room

      own3 : hart_at h m3 ≡ Some g
      own3 =
          let n = items_of_machine m1 in
          let Q : LeafValue → Type 0 = λ v. LeafIs n flat all.g x all.state None v in
          let root = root-same n flat h Q m3.top all.served.top m3.kids all.served.kids all.served.brings.root all.served.rests in
          let one = root-reads (of_leaf (λ w v. leaf_hart v) no_flat_hart) n flat h Q m3.top m3.kids root in
          one.says ∙ ap Some (own-is m.code m.items n flat all.g x all.state all.usable all.wants one.leaf one.is ∙ same-g)

      counts3 : length f.words ≡ items_of_machine m3
      counts3 = s.words ∙ sym (ap (λ (a : Frame). item_count a.items) frames)

      pub walks-keep : m3.ops ≡ m1.ops
      walks-keep = all.served.brings.operations

      pub last-answer : (key : Key) × ((turn_of t m3).answer ≡ TurnAnswer.Retired (operation key h g c))
      last-answer =
          let d = done m flat h g c s.shaped s.rules s.rests s.room have may own step kind x is in
          (d.key, d.answer ∙ ap (λ (e : Change). TurnAnswer.Retired (operation d.key h g e)) (done-same m flat h g c s.shaped s.rules s.rests s.room have may own step kind x is))

      after-walks : Shows (turn_of t m3).machine (with_change f h c)
      after-walks =
          let d = done m flat h g c s.shaped s.rules s.rests s.room have may own step kind x is in
          turn-shows f h c (may_before f written) allows m3 g 0 (run-shape ts m1 (turn-shape t m s.shaped)) (run-keeps_rules ts m1 (turn-keeps_rules t m s.rules)) rests3 room3 have3 own3 (step3 m flat h g c s.shaped s.rules s.rests s.room have may own step kind x is) within counts3 (operation d.key h g d.change) d.answer

    -- what its turns answer

    pub first-answer : ((key : Key) × ((turn_of t m).answer ≡ TurnAnswer.Retired (operation key h g c))) ⊎ ((kind : TxKind) × (x : ℕ) × ((turn_of t m).answer ≡ TurnAnswer.Issued kind x))
    first-answer = by (answers m flat h g c s.shaped s.rules s.rests s.room have may own step) where
      by : Answers m flat h g c s.shaped s.rules s.rests s.room have may own step → ((key : Key) × ((turn_of t m).answer ≡ TurnAnswer.Retired (operation key h g c))) ⊎ ((kind : TxKind) × (x : ℕ) × ((turn_of t m).answer ≡ TurnAnswer.Issued kind x))
      by (at_once key is) = inl (key, is)
      by (asks kind x is) = inr (kind, x, is)

    pub op-completes : (op : Op) → (key : Key) × (completes_op op (run_of (turns_to_complete h m) m).answers ≡ same_operation op (operation key h g c))
    op-completes op = completes-step m flat h g c s.shaped s.rules s.rests s.room have may own step op

    pub op-served : (op : Op) → op.hart ≡ h → op.pc ≡ g.hart.pc → op.effect ≡ c.effect → completes_op op (run_of (turns_to_complete h m) m).answers ≡ true
    op-served op hart pc effect = served m flat h g c s.shaped s.rules s.rests s.room have may own step op hart pc effect

    by-answer : Answers m flat h g c s.shaped s.rules s.rests s.room have may own step → Shows (run_of (turns_behind h (turn_of t m).answer m1) m1).machine (with_change f h c)
    unfolding run_of
    by-answer (at_once key is) = subst (λ a. Shows (run_of (turns_behind h a m1) m1).machine (with_change f h c)) (sym is) (at-once (operation key h g c) is)
    by-answer (asks kind x is) = subst (λ a. Shows (run_of (turns_behind h a m1) m1).machine (with_change f h c)) (sym is) (subst (λ k. Shows k (with_change f h c)) (sym (run-on (walks_of h m1) (t ∷ []) m1)) (after-walks kind x is))

    pub shown : Shows (run_of (turns_to_complete h m) m).machine (with_change f h c)
    unfolding run_of turns_to_complete
    shown = by-answer (answers m flat h g c s.shaped s.rules s.rests s.room have may own step)
