-- Which harts go on: a hart that hasn't halted after a turn hadn't before, and the turn didn't halt it.
use Rattle.std.proofs.Common.{◌≡◌, ℕ, ◌%◌, Bool, true, false, nat_eq, inl, inr, List, [], ◌∷◌, Option, Some, None, Result, Ok, Err, refl, sym, ap, subst, ◌∙◌}
use Rattle.std.specs.List.{AllByRecursion}
use Rattle.std.proofs.lemmas.Bool.{eqb-true, true≢false}
use Rattle.headline.specs.DdmTypes.declared.answers.TurnAnswer.{TurnAnswer}
use Rattle.headline.specs.DdmTypes.declared.operations.HaltCause.{HaltCause}
use Rattle.headline.specs.DdmTypes.declared.turns.Turn.{Turn}
use Rattle.headline.specs.DdmTypes.declared.keys.Key.{Key}
use Rattle.headline.specs.DdmTypes.declared.sizes.LeafState.{LeafState}
use Rattle.headline.specs.DdmTypes.ItemTable.{ItemTable}
use Rattle.headline.specs.DdmTypes.CodeMap.{CodeWord}
use Rattle.headline.specs.FlatModel.Hart.{ask_of}
use Rattle.headline.specs.FlatModel.Flat.{FlatMachine, Change}
use Rattle.headline.specs.TreeModel.State.Values.{LeafValue, MachineValue, root_of}
use Rattle.headline.specs.TreeModel.State.Place.{at_child, key_at_leaf}
use Rattle.headline.specs.TreeModel.State.Leaf.{free_way, buffer_full, waiting_item}
use Rattle.headline.specs.TreeModel.Turns.HartTurn.{Deed, Need, no_need, a_copy, no_other_copy, time, need_of, change_here, deed_of_change, replaces, deed_to_fetch, deed_by_need, deed_unless_waiting, deed_unless_halted, deed_of, answer_of_deed, leaf_after_deed, leaf_step}
use Rattle.headline.specs.TreeModel.Turns.Tree.{leaf_of_number, has_node}
use Rattle.headline.specs.TreeModel.Turns.Machine.{turn_of}
use Rattle.headline.proofs.TreeModel.HartKeeps.{leaf_step-keeps}
use Rattle.headline.proofs.TreeModel.TurnChanges.{turn-changes_nothing}
use Rattle.headline.specs.TreeRules.Order.Moments.{is_under}
use Rattle.headline.specs.TreeRules.Order.Places.{LeafAt, leaf_path, leaves_at}
use Rattle.headline.specs.TreeRules.Order.Rules.{commands_past_taken}
use Rattle.headline.specs.TreeRules.Witness.{halts_hart}
use Rattle.headline.proofs.OrderLists.Paths.{under-itself}
use Rattle.order_laws.specs.Moves.CopiesMoved.{IsBusTurn}
use Rattle.order_laws.specs.Moves.LeavesKept.{LeafKept}
use Rattle.order_laws.proofs.Moves.CopiesMoved.{reservations-kept}
use Rattle.order_laws.specs.Pairs.{Pairs}
use Rattle.order_laws.proofs.Hart.ClaimsTurned.{LeafMoved}
use Rattle.order_laws.proofs.Hart.HartMachine.{next, answer, Takes, Tip, HartTurned, hart_turned, leaves_after}
use Rattle.order_laws.proofs.Hart.LeafPlaces.{IsOnlyOf, one_of_number}
use Rattle.order_laws.specs.EveryTurn.{IsOrderly}

-- ---- lists

-- of each pair, from a fact of its first
pub pairs-given : {X : Type 0} (P : X → Type 0) (R S : X → X → Type 0) → ((x y : X) → P x → R x y → S x y) → (xs ys : List X) → AllByRecursion P xs → Pairs R xs ys → Pairs S xs ys
pairs-given P R S f [] [] h r = tt
pairs-given P R S f [] (y ∷ ys) h r = absurd r
pairs-given P R S f (x ∷ xs) [] h r = absurd r
pairs-given P R S f (x ∷ xs) (y ∷ ys) h r = (f x y h.0 r.0, pairs-given P R S f xs ys h.1 r.1)

pub pairs-weaker : {X : Type 0} (R S : X → X → Type 0) → ((x y : X) → R x y → S x y) → (xs ys : List X) → Pairs R xs ys → Pairs S xs ys
pairs-weaker R S f [] [] r = tt
pairs-weaker R S f [] (y ∷ ys) r = absurd r
pairs-weaker R S f (x ∷ xs) [] r = absurd r
pairs-weaker R S f (x ∷ xs) (y ∷ ys) r = (f x y r.0, pairs-weaker R S f xs ys r.1)

pub pairs-each_same : {X : Type 0} (R : X → X → Type 0) → ((x : X) → R x x) → (xs : List X) → Pairs R xs xs
pairs-each_same R f [] = tt
pairs-each_same R f (x ∷ xs) = (f x, pairs-each_same R f xs)

pub pairs-joined : {X : Type 0} (R S T : X → X → Type 0) → ((x y z : X) → R x y → S y z → T x z) → (xs ys zs : List X) → Pairs R xs ys → Pairs S ys zs → Pairs T xs zs
pairs-joined R S T f [] [] [] r q = tt
pairs-joined R S T f [] [] (z ∷ zs) r q = absurd q
pairs-joined R S T f [] (y ∷ ys) zs r q = absurd r
pairs-joined R S T f (x ∷ xs) [] zs r q = absurd r
pairs-joined R S T f (x ∷ xs) (y ∷ ys) [] r q = absurd q
pairs-joined R S T f (x ∷ xs) (y ∷ ys) (z ∷ zs) r q = (f x y z r.0 q.0, pairs-joined R S T f xs ys zs r.1 q.1)

pub pairs-second : {X : Type 0} (R : X → X → Type 0) (P : X → Type 0) → ((x y : X) → R x y → P y) → (xs ys : List X) → Pairs R xs ys → AllByRecursion P ys
pairs-second R P f [] [] r = tt
pairs-second R P f [] (y ∷ ys) r = absurd r
pairs-second R P f (x ∷ xs) [] r = absurd r
pairs-second R P f (x ∷ xs) (y ∷ ys) r = (f x y r.0, pairs-second R P f xs ys r.1)

-- ---- a leaf's turn

some_none : {X : Type 0} (x : X) → (let o : Option X = Some x in o ≡ None) → ⊥
some_none x e = cc

-- what it comes to halts no hart that goes on
abbrev HaltsNone : LeafValue → Deed → Type 0
HaltsNone v d = (leaf_after_deed v d).hart.halt ≡ None → (h hart victim : ℕ) (now : Key) → halts_hart h (Turn.Hart hart victim) (answer_of_deed now v d) ≡ false

fetch-goes_on : (x : ℕ) (state : LeafState) (victim : ℕ) (v : LeafValue) (o : Option ℕ) → HaltsNone v (deed_to_fetch x state victim v o)
fetch-goes_on x state victim v (Some way) = λ e h hart u now. refl
fetch-goes_on x state victim v None = by_full (buffer_full v) where
  by_full : (full : Bool) → HaltsNone v (replaces x state (victim % v.sizes.way_count) full)
  by_full true = λ e h hart u now. refl
  by_full false = λ e h hart u now. refl

module _ (code : List CodeWord) (items : ItemTable) (victim : ℕ) (v : LeafValue) where
  change-goes_on : (r : Result Change HaltCause) → HaltsNone v (deed_of_change r)
  change-goes_on (Ok c) = λ e h hart u now. refl
  change-goes_on (Err cause) = λ e. absurd (some_none cause e)

  need-goes_on : (n : Need) → HaltsNone v (deed_by_need code items victim v n)
  need-goes_on no_need = change-goes_on (change_here code items v)
  need-goes_on (a_copy x state) = fetch-goes_on x state victim v (free_way v.sizes x v.ways)
  need-goes_on (no_other_copy x words) = λ e h hart u now. refl
  need-goes_on (time x) = λ e h hart u now. refl

  waiting-goes_on : (o : Option ℕ) → HaltsNone v (deed_unless_waiting code items victim v o)
  waiting-goes_on (Some x) = λ e h hart u now. refl
  waiting-goes_on None = need-goes_on (need_of (ask_of code items v.hart) v)

  -- a hart that goes on hadn't halted, and isn't halted by its turn
  pub leaf-goes_on : (now : Key) → (leaf_step code items now victim v).leaf.hart.halt ≡ None → (v.hart.halt ≡ None) × ((h hart u : ℕ) → halts_hart h (Turn.Hart hart u) (leaf_step code items now victim v).answer ≡ false)
  unfolding leaf_step deed_of
  leaf-goes_on now e = go v.hart.halt refl e where
    go : (o : Option HaltCause) → v.hart.halt ≡ o → (leaf_after_deed v (deed_unless_halted code items victim v o)).hart.halt ≡ None
        → (v.hart.halt ≡ None) × ((h hart u : ℕ) → halts_hart h (Turn.Hart hart u) (answer_of_deed now v (deed_unless_halted code items victim v v.hart.halt)) ≡ false)
    go (Some cause) is k = absurd (some_none cause (sym is ∙ k))
    go None is k = (is, λ h hart u. ap (λ o. halts_hart h (Turn.Hart hart u) (answer_of_deed now v (deed_unless_halted code items victim v o))) is ∙ waiting-goes_on (waiting_item v.ways v.buffer) k h hart u now)

-- ---- the leaves of a machine

pub record GoesOn (t : Turn) (a : TurnAnswer) (before after : LeafAt) : Type 0 where
  pub number : after.leaf.number ≡ before.leaf.number
  pub running : after.leaf.hart.halt ≡ None → (before.leaf.hart.halt ≡ None) × (halts_hart after.leaf.number t a ≡ false)

no_halt : (t : Turn) (a : TurnAnswer) (h : ℕ) → IsBusTurn t → halts_hart h t a ≡ false
no_halt (Turn.Hart hart victim) a h bus = absurd bus
no_halt (Turn.Down bus) a h is = refl
no_halt (Turn.Request bus child) a h is = refl
no_halt (Turn.Reply bus child) a h is = refl
no_halt (Turn.Leave bus child choice) a h is = refl

bus-goes_on : (s : FlatMachine) (m : MachineValue) (t : Turn) → IsBusTurn t → IsOrderly s m → Pairs (GoesOn t (turn_of t m).answer) (leaves_at m) (leaves_at (turn_of t m).machine)
bus-goes_on s m t bus r = pairs-weaker LeafKept _ kept (leaves_at m) (leaves_at (turn_of t m).machine) (reservations-kept m r.shaped r.buses r.timed (r.core.each commands_past_taken) t bus) where
  kept : (a b : LeafAt) → LeafKept a b → GoesOn t (turn_of t m).answer a b
  kept a b k = record { number = k.leaf.number; running = λ e. (sym (ap (λ h. h.halt) k.leaf.hart) ∙ e, no_halt t (turn_of t m).answer b.leaf.number bus) }

module _ (s : FlatMachine) (m : MachineValue) (hart victim : ℕ) (r : IsOrderly s m) where
  abbrev turn : Turn
  turn = Turn.Hart hart victim

  -- another leaf than the one that takes its turn has another number
  module _ (h : HartTurned hart victim m) (place : LeafAt) (path : leaf_path place ≡ h.at) (number : place.leaf.number ≡ hart) where
    not_halted : (a : LeafAt) → IsOnlyOf place a → is_under h.at (leaf_path a) ≡ false → halts_hart a.leaf.number turn (answer hart victim m) ≡ false
    not_halted a only elsewhere = by_answer (answer hart victim m) where
      same : nat_eq hart a.leaf.number ≡ true → ⊥
      same e =
          let here : a ≡ place = only (sym (eqb-true hart a.leaf.number e) ∙ sym number) in
          true≢false (sym (under-itself h.at) ∙ subst (λ p. is_under h.at p ≡ false) (ap leaf_path here ∙ path) elsewhere)

      by_number : (b : Bool) → nat_eq hart a.leaf.number ≡ b → nat_eq hart a.leaf.number ≡ false
      by_number true e = absurd (same e)
      by_number false e = e

      by_answer : (o : TurnAnswer) → halts_hart a.leaf.number turn o ≡ false
      by_answer (TurnAnswer.Halted cause) = by_number (nat_eq hart a.leaf.number) refl
      by_answer (TurnAnswer.Retired op) = refl
      by_answer (TurnAnswer.Issued kind x) = refl
      by_answer (TurnAnswer.Waiting x) = refl
      by_answer (TurnAnswer.Granted e) = refl
      by_answer TurnAnswer.Empty = refl
      by_answer (TurnAnswer.Busy cause) = refl

    one-goes_on : (a b : LeafAt) → IsOnlyOf place a → LeafMoved h.at (Takes hart victim m) a b → GoesOn turn (answer hart victim m) a b
    one-goes_on a b only (inl k) =
        subst (λ c. GoesOn turn (answer hart victim m) a c) (sym k.0) (record { number = refl; running = λ e. (e, not_halted a only k.1) })
    one-goes_on a b only (inr k) = took k.takes where
      took : Takes hart victim m a.spot a.leaf b.leaf → GoesOn turn (answer hart victim m) a b
      took t = record {
        number = ap (λ (w : LeafValue). w.number) t.after ∙ (leaf_step-keeps m.code m.items (key_at_leaf (at_child a.spot) a.leaf.done) victim a.leaf).number;
        running = λ e.
            let f = leaf-goes_on m.code m.items victim a.leaf (key_at_leaf (at_child a.spot) a.leaf.done) (sym (ap (λ (w : LeafValue). w.hart.halt) t.after) ∙ e) in
            (f.0, ap (halts_hart b.leaf.number turn) (sym t.answers) ∙ f.1 b.leaf.number hart victim);
      }

    all-go_on : AllByRecursion (IsOnlyOf place) (leaves_at m) → Pairs (GoesOn turn (answer hart victim m)) (leaves_at m) (leaves_at (next hart victim m))
    all-go_on only = pairs-given (IsOnlyOf place) _ _ (λ a b o k. one-goes_on a b o k) (leaves_at m) (leaves_at (next hart victim m)) only (leaves_after hart victim m h)

  hart-goes_on : Pairs (GoesOn turn (answer hart victim m)) (leaves_at m) (leaves_at (next hart victim m))
  hart-goes_on = go (has_node (leaf_of_number hart) (root_of m)) refl where
    by_tip : (h : HartTurned hart victim m) → Tip hart victim m (λ c. AllByRecursion (IsOnlyOf c) (leaves_at m)) h.at → Pairs (GoesOn turn (answer hart victim m)) (leaves_at m) (leaves_at (next hart victim m))
    by_tip h t = all-go_on h t.place t.path t.takes.number t.fact

    go : (b : Bool) → has_node (leaf_of_number hart) (root_of m) ≡ b → Pairs (GoesOn turn (answer hart victim m)) (leaves_at m) (leaves_at (next hart victim m))
    go true there = let h = hart_turned hart victim m r.buses there in by_tip h (h.tip (λ c. AllByRecursion (IsOnlyOf c) (leaves_at m)) (one_of_number m r.shaped))
    go false absent = subst (λ o. Pairs (GoesOn turn o.answer) (leaves_at m) (leaves_at o.machine)) (sym (turn-changes_nothing turn m absent)) (pairs-each_same _ (λ a. record { number = refl; running = λ e. (e, refl) }) (leaves_at m))

pub turn-goes_on : (s : FlatMachine) (m : MachineValue) (t : Turn) → IsOrderly s m → Pairs (GoesOn t (turn_of t m).answer) (leaves_at m) (leaves_at (turn_of t m).machine)
turn-goes_on s m (Turn.Hart hart victim) r = hart-goes_on s m hart victim r
turn-goes_on s m (Turn.Down bus) r = bus-goes_on s m (Turn.Down bus) tt r
turn-goes_on s m (Turn.Request bus child) r = bus-goes_on s m (Turn.Request bus child) tt r
turn-goes_on s m (Turn.Reply bus child) r = bus-goes_on s m (Turn.Reply bus child) tt r
turn-goes_on s m (Turn.Leave bus child choice) r = bus-goes_on s m (Turn.Leave bus child choice) tt r
