-- What is remembered of buses that find nothing, and of harts that are idle, stays true in every turn, and a turn that it speaks of
-- changes nothing.
-- Letters: t is a turn, p the path to the node that it names, s a turn of a bus and q the path to that, n the tree, k and b numbers of
-- buses, c a child, o what stands at a place of a list, a an answer, busy whether it is counted as a busy one.
use Rattle.std.proofs.Common.{◌≡◌, ℕ, ◌++◌, ◌⊎◌, inl, inr, Bool, true, false, true≢false, List, [], ◌∷◌, Option, Some, None, refl, sym, ap, subst, ◌∙◌, arith}
use Rattle.std.specs.Prelude.{is_none, slice_get}
use Rattle.std.proofs.lemmas.Option.{none-some}
use Rattle.ddm_tree.specs.DdmTypes.declared.answers.TurnAnswer.{TurnAnswer}
use Rattle.ddm_tree.specs.DdmTypes.declared.keys.Stamp.{Stamp}
use Rattle.ddm_tree.specs.DdmTypes.declared.turns.Turn.{Turn}
use Rattle.ddm_tree.specs.DdmTypes.CodeMap.{CodeWord}
use Rattle.ddm_tree.specs.DdmTypes.ItemTable.{ItemTable}
use Rattle.ddm_tree.specs.DdmTypes.Keys.{key_on}
use Rattle.ddm_tree.specs.TreeModel.declared.BusTurn.{BusTurn}
use Rattle.ddm_tree.specs.TreeModel.State.Child.{child_request, child_reply, child_leaving}
use Rattle.ddm_tree.specs.TreeModel.State.Values.{LeafValue, DirValue, Node, Nodes, leaf_node, dir_node, nodes, children, MachineValue, root_of}
use Rattle.ddm_tree.specs.TreeModel.State.Shape.{IsShaped, skeleton}
use Rattle.ddm_tree.specs.TreeModel.Laws.{kept_of}
use Rattle.ddm_tree.specs.TreeModel.Turns.Bus.{bus_step}
use Rattle.ddm_tree.specs.TreeModel.Turns.Children.{child_at}
use Rattle.ddm_tree.specs.TreeModel.Turns.Grant.{Outcome}
use Rattle.ddm_tree.specs.TreeModel.Turns.HartTurn.{leaf_step}
use Rattle.ddm_tree.specs.TreeModel.Turns.Machine.{bus_turn_of, named_by, turn_of, victim_of}
use Rattle.ddm_tree.specs.TreeModel.Turns.Tree.{Name, leaf_of_number, bus_of_number}
use Rattle.ddm_tree.proofs.TreeModel.BusKeeps.{bus_step-keeps}
use Rattle.ddm_tree.proofs.TreeModel.Children.{children-nodes, nodes-children}
use Rattle.ddm_tree.proofs.TreeModel.FrameKept.{turn-frame}
use Rattle.split_bus.specs.Outcomes.{is_granted}
use Rattle.ddm_tree.specs.declared.idle.Idle.{Idle}
use Rattle.ddm_tree.specs.Idle.{AreIdle, idle_answer, idle_there}
use Rattle.ddm_tree.specs.Path.{node_at, path_to, put_at, node_answer, node_turned}
use Rattle.ddm_tree.specs.Ready.{Leads}
use Rattle.ddm_tree.proofs.IdleHarts.{Dir, IsSpared, Leaf, SameFrom, bus-same_from, further, kept-at, leads-dir, leads-leaf, leaf-same_from, put-same, spared, step-ungranted}
use Rattle.ddm_tree.specs.Quiet.{AreLearnedBelow, AreQuiet, Entry, HartsAgree, IsAsBefore, IsBlank, IsQuietOf, IsRight, IsRightThere, IsTouchedBy, KeepsQuiet, OfChild, OfTouched, bus_in, column_of, entry_at, finds_nothing, idle_as_there, is_hart_turn, known_as, passed_as, row_of, touches, touches_child}
use Rattle.ddm_tree.proofs.NamedOnce.{bus-once}
use Rattle.ddm_tree.proofs.OneBus.{leads-number, one-path}
use Rattle.ddm_tree.proofs.QuietFrame.{Finds, finds-frame, finds-kept, finds-unchanged}
use Rattle.ddm_tree.proofs.QuietSteps.{hart-keeps, nothing-turned}
use Rattle.ddm_tree.proofs.Touched.{not-true, step-same}

-- ---- answers

granted-touches : (a : TurnAnswer) → is_granted a ≡ true → touches a ≡ true
granted-touches (TurnAnswer.Retired op) e = cc
granted-touches (TurnAnswer.Issued kind x) e = cc
granted-touches (TurnAnswer.Waiting x) e = cc
granted-touches (TurnAnswer.Halted cause) e = cc
granted-touches (TurnAnswer.Granted entry) e = refl
granted-touches TurnAnswer.Empty e = cc
granted-touches (TurnAnswer.Busy cause) e = cc

-- ---- a turn

module _ (code : List CodeWord) (items : ItemTable) (t : Turn) (p : List ℕ) (present : Stamp) (n : Node) (leads : Leads (named_by t) p n) where
  abbrev new : Node
  new = node_turned code items t p present (node_at p n)

  abbrev answer : TurnAnswer
  answer = node_answer code items t p present (node_at p n)

  -- of a hart
  module _ (k : ℕ) (hart : named_by t ≡ leaf_of_number k) where
    at-leaf : Leaf (node_at p n)
    at-leaf = leads-leaf k p n (subst (λ name. Leads name p n) hart leads)

    abbrev own : LeafValue
    own = at-leaf.0

    abbrev becomes : LeafValue
    becomes = (leaf_step code items (key_on present p own.done) (victim_of t) own).leaf

    new-leaf : new ≡ leaf_node becomes
    new-leaf = ap (node_turned code items t p present) at-leaf.1

    answer-leaf : answer ≡ (leaf_step code items (key_on present p own.done) (victim_of t) own).answer
    answer-leaf = ap (node_answer code items t p present) at-leaf.1

    leaf-below : SameFrom 1 (node_at p n) new
    leaf-below = rw at-leaf.1 (leaf-same_from own becomes)

    -- what its bus finds
    hart-above : touches answer ≡ false → KeepsQuiet (node_at p n) new
    hart-above e =
        let keeps : KeepsQuiet (leaf_node own) (leaf_node becomes) = hart-keeps code items (key_on present p own.done) (victim_of t) own (ap touches (sym answer-leaf) ∙ e) in
        rw at-leaf.1 keeps

    module _ (s : BusTurn) (q : List ℕ) (untouched : IsTouchedBy answer p q s → ⊥) (none : Finds s (node_at q n)) where
      hart-parent : (c : ℕ) → p ≡ q ++ c ∷ [] → OfChild c s → KeepsQuiet (node_at p n) new
      hart-parent c is of =
          elim (touches answer) as (λ b. touches answer ≡ b → KeepsQuiet (node_at p n) new) [
            | true ↦ λ does. absurd (untouched (does, inr (inl (c, is, of))))
            | false ↦ λ not. hart-above not
          ] refl

      -- at the leaf itself no bus is
      hart-here : q ≡ p → Finds s new
      hart-here is =
          let wrong : Finds s (leaf_node own) = subst (Finds s) (ap (λ r. node_at r n) is ∙ at-leaf.1) none in
          absurd (true≢false (sym wrong))

      hart-beneath : (c : ℕ) → q ≡ p ++ c ∷ [] → Finds s (node_at (c ∷ []) new)
      hart-beneath c is = subst (Finds s) (ap (λ r. node_at r n) is ∙ further p (c ∷ []) n ∙ sym (leaf-below (c ∷ []) (omega arith))) none

      hart-finds : Finds s (node_at q (put_at p new n))
      hart-finds = finds-frame s p q n new (λ r deep. leaf-below r (omega (arith, deep))) hart-here hart-parent hart-beneath none

  -- of a bus
  module _ (b : ℕ) (bus : named_by t ≡ bus_of_number b) where
    at-dir : Dir (node_at p n)
    at-dir = leads-dir b p n (subst (λ name. Leads name p n) bus leads)

    abbrev over : DirValue
    over = at-dir.0

    abbrev kids : Nodes
    kids = at-dir.1

    abbrev outcome : Outcome
    outcome = bus_step present (bus_turn_of t) over (children kids)

    new-dir : new ≡ dir_node outcome.parent (nodes outcome.kids)
    new-dir = ap (node_turned code items t p present) at-dir.2

    answer-dir : answer ≡ outcome.answer
    answer-dir = ap (node_answer code items t p present) at-dir.2

    new-ungranted : is_granted answer ≡ false → new ≡ node_at p n
    new-ungranted e = new-dir ∙ step-ungranted present (bus_turn_of t) over (children kids) (ap is_granted (sym answer-dir) ∙ e) ∙ ap (dir_node over) (nodes-children kids) ∙ sym at-dir.2

    bus-below : SameFrom 2 (node_at p n) new
    bus-below = rw at-dir.2 (bus-same_from over outcome.parent kids outcome.kids (bus_step-keeps present over (children kids) (bus_turn_of t)).kids)

    -- a child keeps its own children
    child-kept : (c : ℕ) → kept_of (node_at (c ∷ []) new) ≡ kept_of (node_at (c ∷ []) (node_at p n))
    child-kept c = ap (λ m. kept_of (node_at (c ∷ []) m)) new-dir ∙ ap (λ ms. kept_of (child_at c ms)) (children-nodes outcome.kids) ∙ kept-at (children kids) outcome.kids c (bus_step-keeps present over (children kids) (bus_turn_of t)).kids ∙ ap (λ m. kept_of (node_at (c ∷ []) m)) (sym at-dir.2)

    -- a child that the turn didn't touch
    kid-same : (c : ℕ) → touches_child c answer ≡ false → child_at c outcome.kids ≡ child_at c (children kids)
    kid-same c untouched = step-same present over (children kids) c (bus_turn_of t) (ap (touches_child c) (sym answer-dir) ∙ untouched)

    node-same : (c : ℕ) → touches_child c answer ≡ false → node_at (c ∷ []) new ≡ node_at (c ∷ []) (node_at p n)
    node-same c untouched = ap (node_at (c ∷ [])) new-dir ∙ ap (child_at c) (children-nodes outcome.kids) ∙ kid-same c untouched ∙ ap (node_at (c ∷ [])) (sym at-dir.2)

    module _ (s : BusTurn) (q : List ℕ) (untouched : IsTouchedBy answer p q s → ⊥) (none : Finds s (node_at q n)) where
      -- of the bus itself, where no child that the turn is about was touched
      bus-own : (r : BusTurn) → (OfTouched answer r → ⊥) → Finds r (dir_node over kids) → Finds r (dir_node outcome.parent (nodes outcome.kids))
      bus-own BusTurn.Down other was = absurd (other tt)
      bus-own (BusTurn.Request c) other was = ap (λ ms. is_none (child_request (child_at c ms))) (children-nodes outcome.kids) ∙ ap (λ m. is_none (child_request m)) (kid-same c (not-true _ other)) ∙ was
      bus-own (BusTurn.Reply c) other was = ap (λ ms. is_none (child_reply (child_at c ms))) (children-nodes outcome.kids) ∙ ap (λ m. is_none (child_reply m)) (kid-same c (not-true _ other)) ∙ was
      bus-own (BusTurn.Leave c choice) other was = ap (λ ms. is_none (child_leaving choice (child_at c ms))) (children-nodes outcome.kids) ∙ ap (λ m. is_none (child_leaving choice m)) (kid-same c (not-true _ other)) ∙ was

      bus-here : touches answer ≡ true → q ≡ p → Finds s new
      bus-here does same =
          let was : Finds s (dir_node over kids) = subst (Finds s) (ap (λ r. node_at r n) same ∙ at-dir.2) none in
          subst (Finds s) (sym new-dir) (bus-own s (λ of. untouched (does, inl (same, of))) was)

      -- of the bus below a child
      bus-beneath : touches answer ≡ true → (c : ℕ) → q ≡ p ++ c ∷ [] → Finds s (node_at (c ∷ []) new)
      bus-beneath does c beneath =
          let was : Finds s (node_at (c ∷ []) (node_at p n)) = subst (Finds s) (ap (λ r. node_at r n) beneath ∙ further p (c ∷ []) n) none in
          elim (touches_child c answer) as (λ b. touches_child c answer ≡ b → Finds s (node_at (c ∷ []) new)) [
            | true ↦ λ touched. finds-kept s (node_at (c ∷ []) (node_at p n)) (node_at (c ∷ []) new) (child-kept c) (λ down. untouched (does, inr (inr (c, beneath, touched, down)))) was
            | false ↦ λ other. subst (Finds s) (sym (node-same c other)) was
          ] refl

      bus-granted : is_granted answer ≡ true → Finds s (node_at q (put_at p new n))
      bus-granted is =
          let does : touches answer ≡ true = granted-touches answer is in
          finds-frame s p q n new bus-below (bus-here does) (λ c above of. absurd (untouched (does, inr (inl (c, above, of))))) (bus-beneath does) none

      bus-finds : Finds s (node_at q (put_at p new n))
      bus-finds =
          elim (is_granted answer) as (λ g. is_granted answer ≡ g → Finds s (node_at q (put_at p new n))) [
            | true ↦ λ is. bus-granted is
            | false ↦ λ is. finds-unchanged s p q n new (new-ungranted is) none
          ] refl

  -- of either
  turn-finds : (name : Name) → named_by t ≡ name → (s : BusTurn) (q : List ℕ) → (IsTouchedBy answer p q s → ⊥) → Finds s (node_at q n) → Finds s (node_at q (put_at p new n))
  turn-finds (leaf_of_number k) is s q untouched none = hart-finds k is s q untouched none
  turn-finds (bus_of_number b) is s q untouched none = bus-finds b is s q untouched none

  -- a path to a bus of this number in the new tree is the one that leads there in the old one
  abbrev IsOnly : ℕ → List ℕ → Type 0
  IsOnly k q = (bus_in (node_at q (put_at p new n)) ≡ Some k) × ((r : List ℕ) → bus_in (node_at r (put_at p new n)) ≡ Some k → r ≡ q)

  module _ (before after : List Entry) (k : ℕ) (q : List ℕ) (only : IsOnly k q) (quiet : IsQuietOf (entry_at k before) (node_at q n)) where
    learned-right : (s : BusTurn) → IsAsBefore (IsTouchedBy answer p) k s (put_at p new n) before after ⊎ IsRightThere k s (put_at p new n) after → IsRight s (entry_at k after) (node_at q (put_at p new n))
    learned-right s (inl same) = λ busy known.
        let was = quiet.each s busy (sym same.same ∙ known) in
        (was.0, turn-finds (named_by t) refl s q (same.none q only.0) was.1)
    learned-right s (inr there) = subst (λ r. IsRight s (entry_at k after) (node_at r (put_at p new n))) (only.1 there.path there.number) there.right

  -- what is known after a turn is so
  learned-quiet : (before after : List Entry) → ((k : ℕ) (q : List ℕ) → Leads (bus_of_number k) q n → IsOnly k q) → AreQuiet before n n → AreLearnedBelow (IsTouchedBy answer p) (put_at p new n) before after → AreQuiet after n (put_at p new n)
  learned-quiet before after only quiet learned = record { each = λ k q there. record { each = λ s. learned-right before after k q (only k q there) (quiet.each k q there) s (learned.each k s) } }

  -- the same of the tree and the answer as the code has them
  pub learned-turn : (a : TurnAnswer) (left : Node) (before after : List Entry) → a ≡ answer → left ≡ put_at p new n
      → ((k : ℕ) (q : List ℕ) → Leads (bus_of_number k) q n → (bus_in (node_at q left) ≡ Some k) × ((r : List ℕ) → bus_in (node_at r left) ≡ Some k → r ≡ q))
      → AreQuiet before n n → AreLearnedBelow (IsTouchedBy a p) left before after → AreQuiet after n left
  learned-turn a left before after same is only quiet learned =
      let there = subst (λ m. AreLearnedBelow (IsTouchedBy answer p) m before after) is (subst (λ b. AreLearnedBelow (IsTouchedBy b p) left before after) same learned) in
      let now = learned-quiet before after (λ k q leads. subst (λ m. (bus_in (node_at q m) ≡ Some k) × ((r : List ℕ) → bus_in (node_at r m) ≡ Some k → r ≡ q)) is (only k q leads)) quiet there in
      subst (AreQuiet after n) (sym is) now

-- a path to a bus of a number after a turn is the one that led there before it
pub only-after : (t : Turn) (m : MachineValue) (left : Node) → left ≡ root_of (turn_of t m).machine → IsShaped (turn_of t m).machine → (k : ℕ) (q : List ℕ) → Leads (bus_of_number k) q (root_of m)
    → (bus_in (node_at q left) ≡ Some k) × ((r : List ℕ) → bus_in (node_at r left) ≡ Some k → r ≡ q)
only-after t m left is shaped k q leads =
    let bones : skeleton (root_of (turn_of t m).machine) ≡ skeleton (root_of m) = ap (λ f. f.bones) (turn-frame t m) in
    let still : Leads (bus_of_number k) q (root_of (turn_of t m).machine) = ap (path_to (bus_of_number k)) bones ∙ leads in
    rw is (leads-number k q (root_of (turn_of t m).machine) still, λ r there. one-path k r q (root_of (turn_of t m).machine) (bus-once (turn_of t m).machine k shaped) still there)

-- a hart that is known to be idle touches nothing
pub idle-untouched : (i : Idle) → touches (idle_answer i) ≡ false
idle-untouched (Idle.Waits x) = refl
idle-untouched (Idle.BufferFull leaf) = refl
idle-untouched (Idle.Halted cause) = refl

-- ---- a turn that is known to change nothing

-- the turn is counted so, and leaves the tree as it is; a bus finds nothing
pub record IsPassed (code : List CodeWord) (items : ItemTable) (t : Turn) (busy : Bool) (p : List ℕ) (present : Stamp) (n : Node) : Type 0 where
  pub counts : passed_as (node_answer code items t p present (node_at p n)) ≡ Some busy
  pub leaves : put_at p (node_turned code items t p present (node_at p n)) n ≡ n
  pub empty : is_hart_turn t ≡ false → node_answer code items t p present (node_at p n) ≡ TurnAnswer.Empty

-- why a hart is idle
idle-for : (o : Option (Option Idle)) (busy : Bool) → idle_as_there o ≡ Some busy → (i : Idle) × (idle_there o ≡ Some i) × (passed_as (idle_answer i) ≡ Some busy)
idle-for None busy e = cc
idle-for (Some None) busy e = cc
idle-for (Some (Some (Idle.Waits x))) busy e = (Idle.Waits x, refl, e)
idle-for (Some (Some (Idle.BufferFull leaf))) busy e = (Idle.BufferFull leaf, refl, e)
idle-for (Some (Some (Idle.Halted cause))) busy e = (Idle.Halted cause, refl, e)

module _ (code : List CodeWord) (items : ItemTable) (p : List ℕ) (present : Stamp) (n : Node) (busy : Bool) where
  hart-passed : (hart victim : ℕ) (idle : List (Option Idle)) → Leads (leaf_of_number hart) p n → AreIdle code items idle n n → idle_as_there (slice_get idle hart) ≡ Some busy → IsPassed code items (Turn.Hart hart victim) busy p present n
  hart-passed hart victim idle leads idles e =
      let there = idle-for (slice_get idle hart) busy e in
      let spare : IsSpared code items n idle idles present p there.0 (Turn.Hart hart victim) = spared code items n idle idles present p there.0 (Turn.Hart hart victim) leads there.1 in
      record { counts = ap passed_as spare.answers ∙ there.2; leaves = spare.leaves; empty = λ bus. absurd (true≢false bus) }

  bus-passed : (t : Turn) → (busy ≡ false) × (finds_nothing (bus_turn_of t) (node_at p n) ≡ true) → IsPassed code items t busy p present n
  bus-passed t nothing =
      let turned = nothing-turned code items t p present (node_at p n) nothing.1 in
      record { counts = ap passed_as turned.0 ∙ ap Some (sym nothing.0); leaves = ap (λ m. put_at p m n) turned.1 ∙ put-same p n; empty = λ bus. turned.0 }

pub known-passed : (code : List CodeWord) (items : ItemTable) (t : Turn) (busy : Bool) (p : List ℕ) (present : Stamp) (n : Node) (known : List Entry) (idle : List (Option Idle))
    → Leads (named_by t) p n → AreQuiet known n n → HartsAgree known idle → AreIdle code items idle n n → known_as t known ≡ Some busy
    → IsPassed code items t busy p present n
known-passed code items (Turn.Hart hart victim) busy p present n known idle leads quiet agree idles e = hart-passed code items p present n busy hart victim idle leads idles (agree.each hart busy e)
known-passed code items (Turn.Down bus) busy p present n known idle leads quiet agree idles e = bus-passed code items p present n busy (Turn.Down bus) ((quiet.each bus p leads).each BusTurn.Down busy e)
known-passed code items (Turn.Request bus child) busy p present n known idle leads quiet agree idles e = bus-passed code items p present n busy (Turn.Request bus child) ((quiet.each bus p leads).each (BusTurn.Request child) busy e)
known-passed code items (Turn.Reply bus child) busy p present n known idle leads quiet agree idles e = bus-passed code items p present n busy (Turn.Reply bus child) ((quiet.each bus p leads).each (BusTurn.Reply child) busy e)
known-passed code items (Turn.Leave bus child choice) busy p present n known idle leads quiet agree idles e = bus-passed code items p present n busy (Turn.Leave bus child choice) ((quiet.each bus p leads).each (BusTurn.Leave child choice) busy e)

-- ---- what a machine remembers

-- after a turn: of the tree that it left
pub quiet-after : (t : Turn) (m : MachineValue) (known kept : List Entry) (left now : Node) → kept ≡ known → now ≡ root_of (turn_of t m).machine → now ≡ left → AreQuiet known (root_of m) left → AreQuiet kept now now
quiet-after t m known kept left now same becomes is remembered =
    let bones : skeleton now ≡ skeleton (root_of m) = ap skeleton becomes ∙ ap (λ f. f.bones) (turn-frame t m) in
    record {
      each = λ k path there.
          let quiet : IsQuietOf (entry_at k known) (node_at path left) = remembered.each k path (ap (path_to (bus_of_number k)) (sym bones) ∙ there) in
          rw (same, is) quiet;
    }

-- ---- where nothing is remembered

blank-of : (known kept : List Entry) → kept ≡ known → IsBlank known → IsBlank kept
blank-of known kept same blank = subst IsBlank (sym same) blank

pub blank-quiet : (known kept : List Entry) (n after : Node) → kept ≡ known → IsBlank known → AreQuiet kept n after
blank-quiet known kept n after same blank = record { each = λ k path there. record { each = λ t busy is. absurd (none-some busy (sym ((blank-of known kept same blank).each k (row_of t) (column_of t)) ∙ is)) } }

pub blank-agree : (known kept : List Entry) (idle : List (Option Idle)) → kept ≡ known → IsBlank known → HartsAgree kept idle
blank-agree known kept idle same blank = record { each = λ k busy is. absurd (none-some busy (sym ((blank-of known kept same blank).each k 0 0) ∙ is)) }
