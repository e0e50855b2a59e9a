-- A machine at rest that shows a flat machine, after a hart's turn that completes its instruction: it shows the flat
-- machine after the step.
-- Letters: f is the flat machine before, h the hart, c the change of its step, k the machine.
use Rattle.std.proofs.Common.{◌≡◌, ◌≢◌, ℕ, ◌<◌, Bool, true, false, List, [], length, Option, Some, None, Ok, is_some, refl, sym, ap, subst, ◌∙◌, arith, ◌⊎◌}
use Rattle.std.specs.Prelude.{nat_eq, nat_lt, option_map, slice_set}
use Rattle.std.specs.Cmp.Derive.{both_true}
use Rattle.std.proofs.lemmas.Bool.{true≢false, eq-eqb}
use Rattle.std.proofs.lemmas.Bool.Decides.{nat_tests}
use Rattle.serving_model.specs.DdmTypes.ItemTable.{item_count}
use Rattle.serving_model.specs.DdmTypes.declared.answers.TurnAnswer.{TurnAnswer}
use Rattle.serving_model.specs.DdmTypes.declared.answers.TxKind.{TxKind}
use Rattle.serving_model.specs.DdmTypes.declared.operations.Op.{Op}
use Rattle.serving_model.specs.DdmTypes.declared.turns.Turn.{Turn}
use Rattle.bus_laws.specs.FlatModel.Flat.{Stored, Change, FlatHart, FlatMachine, flat_hart, item_words, has_reserved, with_change, hart_step}
use Rattle.bus_laws.proofs.FlatModel.Frames.{same_counts}
use Rattle.bus_laws.proofs.FlatModel.Items.{asks_inside}
use Rattle.bus_laws.proofs.FlatModel.Steps.{step_leaves}
use Rattle.bus_laws.proofs.TreeKept.{turn-keeps_rules}
use Rattle.serving_model.specs.TreeModel.State.States.{is_exclusive}
use Rattle.serving_model.specs.TreeModel.State.Values.{LeafValue, DirValue, Node, leaf_node, dir_node, nodes, children, MachineValue, root_of}
use Rattle.serving_model.specs.TreeModel.State.Leaf.{way_at, entry_at, leaf_hold}
use Rattle.serving_model.specs.TreeModel.State.Child.{child_hold}
use Rattle.serving_model.specs.TreeModel.State.Place.{Where, at_top, at_child, key_at_leaf, spot_in}
use Rattle.serving_model.specs.TreeModel.State.Shape.{Frame, IsShaped, leaves_numbered, skeletons}
use Rattle.serving_model.specs.TreeModel.Turns.Children.{child_at}
use Rattle.serving_model.specs.TreeModel.Turns.Tree.{leaf_of_number, has_node}
use Rattle.serving_model.specs.TreeModel.Turns.HartTurn.{completes, deed_of, answer_of_deed, leaf_after_deed, leaf_step}
use Rattle.serving_model.specs.TreeModel.Turns.Machine.{Turned as TurnedMachine, answer_here, turn_of}
use Rattle.serving_model.specs.TreeRules.Bus.Rules.{IsMachineOk, items_of_machine}
use Rattle.serving_model.specs.Rest.{tree_rests, trees_rest, trees_have_room, is_at_rest, has_room}
use Rattle.serving_model.specs.Parts.{FlatView, LeafHas, AllHave, Settled, Calm}
use Rattle.serving_model.specs.OneLeaf.{leaf_hart, hart_at}
use Rattle.serving_model.specs.Shows.{view, Shows}
use Rattle.serving_model.proofs.TreeModel.FrameKept.{turn-frame, turn-shape}
use Rattle.serving_model.proofs.TreeModel.TurnChanges.{turn-answered, turn-root}
use Rattle.serving_model.proofs.Settled.{kids-settled}
use Rattle.serving_model.proofs.Issued.{spine-has}
use Rattle.serving_model.proofs.Instruction.{Reads, root-reads, same-top}
use Rattle.serving_model.proofs.AtRest.{Has, Does, retires, issues, does}
use Rattle.serving_model.proofs.Found.{calm, RootFound, root-found}
use Rattle.serving_model.proofs.Numbers.{child-counted, others-lack}
use Rattle.serving_model.proofs.Alone.{turned, turned-kids, changed-kids, changed}
use Rattle.serving_model.proofs.Stepped.{Ended, before, other-leaf, own-leaf}

-- the item of a store
item-of : (x : ℕ) (o : Option Stored) → option_map (λ (s : Stored). s.item) o ≡ Some x → (s : Stored) × (o ≡ Some s) × (s.item ≡ x)
item-of x None e = cc
item-of x (Some s) e = (s, refl, one e) where
  one : {a b : ℕ} → Some a ≡ Some b → a ≡ b
  one e = cc

module _ (f : FlatMachine) (h : ℕ) (c : Change) (may : ℕ → Option ℕ → Bool) (allows : (k : ℕ) (r : Option ℕ) → may k r ≡ true → (r ≡ (flat_hart f k).reserved) ⊎ Ended f h c k r) (k : MachineValue) (g : FlatHart) (victim : ℕ) (shaped : IsShaped k) (ok : IsMachineOk k) (rests : is_at_rest k ≡ true) (room : has_room k ≡ true)
    (have : AllHave (before f h c may allows) k.kids) (own : hart_at h k ≡ Some g) (step : hart_step k.code k.items g (item_words f) true ≡ Ok c) (in_range : h < length f.harts) (counts : length f.words ≡ items_of_machine k) (op : Op) (answered : (turn_of (Turn.Hart h victim) k).answer ≡ TurnAnswer.Retired op) where
  abbrev n : ℕ
  n = items_of_machine k

  abbrev t : Turn
  t = Turn.Hart h victim

  abbrev flat : FlatView
  flat = before f h c may allows

  abbrev goal : FlatView
  goal = view (with_change f h c)

  found : RootFound k flat h g ok rests room have own
  found = root-found k flat h g ok rests room have own

  abbrev leaf : LeafValue
  leaf = found.leaf

  one : Reads (answer_here k.code k.items t) n flat h (λ v. v ≡ leaf) at_top (dir_node k.top k.kids)
  one = root-reads (answer_here k.code k.items t) n flat h (λ v. v ≡ leaf) k.top k.kids found.root

  leaf-flat : hart_step k.code k.items (leaf_hart leaf) (item_words f) true ≡ Ok c
  leaf-flat = subst (λ a. hart_step k.code k.items a (item_words f) true ≡ Ok c) (sym found.is) step

  said : (turn_of t k).answer ≡ answer_of_deed (key_at_leaf one.place one.leaf.done) leaf (deed_of k.code k.items victim leaf)
  unfolding leaf_step deed_of
  said = ap (λ (o : TurnedMachine). o.answer) (turn-answered t k _ one.says) ∙ ap (λ v. answer_of_deed (key_at_leaf one.place one.leaf.done) v (deed_of k.code k.items victim v)) one.is

  number : leaf.number ≡ h
  number = eq-fact leaf.number h (subst (λ (v : LeafValue). nat_eq v.number h ≡ true) one.is one.number) where
    eq-fact : (a b : ℕ) → nat_eq a b ≡ true → a ≡ b
    eq-fact a b e = grind (arith, nat_tests)

  -- the item that is stored to
  abbrev stored : Option ℕ
  stored = option_map (λ (s : Stored). s.item) c.stored

  inside : (s : Stored) → c.stored ≡ Some s → s.item < n
  inside s is = asks_inside k.code k.items leaf.hart s.item ((step_leaves k.code k.items (leaf_hart leaf) (item_words f) true c leaf-flat).1 s is)

  known : (x : ℕ) → stored ≡ Some x → x < n
  known x e =
      let s = item-of x c.stored e in
      subst (λ i. i < n) s.2 (inside s.0 s.1)

  other : (v : LeafValue) → nat_eq v.number h ≡ false → ((x : ℕ) → stored ≡ Some x → way_at x v.ways ≡ None) → LeafHas flat v.number v.hart v.reservation v.ways → LeafHas goal v.number v.hart v.reservation v.ways
  other v differs lacks has = other-leaf f h c may allows v.number v.hart v.reservation v.ways (λ same. true≢false (sym (eq-eqb v.number h same) ∙ differs)) (λ s is. lacks s.item (ap (option_map (λ (a : Stored). a.item)) is)) has

  module _ (deed : deed_of k.code k.items victim leaf ≡ completes c) (has : (s : Stored) → c.stored ≡ Some s → Has k.code k.items flat leaf found.calm.rules found.calm.settled c leaf-flat victim s.item)
      (kept : (y : ℕ) → has_reserved c.after.reserved y ≡ true → is_some (way_at y leaf.ways) ≡ true) where
    owns : (x : ℕ) → stored ≡ Some x → is_exclusive (child_hold x (leaf_node leaf)) ≡ true
    unfolding leaf_hold entry_at
    owns x e =
        let s = item-of x c.stored e in
        let own = has s.0 s.1 in
        subst (λ i. is_exclusive (child_hold i (leaf_node leaf)) ≡ true) s.2 (rw (own.there, own.exclusive) refl)

    after-leaf : (w : Where) → Settled n goal (leaf_node (leaf_step k.code k.items (key_at_leaf w leaf.done) victim leaf).leaf)
    unfolding leaf_step
    after-leaf w = subst (λ d. Settled n goal (leaf_node (leaf_after_deed leaf d))) (sym deed)
        (own-leaf f h c flat (λ y. refl) n leaf number in_range (λ s is. subst (λ i. s.item < i) (sym counts) (inside s is)) found.calm.settled kept (λ s is. let own = has s is in (own.entry, own.there)))

    abbrev j : ℕ
    j = found.root.child

    abbrev kid : Node
    kid = child_at j (children k.kids)

    there-has : has_node (leaf_of_number h) kid ≡ true
    there-has = spine-has h n flat (λ v. v ≡ leaf) kid found.root.spine

    absent : (i : ℕ) → i < length (children k.kids) → i ≢ j → has_node (leaf_of_number h) (child_at i (children k.kids)) ≡ false
    absent = others-lack h k.kids 0 [] (shaped.each leaves_numbered) j found.root.there there-has

    abbrev each-calm : (i : ℕ) → i < length (children k.kids) → Calm n flat (child_at i (children k.kids))
    each-calm = calm k flat h g ok rests room have own

    abbrev last : List Node
    last = slice_set (children k.kids) j (changed n flat goal h stored known other k.code k.items victim leaf owns after-leaf (at_child (spot_in [] k.top j)) kid)

    settled : (trees_rest (nodes last) ≡ true) × (trees_have_room n (skeletons (nodes last)) ≡ true) × AllHave goal (nodes last)
    settled =
        let turned-kid = turned n flat goal h stored known other k.code k.items victim leaf owns after-leaf kid (each-calm j found.root.there) found.root.spine (child-counted h k.kids 0 [] (shaped.each leaves_numbered) j found.root.there) in
        kids-settled n goal last (turned-kids n flat goal h stored known other k.code k.items victim leaf owns after-leaf k.top k.kids j each-calm ok.tree.0 found.root.rests found.root.there there-has absent turned-kid at_top)

    root-is : root_of (turn_of t k).machine ≡ dir_node k.top (nodes last)
    root-is = turn-root t k _ one.says ∙ ap (dir_node k.top) (changed-kids n flat goal h stored known other k.code k.items victim leaf owns after-leaf k.top k.kids j found.root.there there-has absent at_top)

    abbrev new : MachineValue
    new = (turn_of t k).machine

    parts : (new.top ≡ k.top) × (new.kids ≡ nodes last)
    parts = same-top new.top k.top new.kids (nodes last) root-is

    same-items : items_of_machine new ≡ n
    same-items = ap (λ (a : Frame). item_count a.items) (turn-frame t k)

    shows : Shows new (with_change f h c)
    shows = record {
      shaped = turn-shape t k shaped;
      rules = turn-keeps_rules t k ok;
      rests = ap tree_rests root-is ∙ both_true found.root.rests settled.0;
      room = both_true (ap (λ (d : DirValue). nat_lt 0 d.sizes.down_room) parts.0 ∙ found.root.down) (ap (λ i. trees_have_room i (skeletons new.kids)) same-items ∙ (ap (λ ns. trees_have_room n (skeletons ns)) parts.1 ∙ settled.1));
      leaves = subst (AllHave goal) (sym parts.1) settled.2;
      words = (same_counts f h c).1 ∙ (counts ∙ sym same-items);
    }

  pub turn-shows : Shows (turn_of t k).machine (with_change f h c)
  turn-shows = by (does k.code k.items flat leaf found.calm.rules found.calm.settled c leaf-flat victim) where
    not-issued : (kind : TxKind) (x : ℕ) → TurnAnswer.Issued kind x ≡ TurnAnswer.Retired op → ⊥
    not-issued kind x e = cc

    by : Does k.code k.items flat leaf found.calm.rules found.calm.settled c leaf-flat victim → Shows (turn_of t k).machine (with_change f h c)
    by (retires deed has kept) = shows deed has kept
    by (issues kind x e) = absurd (not-issued kind x (sym (said ∙ e (key_at_leaf one.place one.leaf.done)) ∙ answered))
