-- A machine after a hart's turn, whatever it answers: its operations, its one leaf, its copies, claims and directories.
use Rattle.std.proofs.Common.{◌≡◌, ℕ, ◌+◌, true, false, inr, List, [], ◌∷◌, ◌++◌, Option, Some, None, refl, sym, ap, subst, ◌∙◌, append_assoc, append-nil}
use Rattle.std.specs.List.{AllByRecursion}
use Rattle.std.proofs.lemmas.Bool.{eqb-true}
use Rattle.order_laws.specs.DdmTypes.declared.answers.TurnAnswer.{TurnAnswer}
use Rattle.order_laws.specs.DdmTypes.declared.turns.Turn.{Turn}
use Rattle.order_laws.specs.DdmTypes.declared.operations.Effect.{Effect}
use Rattle.order_laws.specs.DdmTypes.declared.operations.Op.{Op}
use Rattle.order_laws.specs.DdmTypes.ItemTable.{ItemTable}
use Rattle.order_laws.specs.TreeModel.State.Values.{LeafValue, DirValue, Node, Nodes, leaf_node, dir_node, more_nodes, MachineValue, root_of}
use Rattle.order_laws.specs.TreeModel.State.Leaf.{words_of_item}
use Rattle.order_laws.specs.TreeModel.State.Place.{Spot, spot_path, spot_in, Where, at_top, at_child, where_path, key_at_leaf}
use Rattle.order_laws.specs.TreeModel.State.Shape.{Frame, levels_of, depth_of}
use Rattle.order_laws.specs.TreeModel.Turns.HartTurn.{leaf_step}
use Rattle.order_laws.specs.TreeModel.Turns.Tree.{leaf_of_number, has_node, ChangedAt, ChangedAmong, changed_here, changed_below, changed_first, changed_later}
use Rattle.order_laws.specs.TreeModel.Turns.Machine.{turn_answer, turn_root, with_root, recorded, turn_of}
use Rattle.order_laws.specs.TreeModel.Laws.{TurnsHere}
use Rattle.order_laws.proofs.TreeModel.Changed.{changed-holds}
use Rattle.order_laws.proofs.TreeModel.TurnChanges.{turn-changes_nothing, turn-changes_one_node}
use Rattle.order_laws.proofs.TreeModel.FrameKept.{turn-frame}
use Rattle.order_laws.specs.TreeRules.Bus.Own.{IsLeafOk}
use Rattle.order_laws.specs.TreeRules.Bus.Rules.{IsTreeOk, AreTreesOk, items_of_machine, IsMachineOk}
use Rattle.order_laws.specs.TreeRules.Order.Moments.{is_under}
use Rattle.order_laws.specs.TreeRules.Order.Places.{LeafAt, leaf_path, leaves_in, placed_leaves, leaves_at, dirs_at, placed_dirs}
use Rattle.order_laws.specs.TreeRules.Order.Copies.{copies_here, handed, copies_of}
use Rattle.order_laws.specs.TreeRules.Order.Claims.{claims_of, claims_among}
use Rattle.order_lists.proofs.Filters.{each-left, each-right}
use Rattle.order_laws.proofs.Hart.LeafTurned.{EntryTurned}
use Rattle.order_laws.proofs.Hart.TreeTurned.{NodeTurned, AmongTurned, RootTurned, root_turned}
use Rattle.order_laws.specs.Pairs.{Pairs}
use Rattle.order_laws.proofs.Pairs.{pairs-append}
use Rattle.order_laws.proofs.Hart.CopiesTurned.{CopyTurned, CopiesTurned, here_turned, handed_turned}
use Rattle.order_laws.proofs.Hart.ClaimsTurned.{among_claims, placed_same, LeafMoved, placed_moved}

-- ---- operations

-- those after a turn with this answer
abbrev pub ops_with : TurnAnswer → List Op → List Op
ops_with (TurnAnswer.Retired op) ops = ops ++ op ∷ []
ops_with (TurnAnswer.Issued kind x) ops = ops
ops_with (TurnAnswer.Waiting x) ops = ops
ops_with (TurnAnswer.Halted cause) ops = ops
ops_with (TurnAnswer.Granted e) ops = ops
ops_with TurnAnswer.Empty ops = ops
ops_with (TurnAnswer.Busy cause) ops = ops

recorded_ops : (a : TurnAnswer) (m : MachineValue) → (recorded a m).ops ≡ ops_with a m.ops
recorded_ops (TurnAnswer.Retired op) m = refl
recorded_ops (TurnAnswer.Issued kind x) m = refl
recorded_ops (TurnAnswer.Waiting x) m = refl
recorded_ops (TurnAnswer.Halted cause) m = refl
recorded_ops (TurnAnswer.Granted e) m = refl
recorded_ops TurnAnswer.Empty m = refl
recorded_ops (TurnAnswer.Busy cause) m = refl

root_ops : (n : Node) (m : MachineValue) → (with_root n m).ops ≡ m.ops
root_ops (leaf_node v) m = refl
root_ops (dir_node d ns) m = refl

pub ops_after : (t : Turn) (m : MachineValue) → (turn_of t m).machine.ops ≡ ops_with (turn_of t m).answer m.ops
unfolding turn_of
ops_after t m = go (turn_answer t m) refl where
  go : (o : Option TurnAnswer) → turn_answer t m ≡ o → (turn_of t m).machine.ops ≡ ops_with (turn_of t m).answer m.ops
  go None e = rw e refl
  go (Some a) e = rw e (recorded_ops a (with_root (turn_root t m) m) ∙ ap (ops_with a) (root_ops (turn_root t m) m))

-- ---- the leaf that takes its turn

module _ (hart victim : ℕ) (m : MachineValue) where
  abbrev pub next : MachineValue
  next = (turn_of (Turn.Hart hart victim) m).machine

  abbrev pub answer : TurnAnswer
  answer = (turn_of (Turn.Hart hart victim) m).answer

  -- it keeps its own rules before
  pub record Takes (c : Spot) (v w : LeafValue) : Type 0 where
    pub own : IsLeafOk (items_of_machine m) v
    pub number : v.number ≡ hart
    pub answers : (leaf_step m.code m.items (key_at_leaf (at_child c) v.done) victim v).answer ≡ answer
    pub after : w ≡ (leaf_step m.code m.items (key_at_leaf (at_child c) v.done) victim v).leaf

  -- with what was known of all leaves
  pub record Tip (P : LeafAt → Type 0) (at : List ℕ) : Type 0 where
    pub place : LeafAt
    pub after : LeafValue
    pub path : leaf_path place ≡ at
    pub takes : Takes place.spot place.leaf after
    pub fact : P place

  pub record HartTurned : Type 1 where
    pub at : List ℕ
    pub top : next.top ≡ m.top
    pub kids : AmongTurned at Takes [] m.top 0 m.kids next.kids
    pub tip : (P : LeafAt → Type 0) → AllByRecursion P (leaves_at m) → Tip P at

  abbrev Turns : Where → Node → Node → Type 0
  Turns = TurnsHere (Turn.Hart hart victim) m answer

  -- with the rules of the bus there
  record Here (w : Where) (n k : Node) : Type 0 where
    turns : Turns w n k
    rules : IsTreeOk (items_of_machine m) n

  ruled : (w : Where) (path : List ℕ) (n k : Node) → ChangedAt Turns w path n k → IsTreeOk (items_of_machine m) n → ChangedAt Here w path n k
  ruled =
      changed-holds Turns (λ w path n k. IsTreeOk (items_of_machine m) n → ChangedAt Here w path n k) (λ above d k i path ns ms. AreTreesOk (items_of_machine m) ns → ChangedAmong Here above d k i path ns ms)
      (λ w n k r ok. changed_here (record { turns = r; rules = ok })) (λ w d i path ns ms run ok. changed_below (run ok.1)) (λ above d k path n k2 ns part ok. changed_first (part ok.0)) (λ above d k i path n ns ms run ok. changed_later (run ok.1))

  module _ (at : List ℕ) where
    turned_root : (n k : Node) → Here at_top n k → RootTurned at Takes n k
    turned_root (leaf_node v) k r = tt
    turned_root (dir_node d ns) k r = absurd (let named : false ≡ true = r.turns.named in let wrong : ⊥ = cc in wrong)

    turned_leaf : (c : Spot) (n k : Node) → Here (at_child c) n k → spot_path c ≡ at → NodeTurned at Takes c n k
    turned_leaf c (leaf_node v) k r e = subst (λ (n : Node). NodeTurned at Takes c (leaf_node v) n) (sym r.turns.becomes) (inr (e, record { own = r.rules; number = eqb-true v.number hart r.turns.named; answers = r.turns.reads; after = refl }))
    turned_leaf c (dir_node d ns) k r e = absurd (let named : false ≡ true = r.turns.named in let wrong : ⊥ = cc in wrong)

    module _ (P : LeafAt → Type 0) where
      -- the leaves of a part of the tree
      abbrev leaves_from : Where → Node → List LeafAt
      leaves_from at_top (leaf_node v) = []
      leaves_from at_top (dir_node d ns) = placed_leaves [] d 0 ns
      leaves_from (at_child c) n = leaves_in c n

      abbrev IsPart : Where → Node → Type 0
      IsPart at_top (leaf_node v) = ⊥
      IsPart at_top (dir_node d ns) = Unit {0}
      IsPart (at_child c) n = Unit {0}

      abbrev PartHasTip : Where → List ℕ → Node → Node → Type 0
      PartHasTip w path n k = IsPart w n → at ≡ where_path w ++ path → AllByRecursion P (leaves_from w n) → Tip P at

      abbrev RunHasTip : List ℕ → DirValue → ℕ → ℕ → List ℕ → Nodes → Nodes → Type 0
      RunHasTip above d k i path ns ms = at ≡ above ++ i ∷ path → AllByRecursion P (placed_leaves above d k ns) → Tip P at

      tip_here : (w : Where) (n k : Node) → Here w n k → PartHasTip w [] n k
      tip_here at_top (leaf_node v) k r part e f = absurd part
      tip_here at_top (dir_node d ns) k r part e f = absurd (let named : false ≡ true = r.turns.named in let wrong : ⊥ = cc in wrong)
      tip_here (at_child c) (leaf_node v) k r part e f = record { place = record { spot = c; leaf = v }; after = _; path = sym (e ∙ append-nil (spot_path c)); takes = record { own = r.rules; number = eqb-true v.number hart r.turns.named; answers = r.turns.reads; after = refl }; fact = f.0 }
      tip_here (at_child c) (dir_node d ns) k r part e f = absurd (let named : false ≡ true = r.turns.named in let wrong : ⊥ = cc in wrong)

      tip_below : (w : Where) (d : DirValue) (i : ℕ) (path : List ℕ) (ns ms : Nodes) → RunHasTip (where_path w) d 0 i path ns ms → PartHasTip w (i ∷ path) (dir_node d ns) (dir_node d ms)
      tip_below at_top d i path ns ms run part e f = run e f
      tip_below (at_child c) d i path ns ms run part e f = run e f

      tip_first : (above : List ℕ) (d : DirValue) (k : ℕ) (path : List ℕ) (n k2 : Node) (ns : Nodes) → PartHasTip (at_child (spot_in above d k)) path n k2 → RunHasTip above d k k path (more_nodes n ns) (more_nodes k2 ns)
      tip_first above d k path n k2 ns part e f = part tt (e ∙ sym (append_assoc above (k ∷ []) path)) (each-left P (leaves_in (spot_in above d k) n) (placed_leaves above d (k + 1) ns) f)

      tip_later : (above : List ℕ) (d : DirValue) (k i : ℕ) (path : List ℕ) (n : Node) (ns ms : Nodes) → RunHasTip above d (k + 1) i path ns ms → RunHasTip above d k i path (more_nodes n ns) (more_nodes n ms)
      tip_later above d k i path n ns ms run e f = run e (each-right P (leaves_in (spot_in above d k) n) (placed_leaves above d (k + 1) ns) f)

      find_tip : (n k : Node) → ChangedAt Here at_top at n k → PartHasTip at_top at n k
      find_tip n k changed = changed-holds Here PartHasTip RunHasTip tip_here tip_below tip_first tip_later at_top at n k changed

  pub hart_turned : IsMachineOk m → has_node (leaf_of_number hart) (root_of m) ≡ true → HartTurned
  unfolding leaves_at
  hart_turned ok there = go (turn-changes_one_node (Turn.Hart hart victim) m there) where
    go : ((path : List ℕ) × ChangedAt Turns at_top path (root_of m) (root_of next)) → HartTurned
    go (at, turns) =
        let changed : ChangedAt Here at_top at (root_of m) (root_of next) = ruled at_top at (root_of m) (root_of next) turns ok.tree in
        let r : (next.top ≡ m.top) × AmongTurned at Takes [] m.top 0 m.kids next.kids = root_turned at Takes Here (turned_root at) (turned_leaf at) (root_of m) (root_of next) changed in
        record { at = at; top = r.0; kids = r.1; tip = λ P f. find_tip at P (root_of m) (root_of next) changed tt refl f }

  pub nothing_turned : has_node (leaf_of_number hart) (root_of m) ≡ false → next ≡ m
  nothing_turned absent = ap (λ o. o.machine) (turn-changes_nothing (Turn.Hart hart victim) m absent)

  -- ---- what no turn changes

  pub code_after : next.code ≡ m.code
  code_after = ap (λ (f : Frame). f.code) (turn-frame (Turn.Hart hart victim) m)

  pub items_after : next.items ≡ m.items
  items_after = ap (λ (f : Frame). f.items) (turn-frame (Turn.Hart hart victim) m)

  pub depth_after : depth_of next ≡ depth_of m
  depth_after = ap (λ (f : Frame). levels_of f.bones) (turn-frame (Turn.Hart hart victim) m)

  -- ---- the machine after it

  module _ (h : HartTurned) where
    pub dirs_after : dirs_at next ≡ dirs_at m
    unfolding dirs_at
    dirs_after = ap (λ (d : DirValue). placed_dirs [] d 0 next.kids) h.top ∙ placed_same h.at Takes [] m.top 0 m.kids next.kids h.kids

    pub leaves_after : Pairs (LeafMoved h.at Takes) (leaves_at m) (leaves_at next)
    unfolding leaves_at
    leaves_after = subst (λ (d : DirValue). Pairs (LeafMoved h.at Takes) (placed_leaves [] m.top 0 m.kids) (placed_leaves [] d 0 next.kids)) (sym h.top) (placed_moved h.at Takes [] m.top 0 m.kids next.kids h.kids)

    -- the leaf stands on a bus
    below_top : is_under h.at [] ≡ false
    below_top = go (h.tip (λ a. Unit {0}) (all (leaves_at m))) where
      all : (ls : List LeafAt) → AllByRecursion (λ a. Unit {0}) ls
      all [] = tt
      all (a ∷ ls) = (tt, all ls)

      no_root : (above : List ℕ) (i : ℕ) → is_under (above ++ i ∷ []) [] ≡ false
      no_root [] i = refl
      no_root (c ∷ above) i = refl

      go : Tip (λ a. Unit {0}) h.at → is_under h.at [] ≡ false
      go t = ap (λ p. is_under p []) (sym t.path) ∙ no_root t.place.spot.above t.place.spot.number

    module _ (items : ItemTable) (x : ℕ) (effect : Effect) (takes : (c : Spot) (v w : LeafValue) → Takes c v w → EntryTurned items effect x v w × (w.replies ≡ v.replies)) where
      pub copies_after : CopiesTurned items x effect h.at (copies_of x m) (copies_of x next)
      unfolding copies_of
      copies_after = subst (λ (d : DirValue). CopiesTurned items x effect h.at (handed x [] [] m.top 0 m.kids ++ copies_here [] [] (words_of_item x m.top.parked)) (handed x [] [] d 0 next.kids ++ copies_here [] [] (words_of_item x d.parked))) (sym h.top) (pairs-append (CopyTurned items x effect h.at) (handed x [] [] m.top 0 m.kids) (handed x [] [] m.top 0 next.kids) (copies_here [] [] (words_of_item x m.top.parked)) (copies_here [] [] (words_of_item x m.top.parked)) (handed_turned items x effect h.at Takes takes [] [] m.top 0 m.kids next.kids below_top h.kids) (here_turned items x effect h.at [] [] (words_of_item x m.top.parked) below_top))

      pub claims_after : claims_of x next ≡ claims_of x m
      unfolding claims_of
      claims_after = ap (λ (d : DirValue). claims_among x [] d 0 next.kids) h.top ∙ among_claims items x effect h.at Takes (λ c v w t. (takes c v w t).0) [] m.top 0 m.kids next.kids h.kids
