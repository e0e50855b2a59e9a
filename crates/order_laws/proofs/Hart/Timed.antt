-- A hart's turn keeps the rules of time.
use Rattle.std.proofs.Common.{◌≡◌, ℕ, ◌+◌, Bool, true, false, nat_eq, ◌⊎◌, inl, inr, List, [], ◌∷◌, ◌++◌, refl, sym, ap, subst, ◌∙◌}
use Rattle.std.specs.List.{AllByRecursion, list_any}
use Rattle.std.proofs.lemmas.Bool.{true≢false, eqb-true, eq-eqb}
use Rattle.order_laws.specs.DdmTypes.declared.answers.TurnAnswer.{TurnAnswer}
use Rattle.order_laws.specs.DdmTypes.declared.turns.Turn.{Turn}
use Rattle.order_laws.specs.DdmTypes.declared.operations.Op.{Op}
use Rattle.order_laws.specs.DdmTypes.Keys.{key_less}
use Rattle.order_laws.specs.TreeModel.State.Values.{LeafValue, MachineValue, root_of}
use Rattle.order_laws.specs.TreeModel.State.Place.{Spot, spot_path, at_child, key_at_leaf}
use Rattle.order_laws.specs.TreeModel.State.Shape.{depth_of, IsShaped}
use Rattle.order_laws.specs.TreeModel.Turns.Tree.{leaf_of_number, has_node}
use Rattle.order_laws.specs.TreeRules.Statements.{Statement, Holds, each, each_pair}
use Rattle.order_laws.specs.TreeRules.Bus.Rules.{IsMachineOk}
use Rattle.order_laws.specs.TreeRules.Order.Moments.{less, spot_moment, is_under, same_numbers}
use Rattle.order_laws.specs.TreeRules.Order.Places.{LeafAt, leaf_path, leaf_now, leaves_at, DirAt, dirs_at}
use Rattle.order_laws.specs.TreeRules.Order.Ops.{op_key, op_path}
use Rattle.order_laws.specs.TreeRules.Order.Time as time
use Rattle.order_laws.specs.TreeRules.Order.Rules.{TimeRule, keys_differ, ops_of_leaves, keys_end, keys_have_paths, keys_are_past, taken_is_past, stamps_between, stamps_rise, stamps_end, epochs_end, time_rule, IsTimed}
use Rattle.order_lists.proofs.Listed.{each_pair-push}
use Rattle.order_lists.proofs.Moments.{less-transitive, same_numbers-itself}
use Rattle.order_lists.proofs.Keys.{key_less-total}
use Rattle.order_lists.proofs.Paths.{under-itself}
use Rattle.order_laws.specs.Hart.{HartTurnKeepsTime}
use Rattle.order_laws.proofs.Hart.Retiring.{has_retired}
use Rattle.order_laws.proofs.Hart.LeafTurned.{LeafTurned}
use Rattle.order_laws.proofs.Hart.Still.{Stays, stays_after}
use Rattle.order_laws.specs.Pairs.{Pairs}
use Rattle.order_laws.proofs.Hart.ClaimsTurned.{LeafMoved}
use Rattle.order_laws.proofs.Hart.HartMachine.{ops_with, ops_after, next, answer, Takes, HartTurned, hart_turned, nothing_turned, depth_after, dirs_after, leaves_after}
use Rattle.order_laws.proofs.Hart.LeafPlaces.{IsOnlyOf}
use Rattle.order_laws.proofs.Hart.Transport.{holds-push, holds-weaker, pairs-holds, pairs-each, pairs-any, each_any}
use Rattle.order_laws.proofs.Hart.NewOp.{now_rises, IsEarlier, differs, new_now, new_path, new_ends}
use Rattle.order_laws.proofs.Hart.Completed.{Completed, completed, taken_turned, earlier_ops}

-- a rule of time over its parts
abbrev rule_of : TimeRule → ℕ → List LeafAt → List DirAt → List Op → Statement
rule_of keys_differ depth leaves dirs ops = each_pair time.keys_differ ops
rule_of ops_of_leaves depth leaves dirs ops = each (time.has_leaf leaves) ops
rule_of keys_end depth leaves dirs ops = each (time.has_ending_key depth) ops
rule_of keys_have_paths depth leaves dirs ops = each (λ o. each (time.has_leaf_path depth o) leaves) ops
rule_of keys_are_past depth leaves dirs ops = each (λ o. each (time.is_before_now depth o) leaves) ops
rule_of taken_is_past depth leaves dirs ops = each time.takes_past dirs
rule_of stamps_between depth leaves dirs ops = each (λ c. each (time.lies_between c) c.dir.down) dirs
rule_of stamps_rise depth leaves dirs ops = each (λ c. each_pair (time.may_stand_behind c) c.dir.down) dirs
rule_of stamps_end depth leaves dirs ops = each (λ c. each (time.entry_ends c) c.dir.down) dirs
rule_of epochs_end depth leaves dirs ops = each time.epoch_ends dirs

rule_is : (r : TimeRule) (m : MachineValue) → time_rule r m ≡ rule_of r (depth_of m) (leaves_at m) (dirs_at m) m.ops
rule_is keys_differ m = refl
rule_is ops_of_leaves m = refl
rule_is keys_end m = refl
rule_is keys_have_paths m = refl
rule_is keys_are_past m = refl
rule_is taken_is_past m = refl
rule_is stamps_between m = refl
rule_is stamps_rise m = refl
rule_is stamps_end m = refl
rule_is epochs_end m = refl

-- a leaf that stays where it is, and counts no less
record GoesOnAs (a b : LeafAt) : Type 0 where
  spot : b.spot ≡ a.spot
  number : b.leaf.number ≡ a.leaf.number
  done : (b.leaf.done ≡ a.leaf.done) ⊎ (b.leaf.done ≡ a.leaf.done + 1)

module _ (depth : ℕ) where
  path_stays : (o : Op) (a b : LeafAt) → GoesOnAs a b → Holds (time.has_leaf_path depth o a) → Holds (time.has_leaf_path depth o b)
  path_stays o a b g h e = ap (λ (c : Spot). same_numbers (op_path depth o) (spot_path c)) g.spot ∙ h (ap (nat_eq o.hart) (sym g.number) ∙ e)

  now_stays : (o : Op) (a b : LeafAt) → GoesOnAs a b → Holds (time.is_before_now depth o a) → Holds (time.is_before_now depth o b)
  now_stays o a b g h e = go g.done where
    before : less (op_key depth o) (leaf_now a) ≡ true
    before = h (ap (nat_eq o.hart) (sym g.number) ∙ e)

    now_is : (d : ℕ) → b.leaf.done ≡ d → leaf_now b ≡ spot_moment a.spot ++ a.spot.number ∷ d ∷ []
    now_is d is = ap (λ (c : Spot). spot_moment c ++ c.number ∷ b.leaf.done ∷ []) g.spot ∙ ap (λ n. spot_moment a.spot ++ a.spot.number ∷ n ∷ []) is

    go : (b.leaf.done ≡ a.leaf.done) ⊎ (b.leaf.done ≡ a.leaf.done + 1) → less (op_key depth o) (leaf_now b) ≡ true
    go (inl d) = ap (less (op_key depth o)) (now_is a.leaf.done d) ∙ before
    go (inr d) = ap (less (op_key depth o)) (now_is (a.leaf.done + 1) d) ∙ less-transitive (op_key depth o) (leaf_now a) (spot_moment a.spot ++ a.spot.number ∷ (a.leaf.done + 1) ∷ []) before (now_rises (spot_moment a.spot) a.spot.number a.leaf.done)

  module _ (leaves after : List LeafAt) (moved : Pairs GoesOnAs leaves after) where
    leaf_stays : (o : Op) → Holds (time.has_leaf leaves o) → Holds (time.has_leaf after o)
    leaf_stays o h = pairs-any GoesOnAs (time.is_leaf_of o) (λ a b g. ap (nat_eq o.hart) g.number) leaves after moved ∙ h

    -- the operations that were there
    old_rule : (r : TimeRule) (dirs : List DirAt) (ops : List Op) → Holds (rule_of r depth leaves dirs ops) → Holds (rule_of r depth after dirs ops)
    old_rule keys_differ dirs ops h = h
    old_rule ops_of_leaves dirs ops h = holds-weaker (time.has_leaf leaves) (time.has_leaf after) leaf_stays ops h
    old_rule keys_end dirs ops h = h
    old_rule keys_have_paths dirs ops h = holds-weaker (λ o. each (time.has_leaf_path depth o) leaves) (λ o. each (time.has_leaf_path depth o) after) (λ o k. pairs-holds GoesOnAs (time.has_leaf_path depth o) (time.has_leaf_path depth o) (path_stays o) leaves after moved k) ops h
    old_rule keys_are_past dirs ops h = holds-weaker (λ o. each (time.is_before_now depth o) leaves) (λ o. each (time.is_before_now depth o) after) (λ o k. pairs-holds GoesOnAs (time.is_before_now depth o) (time.is_before_now depth o) (now_stays o) leaves after moved k) ops h
    old_rule taken_is_past dirs ops h = h
    old_rule stamps_between dirs ops h = h
    old_rule stamps_rise dirs ops h = h
    old_rule stamps_end dirs ops h = h
    old_rule epochs_end dirs ops h = h

    -- one more
    record IsTimedOp (ops : List Op) (op : Op) : Type 0 where
      differs : AllByRecursion (λ o. Holds (time.keys_differ o op)) ops
      leaf : Holds (time.has_leaf after op)
      ends : Holds (time.has_ending_key depth op)
      path : Holds (each (time.has_leaf_path depth op) after)
      past : Holds (each (time.is_before_now depth op) after)

    new_rule : (r : TimeRule) (dirs : List DirAt) (ops : List Op) (op : Op) → IsTimedOp ops op → Holds (rule_of r depth after dirs ops) → Holds (rule_of r depth after dirs (ops ++ op ∷ []))
    new_rule keys_differ dirs ops op n h = each_pair-push time.keys_differ ops op h n.differs
    new_rule ops_of_leaves dirs ops op n h = holds-push (time.has_leaf after) ops op h n.leaf
    new_rule keys_end dirs ops op n h = holds-push (time.has_ending_key depth) ops op h n.ends
    new_rule keys_have_paths dirs ops op n h = holds-push (λ o. each (time.has_leaf_path depth o) after) ops op h n.path
    new_rule keys_are_past dirs ops op n h = holds-push (λ o. each (time.is_before_now depth o) after) ops op h n.past
    new_rule taken_is_past dirs ops op n h = h
    new_rule stamps_between dirs ops op n h = h
    new_rule stamps_rise dirs ops op n h = h
    new_rule stamps_end dirs ops op n h = h
    new_rule epochs_end dirs ops op n h = h

-- ---- the machine after the turn

pairs-goes_on : (R : LeafAt → LeafAt → Type 0) → ((a b : LeafAt) → R a b → GoesOnAs a b) → (xs ys : List LeafAt) → Pairs R xs ys → Pairs GoesOnAs xs ys
pairs-goes_on R f [] [] r = tt
pairs-goes_on R f [] (y ∷ ys) r = absurd r
pairs-goes_on R f (x ∷ xs) [] r = absurd r
pairs-goes_on R f (x ∷ xs) (y ∷ ys) r = (f x y r.0, pairs-goes_on R f xs ys r.1)

module _ (hart victim : ℕ) (m : MachineValue) where
  moved_on : (h : HartTurned hart victim m) → ((c : Spot) (v w : LeafValue) → Takes hart victim m c v w → (w.number ≡ v.number) × ((w.done ≡ v.done) ⊎ (w.done ≡ v.done + 1))) → Pairs GoesOnAs (leaves_at m) (leaves_at (next hart victim m))
  moved_on h steps = pairs-goes_on (LeafMoved h.at (Takes hart victim m)) one (leaves_at m) (leaves_at (next hart victim m)) (leaves_after hart victim m h) where
    one : (a b : LeafAt) → LeafMoved h.at (Takes hart victim m) a b → GoesOnAs a b
    one a b (inl k) = record { spot = ap (λ (c : LeafAt). c.spot) k.0; number = ap (λ (c : LeafAt). c.leaf.number) k.0; done = inl (ap (λ (c : LeafAt). c.leaf.done) k.0) }
    one a b (inr k) = record { spot = k.spot; number = (steps a.spot a.leaf b.leaf k.takes).0; done = (steps a.spot a.leaf b.leaf k.takes).1 }

  -- the rules over the parts of the next machine, for these operations
  timed_with : (ops : List Op) → (next hart victim m).ops ≡ ops → (h : HartTurned hart victim m) → ((r : TimeRule) → Holds (rule_of r (depth_of m) (leaves_at (next hart victim m)) (dirs_at m) ops)) → IsTimed (next hart victim m)
  timed_with ops same h rules = record { each = one } where
    one : (r : TimeRule) → Holds (time_rule r (next hart victim m))
    one r =
        let is : time_rule r (next hart victim m) ≡ rule_of r (depth_of m) (leaves_at (next hart victim m)) (dirs_at m) ops =
        rule_is r (next hart victim m) ∙ ap (λ d. rule_of r d (leaves_at (next hart victim m)) (dirs_at (next hart victim m)) (next hart victim m).ops) (depth_after hart victim m) ∙ ap (λ cs. rule_of r (depth_of m) (leaves_at (next hart victim m)) cs (next hart victim m).ops) (dirs_after hart victim m h) ∙ ap (rule_of r (depth_of m) (leaves_at (next hart victim m)) (dirs_at m)) same in
        subst Holds (sym is) (rules r)

  old_holds : IsTimed m → (r : TimeRule) → Holds (rule_of r (depth_of m) (leaves_at m) (dirs_at m) m.ops)
  old_holds timed r = subst Holds (rule_is r m) (timed.each r)

  -- ---- a turn that doesn't complete

  pub stays : has_retired (answer hart victim m) ≡ false → (c : Spot) (v w : LeafValue) → Takes hart victim m c v w → Stays m.code m.items v w
  stays none c v w t = subst (λ (u : LeafValue). Stays m.code m.items v u) (sym t.after) (stays_after m.code m.items victim v (key_at_leaf (at_child c) v.done) t.own (ap has_retired t.answers ∙ none))

  pub same_ops : has_retired (answer hart victim m) ≡ false → (next hart victim m).ops ≡ m.ops
  same_ops none = ops_after (Turn.Hart hart victim) m ∙ go (answer hart victim m) none where
    go : (a : TurnAnswer) → has_retired a ≡ false → ops_with a m.ops ≡ m.ops
    go (TurnAnswer.Retired op) e = absurd (true≢false e)
    go (TurnAnswer.Issued kind x) e = refl
    go (TurnAnswer.Waiting x) e = refl
    go (TurnAnswer.Halted cause) e = refl
    go (TurnAnswer.Granted l) e = refl
    go TurnAnswer.Empty e = refl
    go (TurnAnswer.Busy cause) e = refl

  timed_still : IsTimed m → HartTurned hart victim m → has_retired (answer hart victim m) ≡ false → IsTimed (next hart victim m)
  timed_still timed h none = timed_with m.ops (same_ops none) h (λ r. old_rule (depth_of m) (leaves_at m) (leaves_at (next hart victim m)) (moved_on h (λ c v w t. ((stays none c v w t).number, inl (stays none c v w t).done))) r (dirs_at m) m.ops (old_holds timed r))

  -- ---- a turn that completes

  pub one_more : (op : Op) → answer hart victim m ≡ TurnAnswer.Retired op → (next hart victim m).ops ≡ m.ops ++ op ∷ []
  one_more op retired = ops_after (Turn.Hart hart victim) m ∙ ap (λ a. ops_with a m.ops) retired

  module _ (shaped : IsShaped m) (ok : IsMachineOk m) (timed : IsTimed m) (h : HartTurned hart victim m) (op : Op) (retired : answer hart victim m ≡ TurnAnswer.Retired op) where
    moved : Pairs GoesOnAs (leaves_at m) (leaves_at (next hart victim m))
    moved = moved_on h (λ c v w t. ((taken_turned hart victim m h op shaped retired c v w t).beside.number, inr (taken_turned hart victim m h op shaped retired c v w t).beside.done))

    abbrev IsFound : LeafAt → Type 0
    IsFound a = time.is_leaf_of op a ≡ true → list_any (time.is_leaf_of op) (leaves_at m) ≡ true

    done : Completed hart victim m h op IsFound
    done = completed hart victim m h op IsFound shaped ok timed retired (each_any (time.is_leaf_of op) (leaves_at m))

    timed_op : IsTimedOp (depth_of m) (leaves_at m) (leaves_at (next hart victim m)) moved m.ops op
    timed_op = record {
      differs = apart m.ops (earlier_ops hart victim m h op timed IsFound done);
      leaf = pairs-any GoesOnAs (time.is_leaf_of op) (λ a b g. ap (nat_eq op.hart) g.number) (leaves_at m) (leaves_at (next hart victim m)) moved ∙ done.fact (eq-eqb op.hart done.place.leaf.number done.new.hart);
      ends = new_ends (depth_of m) m.ops (leaves_at m) op done.place done.new;
      path = pairs-each (LeafMoved h.at (Takes hart victim m)) (IsOnlyOf done.place) (time.has_leaf_path (depth_of m) op) path_at (leaves_at m) (leaves_at (next hart victim m)) (leaves_after hart victim m h) done.new.only;
      past = pairs-each (LeafMoved h.at (Takes hart victim m)) (IsOnlyOf done.place) (time.is_before_now (depth_of m) op) past_at (leaves_at m) (leaves_at (next hart victim m)) (leaves_after hart victim m h) done.new.only;
    } where
      apart : (os : List Op) → AllByRecursion (IsEarlier (depth_of m) op) os → AllByRecursion (λ o. Holds (time.keys_differ o op)) os
      apart [] e = tt
      apart (o ∷ os) e = (by_total (key_less-total o.key op.key), apart os e.1) where
        by_total : (o.key ≡ op.key) ⊎ ((key_less o.key op.key ≡ true) ⊎ (key_less op.key o.key ≡ true)) → Holds (time.keys_differ o op)
        by_total (inl same) = absurd (differs (depth_of m) op o e.0 (sym same))
        by_total (inr less) = less

      path_at : (a b : LeafAt) → LeafMoved h.at (Takes hart victim m) a b → IsOnlyOf done.place a → Holds (time.has_leaf_path (depth_of m) op b)
      path_at a b moved only e = ap (λ p. same_numbers p (leaf_path b)) (new_path (depth_of m) m.ops (leaves_at m) op done.place done.new ∙ path moved) ∙ same_numbers-itself (leaf_path b) where
        path : LeafMoved h.at (Takes hart victim m) a b → leaf_path done.place ≡ leaf_path b
        path (inl k) = sym (ap leaf_path (k.0 ∙ only (ap (λ (c : LeafAt). c.leaf.number) (sym k.0) ∙ sym (eqb-true op.hart b.leaf.number e) ∙ done.new.hart)))
        path (inr k) = done.path ∙ sym k.path ∙ ap spot_path (sym k.spot)

      past_at : (a b : LeafAt) → LeafMoved h.at (Takes hart victim m) a b → IsOnlyOf done.place a → Holds (time.is_before_now (depth_of m) op b)
      past_at a b (inl k) only e =
          let same : a ≡ done.place = only (ap (λ (c : LeafAt). c.leaf.number) (sym k.0) ∙ sym (eqb-true op.hart b.leaf.number e) ∙ done.new.hart) in
          absurd (true≢false (sym (under-itself h.at) ∙ ap (is_under h.at) (sym (ap leaf_path same ∙ done.path)) ∙ k.1))
      past_at a b (inr k) only e =
          let t : LeafTurned m.items (key_at_leaf (at_child a.spot) a.leaf.done) a.leaf op b.leaf = taken_turned hart victim m h op shaped retired a.spot a.leaf b.leaf k.takes in
          let same : a ≡ done.place = only (sym t.beside.own ∙ done.new.hart) in
          let now : leaf_now b ≡ spot_moment a.spot ++ a.spot.number ∷ (a.leaf.done + 1) ∷ [] = ap (λ (c : Spot). spot_moment c ++ c.number ∷ b.leaf.done ∷ []) k.spot ∙ ap (λ n. spot_moment a.spot ++ a.spot.number ∷ n ∷ []) t.beside.done in
          ap (λ k. less k (leaf_now b)) (new_now (depth_of m) m.ops (leaves_at m) op done.place done.new ∙ ap leaf_now (sym same)) ∙ ap (less (leaf_now a)) now ∙ now_rises (spot_moment a.spot) a.spot.number a.leaf.done

    timed_completing : IsTimed (next hart victim m)
    timed_completing = timed_with (m.ops ++ op ∷ []) (one_more op retired) h (λ r. new_rule (depth_of m) (leaves_at m) (leaves_at (next hart victim m)) moved r (dirs_at m) m.ops op timed_op (old_rule (depth_of m) (leaves_at m) (leaves_at (next hart victim m)) moved r (dirs_at m) m.ops (old_holds timed r)))

  -- ---- every turn of a hart

  time_kept : IsShaped m → IsMachineOk m → IsTimed m → IsTimed (next hart victim m)
  time_kept shaped ok timed = by_node (has_node (leaf_of_number hart) (root_of m)) refl where
    by_answer : HartTurned hart victim m → (a : TurnAnswer) → answer hart victim m ≡ a → IsTimed (next hart victim m)
    by_answer h (TurnAnswer.Retired op) e = timed_completing shaped ok timed h op e
    by_answer h (TurnAnswer.Issued kind x) e = timed_still timed h (ap has_retired e)
    by_answer h (TurnAnswer.Waiting x) e = timed_still timed h (ap has_retired e)
    by_answer h (TurnAnswer.Halted cause) e = timed_still timed h (ap has_retired e)
    by_answer h (TurnAnswer.Granted l) e = timed_still timed h (ap has_retired e)
    by_answer h TurnAnswer.Empty e = timed_still timed h (ap has_retired e)
    by_answer h (TurnAnswer.Busy cause) e = timed_still timed h (ap has_retired e)

    by_node : (t : Bool) → has_node (leaf_of_number hart) (root_of m) ≡ t → IsTimed (next hart victim m)
    by_node false e = subst IsTimed (sym (nothing_turned hart victim m e)) timed
    by_node true e = by_answer (hart_turned hart victim m ok e) (answer hart victim m) refl

pub hart-turn-timed : HartTurnKeepsTime
hart-turn-timed hart victim m shaped ok timed = time_kept hart victim m shaped ok timed
