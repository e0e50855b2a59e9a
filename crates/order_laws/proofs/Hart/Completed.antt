-- The leaf that completes an operation, with what is known of it in the machine before.
use Rattle.std.proofs.Common.{◌≡◌, ◌≢◌, ℕ, ◌%◌, true, false, nat_eq, inl, inr, sym, ap, subst, ◌∙◌}
use Rattle.std.specs.List.{AllByRecursion, list_all}
use Rattle.std.proofs.lemmas.Bool.{true≢false, and_parts, eqb-true}
use Rattle.std.proofs.lemmas.List.Sums.{AllPass-from_list_all}
use Rattle.std.proofs.lemmas.List.Elements.{All-weaker}
use Rattle.order_laws.specs.DdmTypes.declared.answers.TurnAnswer.{TurnAnswer}
use Rattle.order_laws.specs.DdmTypes.declared.operations.Op.{Op}
use Rattle.order_laws.specs.DdmTypes.ItemTable.{ItemRow}
use Rattle.order_laws.specs.FlatModel.Legal.{HasWholeWords}
use Rattle.order_laws.specs.TreeModel.State.Values.{LeafValue, MachineValue}
use Rattle.order_laws.specs.TreeModel.State.Place.{Spot, at_child, key_at_leaf}
use Rattle.order_laws.specs.TreeModel.State.Shape.{depth_of, is_whole_word, items_of_words, IsShaped}
use Rattle.order_laws.specs.TreeModel.Turns.HartTurn.{leaf_step}
use Rattle.order_laws.specs.TreeRules.Statements.{Holds, each}
use Rattle.order_laws.proofs.TreeRules.Statements.{each-facts}
use Rattle.order_laws.specs.TreeRules.Bus.Rules.{IsMachineOk}
use Rattle.order_laws.specs.TreeRules.Order.Moments.{is_under}
use Rattle.order_laws.specs.TreeRules.Order.Places.{LeafAt, leaf_path, leaves_at, dirs_at}
use Rattle.order_laws.specs.TreeRules.Order.Time.{is_before_now, epoch_ends}
use Rattle.order_laws.specs.TreeRules.Order.Rules.{keys_are_past, epochs_end, ops_of_leaves, keys_have_paths, keys_end, IsTimed}
use Rattle.order_lists.proofs.Filters.{each-both, each-swap, each-weaker}
use Rattle.order_lists.proofs.Paths.{under-itself}
use Rattle.order_laws.proofs.Hart.Retiring.{Retires, retires}
use Rattle.order_laws.proofs.Hart.LeafTurned.{LeafTurned, leaf_turned}
use Rattle.order_laws.proofs.Hart.ClaimsTurned.{LeafTook, LeafMoved}
use Rattle.order_laws.proofs.Hart.HartMachine.{next, answer, Takes, Tip, HartTurned, leaves_after}
use Rattle.order_laws.proofs.Hart.LeafPlaces.{IsPlaced, all_placed, IsOnlyOf, one_of_number}
use Rattle.order_laws.proofs.Hart.Transport.{pairs-first}
use Rattle.order_laws.proofs.Hart.NewOp.{IsNewAt, IsEarlier, earlier}

pub whole_words : (m : MachineValue) → IsShaped m → HasWholeWords m.items
whole_words m shaped =
    let parts = and_parts (nat_eq (m.items.size % 4) 0) (list_all is_whole_word m.items.rows) (shaped.each items_of_words) in
    (eqb-true _ _ parts.0, All-weaker (λ (row : ItemRow). is_whole_word row ≡ true) (λ (row : ItemRow). row.address % 4 ≡ 0) (λ row h. eqb-true _ _ h) m.items.rows (AllPass-from_list_all is_whole_word m.items.rows parts.1))

module _ (hart victim : ℕ) (m : MachineValue) where
  -- of each leaf: what needs no more than the shape and time
  pub record IsKnownLeaf (a : LeafAt) : Type 0 where
    pub placed : IsPlaced (depth_of m) a
    pub only : AllByRecursion (IsOnlyOf a) (leaves_at m)
    pub before : AllByRecursion (λ o. Holds (is_before_now (depth_of m) o a)) m.ops

  pub known_leaves : IsShaped m → IsMachineOk m → IsTimed m → AllByRecursion IsKnownLeaf (leaves_at m)
  known_leaves shaped ok timed =
      each-both (λ a. IsPlaced (depth_of m) a × AllByRecursion (IsOnlyOf a) (leaves_at m)) (λ a. AllByRecursion (λ o. Holds (is_before_now (depth_of m) o a)) m.ops) IsKnownLeaf (λ a h k. record { placed = h.0; only = h.1; before = k }) (leaves_at m)
      (each-both (IsPlaced (depth_of m)) (λ a. AllByRecursion (IsOnlyOf a) (leaves_at m)) (λ a. IsPlaced (depth_of m) a × AllByRecursion (IsOnlyOf a) (leaves_at m)) (λ a h k. (h, k)) (leaves_at m) (all_placed m shaped ok.top (each-facts epoch_ends (dirs_at m) (timed.each epochs_end))) (one_of_number m shaped))
      (each-swap (λ o a. Holds (is_before_now (depth_of m) o a)) m.ops (leaves_at m) (each-weaker (λ o. Holds (each (is_before_now (depth_of m) o) (leaves_at m))) (λ o. AllByRecursion (λ a. Holds (is_before_now (depth_of m) o a)) (leaves_at m)) (λ o h. each-facts (is_before_now (depth_of m) o) (leaves_at m) h) m.ops (each-facts (λ o. each (is_before_now (depth_of m) o) (leaves_at m)) m.ops (timed.each keys_are_past))))

  module _ (h : HartTurned hart victim m) (op : Op) where
    -- the leaf, with what else was known of all
    pub record Completed (P : LeafAt → Type 0) : Type 0 where
      pub place : LeafAt
      pub after : LeafValue
      pub path : leaf_path place ≡ h.at
      pub takes : Takes hart victim m place.spot place.leaf after
      pub retires : Retires m.code m.items (key_at_leaf (at_child place.spot) place.leaf.done) place.leaf op after
      pub turned : LeafTurned m.items (key_at_leaf (at_child place.spot) place.leaf.done) place.leaf op after
      pub new : IsNewAt (depth_of m) m.ops (leaves_at m) op place
      pub fact : P place

    -- a leaf that takes the turn completes the operation
    pub taken : answer hart victim m ≡ TurnAnswer.Retired op → (c : Spot) (v w : LeafValue) → Takes hart victim m c v w → Retires m.code m.items (key_at_leaf (at_child c) v.done) v op w
    taken retired c v w t = subst (λ (u : LeafValue). Retires m.code m.items (key_at_leaf (at_child c) v.done) v op u) (sym t.after) (retires m.code m.items (key_at_leaf (at_child c) v.done) victim v op (t.answers ∙ retired))

    pub taken_turned : IsShaped m → answer hart victim m ≡ TurnAnswer.Retired op → (c : Spot) (v w : LeafValue) → Takes hart victim m c v w → LeafTurned m.items (key_at_leaf (at_child c) v.done) v op w
    taken_turned shaped retired c v w t = leaf_turned m.code m.items (key_at_leaf (at_child c) v.done) v op w (taken retired c v w t) (whole_words m shaped)

    pub completed : (P : LeafAt → Type 0) → IsShaped m → IsMachineOk m → IsTimed m → answer hart victim m ≡ TurnAnswer.Retired op → AllByRecursion P (leaves_at m) → Completed P
    completed P shaped ok timed retired facts = go (h.tip (λ a. IsKnownLeaf a × P a) (each-both IsKnownLeaf P (λ a. IsKnownLeaf a × P a) (λ a k p. (k, p)) (leaves_at m) (known_leaves shaped ok timed) facts)) where
      go : Tip hart victim m (λ a. IsKnownLeaf a × P a) h.at → Completed P
      go t =
          let r : Retires m.code m.items (key_at_leaf (at_child t.place.spot) t.place.leaf.done) t.place.leaf op t.after = taken retired t.place.spot t.place.leaf t.after t.takes in
          let l : LeafTurned m.items (key_at_leaf (at_child t.place.spot) t.place.leaf.done) t.place.leaf op t.after = leaf_turned m.code m.items (key_at_leaf (at_child t.place.spot) t.place.leaf.done) t.place.leaf op t.after r (whole_words m shaped) in
          record {
            place = t.place;
            after = t.after;
            path = t.path;
            takes = t.takes;
            retires = r;
            turned = l;
            new = record { placed = t.fact.0.placed; key = l.beside.key; hart = l.beside.own; only = t.fact.0.only; before = t.fact.0.before };
            fact = t.fact.1;
          }

    -- each leaf at the path that takes the turn has its number
    pub places_of : (a : LeafAt) → leaf_path a ≡ h.at → a.leaf.number ≡ hart → AllByRecursion (λ b. leaf_path b ≡ leaf_path a → b.leaf.number ≡ a.leaf.number) (leaves_at m)
    places_of a path number = pairs-first (LeafMoved h.at (Takes hart victim m)) (λ b. leaf_path b ≡ leaf_path a → b.leaf.number ≡ a.leaf.number) one (leaves_at m) (leaves_at (next hart victim m)) (leaves_after hart victim m h) where
      one : (b c : LeafAt) → LeafMoved h.at (Takes hart victim m) b c → leaf_path b ≡ leaf_path a → b.leaf.number ≡ a.leaf.number
      one b c (inl k) e = absurd (true≢false (sym (under-itself h.at) ∙ ap (is_under h.at) (sym (e ∙ path)) ∙ k.1))
      one b c (inr k) e = k.takes.number ∙ sym number

    -- a leaf that took the turn is the one that completed
    pub took_is : (P : LeafAt → Type 0) (d : Completed P) (a b : LeafAt) → LeafTook h.at (Takes hart victim m) a b → IsOnlyOf d.place a → (a ≡ d.place) × (b ≡ record { spot = d.place.spot; leaf = d.after })
    took_is P d a b k only = (same, λ j. record { spot = (k.spot ∙ ap (λ (c : LeafAt). c.spot) same) j; leaf = (k.takes.after ∙ ap step same ∙ sym d.takes.after) j }) where
      same : a ≡ d.place
      same = only (k.takes.number ∙ sym d.takes.number)

      step : LeafAt → LeafValue
      step c = (leaf_step m.code m.items (key_at_leaf (at_child c.spot) c.leaf.done) victim c.leaf).leaf

    -- one that stayed has another number
    pub stayed_is : (P : LeafAt → Type 0) (d : Completed P) (a : LeafAt) → is_under h.at (leaf_path a) ≡ false → IsOnlyOf d.place a → op.hart ≢ a.leaf.number
    stayed_is P d a off only e = true≢false (sym (under-itself h.at) ∙ ap (is_under h.at) (sym (ap leaf_path (only (sym e ∙ d.new.hart)) ∙ d.path)) ∙ off)

    pub earlier_ops : IsTimed m → (P : LeafAt → Type 0) → Completed P → AllByRecursion (IsEarlier (depth_of m) op) m.ops
    earlier_ops timed P c = earlier (depth_of m) m.ops (leaves_at m) op c.place c.new (places_of c.place c.path c.takes.number) (timed.each keys_end) (timed.each ops_of_leaves) (timed.each keys_have_paths)
