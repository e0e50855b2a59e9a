-- A hart's turn that completes keeps the core rules of order.
use Rattle.std.proofs.Common.{◌≡◌, ◌≢◌, ℕ, ◌<◌, Bool, true, false, inl, inr, List, [], ◌∷◌, ◌++◌, is_some, None, refl, sym, ap, subst, ◌∙◌}
use Rattle.std.specs.List.{AllByRecursion}
use Rattle.std.proofs.lemmas.Bool.{eqb-true}
use Rattle.order_laws.specs.DdmTypes.declared.operations.Op.{Op}
use Rattle.order_laws.specs.FlatModel.Flat.{FlatMachine}
use Rattle.order_laws.specs.FlatModel.Legal.{on_item}
use Rattle.order_laws.specs.TreeModel.State.Values.{LeafValue, MachineValue}
use Rattle.order_laws.specs.TreeModel.State.Place.{Spot}
use Rattle.order_laws.specs.TreeModel.State.Shape.{depth_of}
use Rattle.order_laws.specs.TreeModel.Turns.Witness.{sorted_ops}
use Rattle.order_laws.specs.TreeRules.Statements.{Statement, Holds, each, there_and}
use Rattle.order_laws.proofs.TreeRules.Statements.{each-facts}
use Rattle.order_laws.specs.TreeRules.Bus.Rules.{items_of_machine}
use Rattle.order_laws.specs.TreeRules.Order.Moments.{less_at, moment_length, is_under}
use Rattle.order_laws.specs.TreeRules.Order.Places.{LeafAt, leaf_path, leaf_now, leaves_at, dirs_at}
use Rattle.order_laws.specs.TreeRules.Order.Copies.{CopyAt, copies_of}
use Rattle.order_laws.specs.TreeRules.Order.Claims.{ClaimAt, claims_of}
use Rattle.order_laws.specs.TreeRules.Order.Ops.{op_key, op_path}
use Rattle.order_laws.specs.TreeRules.Order.Core as core
use Rattle.order_laws.specs.TreeRules.Order.Rules.{CoreRule, commands_past_taken, reservations_kept, legal, harts_follow, counts_follow, halts_follow, own_order, CopyRule, words_right, claims_after_ops, claims_after_copies, clocks_know, IsCore}
use Rattle.order_lists.proofs.Filters.{each-weaker, each-both}
use Rattle.order_lists.proofs.Sorted.{lesser, greater, push}
use Rattle.order_lists.proofs.Listed.{each_pair-push}
use Rattle.order_laws.proofs.Hart.LeafTurned.{EntryTurned, HasEntry}
use Rattle.order_laws.proofs.Hart.CopiesTurned.{CopyTurned, CopiesTurned}
use Rattle.order_laws.proofs.Hart.ClaimsTurned.{LeafMoved}
use Rattle.order_laws.proofs.Hart.HartMachine.{next, Takes, code_after, items_after, depth_after, dirs_after, leaves_after, copies_after, claims_after}
use Rattle.order_laws.proofs.Hart.LeafPlaces.{IsPlaced, IsOnlyOf}
use Rattle.order_laws.proofs.Hart.Transport.{holds-push, pairs-each, pairs-holds}
use Rattle.order_laws.proofs.Hart.Completed.{IsKnownLeaf, known_leaves, taken_turned, took_is, stayed_is}
use Rattle.order_laws.proofs.Hart.Facts.{IsBesideExclusive}
use Rattle.order_laws.proofs.Hart.Ready.{CopyOf, HasItsCopy}
use Rattle.order_laws.proofs.Hart.CopiesKept.{IsBesideOp, clocks_after, words_after_turn}
use Rattle.order_laws.proofs.Hart.ClaimsKept.{new_before_claim}
use Rattle.order_laws.proofs.Hart.ReservedKept.{is_split}
use Rattle.order_laws.proofs.Hart.CoreParts.{core_of, copy_of, core_holds, copy_holds, core_from}
use Rattle.order_laws.proofs.Hart.Seen.{Before, KnownCopy, IsSeen, flat, done, now_is, path_is, exclusive, OpSeen, ops_seen, differ, new, none_greater}
use Rattle.order_laws.proofs.Hart.HartsAfter.{place, own, legal_now, flat_next, own_follows, own_halts, own_counted, own_reserved, other_follows, other_halts, other_counted, EndCopy, end_copies, other_reserved}
use Rattle.order_laws.proofs.Hart.Timed.{one_more}

module _ (s : FlatMachine) (hart victim : ℕ) (m : MachineValue) (op : Op) (was : Before s hart victim m op) where
  abbrev after : MachineValue
  after = next hart victim m

  abbrev Moved : LeafAt → LeafAt → Type 0
  Moved = LeafMoved was.turned.at (Takes hart victim m)

  -- ---- leaves

  -- of each leaf before
  record LeafWas (a : LeafAt) : Type 0 where
    only : IsOnlyOf (place s hart victim m op was) a
    placed : IsPlaced (depth_of m) a
    ends : (y : ℕ) → y < items_of_machine m → HasItsCopy y (EndCopy s hart victim m op was y) a
    follows : Holds (core.has_flat_hart (flat s hart victim m op was) a)
    halts : Holds (core.halts_as_flat m.code m.items (flat s hart victim m op was) a)
    counted : Holds (core.has_counted m.ops a)
    reserved : Holds (core.keeps_reservation s (depth_of m) m.items m.ops a)

  abbrev Rules : LeafAt → Type 0
  Rules a = (Holds (core.has_flat_hart (flat s hart victim m op was) a) × Holds (core.halts_as_flat m.code m.items (flat s hart victim m op was) a)) × (Holds (core.has_counted m.ops a) × Holds (core.keeps_reservation s (depth_of m) m.items m.ops a))

  leaf_rules : AllByRecursion Rules (leaves_at m)
  leaf_rules =
      each-both (λ a. Holds (core.has_flat_hart (flat s hart victim m op was) a) × Holds (core.halts_as_flat m.code m.items (flat s hart victim m op was) a)) (λ a. Holds (core.has_counted m.ops a) × Holds (core.keeps_reservation s (depth_of m) m.items m.ops a)) Rules (λ a i j. (i, j)) (leaves_at m)
      (each-both (λ a. Holds (core.has_flat_hart (flat s hart victim m op was) a)) (λ a. Holds (core.halts_as_flat m.code m.items (flat s hart victim m op was) a)) (λ a. Holds (core.has_flat_hart (flat s hart victim m op was) a) × Holds (core.halts_as_flat m.code m.items (flat s hart victim m op was) a)) (λ a i j. (i, j)) (leaves_at m) (each-facts (core.has_flat_hart (flat s hart victim m op was)) (leaves_at m) (core_holds s m was.order harts_follow)) (each-facts (core.halts_as_flat m.code m.items (flat s hart victim m op was)) (leaves_at m) (core_holds s m was.order halts_follow)))
      (each-both (λ a. Holds (core.has_counted m.ops a)) (λ a. Holds (core.keeps_reservation s (depth_of m) m.items m.ops a)) (λ a. Holds (core.has_counted m.ops a) × Holds (core.keeps_reservation s (depth_of m) m.items m.ops a)) (λ a i j. (i, j)) (leaves_at m) (each-facts (core.has_counted m.ops) (leaves_at m) (core_holds s m was.order counts_follow)) (each-facts (core.keeps_reservation s (depth_of m) m.items m.ops) (leaves_at m) (core_holds s m was.order reservations_kept)))

  abbrev Places : LeafAt → Type 0
  Places a = (IsOnlyOf (place s hart victim m op was) a × IsKnownLeaf hart victim m a) × ((y : ℕ) → y < items_of_machine m → HasItsCopy y (EndCopy s hart victim m op was y) a)

  leaf_places : AllByRecursion Places (leaves_at m)
  leaf_places =
      each-both (λ a. IsOnlyOf (place s hart victim m op was) a × IsKnownLeaf hart victim m a) (λ a. (y : ℕ) → y < items_of_machine m → HasItsCopy y (EndCopy s hart victim m op was y) a) Places (λ a i j. (i, j)) (leaves_at m)
      (each-both (IsOnlyOf (place s hart victim m op was)) (IsKnownLeaf hart victim m) (λ a. IsOnlyOf (place s hart victim m op was) a × IsKnownLeaf hart victim m a) (λ a i j. (i, j)) (leaves_at m) (done s hart victim m op was).new.only (known_leaves hart victim m was.shaped was.ok was.timed)) (end_copies s hart victim m op was)

  leaves_were : AllByRecursion LeafWas (leaves_at m)
  leaves_were = each-both Places Rules LeafWas (λ a i j. record { only = i.0.0; placed = i.0.1.placed; ends = i.1; follows = j.0.0; halts = j.0.1; counted = j.1.0; reserved = j.1.1 }) (leaves_at m) leaf_places leaf_rules

  -- a rule of each leaf: of the one that took the turn, and of each other
  each_leaf : (t : LeafAt → Statement) → (LeafWas (place s hart victim m op was) → Holds (t (own s hart victim m op was))) → ((a : LeafAt) → op.hart ≢ a.leaf.number → is_under (leaf_path (place s hart victim m op was)) (leaf_path a) ≡ false → LeafWas a → Holds (t a)) → Holds (each t (leaves_at after))
  each_leaf t mine other = pairs-each Moved LeafWas t one (leaves_at m) (leaves_at after) (leaves_after hart victim m was.turned) leaves_were where
    one : (a b : LeafAt) → Moved a b → LeafWas a → Holds (t b)
    one a b (inl k) w = subst (λ c. Holds (t c)) (sym k.0) (other a (stayed_is hart victim m was.turned op (IsSeen s hart victim m op was) (done s hart victim m op was) a k.1 w.only) (ap (λ p. is_under p (leaf_path a)) (done s hart victim m op was).path ∙ k.1) w)
    one a b (inr k) w =
        let is : (a ≡ place s hart victim m op was) × (b ≡ own s hart victim m op was) = took_is hart victim m was.turned op (IsSeen s hart victim m op was) (done s hart victim m op was) a b k w.only in
        subst (λ c. Holds (t c)) (sym is.1) (mine (subst LeafWas is.0 w))

  -- ---- copies

  module _ (x : ℕ) (l : x < items_of_machine m) where
    takes_entry : (c : Spot) (v w : LeafValue) → Takes hart victim m c v w → EntryTurned m.items op.effect x v w × (w.replies ≡ v.replies)
    takes_entry c v w t = ((taken_turned hart victim m was.turned op was.shaped was.retired c v w t).entries x, (taken_turned hart victim m was.turned op was.shaped was.retired c v w t).beside.replies)

    copies_now : CopiesTurned m.items x op.effect was.turned.at (copies_of x m) (copies_of x after)
    copies_now = copies_after hart victim m was.turned m.items x op.effect takes_entry

    claims_now : claims_of x after ≡ claims_of x m
    claims_now = claims_after hart victim m was.turned m.items x op.effect takes_entry

    path_at : op_path (depth_of m) op ≡ was.turned.at
    path_at = path_is s hart victim m op was ∙ (done s hart victim m op was).path

    beside_op : AllByRecursion (IsBesideOp m.items (depth_of m) x op was.turned.at path_at) (copies_of x m)
    beside_op = each-weaker (IsBesideExclusive x (place s hart victim m op was)) (IsBesideOp m.items (depth_of m) x op was.turned.at path_at) one (copies_of x m) ((done s hart victim m op was).fact.items x l).beside where
      at_place : leaf_path (place s hart victim m op was) ≡ was.turned.at
      at_place = (done s hart victim m op was).path

      one : (k : CopyAt) → IsBesideExclusive x (place s hart victim m op was) k → IsBesideOp m.items (depth_of m) x op was.turned.at path_at k
      one k b = record {
        past_end = λ c u v. subst (λ n. Holds (core.ended_before k n)) (sym (now_is s hart victim m op was)) (b.past_end (exclusive s hart victim m op was x c) (ap (λ p. is_under p k.place) at_place ∙ u) (ap (is_under k.place) at_place ∙ v));
        own = λ c u.
            let o : (k.place ≡ leaf_path (place s hart victim m op was)) × (k.end ≡ None) = b.own (exclusive s hart victim m op was x c) (ap (is_under k.place) at_place ∙ u) in
            (o.0 ∙ at_place, o.1);
      }

    -- the new operation at a claim beside its leaf
    new_at_claim : (t : ClaimAt) → (k : CopyAt) → KnownCopy s hart victim m op was x k → Holds (core.claim_is_after_copy t k) → k.place ≡ leaf_path (place s hart victim m op was) → (tail : List ℕ) → leaf_now (place s hart victim m op was) ≡ k.clock ++ tail → core.parts_at_claim t (op_path (depth_of m) op) ≡ true → less_at (moment_length (core.claim_level t)) (op_key (depth_of m) op) t.moment ≡ true
    new_at_claim t k known rule at tail now parts = new_before_claim (op_key (depth_of m) op) tail k t (now_is s hart victim m op was ∙ now) known.told.late rule (ap (core.parts_at_claim t) (at ∙ sym (path_is s hart victim m op was)) ∙ parts)

    new_claims : Holds (each (λ t. core.claim_is_after_op (depth_of m) m.items x t op) (claims_of x m))
    new_claims = go (on_item m.items x op.effect) refl where
      -- an operation on another item
      none : (ts : List ClaimAt) → on_item m.items x op.effect ≡ false → Holds (each (λ t. core.claim_is_after_op (depth_of m) m.items x t op) ts)
      none [] e = tt
      none (t ∷ ts) e = ((λ on parts. absurd (let wrong : true ≡ false = sym on ∙ e in let no_way : ⊥ = cc in no_way)), none ts e)

      of_copy : (e : HasEntry x (place s hart victim m op was).leaf) → CopyOf (KnownCopy s hart victim m op was x) (place s hart victim m op was) e.entry → Holds (each (λ t. core.claim_is_after_op (depth_of m) m.items x t op) (claims_of x m))
      of_copy e c = all (claims_of x m) c.fact.claims where
        all : (ts : List ClaimAt) → Holds (each (λ t. core.claim_is_after_copy t c.copy) ts) → Holds (each (λ t. core.claim_is_after_op (depth_of m) m.items x t op) ts)
        all [] h = tt
        all (t ∷ ts) h = ((λ on parts. new_at_claim t c.copy c.fact h.0 c.place c.tail c.now parts), all ts h.1)

      go : (b : Bool) → on_item m.items x op.effect ≡ b → Holds (each (λ t. core.claim_is_after_op (depth_of m) m.items x t op) (claims_of x m))
      go false e = none (claims_of x m) e
      go true e =
          let entry : HasEntry x (place s hart victim m op was).leaf = (done s hart victim m op was).turned.has x e in
          of_copy entry (((done s hart victim m op was).fact.items x l).copy entry.entry entry.at entry.held)

    claim_ops : (ts : List ClaimAt) → Holds (each (λ t. each (core.claim_is_after_op (depth_of m) m.items x t) m.ops) ts) → Holds (each (λ t. core.claim_is_after_op (depth_of m) m.items x t op) ts) → Holds (each (λ t. each (core.claim_is_after_op (depth_of m) m.items x t) (m.ops ++ op ∷ [])) ts)
    claim_ops [] h k = tt
    claim_ops (t ∷ ts) h k = (holds-push (core.claim_is_after_op (depth_of m) m.items x t) m.ops op h.0 k.0, claim_ops ts h.1 k.1)

    claim_copy : (t : ClaimAt) (k c : CopyAt) → CopyTurned m.items x op.effect was.turned.at k c → Holds (core.claim_is_after_copy t k) → Holds (core.claim_is_after_copy t c)
    claim_copy t k c turned h parts = subst (λ e. Holds (there_and (core.claim_is_after_end t) e)) (sym turned.end) (h (ap (core.parts_at_claim t) (sym turned.place) ∙ parts))

    claim_copies : (ts : List ClaimAt) → Holds (each (λ t. each (core.claim_is_after_copy t) (copies_of x m)) ts) → Holds (each (λ t. each (core.claim_is_after_copy t) (copies_of x after)) ts)
    claim_copies [] h = tt
    claim_copies (t ∷ ts) h = (pairs-holds (CopyTurned m.items x op.effect was.turned.at) (core.claim_is_after_copy t) (core.claim_is_after_copy t) (claim_copy t) (copies_of x m) (copies_of x after) copies_now h.0, claim_copies ts h.1)

    copy_rules : (r : CopyRule) → Holds (copy_of s m.code m.items (depth_of m) r x (copies_of x after) (claims_of x after) (m.ops ++ op ∷ []))
    copy_rules words_right = words_after_turn m.items (depth_of m) x op was.turned.at path_at s m.ops (lesser op (sorted_ops m.ops)) (greater op (sorted_ops m.ops)) (is_split m.code m.items m.ops op (differ s hart victim m op was) (new s hart victim m op was)) (push m.ops op (differ s hart victim m op was) (new s hart victim m op was)) (none_greater s hart victim m op was x l) (copies_of x m) (copies_of x after) copies_now beside_op (copy_holds s m was.order x l words_right)
    copy_rules claims_after_ops = subst (λ ts. Holds (each (λ t. each (core.claim_is_after_op (depth_of m) m.items x t) (m.ops ++ op ∷ [])) ts)) (sym claims_now) (claim_ops (claims_of x m) (copy_holds s m was.order x l claims_after_ops) new_claims)
    copy_rules claims_after_copies = subst (λ ts. Holds (each (λ t. each (core.claim_is_after_copy t) (copies_of x after)) ts)) (sym claims_now) (claim_copies (claims_of x m) (copy_holds s m was.order x l claims_after_copies))
    copy_rules clocks_know = clocks_after m.items (depth_of m) x op was.turned.at path_at m.ops (copies_of x m) (copies_of x after) copies_now beside_op (copy_holds s m was.order x l clocks_know)

  -- ---- all rules

  in_own_order : AllByRecursion (λ o. Holds (core.is_in_own_order o op)) m.ops
  in_own_order = each-weaker (OpSeen s hart victim m op was) (λ o. Holds (core.is_in_own_order o op)) (λ o i e. i.earlier.own (sym (eqb-true op.hart o.hart e))) m.ops (ops_seen s hart victim m op was)

  abbrev z : FlatMachine
  z = (legal_now s hart victim m op was).after

  rules : (r : CoreRule) → Holds (core_of s m.code m.items (depth_of m) r (leaves_at after) (dirs_at m) (m.ops ++ op ∷ []))
  rules commands_past_taken = core_holds s m was.order commands_past_taken
  rules reservations_kept = each_leaf (core.keeps_reservation s (depth_of m) m.items (m.ops ++ op ∷ [])) (λ w. own_reserved s hart victim m op was w.reserved) (λ a off apart w. other_reserved s hart victim m op was a off apart w.placed w.ends w.reserved)
  rules legal = ap is_some (legal_now s hart victim m op was).run
  rules harts_follow = subst (λ f. Holds (each (core.has_flat_hart f) (leaves_at after))) (sym (flat_next s hart victim m op was)) (each_leaf (core.has_flat_hart z) (λ w. own_follows s hart victim m op was) (λ a off apart w. other_follows s hart victim m op was a off w.follows))
  rules counts_follow = each_leaf (core.has_counted (m.ops ++ op ∷ [])) (λ w. own_counted s hart victim m op was w.counted) (λ a off apart w. other_counted s hart victim m op was a off w.counted)
  rules halts_follow = subst (λ f. Holds (each (core.halts_as_flat m.code m.items f) (leaves_at after))) (sym (flat_next s hart victim m op was)) (each_leaf (core.halts_as_flat m.code m.items z) (λ w. own_halts s hart victim m op was) (λ a off apart w. other_halts s hart victim m op was a off w.follows w.halts))
  rules own_order = each_pair-push core.is_in_own_order m.ops op (core_holds s m was.order own_order) in_own_order

  pub core_completing : IsCore s after
  core_completing = core_from s m after (code_after hart victim m) (items_after hart victim m) (depth_after hart victim m) (dirs_at m) (dirs_after hart victim m was.turned) (m.ops ++ op ∷ []) (one_more hart victim m op was.retired) rules copy_rules
