-- A hart's turn that doesn't complete keeps the core rules of order.
use Rattle.std.proofs.Common.{◌≡◌, ℕ, ◌<◌, false, ◌⊎◌, inl, inr, nat_eq, [], ◌∷◌, ◌++◌, Option, Some, None, refl, sym, ap, subst, ◌∙◌}
use Rattle.order_laws.specs.DdmTypes.declared.operations.Effect.{Effect}
use Rattle.order_laws.specs.FlatModel.Hart.{HartValue, ask_of}
use Rattle.order_laws.specs.FlatModel.Flat.{FlatMachine, flat_hart, has_reserved}
use Rattle.order_laws.specs.FlatModel.Legal.{changes_item, flat_after}
use Rattle.order_laws.specs.TreeModel.State.Values.{LeafValue, MachineValue}
use Rattle.order_laws.specs.TreeModel.State.States.{is_held}
use Rattle.order_laws.specs.TreeModel.State.Place.{Spot}
use Rattle.order_laws.specs.TreeModel.State.Shape.{depth_of}
use Rattle.order_laws.specs.TreeModel.Turns.Witness.{sorted_ops}
use Rattle.order_laws.specs.TreeRules.Statements.{Holds, both, if_there}
use Rattle.order_laws.specs.TreeRules.Bus.Rules.{items_of_machine}
use Rattle.order_laws.specs.TreeRules.Order.Moments.{spot_moment}
use Rattle.order_laws.specs.TreeRules.Order.Places.{LeafAt, leaf_now, leaves_at, dirs_at}
use Rattle.order_laws.specs.TreeRules.Order.Copies.{copies_of}
use Rattle.order_laws.specs.TreeRules.Order.Claims.{claims_of}
use Rattle.order_laws.specs.TreeRules.Order.Ops.{op_count}
use Rattle.order_laws.specs.TreeRules.Order.Core as core
use Rattle.order_laws.specs.TreeRules.Order.Rules.{CoreRule, commands_past_taken, reservations_kept, legal, harts_follow, counts_follow, halts_follow, own_order, CopyRule, IsCore}
use Rattle.order_laws.proofs.Hart.Retiring.{has_retired}
use Rattle.order_laws.proofs.Hart.LeafTurned.{EntryTurned}
use Rattle.order_laws.proofs.Hart.Still.{HasHalted, Stays, stays_itself}
use Rattle.order_laws.proofs.Pairs.{pairs-same}
use Rattle.order_laws.proofs.Hart.CopiesTurned.{CopyTurned, copy_stays}
use Rattle.order_laws.proofs.Hart.ClaimsTurned.{LeafMoved}
use Rattle.order_laws.proofs.Hart.HartMachine.{next, answer, Takes, HartTurned, code_after, items_after, depth_after, dirs_after, leaves_after, copies_after, claims_after}
use Rattle.order_laws.proofs.Hart.Transport.{holds-both, pairs-holds}
use Rattle.order_laws.proofs.Hart.Halting.{running, flat_is, is_flat, halts_from_ask, same_halt-refl}
use Rattle.order_laws.proofs.Hart.CoreParts.{core_of, copy_of, core_holds, copy_holds, core_from}
use Rattle.order_laws.proofs.Hart.Timed.{stays, same_ops}

module _ (s : FlatMachine) (hart victim : ℕ) (m : MachineValue) (h : HartTurned hart victim m) (none : has_retired (answer hart victim m) ≡ false) where
  abbrev after : MachineValue
  after = next hart victim m

  -- ---- copies and claims

  no_change : (x : ℕ) → changes_item m.items x Effect.Plain ≡ false
  unfolding changes_item
  no_change x = refl

  entries : (x : ℕ) (c : Spot) (v w : LeafValue) → Takes hart victim m c v w → EntryTurned m.items Effect.Plain x v w × (w.replies ≡ v.replies)
  entries x c v w t = (inl (no_change x, (stays hart victim m none c v w t).held x), (stays hart victim m none c v w t).replies)

  same_copies : (x : ℕ) → copies_of x after ≡ copies_of x m
  same_copies x = pairs-same (CopyTurned m.items x Effect.Plain h.at) (copy_stays m.items x Effect.Plain h.at (no_change x)) (copies_of x m) (copies_of x after) (copies_after hart victim m h m.items x Effect.Plain (entries x))

  same_claims : (x : ℕ) → claims_of x after ≡ claims_of x m
  same_claims x = claims_after hart victim m h m.items x Effect.Plain (entries x)

  -- ---- leaves

  record LeafStays (a b : LeafAt) : Type 0 where
    spot : b.spot ≡ a.spot
    leaf : Stays m.code m.items a.leaf b.leaf

  leaf_stays : (a b : LeafAt) → LeafMoved h.at (Takes hart victim m) a b → LeafStays a b
  leaf_stays a b (inl k) = record { spot = ap (λ (c : LeafAt). c.spot) k.0; leaf = stays_itself m.code m.items a.leaf b.leaf (ap (λ (c : LeafAt). c.leaf) k.0) }
  leaf_stays a b (inr k) = record { spot = k.spot; leaf = stays hart victim m none a.spot a.leaf b.leaf k.takes }

  now_stays : (a b : LeafAt) → LeafStays a b → leaf_now b ≡ leaf_now a
  now_stays a b l = ap (λ (c : Spot). spot_moment c ++ c.number ∷ b.leaf.done ∷ []) l.spot ∙ ap (λ n. spot_moment a.spot ++ a.spot.number ∷ n ∷ []) l.leaf.done

  reservation_stays : (a b : LeafAt) → LeafStays a b → Holds (core.keeps_reservation s (depth_of m) m.items m.ops a) → Holds (core.keeps_reservation s (depth_of m) m.items m.ops b)
  reservation_stays a b l k = subst (λ o. Holds (if_there (core.keeps_reserved s (depth_of m) m.items m.ops b) o)) (sym l.leaf.reservation) (go a.leaf.reservation k) where
    go : (o : Option ℕ) → Holds (if_there (core.keeps_reserved s (depth_of m) m.items m.ops a) o) → Holds (if_there (core.keeps_reserved s (depth_of m) m.items m.ops b) o)
    go None i = tt
    go (Some x) i = (ap is_held (l.leaf.held x).hold ∙ i.0, ap (λ n. has_reserved (core.reserved_until s (depth_of m) m.items m.ops n (leaf_now b)) x) l.leaf.number ∙ ap (λ n. has_reserved (core.reserved_until s (depth_of m) m.items m.ops a.leaf.number n) x) (now_stays a b l) ∙ i.1)

  running_stays : (v w : LeafValue) → Stays m.code m.items v w → running w.hart ≡ running v.hart
  running_stays v w l = go l.hart where
    go : (w.hart ≡ v.hart) ⊎ HasHalted m.code m.items v w → running w.hart ≡ running v.hart
    go (inl e) = ap running e
    go (inr e) = ap running e.hart

  module _ (z : FlatMachine) where
    hart_stays : (a b : LeafAt) → LeafStays a b → Holds (core.has_flat_hart z a) → Holds (core.has_flat_hart z b)
    hart_stays a b l k = is_flat b.leaf.hart (flat_hart z b.leaf.number).hart (ap (λ n. (flat_hart z n).hart) l.leaf.number ∙ flat_is a.leaf.hart (flat_hart z a.leaf.number).hart k ∙ sym (running_stays a.leaf b.leaf l.leaf))

    -- a hart that halts now asks for the halt as the flat one does
    halt_stays : (a b : LeafAt) → LeafStays a b → Holds (core.has_flat_hart z a) → Holds (core.halts_as_flat m.code m.items z a) → Holds (core.halts_as_flat m.code m.items z b)
    halt_stays a b l k i = go l.leaf.hart where
      go : (b.leaf.hart ≡ a.leaf.hart) ⊎ HasHalted m.code m.items a.leaf b.leaf → Holds (core.halts_as_flat m.code m.items z b)
      go (inl e) = subst (λ n. Holds (if_there (core.halts_next m.code m.items z n) b.leaf.hart.halt)) (sym l.leaf.number) (subst (λ (u : HartValue). Holds (if_there (core.halts_next m.code m.items z a.leaf.number) u.halt)) (sym e) i)
      go (inr e) = subst (λ (u : HartValue). Holds (if_there (core.halts_next m.code m.items z b.leaf.number) u.halt)) (sym e.hart) (halts_from_ask m.code m.items z b.leaf.number e.cause (ap (λ (u : HartValue). u.halt) flat) (record { other = e.cause; asks = ap (ask_of m.code m.items) (flat ∙ goes_on) ∙ e.asks; same = same_halt-refl e.cause })) where
        flat : (flat_hart z b.leaf.number).hart ≡ running a.leaf.hart
        flat = ap (λ n. (flat_hart z n).hart) l.leaf.number ∙ flat_is a.leaf.hart (flat_hart z a.leaf.number).hart k

        goes_on : running a.leaf.hart ≡ a.leaf.hart
        goes_on = ap (λ o. record a.leaf.hart { halt = o }) (sym e.running)

  count_stays : (a b : LeafAt) → LeafStays a b → Holds (core.has_counted m.ops a) → Holds (core.has_counted m.ops b)
  count_stays a b l k = ap (λ n. nat_eq n (op_count b.leaf.number m.ops)) l.leaf.done ∙ ap (λ n. nat_eq a.leaf.done (op_count n m.ops)) l.leaf.number ∙ k

  pub core_still : IsCore s m → IsCore s after
  core_still c = core_from s m after (code_after hart victim m) (items_after hart victim m) (depth_after hart victim m) (dirs_at m) (dirs_after hart victim m h) m.ops (same_ops hart victim m none) rules copies where
    rules : (r : CoreRule) → Holds (core_of s m.code m.items (depth_of m) r (leaves_at after) (dirs_at m) m.ops)
    rules commands_past_taken = core_holds s m c commands_past_taken
    rules reservations_kept = pairs-holds (LeafMoved h.at (Takes hart victim m)) (core.keeps_reservation s (depth_of m) m.items m.ops) (core.keeps_reservation s (depth_of m) m.items m.ops) (λ a b k. reservation_stays a b (leaf_stays a b k)) (leaves_at m) (leaves_at after) (leaves_after hart victim m h) (core_holds s m c reservations_kept)
    rules legal = core_holds s m c legal
    rules harts_follow = pairs-holds (LeafMoved h.at (Takes hart victim m)) (core.has_flat_hart (flat_after m.code m.items s (sorted_ops m.ops))) (core.has_flat_hart (flat_after m.code m.items s (sorted_ops m.ops))) (λ a b k. hart_stays (flat_after m.code m.items s (sorted_ops m.ops)) a b (leaf_stays a b k)) (leaves_at m) (leaves_at after) (leaves_after hart victim m h) (core_holds s m c harts_follow)
    rules counts_follow = pairs-holds (LeafMoved h.at (Takes hart victim m)) (core.has_counted m.ops) (core.has_counted m.ops) (λ a b k. count_stays a b (leaf_stays a b k)) (leaves_at m) (leaves_at after) (leaves_after hart victim m h) (core_holds s m c counts_follow)
    rules halts_follow = pairs-holds (LeafMoved h.at (Takes hart victim m)) (λ a. both (core.has_flat_hart (flat_after m.code m.items s (sorted_ops m.ops)) a) (core.halts_as_flat m.code m.items (flat_after m.code m.items s (sorted_ops m.ops)) a)) (core.halts_as_flat m.code m.items (flat_after m.code m.items s (sorted_ops m.ops))) (λ a b k i. halt_stays (flat_after m.code m.items s (sorted_ops m.ops)) a b (leaf_stays a b k) i.0 i.1) (leaves_at m) (leaves_at after) (leaves_after hart victim m h) (holds-both (core.has_flat_hart (flat_after m.code m.items s (sorted_ops m.ops))) (core.halts_as_flat m.code m.items (flat_after m.code m.items s (sorted_ops m.ops))) (leaves_at m) (core_holds s m c harts_follow) (core_holds s m c halts_follow))
    rules own_order = core_holds s m c own_order

    copies : (x : ℕ) → x < items_of_machine m → (r : CopyRule) → Holds (copy_of s m.code m.items (depth_of m) r x (copies_of x after) (claims_of x after) m.ops)
    copies x l r = subst (λ ks. Holds (copy_of s m.code m.items (depth_of m) r x ks (claims_of x after) m.ops)) (sym (same_copies x)) (subst (λ ts. Holds (copy_of s m.code m.items (depth_of m) r x (copies_of x m) ts m.ops)) (sym (same_claims x)) (copy_holds s m c x l r))
