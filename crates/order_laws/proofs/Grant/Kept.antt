-- A bus's turn keeps what the core rules say of harts and of operations alone, and so, with what is known of copies, claims and
-- reservations, all core rules.
use Rattle.std.proofs.Common.{◌≡◌, ℕ, ◌<◌, List, sym, ap, subst, ◌∙◌}
use Rattle.std.specs.Prelude.{nat_eq}
use Rattle.order_laws.specs.DdmTypes.declared.operations.Op.{Op}
use Rattle.order_laws.specs.DdmTypes.declared.turns.Turn.{Turn}
use Rattle.order_laws.specs.DdmTypes.CodeMap.{CodeWord}
use Rattle.order_laws.specs.DdmTypes.ItemTable.{ItemTable, item_count}
use Rattle.order_laws.specs.FlatModel.Flat.{FlatMachine, flat_hart}
use Rattle.order_laws.specs.FlatModel.Hart.{HartValue}
use Rattle.order_laws.specs.FlatModel.Legal.{flat_after}
use Rattle.order_laws.specs.TreeModel.State.Values.{MachineValue}
use Rattle.order_laws.specs.TreeModel.State.Shape.{Frame, depth_of, IsShaped}
use Rattle.order_laws.specs.TreeModel.Turns.Witness.{sorted_ops}
use Rattle.order_laws.proofs.TreeModel.FrameKept.{turn-frame}
use Rattle.order_laws.specs.TreeRules.Statements.{Holds, if_there}
use Rattle.order_laws.specs.TreeRules.Bus.Rules.{items_of_machine, IsMachineOk}
use Rattle.order_laws.specs.TreeRules.Order.Core as core
use Rattle.order_laws.specs.TreeRules.Order.Ops.{op_count}
use Rattle.order_laws.specs.TreeRules.Order.Places.{LeafAt, leaves_at, dirs_at}
use Rattle.order_laws.specs.TreeRules.Order.Rules.{CoreRule, commands_past_taken, reservations_kept, legal, harts_follow, counts_follow, halts_follow, own_order, core_rule, CopyRule, words_right, claims_after_ops, claims_after_copies, clocks_know, copy_rule, IsTimed, IsCore}
use Rattle.order_laws.specs.Grant.{after_bus, CommandsPastAfter, ReservationsAfter, ClaimsAfterCopies, BusTurnKeepsCore}
use Rattle.order_laws.specs.Moves.CopiesMoved.{IsBusTurn}
use Rattle.order_laws.specs.Moves.LeavesKept.{LeafKept}
use Rattle.order_laws.specs.Pairs.{Pairs}
use Rattle.order_laws.proofs.Hart.CoreParts.{core_of}
use Rattle.order_laws.proofs.Hart.Transport.{pairs-holds}
use Rattle.order_laws.proofs.Moves.ClaimsAfterOps.{claims_after_ops-kept}
use Rattle.order_laws.proofs.Moves.ClockKept.{clocks-kept}
use Rattle.order_laws.proofs.Moves.CopiesMoved.{reservations-kept}
use Rattle.order_laws.proofs.Moves.TurnFrame.{ops-same, items-same, depth-same}
use Rattle.order_laws.proofs.Moves.WordsKept.{words-kept}

-- ---- what a leaf keeps

module _ (code : List CodeWord) (items : ItemTable) (ops : List Op) (z : FlatMachine) (a b : LeafAt) (k : LeafKept a b) where
  hart-kept : Holds (core.has_flat_hart z a) → Holds (core.has_flat_hart z b)
  hart-kept h = subst (λ n. Holds (core.is_running_as b.leaf.hart (flat_hart z n).hart)) (sym k.leaf.number) (subst (λ (u : HartValue). Holds (core.is_running_as u (flat_hart z a.leaf.number).hart)) (sym k.leaf.hart) h)

  count-kept : Holds (core.has_counted ops a) → Holds (core.has_counted ops b)
  count-kept h = ap (λ n. nat_eq n (op_count b.leaf.number ops)) k.leaf.done ∙ ap (λ n. nat_eq a.leaf.done (op_count n ops)) k.leaf.number ∙ h

  halt-kept : Holds (core.halts_as_flat code items z a) → Holds (core.halts_as_flat code items z b)
  halt-kept h = subst (λ n. Holds (if_there (core.halts_next code items z n) b.leaf.hart.halt)) (sym k.leaf.number) (subst (λ (u : HartValue). Holds (if_there (core.halts_next code items z a.leaf.number) u.halt)) (sym k.leaf.hart) h)

-- ---- all core rules

pub code-same : (t : Turn) (m : MachineValue) → (after_bus t m).code ≡ m.code
code-same t m = ap (λ (f : Frame). f.code) (turn-frame t m)

module _ (s : FlatMachine) (m : MachineValue) (t : Turn) (bus : IsBusTurn t) where
  abbrev next : MachineValue
  next = after_bus t m

  -- what looks at code, items, depth and operations alone
  pub same-frame : (P : List CodeWord → ItemTable → ℕ → List Op → Type 0) → P m.code m.items (depth_of m) m.ops → P next.code next.items (depth_of next) next.ops
  same-frame P h = subst (λ c. P c next.items (depth_of next) next.ops) (sym (code-same t m)) (subst (λ i. P m.code i (depth_of next) next.ops) (sym (items-same t m)) (subst (λ d. P m.code m.items d next.ops) (sym (depth-same t m)) (subst (P m.code m.items (depth_of m)) (sym (ops-same t m bus)) h)))

  module _ (shaped : IsShaped m) (ok : IsMachineOk m) (timed : IsTimed m) (c : IsCore s m) where
    abbrev flat : FlatMachine
    flat = flat_after m.code m.items s (sorted_ops m.ops)

    pairs : Pairs LeafKept (leaves_at m) (leaves_at next)
    pairs = reservations-kept m shaped ok timed (c.each commands_past_taken) t bus

    pub still-legal : Holds (core_rule legal s next)
    still-legal = same-frame (λ code items depth ops. Holds (core_of s code items depth legal (leaves_at next) (dirs_at next) ops)) (c.each legal)

    pub still-own : Holds (core_rule own_order s next)
    still-own = same-frame (λ code items depth ops. Holds (core_of s code items depth own_order (leaves_at next) (dirs_at next) ops)) (c.each own_order)

    pub harts-kept : Holds (core_rule harts_follow s next)
    harts-kept = same-frame (λ code items depth ops. Holds (core_of s code items depth harts_follow (leaves_at next) (dirs_at next) ops)) (pairs-holds LeafKept (core.has_flat_hart flat) (core.has_flat_hart flat) (λ a b k. hart-kept m.code m.items m.ops flat a b k) (leaves_at m) (leaves_at next) pairs (c.each harts_follow))

    pub counts-kept : Holds (core_rule counts_follow s next)
    counts-kept = same-frame (λ code items depth ops. Holds (core_of s code items depth counts_follow (leaves_at next) (dirs_at next) ops)) (pairs-holds LeafKept (core.has_counted m.ops) (core.has_counted m.ops) (λ a b k. count-kept m.code m.items m.ops flat a b k) (leaves_at m) (leaves_at next) pairs (c.each counts_follow))

    pub halts-kept : Holds (core_rule halts_follow s next)
    halts-kept = same-frame (λ code items depth ops. Holds (core_of s code items depth halts_follow (leaves_at next) (dirs_at next) ops)) (pairs-holds LeafKept (core.halts_as_flat m.code m.items flat) (core.halts_as_flat m.code m.items flat) (λ a b k. halt-kept m.code m.items m.ops flat a b k) (leaves_at m) (leaves_at next) pairs (c.each halts_follow))

    module _ (commands : CommandsPastAfter s m t) (reservations : ReservationsAfter s m t) (claims : ClaimsAfterCopies s m t) where
      rules : (r : CoreRule) → Holds (core_rule r s next)
      rules commands_past_taken = commands
      rules reservations_kept = reservations
      rules legal = still-legal
      rules harts_follow = harts-kept
      rules counts_follow = counts-kept
      rules halts_follow = halts-kept
      rules own_order = still-own

      copies : (x : ℕ) → x < items_of_machine m → (r : CopyRule) → Holds (copy_rule r s next x)
      copies x low words_right = words-kept s m shaped ok timed c t bus x low
      copies x low claims_after_ops = claims_after_ops-kept s m shaped ok timed (c.each commands_past_taken) t bus x low (c.copies x low claims_after_ops)
      copies x low claims_after_copies = claims x low
      copies x low clocks_know = clocks-kept s m shaped ok timed (c.each commands_past_taken) t bus x (c.copies x low clocks_know)

      pub core-after : IsCore s next
      core-after = record { each = rules; copies = λ x l r. copies x (subst (λ i. x < item_count i) (items-same t m) l) r }

pub grant-core : BusTurnKeepsCore
grant-core s m t shaped ok timed bus commands reservations claims c = core-after s m t bus shaped ok timed c commands reservations claims
