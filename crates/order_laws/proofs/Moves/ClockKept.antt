-- Where each copy comes from one before, each copy still knows each change that isn't under its place.
use Rattle.std.proofs.Common.{◌≡◌, ℕ, suc, ◌+◌, ◌<◌, Bool, true, false, List, [], ◌∷◌, ◌++◌, length, take, Option, Some, None, refl, sym, ap, subst, ◌∙◌, ◌⊎◌, inl, inr, arith}
use Rattle.std.specs.Prelude.{nat_eq}
use Rattle.std.specs.List.{AllByRecursion}
use Rattle.std.proofs.lemmas.List.{take-take}
use Rattle.order_laws.specs.DdmTypes.declared.operations.Op.{Op}
use Rattle.order_laws.specs.DdmTypes.declared.turns.Turn.{Turn}
use Rattle.order_laws.specs.FlatModel.Flat.{FlatMachine}
use Rattle.order_laws.specs.TreeModel.State.Values.{MachineValue}
use Rattle.order_laws.specs.TreeModel.State.Shape.{IsShaped, depth_of}
use Rattle.order_laws.specs.TreeModel.Turns.Machine.{turn_of}
use Rattle.order_laws.specs.TreeRules.Statements.{Holds, is_so, each, there_and}
use Rattle.order_laws.specs.TreeRules.Bus.Rules.{IsMachineOk}
use Rattle.order_laws.specs.TreeRules.Order.Moments.{less, less_at, past, parted, is_under, moment_length, GoesOn}
use Rattle.order_laws.specs.TreeRules.Order.Copies.{CopyAt, copies_of}
use Rattle.order_laws.specs.TreeRules.Order.Core.{ended_before, knows_change}
use Rattle.order_laws.specs.TreeRules.Order.Ops.{op_key, op_path}
use Rattle.order_laws.specs.TreeRules.Order.Places.{LeafAt, leaf_path, leaf_now}
use Rattle.order_laws.specs.TreeRules.Order.Rules.{IsTimed, copy_rule, clocks_know}
use Rattle.order_laws.proofs.TreeRules.Statements.{each-facts, facts-each}
use Rattle.order_lists.proofs.Moments.{less-least, least-less, less-asymmetric, at_most-at, at_most-transitive, GoesOn-past, GoesOn-at}
use Rattle.order_lists.proofs.Paths.{under-trans, under-parted, under-append}
use Rattle.order_laws.proofs.Moves.Below.{AreCommandsPast, ops-by_leaves}
use Rattle.order_lists.proofs.Stamps.{moment_at-length}
use Rattle.order_laws.specs.TreeModel.State.Directory.{stamp_of}
use Rattle.order_laws.specs.Moves.Moved.{Kept, Told, Ended, Moved, AllFrom}
use Rattle.order_laws.specs.Moves.Carries.{BusTurned, old_moment, new_moment, HoldsAfter, MovedBy, IsBelowOld}
use Rattle.order_laws.specs.Moves.CopiesMoved.{IsBusTurn, TurnMoves}
use Rattle.order_laws.proofs.Moves.CopiesMoved.{turn-moves, copies-same}
use Rattle.order_laws.proofs.Moves.Sources.{each-in}
use Rattle.order_laws.proofs.Moves.TurnFrame.{ops-same, items-same, depth-same}

-- ---- paths

-- where paths part short of both ends
parted-short : (a p : List ℕ) → is_under a p ≡ false → parted a p < length a
parted-short [] p h = cc
parted-short (c ∷ a) [] h = omega arith
parted-short (c ∷ a) (d ∷ p) h = go (nat_eq c d) refl (parted-short a p) where
  go : (t : Bool) → nat_eq c d ≡ t → (is_under a p ≡ false → parted a p < length a) → parted (c ∷ a) (d ∷ p) < length (c ∷ a)
  go true is rec =
      let rest : is_under a p ≡ false = rw is at h in
      let short : parted a p < length a = rec rest in
      rw is (omega (arith, short))
  go false other rec = rw other (omega arith)

-- a place that is the same up to where the paths part: there it parts, too
parted-same : (a b p : List ℕ) → is_under a p ≡ false → parted a p < length b → take (parted a p + 1) a ≡ take (parted a p + 1) b → (parted b p ≡ parted a p) × (is_under b p ≡ false)
parted-same [] b p h l e = cc
parted-same (c ∷ a) [] p h l e = absurd (omega (arith, l))
parted-same (c ∷ a) (d ∷ b) [] h l e = (refl, refl)
parted-same (c ∷ a) (d ∷ b) (q ∷ p) h l e = go (nat_eq c q) refl (parted-same a b p) where
  go : (t : Bool) → nat_eq c q ≡ t → (is_under a p ≡ false → parted a p < length b → take (parted a p + 1) a ≡ take (parted a p + 1) b → (parted b p ≡ parted a p) × (is_under b p ≡ false)) → (parted (d ∷ b) (q ∷ p) ≡ parted (c ∷ a) (q ∷ p)) × (is_under (d ∷ b) (q ∷ p) ≡ false)
  go true is rec =
      let rest : is_under a p ≡ false = rw is at h in
      let short : 1 + parted a p < length (d ∷ b) = rw is at l in
      let given : take (1 + parted a p + 1) (c ∷ a) ≡ take (1 + parted a p + 1) (d ∷ b) = rw is at e in
      let more : 1 + parted a p + 1 ≡ suc (parted a p + 1) = omega arith in
      let same : take (suc (parted a p + 1)) (c ∷ a) ≡ take (suc (parted a p + 1)) (d ∷ b) = subst (λ n. take n (c ∷ a) ≡ take n (d ∷ b)) more given in
      let head : c ≡ d = cc in
      let tail : take (parted a p + 1) a ≡ take (parted a p + 1) b = cc in
      let found = rec rest (omega (arith, short)) tail in
      let is_d : nat_eq d q ≡ true = ap (λ n. nat_eq n q) (sym head) ∙ is in
      rw (is, is_d) (ap (λ n. 1 + n) found.0, found.1)
  go false other rec =
      let same : take 1 (c ∷ a) ≡ take 1 (d ∷ b) = rw other at e in
      let head : c ≡ d = cc in
      let other_d : nat_eq d q ≡ false = ap (λ n. nat_eq n q) (sym head) ∙ other in
      rw (other, other_d) (refl, refl)

-- ---- one change

-- a change with this key, at a leaf with this path, is known to a copy where the paths part, or the copy ended before it
abbrev pub IsKnown : List ℕ → List ℕ → CopyAt → Type 0
IsKnown key p k = is_under k.place p ≡ false → (less_at (moment_length (parted k.place p)) key k.clock ≡ true) ⊎ Holds (ended_before k key)

module _ (path old new : List ℕ) (Has : ℕ → Type 0) (rises : less_at (moment_length (length path)) old new ≡ true) (key p : List ℕ) (below : is_under path p ≡ true → less_at (moment_length (length path)) old key ≡ false) where
  pub known-moved : (k k' : CopyAt) → Moved path old new Has k k' → IsKnown key p k → IsKnown key p k'
  known-moved k k' m known apart = go (m.clock (parted k'.place p) (parted-short k'.place p apart)) where
    j : ℕ
    j = parted k'.place p

    -- the end is the same, or new and no later
    ended : Holds (ended_before k key) → (k'.end ≡ k.end) ⊎ Ended path old new Has k k' → Holds (ended_before k' key)
    ended h (inl e) = subst (λ o. Holds (there_and (λ e. is_so (past e key)) o)) (sym e) h
    ended h (inr n) = subst (λ o. Holds (there_and (λ e. is_so (past e key)) o)) (sym n.is) (earlier k.end refl) where
      earlier : (o : Option (List ℕ)) → k.end ≡ o → past new key ≡ true
      earlier None is =
          let wrong : false ≡ true = subst (λ o. Holds (there_and (λ e. is_so (past e key)) o)) is h in
          cc
      earlier (Some e) is =
          let was : past e key ≡ true = subst (λ o. Holds (there_and (λ e. is_so (past e key)) o)) is h in
          let on : GoesOn new e = rw is at n.later in
          GoesOn-past new e key on was

    kept : (c : Kept j k k') → (parted k.place p ≡ j) × (is_under k.place p ≡ false) → (less_at (moment_length j) key k'.clock ≡ true) ⊎ (Holds (ended_before k' key))
    kept c s = by_half (known s.1) where
      by_half : (less_at (moment_length (parted k.place p)) key k.clock ≡ true) ⊎ (Holds (ended_before k key)) → (less_at (moment_length j) key k'.clock ≡ true) ⊎ (Holds (ended_before k' key))
      by_half (inl h) = inl (less-least (take (moment_length j) key) (take (moment_length j) k.clock) (take (moment_length j) k'.clock) (subst (λ n. less_at (moment_length n) key k.clock ≡ true) s.0 h) c.clock)
      by_half (inr h) = inr (ended h m.end)

    go : Kept j k k' ⊎ Told path old new Has j k' → (less_at (moment_length j) key k'.clock ≡ true) ⊎ (Holds (ended_before k' key))
    go (inl c) = kept c (parted-same k'.place k.place p apart c.deep c.same)
    go (inr t) =
        let over : is_under path k'.place ≡ true = under-trans path (path ++ t.child ∷ []) k'.place (under-append path (t.child ∷ [])) t.under in
        let o_below : is_under path p ≡ true = under-parted path k'.place p over (omega (arith, t.level)) in
        let least : less_at (moment_length (length path)) key new ≡ true = least-less (take (moment_length (length path)) key) (take (moment_length (length path)) old) (take (moment_length (length path)) new) (below o_below) rises in
        let whole : take (moment_length j) new ≡ take (moment_length j) k'.clock = ap (take (moment_length j)) (sym t.clock) ∙ take-take (moment_length j) (moment_length j) k'.clock (omega arith) in
        inl (subst (λ c. less (take (moment_length j) key) c ≡ true) whole (subst (λ n. less_at (moment_length n) key new ≡ true) (sym t.level) least))

-- ---- every change and every copy

-- an operation under the bus isn't past its old moment
abbrev pub IsBeforeOld : ℕ → BusTurned → Op → Type 0
IsBeforeOld depth bus o = is_under bus.path (op_path depth o) ≡ true → less_at (moment_length (length bus.path)) (old_moment bus) (op_key depth o) ≡ false

module _ (x : ℕ) (m m' : MachineValue) (timed : IsTimed m) (t : TurnMoves x m m') where
  abbrev far : ℕ
  far = moment_length (length t.bus.path)

  pub ops-before : AllByRecursion (IsBeforeOld (depth_of m) t.bus) m.ops
  ops-before = ops-by_leaves m timed (IsBeforeOld (depth_of m) t.bus) (IsBelowOld t.bus) before (t.nows) where
    before : (o : Op) (a : LeafAt) → op_path (depth_of m) o ≡ leaf_path a → less (op_key (depth_of m) o) (leaf_now a) ≡ true → IsBelowOld t.bus a → IsBeforeOld (depth_of m) t.bus o
    before o a path now below under =
        let on : GoesOn (leaf_now a) (old_moment t.bus) = below (subst (λ p. is_under t.bus.path p ≡ true) path under) in
        let size : length (old_moment t.bus) ≡ far = moment_at-length t.bus.path (stamp_of t.bus.dir) t.deep in
        let first : less_at far (leaf_now a) (op_key (depth_of m) o) ≡ false = at_most-at far (op_key (depth_of m) o) (leaf_now a) (less-asymmetric (op_key (depth_of m) o) (leaf_now a) now) in
        let second : less_at far (old_moment t.bus) (leaf_now a) ≡ false = GoesOn-at far (leaf_now a) (old_moment t.bus) on (omega (arith, size)) in
        at_most-transitive (take far (op_key (depth_of m) o)) (take far (leaf_now a)) (take far (old_moment t.bus)) first second

  -- what a copy knows, the copy that comes from it knows
  knows-moved : (o : Op) (k k' : CopyAt) → IsBeforeOld (depth_of m) t.bus o → MovedBy x t.bus k k' → Holds (knows_change (depth_of m) m.items x k o) → Holds (knows_change (depth_of m) m.items x k' o)
  knows-moved o k k' before moved knows changes = known-moved t.bus.path (old_moment t.bus) (new_moment t.bus) (HoldsAfter x t.bus) t.rises (op_key (depth_of m) o) (op_path (depth_of m) o) before k k' moved (knows changes)

  ops-moved : (k k' : CopyAt) → MovedBy x t.bus k k' → (ops : List Op) → AllByRecursion (IsBeforeOld (depth_of m) t.bus) ops → AllByRecursion (λ o. Holds (knows_change (depth_of m) m.items x k o)) ops → AllByRecursion (λ o. Holds (knows_change (depth_of m) m.items x k' o)) ops
  ops-moved k k' moved [] before knows = tt
  ops-moved k k' moved (o ∷ ops) before knows = (knows-moved o k k' before.0 moved knows.0, ops-moved k k' moved ops before.1 knows.1)

  abbrev KnowsAll : CopyAt → Type 0
  KnowsAll k = Holds (each (knows_change (depth_of m) m.items x k) m.ops)

  copies-know : (ks ks' : List CopyAt) → AllFrom (MovedBy x t.bus) ks ks' → AllByRecursion KnowsAll ks → AllByRecursion KnowsAll ks'
  copies-know ks [] from know = tt
  copies-know ks (k' ∷ ks') from know =
      let k : CopyAt = from.0.source in
      let knows : KnowsAll k = each-in KnowsAll k ks know from.0.there in
      (facts-each (knows_change (depth_of m) m.items x k') m.ops (ops-moved k k' from.0.related m.ops ops-before (each-facts (knows_change (depth_of m) m.items x k) m.ops knows)), copies-know ks ks' from.1 know)

  pub clocks-known : Holds (each (λ k. each (knows_change (depth_of m) m.items x k) m.ops) (copies_of x m)) → Holds (each (λ k. each (knows_change (depth_of m) m.items x k) m.ops) (copies_of x m'))
  clocks-known h = facts-each (λ k. each (knows_change (depth_of m) m.items x k) m.ops) (copies_of x m') (copies-know (copies_of x m) (copies_of x m') t.copies (each-facts (λ k. each (knows_change (depth_of m) m.items x k) m.ops) (copies_of x m) h))

-- ---- the rule

-- each copy still knows each change, after every turn of a bus
pub clocks-kept : (s : FlatMachine) (m : MachineValue) → IsShaped m → IsMachineOk m → IsTimed m → AreCommandsPast m → (t : Turn) → IsBusTurn t → (x : ℕ) → Holds (copy_rule clocks_know s m x) → Holds (copy_rule clocks_know s (turn_of t m).machine x)
clocks-kept s m shaped ok timed past t bus x h =
    let next : MachineValue = (turn_of t m).machine in
    let same_ops : Holds (each (λ k. each (knows_change (depth_of m) m.items x k) m.ops) (copies_of x next)) → Holds (copy_rule clocks_know s next x) = λ g. subst (λ d. Holds (each (λ k. each (knows_change d next.items x k) next.ops) (copies_of x next))) (sym (depth-same t m)) (subst (λ i. Holds (each (λ k. each (knows_change (depth_of m) i x k) next.ops) (copies_of x next))) (sym (items-same t m)) (subst (λ os. Holds (each (λ k. each (knows_change (depth_of m) m.items x k) os) (copies_of x next))) (sym (ops-same t m bus)) g)) in
    same_ops (elim (turn-moves m shaped ok timed past t bus x) as (λ _. Holds (each (λ k. each (knows_change (depth_of m) m.items x k) m.ops) (copies_of x next))) [
      | inl same ↦ subst (λ ks. Holds (each (λ k. each (knows_change (depth_of m) m.items x k) m.ops) ks)) (sym (copies-same x m next same)) h
      | inr c ↦ clocks-known x m next timed c h
    ])
