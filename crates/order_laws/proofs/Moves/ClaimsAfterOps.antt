-- Each claim is still after each operation on its item under another child of its bus, after every turn of a bus.
-- Letters: c is a claim before, c' one after, o an operation.
use Rattle.std.proofs.Common.{◌≡◌, ℕ, ◌+◌, ◌-◌, ◌<◌, true, List, [], ◌∷◌, ◌++◌, length, take, sym, ap, subst, ◌∙◌, inl, inr, arith}
use Rattle.std.specs.Prelude.{nat_eq, nat_lt, ◌&&◌}
use Rattle.std.specs.List.{AllByRecursion}
use Rattle.std.proofs.lemmas.Bool.{and_parts, eqb-true}
use Rattle.std.proofs.lemmas.List.{length-append, take_all}
use Rattle.order_laws.specs.DdmTypes.declared.operations.Op.{Op}
use Rattle.order_laws.specs.DdmTypes.declared.turns.Turn.{Turn}
use Rattle.order_laws.specs.FlatModel.Flat.{FlatMachine}
use Rattle.order_laws.specs.TreeModel.State.Values.{MachineValue}
use Rattle.order_laws.specs.TreeModel.State.Directory.{stamp_of}
use Rattle.order_laws.specs.TreeModel.State.Shape.{IsShaped, depth_of}
use Rattle.order_laws.specs.TreeModel.Turns.Machine.{turn_of}
use Rattle.order_laws.specs.TreeRules.Statements.{Holds, each}
use Rattle.order_laws.specs.TreeRules.Bus.Rules.{IsMachineOk, items_of_machine}
use Rattle.order_laws.specs.TreeRules.Order.Claims.{ClaimAt, claims_of}
use Rattle.order_laws.specs.TreeRules.Order.Core.{claim_level, parts_at_claim, claim_is_after_op}
use Rattle.order_laws.specs.TreeRules.Order.Moments.{less, less_at, parted, is_under, moment_length}
use Rattle.order_laws.specs.TreeRules.Order.Ops.{op_key, op_path}
use Rattle.order_laws.specs.TreeRules.Order.Rules.{IsTimed, copy_rule, claims_after_ops}
use Rattle.order_laws.proofs.TreeRules.Statements.{each-facts, facts-each}
use Rattle.order_laws.proofs.Moves.Below.{AreCommandsPast}
use Rattle.order_lists.proofs.Filters.{each-weaker}
use Rattle.order_lists.proofs.Moments.{less-least, least-less}
use Rattle.order_lists.proofs.Paths.{under-append, under-parted}
use Rattle.order_lists.proofs.Stamps.{moment_at-length}
use Rattle.order_laws.specs.Moves.Carries.{old_moment, new_moment}
use Rattle.order_laws.specs.Moves.ClaimsMoved.{ClaimKept, ClaimNew, ClaimFrom, ClaimsFrom}
use Rattle.order_laws.specs.Moves.CopiesMoved.{IsBusTurn, TurnMoves}
use Rattle.order_laws.proofs.Moves.ClockKept.{IsBeforeOld, ops-before}
use Rattle.order_laws.proofs.Moves.CopiesMoved.{turn-moves, claims-of-same}
use Rattle.order_laws.proofs.Moves.Sources.{each-in}
use Rattle.order_laws.proofs.Moves.TurnFrame.{ops-same, items-same, depth-same}

module _ (x : ℕ) (m m' : MachineValue) (timed : IsTimed m) (t : TurnMoves x m m') where
  abbrev far : ℕ
  far = moment_length (length t.bus.path)

  abbrev After : ClaimAt → Op → Type 0
  After c o = Holds (claim_is_after_op (depth_of m) m.items x c o)

  abbrev AfterAll : ClaimAt → Type 0
  AfterAll c = Holds (each (claim_is_after_op (depth_of m) m.items x c) m.ops)

  -- the same child, and the claim hasn't fallen
  kept-after : (c c' : ClaimAt) → ClaimKept c c' → (o : Op) → After c o → After c' o
  kept-after c c' kept o after on parts =
      let same : claim_level c ≡ claim_level c' = ap (λ p. length p - 1) (sym kept.child) in
      let parts_before : parts_at_claim c (op_path (depth_of m) o) ≡ true = subst (λ p. (nat_eq (parted p (op_path (depth_of m) o)) (length p - 1) && nat_lt (length p - 1) (length (op_path (depth_of m) o))) ≡ true) kept.child parts in
      let before : less_at (moment_length (claim_level c')) (op_key (depth_of m) o) c.moment ≡ true = subst (λ l. less_at (moment_length l) (op_key (depth_of m) o) c.moment ≡ true) same (after on parts_before) in
      less-least (take (moment_length (claim_level c')) (op_key (depth_of m) o)) (take (moment_length (claim_level c')) c.moment) (take (moment_length (claim_level c')) c'.moment) before kept.moment

  -- a child of the bus, at the new moment
  new-after : (c' : ClaimAt) → ClaimNew t.bus.path (new_moment t.bus) c' → (o : Op) → IsBeforeOld (depth_of m) t.bus o → After c' o
  new-after c' fresh o before on parts =
      let longer : length (t.bus.path ++ fresh.number ∷ []) ≡ length t.bus.path + 1 = length-append t.bus.path (fresh.number ∷ []) in
      let size : length c'.child ≡ length t.bus.path + 1 = ap length fresh.child ∙ longer in
      let level : claim_level c' ≡ length t.bus.path = omega (arith, size) in
      let at : parted c'.child (op_path (depth_of m) o) ≡ claim_level c' = eqb-true _ _ (and_parts (nat_eq (parted c'.child (op_path (depth_of m) o)) (claim_level c')) _ parts).0 in
      let over : is_under t.bus.path c'.child ≡ true = subst (λ p. is_under t.bus.path p ≡ true) (sym fresh.child) (under-append t.bus.path (fresh.number ∷ [])) in
      let under : is_under t.bus.path (op_path (depth_of m) o) ≡ true = under-parted t.bus.path c'.child (op_path (depth_of m) o) over (omega (arith, at, level)) in
      let new_size : length (new_moment t.bus) ≡ far = moment_at-length t.bus.path (stamp_of t.bus.dir_after) t.deep in
      let whole : take far (new_moment t.bus) ≡ take far c'.moment = take_all far (new_moment t.bus) (omega (arith, new_size)) ∙ sym fresh.moment in
      let least : less_at far (op_key (depth_of m) o) (new_moment t.bus) ≡ true = least-less (take far (op_key (depth_of m) o)) (take far (old_moment t.bus)) (take far (new_moment t.bus)) (before under) t.rises in
      subst (λ l. less_at (moment_length l) (op_key (depth_of m) o) c'.moment ≡ true) (sym level) (subst (λ u. less (take far (op_key (depth_of m) o)) u ≡ true) whole least)

  all-after : (before after : List ClaimAt) → ClaimsFrom t.bus.path (new_moment t.bus) before after → AllByRecursion AfterAll before → AllByRecursion AfterAll after
  all-after before [] from h = tt
  all-after before (c' ∷ after) from h = (by from.0, all-after before after from.1 h) where
    by : ClaimFrom t.bus.path (new_moment t.bus) before c' → AfterAll c'
    by (inl k) = facts-each (claim_is_after_op (depth_of m) m.items x c') m.ops (each-weaker (After k.source) (After c') (λ o a. kept-after k.source c' k.kept o a) m.ops (each-facts (claim_is_after_op (depth_of m) m.items x k.source) m.ops (each-in AfterAll k.source before h k.there)))
    by (inr fresh) = facts-each (claim_is_after_op (depth_of m) m.items x c') m.ops (each-weaker (IsBeforeOld (depth_of m) t.bus) (After c') (λ o before. new-after c' fresh o before) m.ops (ops-before x m m' timed t))

-- after every turn of a bus
pub claims_after_ops-kept : (s : FlatMachine) (m : MachineValue) → IsShaped m → IsMachineOk m → IsTimed m → AreCommandsPast m → (t : Turn) → IsBusTurn t → (x : ℕ) → x < items_of_machine m → Holds (copy_rule claims_after_ops s m x) → Holds (copy_rule claims_after_ops s (turn_of t m).machine x)
claims_after_ops-kept s m shaped ok timed past t bus x low h =
    let next : MachineValue = (turn_of t m).machine in
    let same : Holds (each (λ c. each (claim_is_after_op (depth_of m) m.items x c) m.ops) (claims_of x next)) → Holds (copy_rule claims_after_ops s next x) = λ g. subst (λ d. Holds (each (λ c. each (claim_is_after_op d next.items x c) next.ops) (claims_of x next))) (sym (depth-same t m)) (subst (λ i. Holds (each (λ c. each (claim_is_after_op (depth_of m) i x c) next.ops) (claims_of x next))) (sym (items-same t m)) (subst (λ os. Holds (each (λ c. each (claim_is_after_op (depth_of m) m.items x c) os) (claims_of x next))) (sym (ops-same t m bus)) g)) in
    same (elim (turn-moves m shaped ok timed past t bus x) as (λ _. Holds (each (λ c. each (claim_is_after_op (depth_of m) m.items x c) m.ops) (claims_of x next))) [
      | inl at ↦ subst (λ cs. Holds (each (λ c. each (claim_is_after_op (depth_of m) m.items x c) m.ops) cs)) (sym (claims-of-same x m next at)) h
      | inr c ↦ facts-each (λ c. each (claim_is_after_op (depth_of m) m.items x c) m.ops) (claims_of x next) (all-after x m next timed c (claims_of x m) (claims_of x next) (c.claims low) (each-facts (λ c. each (claim_is_after_op (depth_of m) m.items x c) m.ops) (claims_of x m) h))
    ])
