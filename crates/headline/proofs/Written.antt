-- The written rules of order, from the core in one state: ends come later (4), a writer is alone and latest (5), what is beside a
-- directory that holds the item Exclusive is over (6), and changes are known (9).
use Rattle.std.proofs.Common.{◌≡◌, ℕ, ◌+◌, ◌<◌, ◌≤◌, Bool, true, false, ◌&&◌, ◌⊎◌, inl, inr, List, [], ◌∷◌, length, Option, Some, None, refl, sym, ap, subst, ◌∙◌, arith}
use Rattle.std.specs.Prelude.{IfSome, if◌then◌else◌}
use Rattle.std.specs.List.{AllByRecursion}
use Rattle.std.proofs.lemmas.Bool.{true≢false, false≢true, eq-eqb, lt-ltb}
use Rattle.std.proofs.lemmas.List.{length-append}
use Rattle.headline.specs.DdmTypes.declared.operations.Op.{Op}
use Rattle.headline.specs.FlatModel.Flat.{FlatMachine}
use Rattle.headline.specs.FlatModel.Legal.{changes_item}
use Rattle.headline.specs.TreeModel.State.Values.{MachineValue}
use Rattle.headline.specs.TreeModel.State.Leaf.{LeafEntry}
use Rattle.headline.specs.TreeModel.State.Shape.{depth_of, IsShaped}
use Rattle.headline.specs.TreeRules.Statements.{Holds, is_so, is_not, each, if_there, there_and}
use Rattle.headline.proofs.TreeRules.Statements.{each-facts, facts-each}
use Rattle.headline.specs.TreeRules.Bus.Rules.{items_of_machine, IsMachineOk}
use Rattle.headline.specs.TreeRules.Order.Moments.{less, less_at, moment_length, before, past, parted, is_under, same_numbers, spot_moment}
use Rattle.headline.specs.TreeRules.Order.Ops.{op_key, op_path}
use Rattle.headline.specs.TreeRules.Order.Places.{LeafAt, leaf_path, leaf_now, leaves_at, DirAt, dir_path, taken_moment, dirs_at}
use Rattle.headline.specs.TreeRules.Order.Copies.{CopyAt, copies_of}
use Rattle.headline.specs.TreeRules.Order.Claims.{ClaimAt, claims_of}
use Rattle.headline.specs.TreeRules.Order.Core.{ended_before, knows_change, claim_level, parts_at_claim, claim_is_after_op, claim_is_after_end, claim_is_after_copy}
use Rattle.headline.specs.TreeRules.Order.Written as written
use Rattle.headline.specs.TreeRules.Order.Rules.{IsTimed, IsCore, epochs_end, commands_past_taken, claims_after_ops, claims_after_copies, clocks_know, WrittenRule, ends_later, writer_alone, writer_latest, ops_beside, copies_beside, leaf_knows, dirs_know, written_rule, IsWritten}
use Rattle.headline.specs.OrderLists.Copies.{IsOwnOrEnded, IsAloneWhereExclusive}
use Rattle.headline.proofs.OrderLists.Filters.{each-weaker, each-both, each-swap}
use Rattle.headline.proofs.OrderLists.Moments.{less_at-less, before-not_past, past-not_before, same_numbers-true}
use Rattle.headline.proofs.OrderLists.Paths.{under-itself, under-trans, under-same}
use Rattle.headline.proofs.OrderLists.Levels.{IsAtDepth, all_at_depth}
use Rattle.headline.proofs.OrderLists.Stamps.{moment_at-length}
use Rattle.headline.proofs.OrderLists.Clocks.{shallow}
use Rattle.headline.proofs.OrderLists.Queues.{IsOrdered}
use Rattle.headline.proofs.OrderLists.Ends.{IsTimely}
use Rattle.headline.proofs.OrderLists.Late.{IsBelowEnd, IsLate}
use Rattle.headline.proofs.OrderLists.State.{all_ordered, ops_at_depth, copies_timely, copies_late}
use Rattle.headline.proofs.OrderLists.Contracts.{exclusive-alone}
use Rattle.order_laws.specs.Moves.Moved.{In}
use Rattle.order_laws.proofs.Moves.Sources.{each-in}
use Rattle.order_laws.proofs.Grant.ReservedKept.{each-member, HeldEntry, held-entry}
use Rattle.order_laws.proofs.Hart.LeafPlaces.{IsPlaced, all_placed}
use Rattle.order_laws.proofs.Hart.Ready.{CopyOf, HasItsCopy, entry_copy, less-append, before-append}
use Rattle.headline.proofs.CopyPlaces.{IsEntryOf, IsEntryAt, entries-at, IsKnownBelow, known-below}
use Rattle.headline.proofs.DirClaims.{ClaimOf, IsClaimed, since-length, all-claimed}
use Rattle.headline.proofs.Beside.{IsBeside, less-before, before-goes_on, beside-parted, beside-facts, not_same, some-each}

module _ (s : FlatMachine) (m : MachineValue) (shaped : IsShaped m) (ok : IsMachineOk m) (timed : IsTimed m) (core : IsCore s m) (x : ℕ) (below : x < items_of_machine m) where
  abbrev depth : ℕ
  depth = depth_of m

  ordered : AllByRecursion IsOrdered (dirs_at m)
  ordered = all_ordered m shaped timed (core.each commands_past_taken)

  -- ---- 4

  placed : AllByRecursion (IsPlaced depth) (leaves_at m)
  placed = all_placed m shaped ok.top (each-facts _ (dirs_at m) (timed.each epochs_end))

  ends : AllByRecursion (λ a. AllByRecursion (λ k. Holds (written.is_before_end a k)) (copies_of x m)) (leaves_at m)
  ends = each-both (IsPlaced depth) (λ a. AllByRecursion (IsEntryAt a) (copies_of x m)) _ (λ a l h. each-both (IsEntryAt a) (IsTimely []) _ (one a l) (copies_of x m) h (copies_timely m shaped timed (core.each commands_past_taken) x)) (leaves_at m) placed (entries-at x m ordered) where
    one : (a : LeafAt) → IsPlaced depth a → (k : CopyAt) → IsEntryAt a k → IsTimely [] k → Holds (written.is_before_end a k)
    one a l k entry timely same = go k.end is.end timely.end where
      is : IsEntryOf a k
      is = entry (same_numbers-true k.place (leaf_path a) same)

      clock : length (spot_moment a.spot) ≡ moment_length (length a.spot.above)
      clock = moment_at-length a.spot.above a.spot.present (let d : length a.spot.above ≤ 3 = l.deep in omega (arith, d))

      go : (o : Option (List ℕ)) → IfSome o (λ e. length e < moment_length (length a.spot.above)) → IfSome o (λ e. before k.clock e ≡ true) → Holds (if_there (λ e. is_so (before (leaf_now a) e)) o)
      go None short h = tt
      go (Some e) short h = before-append (spot_moment a.spot) (a.spot.number ∷ a.leaf.done ∷ []) e (omega (arith, short, clock)) (subst (λ c. before c e ≡ true) is.clock h)

  -- ---- 5

  alone : AllByRecursion (IsAloneWhereExclusive m x) (leaves_at m)
  alone = exclusive-alone s m x shaped ok timed core below

  outlives : AllByRecursion (λ a. Holds (written.writer_outlives x (copies_of x m) a)) (leaves_at m)
  outlives = each-weaker _ _ (λ a h e. facts-each (written.other_copy_ends a) (copies_of x m) (each-weaker _ _ (one a) (copies_of x m) (h e).copies)) (leaves_at m) alone where
    one : (a : LeafAt) (k : CopyAt) → IsOwnOrEnded a k → Holds (written.other_copy_ends a k)
    one a k (inl own) other = absurd (not_same k.place (leaf_path a) other own.0)
    one a k (inr ended) other = go k.end ended where
      go : (o : Option (List ℕ)) → Holds (there_and (λ e. is_so (past e (leaf_now a))) o) → Holds (there_and (λ e. is_not (before (leaf_now a) e)) o)
      go None h = absurd (false≢true h)
      go (Some e) h = past-not_before (leaf_now a) e h

  latest : AllByRecursion (λ a. Holds (written.writer_is_latest depth m.items m.ops x a)) (leaves_at m)
  latest = each-weaker _ _ (λ a h e. facts-each (written.op_is_less depth m.items x a) m.ops (h e).ops) (leaves_at m) alone

  -- ---- 6

  -- a claim of the directory, beside which a path is
  parts : (c : DirAt) (t : ClaimAt) (path : List ℕ) → t.child ≡ dir_path c → IsBeside c path → (parts_at_claim t path ≡ true) × (claim_level t ≡ length c.spot.above)
  parts c t path child b = (rw (level, where_parted) (both (eq-eqb (length c.spot.above) (length c.spot.above) refl) (lt-ltb _ _ b.long)), level) where
    both : {a b : Bool} → a ≡ true → b ≡ true → (a && b) ≡ true
    both {a = a} {b = b} e f = rw e f

    level : claim_level t ≡ length c.spot.above
    level = let n : length (dir_path c) ≡ length c.spot.above + 1 = length-append c.spot.above (c.spot.number ∷ []) in let e : length t.child ≡ length (dir_path c) = ap length child in omega (arith, n, e)

    where_parted : parted t.child path ≡ length c.spot.above
    where_parted = ap (λ p. parted p path) child ∙ beside-parted c.spot.above c.spot.number (dir_path c) path (under-itself (dir_path c)) b.above b.apart

  claimed : AllByRecursion (IsClaimed x (λ t. In t (claims_of x m))) (dirs_at m)
  claimed = all-claimed x (λ t. In t (claims_of x m)) m ordered (each-member (claims_of x m))

  ops_over : AllByRecursion (λ c. Holds (written.beside_ops_are_before depth m.items m.ops x c)) (dirs_at m)
  ops_over = each-both IsOrdered (IsClaimed x (λ t. In t (claims_of x m))) _ (λ c o h e. over c o (h e)) (dirs_at m) ordered claimed where
    over : (c : DirAt) → IsOrdered c → ClaimOf x (λ t. In t (claims_of x m)) c → Holds (each (written.beside_op_is_before depth m.items x c) m.ops)
    over c o claim = facts-each (written.beside_op_is_before depth m.items x c) m.ops (each-weaker (λ p. Holds (claim_is_after_op depth m.items x claim.claim p)) _ one m.ops (each-facts (claim_is_after_op depth m.items x claim.claim) m.ops rule)) where
      rule : Holds (each (claim_is_after_op depth m.items x claim.claim) m.ops)
      rule = each-in (λ t. Holds (each (claim_is_after_op depth m.items x t) m.ops)) claim.claim (claims_of x m) (each-facts (λ t. each (claim_is_after_op depth m.items x t) m.ops) (claims_of x m) (core.copies x below claims_after_ops)) claim.fact

      one : (p : Op) → Holds (claim_is_after_op depth m.items x claim.claim p) → Holds (written.beside_op_is_before depth m.items x c p)
      one p h on beside =
          let q = parts c claim.claim (op_path depth p) claim.child (beside-facts c (op_path depth p) beside) in
          before-goes_on (moment_length (claim_level claim.claim)) (op_key depth p) claim.claim.moment (written.exclusive_since x c) (ap moment_length q.1 ∙ sym (since-length x c (shallow c.spot o.clocked.deep))) (h on q.0) claim.since

  copies_over : AllByRecursion (λ c. Holds (written.beside_copies_end x (copies_of x m) c)) (dirs_at m)
  copies_over = each-both IsOrdered (IsClaimed x (λ t. In t (claims_of x m))) _ (λ c o h e. over c o (h e)) (dirs_at m) ordered claimed where
    over : (c : DirAt) → IsOrdered c → ClaimOf x (λ t. In t (claims_of x m)) c → Holds (each (written.beside_copy_ends x c) (copies_of x m))
    over c o claim = facts-each (written.beside_copy_ends x c) (copies_of x m) (each-weaker (λ k. Holds (claim_is_after_copy claim.claim k)) _ one (copies_of x m) (each-facts (claim_is_after_copy claim.claim) (copies_of x m) rule)) where
      rule : Holds (each (claim_is_after_copy claim.claim) (copies_of x m))
      rule = each-in (λ t. Holds (each (claim_is_after_copy t) (copies_of x m))) claim.claim (claims_of x m) (each-facts (λ t. each (claim_is_after_copy t) (copies_of x m)) (claims_of x m) (core.copies x below claims_after_copies)) claim.fact

      one : (k : CopyAt) → Holds (claim_is_after_copy claim.claim k) → Holds (written.beside_copy_ends x c k)
      one k h beside = go k.end (h q.0) where
        q : (parts_at_claim claim.claim k.place ≡ true) × (claim_level claim.claim ≡ length c.spot.above)
        q = parts c claim.claim k.place claim.child (beside-facts c k.place beside)

        go : (o : Option (List ℕ)) → Holds (there_and (claim_is_after_end claim.claim) o) → Holds (there_and (λ e. is_so (before e (written.exclusive_since x c))) o)
        go None h = h
        go (Some e) h = before-goes_on (moment_length (claim_level claim.claim)) e claim.claim.moment (written.exclusive_since x c) (ap moment_length q.1 ∙ sym (since-length x c (shallow c.spot o.clocked.deep))) h.1 claim.since

  -- ---- 9

  abbrev known_ops : CopyAt → Type 0
  known_ops k = AllByRecursion (λ o. Holds (knows_change depth m.items x k o)) m.ops

  known : AllByRecursion known_ops (copies_of x m)
  known = each-weaker _ _ (λ k h. each-facts (knows_change depth m.items x k) m.ops h) (copies_of x m) (each-facts (λ k. each (knows_change depth m.items x k) m.ops) (copies_of x m) (core.copies x below clocks_know))

  -- a change beside a copy is less than its clock, where they part, or after its end
  beside-known : (k : CopyAt) (o : Op) → Holds (knows_change depth m.items x k o) → changes_item m.items x o.effect ≡ true → is_under k.place (op_path depth o) ≡ false → (less (op_key depth o) k.clock ≡ true) ⊎ Holds (ended_before k (op_key depth o))
  beside-known k o h changes apart = go (h changes apart) where
    go : (less_at (moment_length (parted k.place (op_path depth o))) (op_key depth o) k.clock ≡ true) ⊎ Holds (ended_before k (op_key depth o)) → (less (op_key depth o) k.clock ≡ true) ⊎ Holds (ended_before k (op_key depth o))
    go (inl l) = inl (less_at-less (moment_length (parted k.place (op_path depth o))) (op_key depth o) k.clock l)
    go (inr e) = inr e

  abbrev IsHere : CopyAt → Type 0
  IsHere k = In k (copies_of x m)

  -- its own copy, with what the core says of it
  leaf_facts : AllByRecursion (λ a. IsAtDepth depth a × AllByRecursion (IsEntryAt a) (copies_of x m) × HasItsCopy x IsHere a) (leaves_at m)
  leaf_facts = each-both _ _ _ (λ a d h. (d, h.0, h.1)) (leaves_at m) (all_at_depth m shaped) (each-both _ _ (λ a. AllByRecursion (IsEntryAt a) (copies_of x m) × HasItsCopy x IsHere a) (λ a e h. (e, h)) (leaves_at m) (entries-at x m ordered) (entry_copy x m IsHere (each-member (copies_of x m))))

  leaves_know : AllByRecursion (λ a. Holds (written.leaf_knows_changes depth m.items m.ops x a)) (leaves_at m)
  leaves_know = each-weaker _ _ (λ a f h. by_entry a f.0 f.1 (held-entry x a.leaf h) f.2) (leaves_at m) leaf_facts where
    by_copy : (a : LeafAt) → IsAtDepth depth a → AllByRecursion (IsEntryAt a) (copies_of x m) → (e : LeafEntry) → CopyOf IsHere a e → Holds (each (written.knows_beside depth m.items x a) m.ops)
    by_copy a deep entries e c =
        facts-each (written.knows_beside depth m.items x a) m.ops
        (each-both _ (λ o. Holds (knows_change depth m.items x c.copy o) × IfSome c.copy.end (λ f. IsBelowEnd depth c.copy.place f o → before (op_key depth o) f ≡ true)) _ one m.ops (ops_at_depth m shaped timed)
        (each-both _ _ (λ o. Holds (knows_change depth m.items x c.copy o) × IfSome c.copy.end (λ f. IsBelowEnd depth c.copy.place f o → before (op_key depth o) f ≡ true)) (λ o h k. (h, k)) m.ops (each-in known_ops c.copy (copies_of x m) known c.fact)
        (some-each c.copy.end (λ f o. IsBelowEnd depth c.copy.place f o → before (op_key depth o) f ≡ true) m.ops (each-in (IsLate depth m.ops []) c.copy (copies_of x m) (copies_late m shaped timed (core.each commands_past_taken) x) c.fact).below))) where
          own : IsEntryOf a c.copy
          own = each-in (IsEntryAt a) c.copy (copies_of x m) entries c.fact c.place

          one : (o : Op) → length (op_path depth o) ≡ depth → Holds (knows_change depth m.items x c.copy o) × IfSome c.copy.end (λ f. IsBelowEnd depth c.copy.place f o → before (op_key depth o) f ≡ true) → Holds (written.knows_beside depth m.items x a o)
          one o long h changes under other = go (beside-known c.copy o h.0 changes apart) where
            apart : is_under c.copy.place (op_path depth o) ≡ false
            apart = by_test (is_under (leaf_path a) (op_path depth o)) refl where
              by_test : (t : Bool) → is_under (leaf_path a) (op_path depth o) ≡ t → is_under c.copy.place (op_path depth o) ≡ false
              by_test true e = absurd (not_same (leaf_path a) (op_path depth o) other (under-same (leaf_path a) (op_path depth o) e (deep ∙ sym long)))
              by_test false e = ap (λ p. is_under p (op_path depth o)) c.place ∙ e

            parted_at : parted c.copy.place (op_path depth o) ≡ length a.spot.above
            parted_at = beside-parted a.spot.above a.spot.number c.copy.place (op_path depth o) (subst (λ p. is_under (leaf_path a) p ≡ true) (sym c.place) (under-itself (leaf_path a))) under (ap (λ p. is_under p (op_path depth o)) (sym c.place) ∙ apart)

            not_ended : (f : Option (List ℕ)) → IfSome f (λ e. length e < moment_length (length a.spot.above)) → IfSome f (λ e. IsBelowEnd depth c.copy.place e o → before (op_key depth o) e ≡ true) → Holds (there_and (λ e. is_so (past e (op_key depth o))) f) → ⊥
            not_ended None short b p = false≢true p
            not_ended (Some e) short b p = true≢false (sym p ∙ before-not_past (op_key depth o) e (b (inr (omega (arith, short, parted_at)))))

            go : (less (op_key depth o) c.copy.clock ≡ true) ⊎ Holds (ended_before c.copy (op_key depth o)) → less (op_key depth o) (leaf_now a) ≡ true
            go (inl l) = ap (less (op_key depth o)) c.now ∙ less-append (op_key depth o) c.copy.clock c.tail l
            go (inr p) = absurd (not_ended c.copy.end own.end h.1 p)

    by_entry : (a : LeafAt) → IsAtDepth depth a → AllByRecursion (IsEntryAt a) (copies_of x m) → HeldEntry x a.leaf → HasItsCopy x IsHere a → Holds (each (written.knows_beside depth m.items x a) m.ops)
    by_entry a deep entries f copy = by_copy a deep entries f.entry (copy f.entry f.is f.held)

  dirs_are_told : AllByRecursion (λ k. AllByRecursion (λ c. Holds (written.dir_knows_changes depth m.items m.ops x k c)) (dirs_at m)) (copies_of x m)
  dirs_are_told = each-both known_ops (λ k. AllByRecursion (λ c. IsKnownBelow x c k) (dirs_at m)) _ (λ k h b. each-both IsOrdered (λ c. IsKnownBelow x c k) _ (over k h) (dirs_at m) ordered b) (copies_of x m) known (each-swap (λ c k. IsKnownBelow x c k) (dirs_at m) (copies_of x m) (known-below x m ordered)) where
    over : (k : CopyAt) → known_ops k → (c : DirAt) → IsOrdered c → IsKnownBelow x c k → Holds (written.dir_knows_changes depth m.items m.ops x k c)
    over k h c o below_it under = facts-each (written.beside_change_is_known depth m.items x k c) m.ops (each-weaker (λ p. Holds (knows_change depth m.items x k p)) _ one m.ops h) where
      one : (p : Op) → Holds (knows_change depth m.items x k p) → Holds (written.beside_change_is_known depth m.items x k c p)
      one p known_one changes beside = go (known_one changes apart) where
        b : IsBeside c (op_path depth p)
        b = beside-facts c (op_path depth p) beside

        apart : is_under k.place (op_path depth p) ≡ false
        apart = by_test (is_under k.place (op_path depth p)) refl where
          by_test : (t : Bool) → is_under k.place (op_path depth p) ≡ t → is_under k.place (op_path depth p) ≡ false
          by_test true e = absurd (true≢false (sym (under-trans (dir_path c) k.place (op_path depth p) under e) ∙ b.apart))
          by_test false e = e

        at : parted k.place (op_path depth p) ≡ length c.spot.above
        at = beside-parted c.spot.above c.spot.number k.place (op_path depth p) under b.above b.apart

        taken : length (taken_moment c) ≡ moment_length (length c.spot.above)
        taken = moment_at-length c.spot.above c.dir.epoch (shallow c.spot o.clocked.deep)

        by_place : less_at (moment_length (parted k.place (op_path depth p))) (op_key depth p) k.clock ≡ true → (t : Bool) → same_numbers k.place (dir_path c) ≡ t → before (op_key depth p) (if t then k.clock else taken_moment c) ≡ true
        by_place l true e = less-before (op_key depth p) k.clock (less_at-less (moment_length (parted k.place (op_path depth p))) (op_key depth p) k.clock l)
        by_place l false e = before-goes_on (moment_length (parted k.place (op_path depth p))) (op_key depth p) k.clock (taken_moment c) (ap moment_length at ∙ sym taken) l (below_it under (not_same k.place (dir_path c) e))

        go : (less_at (moment_length (parted k.place (op_path depth p))) (op_key depth p) k.clock ≡ true) ⊎ Holds (ended_before k (op_key depth p)) → (before (op_key depth p) (written.known_until k c) ≡ true) ⊎ Holds (ended_before k (op_key depth p))
        go (inl l) = inl (by_place l (same_numbers k.place (dir_path c)) refl)
        go (inr e) = inr e

  -- ---- all of them

  rules : (r : WrittenRule) → Holds (written_rule r m x)
  rules ends_later = facts-each (λ a. each (written.is_before_end a) (copies_of x m)) (leaves_at m) (each-weaker _ _ (λ a h. facts-each (written.is_before_end a) (copies_of x m) h) (leaves_at m) ends)
  rules writer_alone = facts-each (written.writer_outlives x (copies_of x m)) (leaves_at m) outlives
  rules writer_latest = facts-each (written.writer_is_latest depth m.items m.ops x) (leaves_at m) latest
  rules ops_beside = facts-each (written.beside_ops_are_before depth m.items m.ops x) (dirs_at m) ops_over
  rules copies_beside = facts-each (written.beside_copies_end x (copies_of x m)) (dirs_at m) copies_over
  rules leaf_knows = facts-each (written.leaf_knows_changes depth m.items m.ops x) (leaves_at m) leaves_know
  rules dirs_know = facts-each (λ k. each (written.dir_knows_changes depth m.items m.ops x k) (dirs_at m)) (copies_of x m) (each-weaker _ _ (λ k h. facts-each (written.dir_knows_changes depth m.items m.ops x k) (dirs_at m) h) (copies_of x m) dirs_are_told)

pub written-follows : (s : FlatMachine) (m : MachineValue) → IsShaped m → IsMachineOk m → IsTimed m → IsCore s m → IsWritten m
written-follows s m shaped ok timed core = record { each = λ x below r. rules s m shaped ok timed core x below r }
