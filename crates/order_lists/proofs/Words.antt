-- The words of a copy, by what it knows of changes: each change of its item is known to it, or comes after its end. So they are
-- those after any set of operations that has each change but those that come after the end.
use Rattle.std.proofs.Common.{◌≡◌, ℕ, ◌<◌, ◌≤◌, Bool, true, false, not, ◌⊎◌, inl, inr, List, length, take, Option, Some, None, IfSome, refl, sym, ap, subst, ◌∙◌}
use Rattle.std.specs.List.{AllByRecursion}
use Rattle.std.proofs.lemmas.Bool.{cases_lt, true≢false}
use Rattle.order_lists.specs.DdmTypes.declared.operations.Op.{Op}
use Rattle.order_lists.specs.DdmTypes.ItemTable.{ItemTable}
use Rattle.order_lists.specs.FlatModel.Flat.{FlatMachine, item_words}
use Rattle.order_lists.specs.FlatModel.Legal.{changes_item}
use Rattle.order_lists.specs.TreeModel.Turns.Witness.{sorted_ops}
use Rattle.tree_rules.specs.Statements.{Holds, test_of, is_so, there_and}
use Rattle.tree_rules.specs.Order.Moments.{less_at, before, past, parted, is_under, moment_length}
use Rattle.tree_rules.specs.Order.Ops.{op_key, op_path, words_where}
use Rattle.tree_rules.specs.Order.Copies.{CopyAt}
use Rattle.tree_rules.specs.Order.Core.{any_op, words_until, has_right_words, knows_change, ended_before}
use Rattle.tree_rules.proofs.Statements.{test-from_Holds}
use Rattle.order_lists.proofs.Filters.{each-weaker, each-both}
use Rattle.order_lists.proofs.Moments.{at_most_at-fewer, less_at-more, less-least, less-asymmetric, before_is, past-not_before, same_numbers-true}
use Rattle.order_lists.proofs.Sorted.{sorted-each}
use Rattle.order_lists.proofs.Values.{Agree, words-agree}
use Rattle.order_lists.proofs.Late.{IsBelowEnd, OpsBelow}

module _ (depth : ℕ) (items : ItemTable) (x : ℕ) where
  -- the operation comes after the copy's end
  abbrev pub is_after_end : CopyAt → Op → Bool
  is_after_end k o = test_of (ended_before k (op_key depth o))

  abbrev pub is_not_after_end : CopyAt → Op → Bool
  is_not_after_end k o = not (is_after_end k o)

  -- an operation that is known to a copy, and parts from it no lower than its end's bus, is before the end
  known_before : (place clock e : List ℕ) (o : Op) → before clock e ≡ true → less_at (moment_length (parted place (op_path depth o))) (op_key depth o) clock ≡ true → moment_length (parted place (op_path depth o)) ≤ length e → before (op_key depth o) e ≡ true
  known_before place clock e o late known short =
      let n : ℕ = moment_length (parted place (op_path depth o)) in
      let clock_e : less_at (length e) clock e ≡ true = sym (before_is clock e) ∙ late in
      let at_most : less_at n e clock ≡ false = at_most_at-fewer n (length e) clock e short (less-asymmetric (take (length e) clock) (take (length e) e) clock_e) in
      let o_e : less_at n (op_key depth o) e ≡ true = less-least (take n (op_key depth o)) (take n clock) (take n e) known at_most in
      before_is (op_key depth o) e ∙ less_at-more n (length e) (op_key depth o) e short o_e

  -- of a change: it is before the copy's end just where it doesn't come after it
  ends_at : (k : CopyAt) (e : List ℕ) (o : Op) → k.end ≡ Some e → before k.clock e ≡ true → (IsBelowEnd depth k.place e o → before (op_key depth o) e ≡ true) → Holds (knows_change depth items x k o) → changes_item items x o.effect ≡ true → before (op_key depth o) e ≡ is_not_after_end k o
  ends_at k e o is late below known c = go (past e (op_key depth o)) refl where
    ended : is_after_end k o ≡ past e (op_key depth o)
    ended = ap (λ t. test_of (there_and (λ f. is_so (past f (op_key depth o))) t)) is

    by_place : past e (op_key depth o) ≡ false → (t : Bool) → is_under k.place (op_path depth o) ≡ t → before (op_key depth o) e ≡ true
    by_place not_past true u = below (inl u)
    by_place not_past false u = by_length (cases_lt (length e) (moment_length (parted k.place (op_path depth o)))) where
      by_rule : moment_length (parted k.place (op_path depth o)) ≤ length e → (less_at (moment_length (parted k.place (op_path depth o))) (op_key depth o) k.clock ≡ true) ⊎ Holds (ended_before k (op_key depth o)) → before (op_key depth o) e ≡ true
      by_rule short (inl h) = known_before k.place k.clock e o late h short
      by_rule short (inr h) = absurd (true≢false (sym (test-from_Holds (ended_before k (op_key depth o)) h) ∙ ended ∙ not_past))

      by_length : (length e < moment_length (parted k.place (op_path depth o))) ⊎ (moment_length (parted k.place (op_path depth o)) ≤ length e) → before (op_key depth o) e ≡ true
      by_length (inl h) = below (inr h)
      by_length (inr h) = by_rule h (known c u)

    go : (t : Bool) → past e (op_key depth o) ≡ t → before (op_key depth o) e ≡ is_not_after_end k o
    go true h = past-not_before (op_key depth o) e h ∙ sym (ap not (ended ∙ h))
    go false h = by_place h (is_under k.place (op_path depth o)) refl ∙ sym (ap not (ended ∙ h))

  -- with these operations the copy knows each change, and its end comes after its clock and after what is below it
  pub record KnowsChanges (ops : List Op) (k : CopyAt) : Type 0 where
    pub known : AllByRecursion (λ o. Holds (knows_change depth items x k o)) ops
    pub clock : IfSome k.end (λ e. before k.clock e ≡ true)
    pub below : IfSome k.end (OpsBelow depth ops k.place)

  at_end : (o : Option (List ℕ)) (e : List ℕ) (P : List ℕ → Type 0) → o ≡ Some e → IfSome o P → P e
  at_end o e P is h = subst (λ q. IfSome q P) is h

  pub words_known : (s : FlatMachine) (ops : List Op) (k : CopyAt) (p : Op → Bool) → Holds (has_right_words s depth items ops x k) → KnowsChanges ops k → Agree items x p (is_not_after_end k) ops → k.words ≡ words_where s items ops x p
  words_known s ops k p right knows agree = go k.end refl (same_numbers-true k.words (words_until s depth items ops x k.end) right) where
    go : (e : Option (List ℕ)) → k.end ≡ e → k.words ≡ words_until s depth items ops x e → k.words ≡ words_where s items ops x p
    go None is w = w ∙ words-agree items x any_op p (sorted_ops ops) (item_words s x) (sorted-each _ ops (each-weaker _ _ (λ o h c. sym (h c ∙ ap (λ t. not (test_of (there_and (λ f. is_so (past f (op_key depth o))) t))) is)) ops agree))
    go (Some e) is w =
        w ∙ words-agree items x (λ o. before (op_key depth o) e) p (sorted_ops ops) (item_words s x)
        (sorted-each _ ops (each-both _ _ _ (λ o h b c. ends_at k e o is (at_end k.end e (λ f. before k.clock f ≡ true) is knows.clock) b.0 b.1 c ∙ sym (h c)) ops agree (each-both _ _ (λ o. (IsBelowEnd depth k.place e o → before (op_key depth o) e ≡ true) × Holds (knows_change depth items x k o)) (λ o b h. (b, h)) ops (at_end k.end e (OpsBelow depth ops k.place) is knows.below) knows.known)))
