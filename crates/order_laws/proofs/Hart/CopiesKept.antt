-- The words and clocks of the copies after a hart's turn that completes.
use Rattle.std.proofs.Common.{◌≡◌, ℕ, Bool, true, false, ◌⊎◌, inl, inr, List, [], ◌∷◌, ◌++◌, filter, Option, Some, None, refl, sym, ap, subst, ◌∙◌}
use Rattle.std.specs.List.{AllByRecursion}
use Rattle.std.proofs.lemmas.Bool.{true≢false}
use Rattle.std.proofs.lemmas.List.Elements.{filter-append}
use Rattle.order_laws.specs.DdmTypes.declared.operations.Op.{Op}
use Rattle.order_laws.specs.DdmTypes.ItemTable.{ItemTable}
use Rattle.order_laws.specs.FlatModel.Flat.{FlatMachine, item_words}
use Rattle.order_laws.specs.FlatModel.Legal.{changes_item, stored_by, words_by, words_after}
use Rattle.order_laws.specs.TreeModel.Turns.Witness.{sorted_ops}
use Rattle.order_laws.specs.TreeRules.Statements.{Holds, each, there_and, is_so}
use Rattle.order_laws.specs.TreeRules.Order.Moments.{less_at, moment_length, before, past, parted, is_under, same_numbers}
use Rattle.order_laws.specs.TreeRules.Order.Copies.{CopyAt}
use Rattle.order_laws.specs.TreeRules.Order.Ops.{op_key, op_path}
use Rattle.order_laws.specs.TreeRules.Order.Core.{ended_before, any_op, words_until, has_right_words, knows_change}
use Rattle.order_lists.proofs.Filters.{filter-yes, filter-all}
use Rattle.order_lists.proofs.Moments.{past-not_before, same_numbers-true, same_numbers-itself}
use Rattle.order_lists.proofs.Paths.{under-itself}
use Rattle.order_lists.proofs.Values.{words_of, words-append, words-one, words_by-other, words-between_no, words-between}
use Rattle.order_laws.proofs.Hart.CopiesTurned.{CopyTurned, CopiesTurned}
use Rattle.order_laws.proofs.Hart.Transport.{holds-push, holds-weaker}

module _ (items : ItemTable) (depth x : ℕ) (op : Op) (at : List ℕ) (path : op_path depth op ≡ at) where
  -- where the new operation changes the item: each copy that isn't at its leaf ended before it, and that at its leaf has no end
  pub record IsBesideOp (k : CopyAt) : Type 0 where
    pub past_end : changes_item items x op.effect ≡ true → is_under at k.place ≡ false → is_under k.place at ≡ false → Holds (ended_before k (op_key depth op))
    pub own : changes_item items x op.effect ≡ true → is_under k.place at ≡ true → (k.place ≡ at) × (k.end ≡ None)

  -- ---- clocks

  known_same : (k l : CopyAt) (o : Op) → l.place ≡ k.place → l.clock ≡ k.clock → l.end ≡ k.end → Holds (knows_change depth items x k o) → Holds (knows_change depth items x l o)
  known_same k l o place clock end h c u = go (h c (ap (λ p. is_under p (op_path depth o)) (sym place) ∙ u)) where
    go : (less_at (moment_length (parted k.place (op_path depth o))) (op_key depth o) k.clock ≡ true) ⊎ Holds (ended_before k (op_key depth o)) → (less_at (moment_length (parted l.place (op_path depth o))) (op_key depth o) l.clock ≡ true) ⊎ Holds (ended_before l (op_key depth o))
    go (inl i) = inl (ap (λ p. less_at (moment_length (parted p (op_path depth o))) (op_key depth o) l.clock) place ∙ ap (less_at (moment_length (parted k.place (op_path depth o))) (op_key depth o)) clock ∙ i)
    go (inr i) = inr (subst (λ e. Holds (there_and (λ f. is_so (past f (op_key depth o))) e)) (sym end) i)

  known_new : (k : CopyAt) → IsBesideOp k → (is_under at k.place ≡ false) ⊎ (k.place ≡ at) → Holds (knows_change depth items x k op)
  known_new k h (inl a) c u = inr (h.past_end c a (ap (is_under k.place) (sym path) ∙ u))
  known_new k h (inr e) c u = absurd (true≢false (sym (ap (is_under k.place) (path ∙ sym e) ∙ under-itself k.place) ∙ u))

  pub clocks_after : (ops : List Op) (ks ls : List CopyAt) → CopiesTurned items x op.effect at ks ls → AllByRecursion IsBesideOp ks → Holds (each (λ k. each (knows_change depth items x k) ops) ks) → Holds (each (λ k. each (knows_change depth items x k) (ops ++ op ∷ [])) ls)
  clocks_after ops [] [] t b h = tt
  clocks_after ops [] (l ∷ ls) t b h = absurd t
  clocks_after ops (k ∷ ks) [] t b h = absurd t
  clocks_after ops (k ∷ ks) (l ∷ ls) t b h = (holds-push (knows_change depth items x l) ops op (holds-weaker (knows_change depth items x k) (knows_change depth items x l) (λ o i. known_same k l o t.0.place t.0.clock t.0.end i) ops h.0) (known_same k l op t.0.place t.0.clock t.0.end (known_new k b.0 t.0.apart)), clocks_after ops ks ls t.1 b.1 h.1)

  -- ---- words

  one_unchanged : (p : Op → Bool) (first rest : List Op) (ws : List ℕ) → changes_item items x op.effect ≡ false → words_of items x p (first ++ op ∷ rest) ws ≡ words_of items x p (first ++ rest) ws
  one_unchanged p first rest ws h = go (p op) refl where
    go : (t : Bool) → p op ≡ t → words_of items x p (first ++ op ∷ rest) ws ≡ words_of items x p (first ++ rest) ws
    go false e = words-between_no items x p first rest op ws e
    go true e =
        ap (words_after items x ws) (filter-append p first (op ∷ rest) ∙ ap (λ l. filter p first ++ l) (filter-yes p op rest e))
        ∙ words-append items x (filter p first) (op ∷ filter p rest) ws
        ∙ words-one items x op (filter p rest) (words_after items x ws (filter p first))
        ∙ ap (λ q. words_after items x q (filter p rest)) (words_by-other items x op (words_after items x ws (filter p first)) h)
        ∙ sym (ap (words_after items x ws) (filter-append p first rest) ∙ words-append items x (filter p first) (filter p rest) ws)

  all_of : (ops : List Op) (ws : List ℕ) → words_of items x any_op ops ws ≡ words_after items x ws ops
  all_of ops ws = ap (words_after items x ws) (filter-all any_op ops (all_true ops)) where
    all_true : (ops : List Op) → AllByRecursion (λ (o : Op). any_op o ≡ true) ops
    all_true [] = tt
    all_true (o ∷ os) = (refl, all_true os)

  one_changed : (first rest : List Op) (ws : List ℕ) → changes_item items x op.effect ≡ true → AllByRecursion (λ (p : Op). changes_item items x p.effect ≡ false) rest → words_of items x any_op (first ++ op ∷ rest) ws ≡ stored_by items x (words_of items x any_op (first ++ rest) ws) op.effect
  one_changed first rest ws h none = all_of (first ++ op ∷ rest) ws ∙ words-between items x first rest op ws none ∙ stored (words_after items x ws (first ++ rest)) ∙ ap (λ q. stored_by items x q op.effect) (sym (all_of (first ++ rest) ws)) where
    stored : (q : List ℕ) → words_by items x q op ≡ stored_by items x q op.effect
    stored q = rw h refl

  -- those that count for a copy with this end
  abbrev counts : Option (List ℕ) → Op → Bool
  counts None = any_op
  counts (Some e) = λ o. before (op_key depth o) e

  until_is : (s : FlatMachine) (ops : List Op) (e : Option (List ℕ)) → words_until s depth items ops x e ≡ words_of items x (counts e) (sorted_ops ops) (item_words s x)
  until_is s ops None = refl
  until_is s ops (Some e) = refl

  not_counted : (k : CopyAt) → Holds (ended_before k (op_key depth op)) → counts k.end op ≡ false
  not_counted k h = go k.end h where
    go : (e : Option (List ℕ)) → Holds (there_and (λ f. is_so (past f (op_key depth op))) e) → counts e op ≡ false
    go None i = absurd (let wrong : ⊥ = cc in wrong)
    go (Some f) i = past-not_before (op_key depth op) f i

  module _ (s : FlatMachine) (ops first rest : List Op) (split : first ++ rest ≡ sorted_ops ops) (pushed : sorted_ops (ops ++ op ∷ []) ≡ first ++ op ∷ rest) (none : changes_item items x op.effect ≡ true → AllByRecursion (λ (p : Op). changes_item items x p.effect ≡ false) rest) where
    abbrev start : List ℕ
    start = item_words s x

    abbrev WordsAre : List Op → CopyAt → Type 0
    WordsAre sorted k = k.words ≡ words_of items x (counts k.end) sorted start

    words_unchanged : (k l : CopyAt) → l.end ≡ k.end → l.words ≡ k.words → changes_item items x op.effect ≡ false → WordsAre (first ++ rest) k → WordsAre (first ++ op ∷ rest) l
    words_unchanged k l end same c h = same ∙ h ∙ sym (one_unchanged (counts k.end) first rest start c) ∙ ap (λ e. words_of items x (counts e) (first ++ op ∷ rest) start) (sym end)

    words_elsewhere : (k l : CopyAt) → l.end ≡ k.end → l.words ≡ k.words → Holds (ended_before k (op_key depth op)) → WordsAre (first ++ rest) k → WordsAre (first ++ op ∷ rest) l
    words_elsewhere k l end same late h = same ∙ h ∙ sym (words-between_no items x (counts k.end) first rest op start (not_counted k late)) ∙ ap (λ e. words_of items x (counts e) (first ++ op ∷ rest) start) (sym end)

    words_own : (k l : CopyAt) → l.end ≡ k.end → k.end ≡ None → changes_item items x op.effect ≡ true → l.words ≡ stored_by items x k.words op.effect → WordsAre (first ++ rest) k → WordsAre (first ++ op ∷ rest) l
    words_own k l end endless c is h =
        is ∙ ap (λ q. stored_by items x q op.effect) (h ∙ ap (λ e. words_of items x (counts e) (first ++ rest) start) endless) ∙ sym (one_changed first rest start c (none c)) ∙ ap (λ e. words_of items x (counts e) (first ++ op ∷ rest) start) (sym (end ∙ endless))

    words_turned : (k l : CopyAt) → CopyTurned items x op.effect at k l → IsBesideOp k → WordsAre (first ++ rest) k → WordsAre (first ++ op ∷ rest) l
    words_turned k l t b h = go (changes_item items x op.effect) refl t.words where
      by_place : changes_item items x op.effect ≡ true → l.words ≡ k.words → (k.place ≡ at → ⊥) → (is_under at k.place ≡ false) ⊎ (k.place ≡ at) → (u : Bool) → is_under k.place at ≡ u → WordsAre (first ++ op ∷ rest) l
      by_place c same off a true u = absurd (off (b.own c u).0)
      by_place c same off (inl a) false u = words_elsewhere k l t.end same (b.past_end c a u) h
      by_place c same off (inr a) false u = absurd (off a)

      go : (c : Bool) → changes_item items x op.effect ≡ c → ((l.words ≡ k.words) × (k.place ≡ at → changes_item items x op.effect ≡ false)) ⊎ ((k.place ≡ at) × (changes_item items x op.effect ≡ true) × (l.words ≡ stored_by items x k.words op.effect)) → WordsAre (first ++ op ∷ rest) l
      go false c (inl w) = words_unchanged k l t.end w.0 c h
      go false c (inr w) = absurd (true≢false (sym w.1 ∙ c))
      go true c (inl w) = by_place c w.0 (λ e. true≢false (sym c ∙ w.1 e)) t.apart (is_under k.place at) refl
      go true c (inr w) = words_own k l t.end (b.own c (ap (is_under k.place) (sym w.0) ∙ under-itself k.place)).1 c w.2 h

    pub words_after_turn : (ks ls : List CopyAt) → CopiesTurned items x op.effect at ks ls → AllByRecursion IsBesideOp ks → Holds (each (has_right_words s depth items ops x) ks) → Holds (each (has_right_words s depth items (ops ++ op ∷ []) x) ls)
    words_after_turn [] [] t b h = tt
    words_after_turn [] (l ∷ ls) t b h = absurd t
    words_after_turn (k ∷ ks) [] t b h = absurd t
    words_after_turn (k ∷ ks) (l ∷ ls) t b h = (right, words_after_turn ks ls t.1 b.1 h.1) where
      had : WordsAre (first ++ rest) k
      had = same_numbers-true k.words (words_until s depth items ops x k.end) h.0 ∙ until_is s ops k.end ∙ ap (λ q. words_of items x (counts k.end) q start) (sym split)

      has : WordsAre (first ++ op ∷ rest) l
      has = words_turned k l t.0 b.0 had

      right : same_numbers l.words (words_until s depth items (ops ++ op ∷ []) x l.end) ≡ true
      right = ap (same_numbers l.words) (until_is s (ops ++ op ∷ []) l.end ∙ ap (λ q. words_of items x (counts l.end) q start) pushed ∙ sym has) ∙ same_numbers-itself l.words
