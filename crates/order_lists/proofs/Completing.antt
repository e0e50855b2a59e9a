-- One more operation completes: the sorted list stays legal, for words, harts and reservations as they were.
use Rattle.std.proofs.Common.{◌≡◌, ◌≢◌, ℕ, Bool, true, false, List, [], ◌∷◌, ◌++◌, filter, Option, Some, None, refl, sym, ap, ◌∙◌}
use Rattle.std.specs.Prelude.{option_and_then}
use Rattle.std.specs.List.{AllByRecursion}
use Rattle.std.proofs.lemmas.Bool.{true≢false, false_from_ne_true}
use Rattle.std.proofs.lemmas.List.Elements.{filter-append}
use Rattle.order_lists.specs.DdmTypes.declared.operations.Op.{Op}
use Rattle.order_lists.specs.DdmTypes.Keys.{key_less}
use Rattle.order_lists.specs.DdmTypes.CodeMap.{CodeWord}
use Rattle.order_lists.specs.DdmTypes.ItemTable.{ItemTable}
use Rattle.order_lists.specs.FlatModel.Flat.{FlatMachine, flat_hart}
use Rattle.order_lists.specs.FlatModel.Legal.{is_of, changed_item, effect_item, HasWholeWords, legal_step, legal_run, reservation}
use Rattle.order_lists.proofs.FlatModel.Runs.{legal_run_append}
use Rattle.order_lists.proofs.FlatModel.Insert.{IsElsewhere, Elsewhere, EndsAlike}
use Rattle.order_lists.specs.TreeModel.Turns.Witness.{sorted_ops}
use Rattle.order_lists.proofs.Keys.{key_less-asymmetric}
use Rattle.order_lists.proofs.Filters.{filter-yes, filter-no, each-weaker, each-passing}
use Rattle.order_lists.proofs.Sorted.{IsNew, KeysDiffer, lesser, greater, sorted-each, sorted-rise, push}
use Rattle.order_lists.proofs.Prefixes.{split}
use Rattle.order_lists.proofs.Insertion.{between, HasNoneOf, hart_kept}
use Rattle.order_lists.proofs.Reservations.{Leaves, reserved-between}

module _ (code : List CodeWord) (items : ItemTable) where
  -- a legal list's beginning is legal, and the rest from there
  pub legal_beginning : (s z : FlatMachine) (first rest : List Op) → legal_run code items s (first ++ rest) ≡ Some z → (a : FlatMachine) × (legal_run code items s first ≡ Some a) × (legal_run code items a rest ≡ Some z)
  legal_beginning s z first rest e = go (legal_run code items s first) refl (sym (legal_run_append code items s first rest) ∙ e) where
    go : (o : Option FlatMachine) → legal_run code items s first ≡ o → option_and_then (λ n. legal_run code items n rest) o ≡ Some z → (a : FlatMachine) × (legal_run code items s first ≡ Some a) × (legal_run code items a rest ≡ Some z)
    go None k h = absurd (let no : ⊥ = cc in no)
    go (Some a) k h = (a, k, h)

  -- an operation that completes: those of its hart, and those on the item that it changes, are less
  pub record IsLatest (o p : Op) : Type 0 where
    pub hart : is_of o.hart p ≡ true → key_less p.key o.key ≡ true
    pub item : (y : ℕ) → changed_item items o.effect ≡ Some y → effect_item items p.effect ≡ Some y → key_less p.key o.key ≡ true

  greater_elsewhere : (o : Op) (ops : List Op) → AllByRecursion (IsLatest o) ops → Elsewhere items o.hart (changed_item items o.effect) (greater o ops)
  greater_elsewhere o ops h = each-passing _ _ ops (each-weaker _ _ (λ p l g. record { hart = false_from_ne_true _ (λ e. true≢false (sym (l.hart e) ∙ key_less-asymmetric o.key p.key g)); item = λ y at k. true≢false (sym (l.item y at k) ∙ key_less-asymmetric o.key p.key g) }) ops h)

  -- the machine after the lesser ones, from which the operation steps: its hart is as after all
  pub record StepsFrom (s z : FlatMachine) (ops : List Op) (o : Op) : Type 0 where
    pub machine : FlatMachine
    pub legal : legal_run code items s (lesser o (sorted_ops ops)) ≡ Some machine
    pub hart : (flat_hart z o.hart).hart ≡ (flat_hart machine o.hart).hart
    -- from its step the sorted list with one more is legal
    pub steps : (b : FlatMachine) → legal_step code items machine o ≡ Some b → EndsAlike code items o.hart (changed_item items o.effect) z b s (sorted_ops (ops ++ o ∷ []))

  pub completing : (s z : FlatMachine) (ops : List Op) (o : Op) → HasWholeWords items → KeysDiffer ops → IsNew o ops → AllByRecursion (IsLatest o) ops → legal_run code items s (sorted_ops ops) ≡ Some z → StepsFrom s z ops o
  completing s z ops o whole differ new latest run = go (legal_beginning s z (lesser o (sorted_ops ops)) (greater o (sorted_ops ops)) (ap (legal_run code items s) is_split ∙ run)) where
    is_split : lesser o (sorted_ops ops) ++ greater o (sorted_ops ops) ≡ sorted_ops ops
    is_split = split o (sorted_ops ops) (sorted-each (λ p. o.key ≢ p.key) ops new) (sorted-rise ops differ)

    off : Elsewhere items o.hart (changed_item items o.effect) (greater o (sorted_ops ops))
    off = greater_elsewhere o (sorted_ops ops) (sorted-each (IsLatest o) ops latest)

    none : HasNoneOf o.hart (greater o (sorted_ops ops))
    none = each-weaker _ _ (λ p (e : IsElsewhere items o.hart (changed_item items o.effect) p). e.hart) (greater o (sorted_ops ops)) off

    go : ((a : FlatMachine) × (legal_run code items s (lesser o (sorted_ops ops)) ≡ Some a) × (legal_run code items a (greater o (sorted_ops ops)) ≡ Some z)) → StepsFrom s z ops o
    go (a, first, rest) = record {
      machine = a;
      legal = first;
      hart = hart_kept code items o.hart a z (greater o (sorted_ops ops)) whole none rest;
      steps = λ b step. at (between code items s a b z (lesser o (sorted_ops ops)) (greater o (sorted_ops ops)) o whole (ap (legal_run code items s) is_split ∙ run) first step off);
    } where
      at : {b : FlatMachine} → EndsAlike code items o.hart (changed_item items o.effect) z b s (lesser o (sorted_ops ops) ++ o ∷ greater o (sorted_ops ops)) → EndsAlike code items o.hart (changed_item items o.effect) z b s (sorted_ops (ops ++ o ∷ []))
      at r = record { end = r.end; legal = ap (legal_run code items s) (push ops o differ new) ∙ r.legal; joined = r.joined }

  -- another hart's reservation at a moment, where the operation leaves the item
  pub reserved-push : (g y : ℕ) (r : Option ℕ) (p : Op → Bool) (ops : List Op) (o : Op) → KeysDiffer ops → IsNew o ops → Leaves items g y o → reservation items g r (filter p (sorted_ops ops)) ≡ Some y → reservation items g r (filter p (sorted_ops (ops ++ o ∷ []))) ≡ Some y
  reserved-push g y r p ops o differ new leaves h = ap (λ l. reservation items g r (filter p l)) (push ops o differ new) ∙ ap (reservation items g r) (filter-append p (lesser o (sorted_ops ops)) (o ∷ greater o (sorted_ops ops))) ∙ go (p o) refl where
    whole : reservation items g r (filter p (lesser o (sorted_ops ops)) ++ filter p (greater o (sorted_ops ops))) ≡ Some y
    whole = ap (reservation items g r) (sym (filter-append p (lesser o (sorted_ops ops)) (greater o (sorted_ops ops))) ∙ ap (filter p) (split o (sorted_ops ops) (sorted-each (λ q. o.key ≢ q.key) ops new) (sorted-rise ops differ))) ∙ h

    go : (t : Bool) → p o ≡ t → reservation items g r (filter p (lesser o (sorted_ops ops)) ++ filter p (o ∷ greater o (sorted_ops ops))) ≡ Some y
    go true e = ap (λ l. reservation items g r (filter p (lesser o (sorted_ops ops)) ++ l)) (filter-yes p o (greater o (sorted_ops ops)) e) ∙ reserved-between items g r y (filter p (lesser o (sorted_ops ops))) (filter p (greater o (sorted_ops ops))) o leaves whole
    go false e = ap (λ l. reservation items g r (filter p (lesser o (sorted_ops ops)) ++ l)) (filter-no p o (greater o (sorted_ops ops)) e) ∙ whole
