-- Reservations after a hart's turn that completes: the leaf's own, and those of other leaves.
use Rattle.std.proofs.Common.{◌≡◌, ◌≢◌, ℕ, Bool, true, false, List, [], ◌∷◌, ◌++◌, filter, Option, Some, refl, sym, ap, ◌∙◌}
use Rattle.std.specs.List.{AllByRecursion}
use Rattle.std.proofs.lemmas.Bool.{true≢false, eq-eqb}
use Rattle.std.proofs.lemmas.List.Elements.{filter-append}
use Rattle.std.proofs.lemmas.Grind.{fold-append}
use Rattle.order_laws.specs.DdmTypes.declared.operations.Effect.{Effect}
use Rattle.order_laws.specs.DdmTypes.declared.operations.Effect.TheVariants.{Plain, Put, Load, Store, Lr, ScOk, ScFail, Amo}
use Rattle.order_laws.specs.DdmTypes.declared.operations.Op.{Op}
use Rattle.order_laws.specs.DdmTypes.Keys.{key_less}
use Rattle.order_laws.specs.DdmTypes.CodeMap.{CodeWord}
use Rattle.order_laws.specs.DdmTypes.ItemTable.{ItemTable}
use Rattle.order_laws.specs.FlatModel.Legal.{changed_item, reserved_by, reserved_by_own, reservation}
use Rattle.order_laws.specs.TreeModel.Turns.Witness.{sorted_ops}
use Rattle.order_lists.proofs.Filters.{filter-yes, filter-no, filter-none, filter-all, filter-same, each-weaker, each-passing}
use Rattle.order_lists.proofs.Keys.{key_less-asymmetric}
use Rattle.order_lists.proofs.Sorted.{IsNew, KeysDiffer, lesser, greater, sorted-each, sorted-rise, push}
use Rattle.order_lists.proofs.Prefixes.{split}
use Rattle.order_lists.proofs.Completing.{reserved-push}

-- its own reservation, over a list with the operation at its end
pub own_reservation : (items : ItemTable) (r q : Option ℕ) (effect : Effect) → ((x : ℕ) → r ≡ Some x → q ≡ Some x) → (y : ℕ) → reserved_by_own items r effect ≡ Some y → reserved_by_own items q effect ≡ Some y
own_reservation items r q Plain h y e = h y e
own_reservation items r q (Put byte) h y e = h y e
own_reservation items r q (Load address word) h y e = h y e
own_reservation items r q (Store address was word) h y e = h y e
own_reservation items r q (Lr address word) h y e = e
own_reservation items r q (ScOk address was word) h y e = absurd (let wrong : ⊥ = cc in wrong)
own_reservation items r q (ScFail address) h y e = absurd (let wrong : ⊥ = cc in wrong)
own_reservation items r q (Amo address was word) h y e = h y e

module _ (code : List CodeWord) (items : ItemTable) (ops : List Op) (op : Op) (differ : KeysDiffer ops) (new : IsNew op ops) where
  pub is_split : lesser op (sorted_ops ops) ++ greater op (sorted_ops ops) ≡ sorted_ops ops
  is_split = split op (sorted_ops ops) (sorted-each (λ p. op.key ≢ p.key) ops new) (sorted-rise ops differ)

  -- a test that the new operation fails keeps what it kept
  dropped : (p : Op → Bool) → p op ≡ false → filter p (sorted_ops (ops ++ op ∷ [])) ≡ filter p (sorted_ops ops)
  dropped p e = ap (filter p) (push ops op differ new) ∙ filter-append p (lesser op (sorted_ops ops)) (op ∷ greater op (sorted_ops ops)) ∙ ap (λ l. filter p (lesser op (sorted_ops ops)) ++ l) (filter-no p op (greater op (sorted_ops ops)) e) ∙ sym (filter-append p (lesser op (sorted_ops ops)) (greater op (sorted_ops ops))) ∙ ap (filter p) is_split

  -- another leaf: `p` is "less than its now"; the operation changes its item only where it isn't less
  pub other_reservation : (g y : ℕ) (r : Option ℕ) (p : Op → Bool) → op.hart ≢ g → (changed_item items op.effect ≡ Some y → p op ≡ false) → reservation items g r (filter p (sorted_ops ops)) ≡ Some y → reservation items g r (filter p (sorted_ops (ops ++ op ∷ []))) ≡ Some y
  other_reservation g y r p off after h = go (p op) refl where
    go : (t : Bool) → p op ≡ t → reservation items g r (filter p (sorted_ops (ops ++ op ∷ []))) ≡ Some y
    go false e = ap (reservation items g r) (dropped p e) ∙ h
    go true e = reserved-push code items g y r p ops op differ new (off, λ c. true≢false (sym e ∙ after c)) h

  -- ---- the operations before the leaf's next `now`: the lesser ones, and the new one

  module _ (p : Op → Bool) (here : p op ≡ true) (same : AllByRecursion (λ (o : Op). p o ≡ key_less o.key op.key) ops) where
    sorted_same : AllByRecursion (λ (o : Op). p o ≡ key_less o.key op.key) (sorted_ops ops)
    sorted_same = sorted-each (λ (o : Op). p o ≡ key_less o.key op.key) ops same

    lesser_pass : filter p (lesser op (sorted_ops ops)) ≡ lesser op (sorted_ops ops)
    lesser_pass = filter-all p (lesser op (sorted_ops ops)) (each-passing _ _ (sorted_ops ops) (each-weaker _ _ (λ o e l. e ∙ l) (sorted_ops ops) sorted_same))

    greater_fail : filter p (greater op (sorted_ops ops)) ≡ []
    greater_fail = filter-none p (greater op (sorted_ops ops)) (each-passing _ _ (sorted_ops ops) (each-weaker _ _ (λ o e g. e ∙ key_less-asymmetric op.key o.key g) (sorted_ops ops) sorted_same))

    before_next : filter p (sorted_ops (ops ++ op ∷ [])) ≡ lesser op (sorted_ops ops) ++ op ∷ []
    before_next = ap (filter p) (push ops op differ new) ∙ filter-append p (lesser op (sorted_ops ops)) (op ∷ greater op (sorted_ops ops)) ∙ ap (λ l. l ++ filter p (op ∷ greater op (sorted_ops ops))) lesser_pass ∙ ap (λ l. lesser op (sorted_ops ops) ++ l) (filter-yes p op (greater op (sorted_ops ops)) here ∙ ap (λ l. op ∷ l) greater_fail)

    -- the leaf's own
    pub own_next : (r : Option ℕ) → reservation items op.hart r (filter p (sorted_ops (ops ++ op ∷ []))) ≡ reserved_by_own items (reservation items op.hart r (lesser op (sorted_ops ops))) op.effect
    unfolding reservation
    own_next r = ap (reservation items op.hart r) before_next ∙ fold-append (reserved_by items op.hart) r (lesser op (sorted_ops ops)) (op ∷ []) ∙ one (reservation items op.hart r (lesser op (sorted_ops ops))) where
      one : (q : Option ℕ) → reserved_by items op.hart q op ≡ reserved_by_own items q op.effect
      one q = rw (eq-eqb op.hart op.hart refl) refl

  -- those before the leaf's present `now` are the lesser ones
  pub before_now : (p : Op → Bool) → AllByRecursion (λ (o : Op). p o ≡ key_less o.key op.key) ops → filter p (sorted_ops ops) ≡ lesser op (sorted_ops ops)
  before_now p same = filter-same p (λ (o : Op). key_less o.key op.key) (sorted_ops ops) (sorted-each (λ (o : Op). p o ≡ key_less o.key op.key) ops same)
