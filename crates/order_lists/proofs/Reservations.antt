-- A hart's reservation after a list of operations.
use Rattle.std.proofs.Common.{◌≡◌, ◌≢◌, ℕ, inl, inr, Bool, true, false, nat_eq, List, [], ◌∷◌, ◌++◌, Option, Some, None, refl, sym, ap, ◌∙◌, arith}
use Rattle.std.specs.Prelude.{if◌then◌else◌}
use Rattle.std.specs.List.{AllByRecursion}
use Rattle.std.proofs.lemmas.List.Folds.{fold_along}
use Rattle.std.proofs.lemmas.Grind.{fold-append}
use Rattle.std.proofs.lemmas.Bool.{eqb-true, eq-eqb, ne_eqb}
use Rattle.order_lists.specs.DdmTypes.declared.operations.Effect.{Effect}
use Rattle.order_lists.specs.DdmTypes.declared.operations.Effect.TheVariants.{Plain, Put, Load, Store, Lr, ScOk, ScFail, Amo}
use Rattle.order_lists.specs.DdmTypes.declared.operations.Op.{Op}
use Rattle.order_lists.specs.DdmTypes.ItemTable.{ItemTable}
use Rattle.order_lists.specs.FlatModel.Flat.{has_reserved}
use Rattle.order_lists.proofs.FlatModel.Insert.{SameReserved}
use Rattle.order_lists.specs.FlatModel.Legal.{changed_item, reserved_by_own, reserved_by_other, reserved_by, reservation}

-- an operation of its own that is no LR and no SC
abbrev pub leaves_own : Effect → Bool
leaves_own Plain = true
leaves_own (Put byte) = true
leaves_own (Load address word) = true
leaves_own (Store address before after) = true
leaves_own (Lr address word) = false
leaves_own (ScOk address before after) = false
leaves_own (ScFail address) = false
leaves_own (Amo address before after) = true

own_leaves : (items : ItemTable) (r : Option ℕ) (e : Effect) → leaves_own e ≡ true → reserved_by_own items r e ≡ r
own_leaves items r Plain l = refl
own_leaves items r (Put byte) l = refl
own_leaves items r (Load address word) l = refl
own_leaves items r (Store address before after) l = refl
own_leaves items r (Lr address word) l = grind arith
own_leaves items r (ScOk address before after) l = grind arith
own_leaves items r (ScFail address) l = grind arith
own_leaves items r (Amo address before after) l = refl

same_own : (items : ItemTable) (x r q : Option ℕ) (e : Effect) → SameReserved x r q → SameReserved x (reserved_by_own items r e) (reserved_by_own items q e)
same_own items x r q Plain s = s
same_own items x r q (Put byte) s = s
same_own items x r q (Load address word) s = s
same_own items x r q (Store address before after) s = s
same_own items x r q (Lr address word) s = inl refl
same_own items x r q (ScOk address before after) s = inl refl
same_own items x r q (ScFail address) s = inl refl
same_own items x r q (Amo address before after) s = s

module _ (items : ItemTable) (g : ℕ) where
  -- another hart's operation that doesn't change the item
  abbrev pub Leaves : ℕ → Op → Type 0
  Leaves y o = (o.hart ≢ g) × (changed_item items o.effect ≢ Some y)

  other_is : (r : Option ℕ) (o : Op) → o.hart ≢ g → reserved_by items g r o ≡ reserved_by_other r (changed_item items o.effect)
  other_is r o off = rw (ne_eqb o.hart g off) refl

  own_is : (r : Option ℕ) (o : Op) → o.hart ≡ g → reserved_by items g r o ≡ reserved_by_own items r o.effect
  own_is r o e = rw (eq-eqb o.hart g e) refl

  other_leaves : (y : ℕ) (x : Option ℕ) → x ≢ Some y → reserved_by_other (Some y) x ≡ Some y
  other_leaves y None off = refl
  other_leaves y (Some x) off = rw (ne_eqb y x (λ e. off (ap Some (sym e)))) refl

  one_leaves : (y : ℕ) (o : Op) → Leaves y o → reserved_by items g (Some y) o ≡ Some y
  one_leaves y o l = other_is (Some y) o l.0 ∙ other_leaves y (changed_item items o.effect) l.1

  -- operations that leave it keep it
  pub reserved-kept : (y : ℕ) (ops : List Op) → AllByRecursion (Leaves y) ops → reservation items g (Some y) ops ≡ Some y
  unfolding reservation
  reserved-kept y [] l = refl
  reserved-kept y (o ∷ os) l = ap (λ r. reservation items g r os) (one_leaves y o l.0) ∙ reserved-kept y os l.1

  pub reserved-more : (r : Option ℕ) (y : ℕ) (first rest : List Op) → reservation items g r first ≡ Some y → AllByRecursion (Leaves y) rest → reservation items g r (first ++ rest) ≡ Some y
  unfolding reservation
  reserved-more r y first rest e l = fold-append (reserved_by items g) r first rest ∙ ap (λ q. reservation items g q rest) e ∙ reserved-kept y rest l

  -- ---- an operation of its own that is no LR and no SC

  pub reserved-own : (r : Option ℕ) (ops : List Op) (o : Op) → o.hart ≡ g → leaves_own o.effect ≡ true → reservation items g r (ops ++ o ∷ []) ≡ reservation items g r ops
  unfolding reservation
  reserved-own r ops o e l = fold-append (reserved_by items g) r ops (o ∷ []) ∙ own_is (reservation items g r ops) o e ∙ own_leaves items (reservation items g r ops) o.effect l

  -- ---- one more operation of another hart, in the middle

  -- two reservations: the same, or the first is x and the second none
  same_other : (x r q c : Option ℕ) → SameReserved x r q → SameReserved x (reserved_by_other r c) (reserved_by_other q c)
  same_other x r q None s = s
  same_other x r q (Some z) (inl e) = inl (ap (λ k. if has_reserved k z then None else k) e)
  same_other x r q (Some z) (inr e) = go (has_reserved r z) where
    none_kept : (if has_reserved q z then None else q) ≡ None
    none_kept = rw e.1 refl

    go : (t : Bool) → SameReserved x (if t then None else r) (if has_reserved q z then None else q)
    go true = inl (sym none_kept)
    go false = inr (e.0, none_kept)

  same_step : (x r q : Option ℕ) (o : Op) → SameReserved x r q → SameReserved x (reserved_by items g r o) (reserved_by items g q o)
  same_step x r q o s = go (nat_eq o.hart g) where
    go : (t : Bool) → SameReserved x (if t then reserved_by_own items r o.effect else reserved_by_other r (changed_item items o.effect)) (if t then reserved_by_own items q o.effect else reserved_by_other q (changed_item items o.effect))
    go true = same_own items x r q o.effect s
    go false = same_other x r q (changed_item items o.effect) s

  -- what another hart's operation leaves, and what was there
  same_after : (r c : Option ℕ) → SameReserved c r (reserved_by_other r c)
  same_after r None = inl refl
  same_after None (Some z) = inl refl
  same_after (Some y) (Some z) = go (nat_eq y z) refl where
    go : (t : Bool) → nat_eq y z ≡ t → SameReserved (Some z) (Some y) (if t then None else Some y)
    go true e = inr (ap Some (eqb-true y z e), refl)
    go false e = inl refl

  pub reserved-between : (r : Option ℕ) (y : ℕ) (first rest : List Op) (o : Op) → Leaves y o → reservation items g r (first ++ rest) ≡ Some y → reservation items g r (first ++ o ∷ rest) ≡ Some y
  unfolding reservation
  reserved-between r y first rest o l e = fold-append (reserved_by items g) r first (o ∷ rest) ∙ go (fold_along (reserved_by items g) (reserved_by items g) (SameReserved c) (same_step c) a (reserved_by items g a o) rest start) where
    c : Option ℕ
    c = changed_item items o.effect

    a : Option ℕ
    a = reservation items g r first

    start : SameReserved c a (reserved_by items g a o)
    start = rw (other_is a o l.0) (same_after a c)

    without : reservation items g a rest ≡ Some y
    without = sym (fold-append (reserved_by items g) r first rest) ∙ e

    go : SameReserved c (reservation items g a rest) (reservation items g (reserved_by items g a o) rest) → reservation items g (reserved_by items g a o) rest ≡ Some y
    go (inl s) = sym s ∙ without
    go (inr s) = absurd (l.1 (sym s.0 ∙ without))
