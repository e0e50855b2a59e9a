-- Operations in the order of their keys. Where keys differ, one more operation stands between the lesser ones and the greater ones.
use Rattle.std.proofs.Common.{◌≡◌, ◌≢◌, Bool, true, false, ◌⊎◌, inl, inr, List, [], ◌∷◌, ◌++◌, filter, refl, sym, ap, ◌∙◌, arith}
use Rattle.std.specs.List.{AllByRecursion}
use Rattle.std.specs.List.Sorted.{IsPermutation}
use Rattle.std.proofs.lemmas.List.Sorted.{IsPermutation-refl, IsPermutation-cons, IsPermutation-trans, IsPermutation-swap}
use Rattle.order_lists.specs.DdmTypes.declared.operations.Op.{Op}
use Rattle.order_lists.specs.DdmTypes.Keys.{key_less}
use Rattle.order_lists.specs.TreeModel.Turns.Witness.{with_op, sorted_ops}
use Rattle.order_lists.proofs.Keys.{key_less-transitive, key_less-total, key_less-asymmetric}
use Rattle.order_lists.proofs.Filters.{filter-yes, filter-no, filter-all, filter-none, each-weaker}

-- ---- what is true of the lists

-- the operation's key differs from each
abbrev pub IsNew : Op → List Op → Type 0
IsNew o ops = AllByRecursion (λ p. o.key ≢ p.key) ops

-- it is less than each
abbrev pub IsLeast : Op → List Op → Type 0
IsLeast o ops = AllByRecursion (λ p. key_less o.key p.key ≡ true) ops

-- no two have one key
abbrev pub KeysDiffer : List Op → Type 0
KeysDiffer [] = Unit {0}
KeysDiffer (o ∷ os) = IsNew o os × KeysDiffer os

-- keys rise
abbrev pub KeysRise : List Op → Type 0
KeysRise [] = Unit {0}
KeysRise (o ∷ os) = IsLeast o os × KeysRise os

-- ---- one operation into a list

pub with_op-less : (o p : Op) (ps : List Op) → key_less o.key p.key ≡ true → with_op o (p ∷ ps) ≡ o ∷ p ∷ ps
with_op-less o p ps h = rw h refl

pub with_op-least : (o p : Op) (ps : List Op) → key_less o.key p.key ≡ false → with_op o (p ∷ ps) ≡ p ∷ with_op o ps
with_op-least o p ps h = rw h refl

-- what is true of each stays so
pub with_op-each : (P : Op → Type 0) (o : Op) (ps : List Op) → P o → AllByRecursion P ps → AllByRecursion P (with_op o ps)
with_op-each P o [] h k = (h, tt)
with_op-each P o (p ∷ ps) h k = go (key_less o.key p.key) refl (with_op-each P o ps h k.1) where
  go : (t : Bool) → key_less o.key p.key ≡ t → AllByRecursion P (with_op o ps) → AllByRecursion P (with_op o (p ∷ ps))
  go true e rest = rw (with_op-less o p ps e) (h, k)
  go false e rest = rw (with_op-least o p ps e) (k.0, rest)

pub sorted-each : (P : Op → Type 0) (ops : List Op) → AllByRecursion P ops → AllByRecursion P (sorted_ops ops)
unfolding sorted_ops
sorted-each P [] h = tt
sorted-each P (o ∷ os) h = with_op-each P o (sorted_ops os) h.0 (sorted-each P os h.1)

-- ---- keys rise

-- keys that differ are less one way
pub least_less : (o p : Op) → o.key ≢ p.key → key_less o.key p.key ≡ false → key_less p.key o.key ≡ true
least_less o p d h = go (key_less-total o.key p.key) where
  go : (o.key ≡ p.key) ⊎ ((key_less o.key p.key ≡ true) ⊎ (key_less p.key o.key ≡ true)) → key_less p.key o.key ≡ true
  go (inl e) = absurd (d e)
  go (inr (inl e)) = absurd (let no : ⊥ = cc in no)
  go (inr (inr e)) = e

pub IsLeast-trans : (o p : Op) (ps : List Op) → key_less o.key p.key ≡ true → IsLeast p ps → IsLeast o ps
IsLeast-trans o p ps h k = each-weaker _ _ (λ q e. key_less-transitive o.key p.key q.key h e) ps k

pub with_op-rise : (o : Op) (ps : List Op) → IsNew o ps → KeysRise ps → KeysRise (with_op o ps)
with_op-rise o [] n r = (tt, tt)
with_op-rise o (p ∷ ps) n r = go (key_less o.key p.key) refl (with_op-rise o ps n.1 r.1) where
  go : (t : Bool) → key_less o.key p.key ≡ t → KeysRise (with_op o ps) → KeysRise (with_op o (p ∷ ps))
  go true e rest = rw (with_op-less o p ps e) ((e, IsLeast-trans o p ps e r.0), r)
  go false e rest = rw (with_op-least o p ps e) (with_op-each (λ q. key_less p.key q.key ≡ true) o ps (least_less o p n.0 e) r.0, rest)

pub sorted-rise : (ops : List Op) → KeysDiffer ops → KeysRise (sorted_ops ops)
unfolding sorted_ops
sorted-rise [] d = tt
sorted-rise (o ∷ os) d = with_op-rise o (sorted_ops os) (sorted-each (λ p. o.key ≢ p.key) os d.0) (sorted-rise os d.1)

-- ---- two operations of different keys go in in either order

with_op-commute_if : (o p : Op) (qs : List Op) → key_less o.key p.key ≡ true → with_op o (with_op p qs) ≡ with_op p (with_op o qs)
with_op-commute_if o p [] h = with_op-less o p [] h ∙ sym (with_op-least p o [] (key_less-asymmetric o.key p.key h))
with_op-commute_if o p (q ∷ qs) h = go (key_less o.key q.key) refl (key_less p.key q.key) refl (with_op-commute_if o p qs h) where
  back : key_less p.key o.key ≡ false
  back = key_less-asymmetric o.key p.key h

  go : (s : Bool) → key_less o.key q.key ≡ s → (t : Bool) → key_less p.key q.key ≡ t → with_op o (with_op p qs) ≡ with_op p (with_op o qs) → with_op o (with_op p (q ∷ qs)) ≡ with_op p (with_op o (q ∷ qs))
  go true i true j rest =
      ap (with_op o) (with_op-less p q qs j) ∙ with_op-less o p (q ∷ qs) h ∙ sym (ap (with_op p) (with_op-less o q qs i) ∙ with_op-least p o (q ∷ qs) back ∙ ap (λ l. o ∷ l) (with_op-less p q qs j))
  go true i false j rest =
      ap (with_op o) (with_op-least p q qs j) ∙ with_op-less o q (with_op p qs) i ∙ sym (ap (with_op p) (with_op-less o q qs i) ∙ with_op-least p o (q ∷ qs) back ∙ ap (λ l. o ∷ l) (with_op-least p q qs j))
  go false i true j rest = absurd (let k : key_less o.key q.key ≡ true = key_less-transitive o.key p.key q.key h j in let no : ⊥ = cc in no)
  go false i false j rest =
      ap (with_op o) (with_op-least p q qs j) ∙ with_op-least o q (with_op p qs) i ∙ ap (λ l. q ∷ l) rest ∙ sym (ap (with_op p) (with_op-least o q qs i) ∙ with_op-least p q (with_op o qs) j)

pub with_op-commute : (o p : Op) (qs : List Op) → o.key ≢ p.key → with_op o (with_op p qs) ≡ with_op p (with_op o qs)
with_op-commute o p qs d = go (key_less-total o.key p.key) where
  go : (o.key ≡ p.key) ⊎ ((key_less o.key p.key ≡ true) ⊎ (key_less p.key o.key ≡ true)) → with_op o (with_op p qs) ≡ with_op p (with_op o qs)
  go (inl e) = absurd (d e)
  go (inr (inl e)) = with_op-commute_if o p qs e
  go (inr (inr e)) = sym (with_op-commute_if p o qs e)

pub sorted-push : (ops : List Op) (o : Op) → IsNew o ops → sorted_ops (ops ++ o ∷ []) ≡ with_op o (sorted_ops ops)
unfolding sorted_ops
sorted-push [] o n = refl
sorted-push (p ∷ ps) o n = ap (with_op p) (sorted-push ps o n.1) ∙ sym (with_op-commute o p (sorted_ops ps) n.0)

-- ---- the lesser ones, the operation, the greater ones

abbrev pub lesser : Op → List Op → List Op
lesser o ops = filter (λ (p : Op). key_less p.key o.key) ops

abbrev pub greater : Op → List Op → List Op
greater o ops = filter (λ (p : Op). key_less o.key p.key) ops

-- before a list of greater keys
pub lesser_none : (o : Op) (ps : List Op) → IsLeast o ps → lesser o ps ≡ []
lesser_none o ps h = filter-none _ ps (each-weaker _ _ (λ p e. key_less-asymmetric o.key p.key e) ps h)

pub with_op-split : (o : Op) (ps : List Op) → IsNew o ps → KeysRise ps → with_op o ps ≡ lesser o ps ++ o ∷ greater o ps
with_op-split o [] n r = refl
with_op-split o (p ∷ ps) n r = go (key_less o.key p.key) refl (with_op-split o ps n.1 r.1) where
  go : (t : Bool) → key_less o.key p.key ≡ t → with_op o ps ≡ lesser o ps ++ o ∷ greater o ps → with_op o (p ∷ ps) ≡ lesser o (p ∷ ps) ++ o ∷ greater o (p ∷ ps)
  go true e rest =
      let least : IsLeast o (p ∷ ps) = (e, IsLeast-trans o p ps e r.0) in
      with_op-less o p ps e ∙ sym (ap (λ l. l ++ o ∷ greater o (p ∷ ps)) (lesser_none o (p ∷ ps) least) ∙ ap (λ l. o ∷ l) (filter-all _ (p ∷ ps) least))
  go false e rest =
      with_op-least o p ps e ∙ ap (λ l. p ∷ l) rest ∙ sym (ap (λ l. l ++ o ∷ greater o (p ∷ ps)) (filter-yes _ p ps (least_less o p n.0 e)) ∙ ap (λ l. p ∷ (lesser o ps ++ o ∷ l)) (filter-no _ p ps e))

-- one more operation stands behind the lesser ones and before the greater ones
pub push : (ops : List Op) (o : Op) → KeysDiffer ops → IsNew o ops → sorted_ops (ops ++ o ∷ []) ≡ lesser o (sorted_ops ops) ++ o ∷ greater o (sorted_ops ops)
push ops o d n = sorted-push ops o n ∙ with_op-split o (sorted_ops ops) (sorted-each (λ p. o.key ≢ p.key) ops n) (sorted-rise ops d)

-- ---- the same operations

with_op-permutation : (o : Op) (ps : List Op) → IsPermutation (o ∷ ps) (with_op o ps)
with_op-permutation o [] = IsPermutation-refl (o ∷ [])
with_op-permutation o (p ∷ ps) = go (key_less o.key p.key) refl (with_op-permutation o ps) where
  go : (t : Bool) → key_less o.key p.key ≡ t → IsPermutation (o ∷ ps) (with_op o ps) → IsPermutation (o ∷ p ∷ ps) (with_op o (p ∷ ps))
  go true e rest = rw (with_op-less o p ps e) (IsPermutation-refl (o ∷ p ∷ ps))
  go false e rest = rw (with_op-least o p ps e) (IsPermutation-trans (o ∷ p ∷ ps) (p ∷ o ∷ ps) (p ∷ with_op o ps) (IsPermutation-swap (o ∷ p ∷ ps) (p ∷ o ∷ ps) 0 1 (omega arith) (omega arith) refl) (IsPermutation-cons p (o ∷ ps) (with_op o ps) rest))

pub sorted-permutation : (ops : List Op) → IsPermutation ops (sorted_ops ops)
unfolding sorted_ops
sorted-permutation [] = IsPermutation-refl []
sorted-permutation (o ∷ os) = IsPermutation-trans (o ∷ os) (o ∷ sorted_ops os) (with_op o (sorted_ops os)) (IsPermutation-cons o os (sorted_ops os) (sorted-permutation os)) (with_op-permutation o (sorted_ops os))
