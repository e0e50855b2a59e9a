-- The operation that completes: its key has the numbers of its leaf's `now`, is greater than those of its hart, and differs
-- from all others.
use Rattle.std.proofs.Common.{◌≡◌, ◌≢◌, ℕ, ◌+◌, ◌≤◌, Bool, true, false, nat_eq, List, [], ◌∷◌, ◌++◌, length, refl, sym, ap, ◌∙◌, arith}
use Rattle.std.specs.List.{AllByRecursion}
use Rattle.std.proofs.lemmas.Bool.{true≢false, eqb-true, eqb-false, eq-eqb}
use Rattle.order_laws.specs.DdmTypes.declared.operations.Op.{Op}
use Rattle.order_laws.specs.DdmTypes.declared.keys.Stamp.{Stamp}
use Rattle.order_laws.specs.DdmTypes.declared.keys.Key.{Key}
use Rattle.order_laws.specs.DdmTypes.Keys.{key_less, key_numbers}
use Rattle.order_laws.specs.TreeModel.State.Place.{at_child, key_at_leaf}
use Rattle.order_laws.specs.TreeRules.Statements.{Holds, each}
use Rattle.order_laws.specs.TreeRules.Order.Moments.{less, moment_at, key_path}
use Rattle.order_laws.specs.TreeRules.Order.Places.{LeafAt, leaf_path, leaf_now}
use Rattle.order_laws.specs.TreeRules.Order.Ops.{op_key, op_path}
use Rattle.order_laws.specs.TreeRules.Order.Time.{key_ends, has_leaf, is_leaf_of, has_ending_key, has_leaf_path, is_before_now}
use Rattle.order_lists.proofs.Filters.{any-each}
use Rattle.order_lists.proofs.Moments.{less-head, less-tail, same_numbers-true}
use Rattle.order_lists.proofs.Keys.{key_less-irreflexive, key_less-numbers}
use Rattle.order_laws.proofs.Hart.LeafPlaces.{IsPlaced, placed-now, placed-ends, IsOnlyOf}

-- ---- a leaf's `now`

-- the path in a leaf's `now`
now_path : (above : List ℕ) (i done : ℕ) (present : Stamp) → length above ≤ 3 → key_path (moment_at above present ++ i ∷ done ∷ []) ≡ above ++ i ∷ []
now_path [] i done present l = refl
now_path (a ∷ []) i done present l = refl
now_path (a ∷ b ∷ []) i done present l = refl
now_path (a ∷ b ∷ c ∷ []) i done present l = refl
now_path (a ∷ b ∷ c ∷ d ∷ above) i done present l = absurd (omega (arith, l))

-- a leaf's `now` rises with its count
pub now_rises : (p : List ℕ) (i d : ℕ) → less (p ++ i ∷ d ∷ []) (p ++ i ∷ (d + 1) ∷ []) ≡ true
now_rises [] i d = less-tail i i (d ∷ []) ((d + 1) ∷ []) refl (less-head d (d + 1) [] [] (omega arith))
now_rises (n ∷ p) i d = less-tail n n (p ++ i ∷ d ∷ []) (p ++ i ∷ (d + 1) ∷ []) refl (now_rises p i d)

module _ (depth : ℕ) (op : Op) where
  -- of one operation before it
  pub record IsEarlier (o : Op) : Type 0 where
    pub own : o.hart ≡ op.hart → key_less o.key op.key ≡ true
    pub other : o.hart ≢ op.hart → op_path depth o ≢ op_path depth op

  pub differs : (o : Op) → IsEarlier o → op.key ≢ o.key
  differs o h e = go (nat_eq o.hart op.hart) refl where
    go : (t : Bool) → nat_eq o.hart op.hart ≡ t → ⊥
    go true i = true≢false (sym (h.own (eqb-true o.hart op.hart i)) ∙ ap (λ k. key_less o.key k) e ∙ key_less-irreflexive o.key)
    go false i = h.other (eqb-false o.hart op.hart i) (ap (λ (k : Key). key_path (key_numbers depth k)) (sym e))

module _ (depth : ℕ) (ops : List Op) (leaves : List LeafAt) (op : Op) where
  -- at the leaf `a`, which is the only one of its number
  pub record IsNewAt (a : LeafAt) : Type 0 where
    pub placed : IsPlaced depth a
    pub key : op.key ≡ key_at_leaf (at_child a.spot) a.leaf.done
    pub hart : op.hart ≡ a.leaf.number
    pub only : AllByRecursion (IsOnlyOf a) leaves
    pub before : AllByRecursion (λ o. Holds (is_before_now depth o a)) ops

  module _ (a : LeafAt) (new : IsNewAt a) where
    pub new_now : op_key depth op ≡ leaf_now a
    new_now = ap (λ k. key_numbers depth k) new.key ∙ placed-now depth a new.placed

    pub new_path : op_path depth op ≡ leaf_path a
    new_path = ap key_path new_now ∙ now_path a.spot.above a.spot.number a.leaf.done a.spot.present new.placed.deep

    pub new_ends : key_ends depth op.key ≡ true
    new_ends = ap (key_ends depth) new.key ∙ placed-ends depth a new.placed

    -- in an earlier operation's own leaf, its key is that of the leaf
    own_less : (o : Op) → key_ends depth o.key ≡ true → Holds (is_before_now depth o a) → o.hart ≡ op.hart → key_less o.key op.key ≡ true
    own_less o ends before e = key_less-numbers depth o.key op.key ends new_ends ∙ ap (less (op_key depth o)) new_now ∙ before (eq-eqb o.hart a.leaf.number (e ∙ new.hart))

    -- each other leaf has another path
    other_path : (o : Op) → AllByRecursion (λ b. leaf_path b ≡ leaf_path a → b.leaf.number ≡ a.leaf.number) leaves → Holds (has_leaf leaves o) → Holds (each (has_leaf_path depth o) leaves) → o.hart ≢ op.hart → op_path depth o ≢ op_path depth op
    other_path o places has paths off same = any-each (is_leaf_of o) ⊥ leaves has (go leaves places paths) where
      go : (ls : List LeafAt) → AllByRecursion (λ b. leaf_path b ≡ leaf_path a → b.leaf.number ≡ a.leaf.number) ls → Holds (each (has_leaf_path depth o) ls) → AllByRecursion (λ b. is_leaf_of o b ≡ true → ⊥) ls
      go [] h k = tt
      go (b ∷ ls) h k = ((λ e. off (eqb-true o.hart b.leaf.number e ∙ h.0 (sym (same_numbers-true (op_path depth o) (leaf_path b) (k.0 e)) ∙ same ∙ new_path) ∙ sym new.hart)), go ls h.1 k.1)

    pub earlier : AllByRecursion (λ b. leaf_path b ≡ leaf_path a → b.leaf.number ≡ a.leaf.number) leaves → Holds (each (has_ending_key depth) ops) → Holds (each (has_leaf leaves) ops) → Holds (each (λ o. each (has_leaf_path depth o) leaves) ops) → AllByRecursion (IsEarlier depth op) ops
    earlier places ends has paths = go ops new.before ends has paths where
      go : (os : List Op) → AllByRecursion (λ o. Holds (is_before_now depth o a)) os → Holds (each (has_ending_key depth) os) → Holds (each (has_leaf leaves) os) → Holds (each (λ o. each (has_leaf_path depth o) leaves) os) → AllByRecursion (IsEarlier depth op) os
      go [] b e h p = tt
      go (o ∷ os) b e h p = (record { own = own_less o e.0 b.0; other = other_path o places h.0 p.0 }, go os b.1 e.1 h.1 p.1)
