-- What the rules before a turn that completes say at its leaf: of the leaf's entries, of the operations, and of the flat machine.
use Rattle.std.proofs.Common.{◌≡◌, ◌≢◌, ℕ, ◌<◌, Bool, true, false, nat_eq, inl, inr, List, [], ◌∷◌, length, is_some, Option, Some, None, refl, sym, ap, ◌∙◌}
use Rattle.std.specs.List.{AllByRecursion}
use Rattle.std.specs.Prelude.{option_and_then, unwrap_or}
use Rattle.std.proofs.lemmas.Bool.{true≢false, and_parts, eqb-true, eqb-false, eq-eqb}
use Rattle.order_laws.specs.DdmTypes.declared.answers.TurnAnswer.{TurnAnswer}
use Rattle.order_laws.specs.DdmTypes.declared.operations.Effect.{Effect}
use Rattle.order_laws.specs.DdmTypes.declared.operations.Op.{Op}
use Rattle.order_laws.specs.DdmTypes.Keys.{key_less}
use Rattle.order_laws.specs.DdmTypes.ItemTable.{ItemTable, item_count, item_at}
use Rattle.order_laws.specs.FlatModel.Flat.{FlatMachine, has_reserved}
use Rattle.order_laws.specs.FlatModel.Legal.{is_change, effect_address, effect_item, on_item, changes_item, changed_item, legal_run, flat_after}
use Rattle.order_laws.proofs.FlatModel.Items.{item_at_inside}
use Rattle.order_laws.proofs.FlatModel.Storing.{changes_is}
use Rattle.order_laws.specs.TreeModel.State.Values.{LeafValue, MachineValue}
use Rattle.order_laws.specs.TreeModel.State.States.{is_exclusive}
use Rattle.order_laws.specs.TreeModel.State.Leaf.{leaf_hold}
use Rattle.order_laws.specs.TreeModel.State.Shape.{depth_of, IsShaped}
use Rattle.order_laws.specs.TreeModel.Turns.Witness.{sorted_ops}
use Rattle.order_laws.specs.TreeRules.Statements.{Holds, each}
use Rattle.order_laws.proofs.TreeRules.Statements.{each-facts, facts-each}
use Rattle.order_laws.specs.TreeRules.Bus.Rules.{items_of_machine, IsMachineOk}
use Rattle.order_laws.specs.TreeRules.Order.Moments.{less, is_under}
use Rattle.order_laws.specs.TreeRules.Order.Places.{LeafAt, leaf_path, leaf_now, leaves_at}
use Rattle.order_laws.specs.TreeRules.Order.Copies.{CopyAt, copies_of}
use Rattle.order_laws.specs.TreeRules.Order.Claims.{claims_of}
use Rattle.order_laws.specs.TreeRules.Order.Ops.{op_key, op_path}
use Rattle.order_laws.specs.TreeRules.Order.Time.{key_ends}
use Rattle.order_laws.specs.TreeRules.Order.Time as time
use Rattle.order_laws.specs.TreeRules.Order.Core as core
use Rattle.order_laws.specs.TreeRules.Order.Rules.{keys_differ, keys_end, IsTimed, reservations_kept, legal, harts_follow, claims_after_copies, clocks_know, IsCore}
use Rattle.order_lists.proofs.Filters.{each-weaker, each-both, each-swap, each-passing}
use Rattle.order_lists.proofs.Keys.{key_less-asymmetric, key_less-numbers}
use Rattle.order_lists.proofs.Sorted.{IsNew, KeysDiffer, greater, sorted-each}
use Rattle.order_lists.proofs.Completing.{IsLatest}
use Rattle.order_laws.proofs.Hart.LeafTurned.{EntryTurned}
use Rattle.order_laws.proofs.Hart.HartMachine.{answer, HartTurned}
use Rattle.order_laws.proofs.Hart.LeafPlaces.{placed-length}
use Rattle.order_laws.proofs.Hart.NewOp.{IsEarlier, differs, new_now, new_path, new_ends}
use Rattle.order_laws.proofs.Hart.Completed.{Completed, completed, earlier_ops}
use Rattle.order_lists.proofs.ExclusiveClaims.{IsExclusiveAt}
use Rattle.order_lists.proofs.Paths.{under-same}
use Rattle.order_lists.proofs.State.{ops_at_depth}
use Rattle.order_lists.proofs.Listed.{KeysDiffer-from_rule}
use Rattle.order_lists.proofs.CopyWords.{HasWordsOfChanges}
use Rattle.order_laws.proofs.Hart.Facts.{IsBesideExclusive, IsLessThanNow, EndsLater, ItemFacts}
use Rattle.order_laws.proofs.Hart.Ready.{HasItsCopy, entry_copy, IsToldCopy, IsOwnLess}
use Rattle.order_laws.proofs.Hart.CoreParts.{core_holds, copy_holds}

-- ---- lists

-- of each index a fact of each element: of each element the fact at each index below
pub each-family : {X : Type 0} (n : ℕ) (P : ℕ → X → Type 0) (xs : List X) → ((i : ℕ) → i < n → AllByRecursion (P i) xs) → AllByRecursion (λ x. (i : ℕ) → i < n → P i x) xs
each-family n P [] h = tt
each-family n P (x ∷ xs) h = ((λ i l. (h i l).0), each-family n P xs (λ i l. (h i l).1))

-- ---- the item that an effect changes

changed_effect : (items : ItemTable) (effect : Effect) (y : ℕ) → changed_item items effect ≡ Some y → effect_item items effect ≡ Some y
changed_effect items effect y h = go (is_change effect) refl where
  go : (t : Bool) → is_change effect ≡ t → effect_item items effect ≡ Some y
  go true e = rw e at h
  go false e = absurd (let none : None ≡ Some y = rw e at h in let wrong : ⊥ = cc in wrong)

pub effect_inside : (items : ItemTable) (effect : Effect) (y : ℕ) → effect_item items effect ≡ Some y → y < item_count items
effect_inside items effect y h = go (effect_address effect) h where
  go : (o : Option ℕ) → option_and_then (item_at items) o ≡ Some y → y < item_count items
  go None e = absurd (let wrong : ⊥ = cc in wrong)
  go (Some address) e = item_at_inside items address y e

pub changed_inside : (items : ItemTable) (effect : Effect) (y : ℕ) → changed_item items effect ≡ Some y → y < item_count items
changed_inside items effect y h = effect_inside items effect y (changed_effect items effect y h)

pub changed_changes : (items : ItemTable) (effect : Effect) (y : ℕ) → changed_item items effect ≡ Some y → changes_item items y effect ≡ true
changed_changes items effect y h = changes_is items y effect ∙ ap (λ o. has_reserved o y) h ∙ eq-eqb y y refl

effect_on : (items : ItemTable) (effect : Effect) (y : ℕ) → effect_item items effect ≡ Some y → on_item items y effect ≡ true
unfolding on_item
effect_on items effect y h = ap (λ o. has_reserved o y) h ∙ eq-eqb y y refl

pub changes_on : (items : ItemTable) (effect : Effect) (y : ℕ) → changes_item items y effect ≡ true → on_item items y effect ≡ true
unfolding changes_item
changes_on items effect y h = (and_parts (is_change effect) (on_item items y effect) h).1

-- an item that a leaf's turn changes is Exclusive there
pub changed_exclusive : (items : ItemTable) (effect : Effect) (x : ℕ) (v w : LeafValue) → EntryTurned items effect x v w → changes_item items x effect ≡ true → is_exclusive (leaf_hold x v) ≡ true
unfolding leaf_hold
changed_exclusive items effect x v w (inl h) c = absurd (true≢false (sym c ∙ h.0))
changed_exclusive items effect x v w (inr h) c = rw (h.before, h.exclusive) refl

-- ---- the machine before

-- the rules before, and a turn that completes this operation
pub record Before (s : FlatMachine) (hart victim : ℕ) (m : MachineValue) (op : Op) : Type 1 where
  pub shaped : IsShaped m
  pub ok : IsMachineOk m
  pub timed : IsTimed m
  pub order : IsCore s m
  pub facts : (x : ℕ) → x < items_of_machine m → ItemFacts s m x
  pub turned : HartTurned hart victim m
  pub retired : answer hart victim m ≡ TurnAnswer.Retired op

module _ (s : FlatMachine) (hart victim : ℕ) (m : MachineValue) (op : Op) (was : Before s hart victim m op) where
  abbrev pub flat : FlatMachine
  flat = flat_after m.code m.items s (sorted_ops m.ops)

  pub record KnownCopy (x : ℕ) (k : CopyAt) : Type 0 where
    pub told : IsToldCopy s m x op k
    pub claims : Holds (each (λ t. core.claim_is_after_copy t k) (claims_of x m))

  pub record LeafItem (x : ℕ) (a : LeafAt) : Type 0 where
    pub beside : AllByRecursion (IsBesideExclusive x a) (copies_of x m)
    pub latest : AllByRecursion (IsLessThanNow (depth_of m) m.items x a) m.ops
    pub copy : HasItsCopy x (KnownCopy x) a

  pub record IsSeen (a : LeafAt) : Type 0 where
    pub items : (x : ℕ) → x < items_of_machine m → LeafItem x a
    pub follows : Holds (core.has_flat_hart flat a)
    pub reserved : Holds (core.keeps_reservation s (depth_of m) m.items m.ops a)

  module _ (x : ℕ) (l : x < items_of_machine m) where
    claims_known : AllByRecursion (λ k. Holds (each (λ t. core.claim_is_after_copy t k) (claims_of x m))) (copies_of x m)
    claims_known =
        each-weaker (λ k. AllByRecursion (λ t. Holds (core.claim_is_after_copy t k)) (claims_of x m)) (λ k. Holds (each (λ t. core.claim_is_after_copy t k) (claims_of x m))) (λ k i. facts-each (λ t. core.claim_is_after_copy t k) (claims_of x m) i) (copies_of x m)
        (each-swap (λ t k. Holds (core.claim_is_after_copy t k)) (claims_of x m) (copies_of x m) (each-weaker (λ t. Holds (each (core.claim_is_after_copy t) (copies_of x m))) (λ t. AllByRecursion (λ k. Holds (core.claim_is_after_copy t k)) (copies_of x m)) (λ t i. each-facts (core.claim_is_after_copy t) (copies_of x m) i) (claims_of x m) (each-facts (λ t. each (core.claim_is_after_copy t) (copies_of x m)) (claims_of x m) (copy_holds s m was.order x l claims_after_copies))))

    known_copies : AllByRecursion (KnownCopy x) (copies_of x m)
    known_copies =
        each-both (λ k. HasWordsOfChanges s m x k × EndsLater k) (λ k. Holds (each (core.knows_change (depth_of m) m.items x k) m.ops) × Holds (each (λ t. core.claim_is_after_copy t k) (claims_of x m))) (KnownCopy x) (λ k i j. record { told = record { words = i.0; late = i.1; known = j.0 }; claims = j.1 }) (copies_of x m)
        (each-both (HasWordsOfChanges s m x) EndsLater (λ k. HasWordsOfChanges s m x k × EndsLater k) (λ k i j. (i, j)) (copies_of x m) (was.facts x l).words (was.facts x l).late)
        (each-both (λ k. Holds (each (core.knows_change (depth_of m) m.items x k) m.ops)) (λ k. Holds (each (λ t. core.claim_is_after_copy t k) (claims_of x m))) (λ k. Holds (each (core.knows_change (depth_of m) m.items x k) m.ops) × Holds (each (λ t. core.claim_is_after_copy t k) (claims_of x m))) (λ k i j. (i, j)) (copies_of x m) (each-facts (λ k. each (core.knows_change (depth_of m) m.items x k) m.ops) (copies_of x m) (copy_holds s m was.order x l clocks_know)) claims_known)

    leaf_items : AllByRecursion (LeafItem x) (leaves_at m)
    leaf_items =
        each-both (λ a. AllByRecursion (IsBesideExclusive x a) (copies_of x m) × AllByRecursion (IsLessThanNow (depth_of m) m.items x a) m.ops) (HasItsCopy x (KnownCopy x)) (LeafItem x) (λ a i j. record { beside = i.0; latest = i.1; copy = j }) (leaves_at m)
        (each-both (λ a. AllByRecursion (IsBesideExclusive x a) (copies_of x m)) (λ a. AllByRecursion (IsLessThanNow (depth_of m) m.items x a) m.ops) (λ a. AllByRecursion (IsBesideExclusive x a) (copies_of x m) × AllByRecursion (IsLessThanNow (depth_of m) m.items x a) m.ops) (λ a i j. (i, j)) (leaves_at m) (was.facts x l).beside (was.facts x l).latest)
        (entry_copy x m (KnownCopy x) known_copies)

  all_seen : AllByRecursion IsSeen (leaves_at m)
  all_seen =
      each-both (λ a. (x : ℕ) → x < items_of_machine m → LeafItem x a) (λ a. Holds (core.has_flat_hart flat a) × Holds (core.keeps_reservation s (depth_of m) m.items m.ops a)) IsSeen (λ a i j. record { items = i; follows = j.0; reserved = j.1 }) (leaves_at m) (each-family (items_of_machine m) LeafItem (leaves_at m) (λ x l. leaf_items x l))
      (each-both (λ a. Holds (core.has_flat_hart flat a)) (λ a. Holds (core.keeps_reservation s (depth_of m) m.items m.ops a)) (λ a. Holds (core.has_flat_hart flat a) × Holds (core.keeps_reservation s (depth_of m) m.items m.ops a)) (λ a i j. (i, j)) (leaves_at m) (each-facts (core.has_flat_hart flat) (leaves_at m) (core_holds s m was.order harts_follow)) (each-facts (core.keeps_reservation s (depth_of m) m.items m.ops) (leaves_at m) (core_holds s m was.order reservations_kept)))

  pub done : Completed hart victim m was.turned op IsSeen
  done = completed hart victim m was.turned op IsSeen was.shaped was.ok was.timed was.retired all_seen

  abbrev pub place : LeafAt
  place = done.place

  pub now_is : op_key (depth_of m) op ≡ leaf_now done.place
  now_is = new_now (depth_of m) m.ops (leaves_at m) op done.place done.new

  pub path_is : op_path (depth_of m) op ≡ leaf_path done.place
  path_is = new_path (depth_of m) m.ops (leaves_at m) op done.place done.new

  pub exclusive : (x : ℕ) → changes_item m.items x op.effect ≡ true → IsExclusiveAt x done.place
  exclusive x c = changed_exclusive m.items op.effect x done.place.leaf done.after (done.turned.entries x) c

  -- ---- the operations before

  pub record OpSeen (o : Op) : Type 0 where
    pub same : key_less o.key op.key ≡ less (op_key (depth_of m) o) (op_key (depth_of m) op)
    pub earlier : IsEarlier (depth_of m) op o
    pub below : is_under (leaf_path done.place) (op_path (depth_of m) o) ≡ true → less (op_key (depth_of m) o) (op_key (depth_of m) op) ≡ true
    pub latest : (y : ℕ) → y < items_of_machine m → IsLessThanNow (depth_of m) m.items y done.place o

  pub ops_seen : AllByRecursion OpSeen m.ops
  ops_seen =
      each-both (λ o. IsEarlier (depth_of m) op o × (length (op_path (depth_of m) o) ≡ depth_of m)) (λ o. (key_ends (depth_of m) o.key ≡ true) × ((y : ℕ) → y < items_of_machine m → IsLessThanNow (depth_of m) m.items y done.place o)) OpSeen one m.ops
      (each-both (IsEarlier (depth_of m) op) (λ o. length (op_path (depth_of m) o) ≡ depth_of m) (λ o. IsEarlier (depth_of m) op o × (length (op_path (depth_of m) o) ≡ depth_of m)) (λ o i j. (i, j)) m.ops (earlier_ops hart victim m was.turned op was.timed IsSeen done) (ops_at_depth m was.shaped was.timed))
      (each-both (λ o. key_ends (depth_of m) o.key ≡ true) (λ o. (y : ℕ) → y < items_of_machine m → IsLessThanNow (depth_of m) m.items y done.place o) (λ o. (key_ends (depth_of m) o.key ≡ true) × ((y : ℕ) → y < items_of_machine m → IsLessThanNow (depth_of m) m.items y done.place o)) (λ o i j. (i, j)) m.ops (each-facts (time.has_ending_key (depth_of m)) m.ops (was.timed.each keys_end)) (each-family (items_of_machine m) (λ y o. IsLessThanNow (depth_of m) m.items y done.place o) m.ops (λ y l. (done.fact.items y l).latest))) where
        one : (o : Op) → IsEarlier (depth_of m) op o × (length (op_path (depth_of m) o) ≡ depth_of m) → (key_ends (depth_of m) o.key ≡ true) × ((y : ℕ) → y < items_of_machine m → IsLessThanNow (depth_of m) m.items y done.place o) → OpSeen o
        one o i j = record { same = same; earlier = i.0; below = λ u. by_hart u (nat_eq o.hart op.hart) refl; latest = j.1 } where
          lengths : length (leaf_path done.place) ≡ length (op_path (depth_of m) o)
          lengths = placed-length (depth_of m) done.place done.new.placed ∙ sym i.1

          same : key_less o.key op.key ≡ less (op_key (depth_of m) o) (op_key (depth_of m) op)
          same = key_less-numbers (depth_of m) o.key op.key j.0 (new_ends (depth_of m) m.ops (leaves_at m) op done.place done.new)

          by_hart : is_under (leaf_path done.place) (op_path (depth_of m) o) ≡ true → (t : Bool) → nat_eq o.hart op.hart ≡ t → less (op_key (depth_of m) o) (op_key (depth_of m) op) ≡ true
          by_hart u true e = sym same ∙ i.0.own (eqb-true o.hart op.hart e)
          by_hart u false e = absurd (i.0.other (eqb-false o.hart op.hart e) (sym (under-same (leaf_path done.place) (op_path (depth_of m) o) u lengths) ∙ sym path_is))

  pub differ : KeysDiffer m.ops
  differ = KeysDiffer-from_rule m.ops (was.timed.each keys_differ)

  pub new : IsNew op m.ops
  new = each-weaker OpSeen (λ o. op.key ≢ o.key) (λ o i. differs (depth_of m) op o i.earlier) m.ops ops_seen

  -- one on an item that the new one changes is less
  changed_later : (o : Op) → OpSeen o → (y : ℕ) → y < items_of_machine m → changes_item m.items y op.effect ≡ true → on_item m.items y o.effect ≡ true → key_less o.key op.key ≡ true
  changed_later o i y l c on = i.same ∙ ap (less (op_key (depth_of m) o)) now_is ∙ i.latest y l (exclusive y c) on

  pub latest : AllByRecursion (IsLatest m.code m.items op) m.ops
  latest = each-weaker OpSeen (IsLatest m.code m.items op) (λ o i. record { hart = λ e. i.earlier.own (eqb-true o.hart op.hart e); item = λ y c e. changed_later o i y (changed_inside m.items op.effect y c) (changed_changes m.items op.effect y c) (effect_on m.items o.effect y e) }) m.ops ops_seen

  pub own_less : (x : ℕ) → AllByRecursion (IsOwnLess s m x op done.place) m.ops
  own_less x = each-weaker OpSeen (IsOwnLess s m x op done.place) (λ o i. record { same = i.same; own = i.below }) m.ops ops_seen

  -- no greater one changes an item that the new one changes
  pub none_greater : (x : ℕ) → x < items_of_machine m → changes_item m.items x op.effect ≡ true → AllByRecursion (λ (p : Op). changes_item m.items x p.effect ≡ false) (greater op (sorted_ops m.ops))
  none_greater x l c = each-passing (λ (p : Op). changes_item m.items x p.effect ≡ false) (λ (p : Op). key_less op.key p.key) (sorted_ops m.ops) (sorted-each (λ (p : Op). key_less op.key p.key ≡ true → changes_item m.items x p.effect ≡ false) m.ops (each-weaker OpSeen (λ (p : Op). key_less op.key p.key ≡ true → changes_item m.items x p.effect ≡ false) one m.ops ops_seen)) where
    one : (p : Op) → OpSeen p → key_less op.key p.key ≡ true → changes_item m.items x p.effect ≡ false
    one p i g = go (changes_item m.items x p.effect) refl where
      go : (t : Bool) → changes_item m.items x p.effect ≡ t → changes_item m.items x p.effect ≡ false
      go false e = e
      go true e = absurd (true≢false (sym (changed_later p i x l c (changes_on m.items p.effect x e)) ∙ key_less-asymmetric op.key p.key g))

  -- ---- the flat machine before

  pub flat_run : legal_run m.code m.items s (sorted_ops m.ops) ≡ Some flat
  flat_run = go (legal_run m.code m.items s (sorted_ops m.ops)) (core_holds s m was.order legal) where
    go : (o : Option FlatMachine) → is_some o ≡ true → o ≡ Some (unwrap_or o s)
    go None e = absurd (let wrong : ⊥ = cc in wrong)
    go (Some z) e = refl
