-- A leaf that still has an item reserved after a bus's turn: between its `now` before and after no operation of its hart stands,
-- and none that changes the item. Letters: a is the leaf before, b after, y the item.
use Rattle.std.proofs.Common.{◌≡◌, ℕ, ◌+◌, ◌<◌, Bool, true, false, List, [], ◌∷◌, ◌++◌, length, filter, Option, None, Some, IfSome, refl, sym, ap, subst, ◌∙◌, ◌⊎◌, inl, inr, arith, append_assoc}
use Rattle.std.specs.Prelude.{nat_eq}
use Rattle.std.specs.List.{AllByRecursion}
use Rattle.std.proofs.lemmas.Bool.{true≢false, eq-eqb}
use Rattle.order_laws.specs.DdmTypes.declared.operations.Op.{Op}
use Rattle.order_laws.specs.DdmTypes.ItemTable.{ItemTable}
use Rattle.order_laws.specs.FlatModel.Legal.{changes_item, reservation}
use Rattle.order_laws.specs.TreeModel.State.Values.{DirValue, Node, Nodes, leaf_node, dir_node, no_nodes, more_nodes, MachineValue}
use Rattle.order_laws.specs.TreeModel.State.Place.{Spot, spot_in, spot_path}
use Rattle.order_laws.specs.TreeRules.Statements.{Holds, is_so, there_and}
use Rattle.order_laws.specs.TreeRules.Order.Copies.{CopyAt}
use Rattle.order_laws.specs.TreeRules.Order.Core.{knows_change, ended_before}
use Rattle.order_laws.specs.TreeRules.Order.Moments.{less, less_at, past, parted, is_under, moment_length, spot_moment, GoesOn}
use Rattle.order_laws.specs.TreeRules.Order.Ops.{op_key, op_path}
use Rattle.order_laws.specs.TreeRules.Order.Places.{LeafAt, leaf_path, leaf_now, leaves_at, leaves_in, placed_leaves}
use Rattle.order_lists.proofs.Filters.{filter-yes, filter-no, each-weaker, each-both, each-append}
use Rattle.order_lists.proofs.Moments.{less-head, less-tail, less-parts, least-parts, least-head, least-tail, less-irreflexive, less-asymmetric, less-least, less_at-less, GoesOn-past}
use Rattle.order_lists.proofs.Paths.{leaves_under, placed_from, under-same}
use Rattle.order_lists.proofs.Reservations.{Leaves, reserved-between}
use Rattle.order_laws.proofs.Hart.Facts.{EndsLater}
use Rattle.order_laws.proofs.Hart.Ready.{past_end_later}
use Rattle.order_laws.proofs.Hart.Seen.{changed_changes}
use Rattle.order_laws.specs.Moves.Moved.{Ended, Moved}

-- ---- the reservation after more operations

module _ (items : ItemTable) (g y : ℕ) (p q : Op → Bool) where
  -- what passes the first test passes the second, and what passes the second alone leaves the reservation
  pub record IsBetween (o : Op) : Type 0 where
    pub more : p o ≡ true → q o ≡ true
    pub leaves : p o ≡ false → q o ≡ true → Leaves items g y o

  pub reserved-later : (r : Option ℕ) (first ops : List Op) → AllByRecursion IsBetween ops → reservation items g r (first ++ filter p ops) ≡ Some y → reservation items g r (first ++ filter q ops) ≡ Some y
  reserved-later r first [] h k = k
  reserved-later r first (o ∷ os) h k = go (p o) refl (q o) refl (λ f w. reserved-later r f os h.1 w) where
    Was : List Op → Type 0
    Was l = reservation items g r l ≡ Some y

    go : (t : Bool) → p o ≡ t → (u : Bool) → q o ≡ u → ((f : List Op) → reservation items g r (f ++ filter p os) ≡ Some y → reservation items g r (f ++ filter q os) ≡ Some y) → reservation items g r (first ++ filter q (o ∷ os)) ≡ Some y
    go true e u f rest =
        let was : Was (first ++ o ∷ filter p os) = subst (λ l. Was (first ++ l)) (filter-yes p o os e) k in
        let next : Was ((first ++ o ∷ []) ++ filter q os) = rest (first ++ o ∷ []) (subst Was (sym (append_assoc first (o ∷ []) (filter p os))) was) in
        subst (λ l. Was (first ++ l)) (sym (filter-yes q o os (h.0.more e))) (subst Was (append_assoc first (o ∷ []) (filter q os)) next)
    go false e true f rest = subst (λ l. Was (first ++ l)) (sym (filter-yes q o os f)) (reserved-between items g r y first (filter q os) o (h.0.leaves e f) (rest first (subst (λ l. Was (first ++ l)) (filter-no p o os e) k)))
    go false e false f rest = subst (λ l. Was (first ++ l)) (sym (filter-no q o os f)) (rest first (subst (λ l. Was (first ++ l)) (filter-no p o os e) k))

-- ---- numbers

-- with the same numbers behind
pub least-behind : (a b t : List ℕ) → length a ≡ length b → less b a ≡ false → less (b ++ t) (a ++ t) ≡ false
least-behind [] [] t l h = less-irreflexive t
least-behind [] (n ∷ b) t l h = absurd (omega (arith, l))
least-behind (m ∷ a) [] t l h = absurd (omega (arith, l))
least-behind (m ∷ a) (n ∷ b) t l h = go (least-parts n m b a h) (least-behind a b t (omega (arith, l))) where
  go : (m < n) ⊎ ((n ≡ m) × (less b a ≡ false)) → (less b a ≡ false → less (b ++ t) (a ++ t) ≡ false) → less (n ∷ (b ++ t)) (m ∷ (a ++ t)) ≡ false
  go (inl i) rest = least-head n m (b ++ t) (a ++ t) i
  go (inr i) rest = least-tail n m (b ++ t) (a ++ t) i.0 (rest i.1)

less-longer : (a b t : List ℕ) → less a b ≡ true → less a (b ++ t) ≡ true
less-longer a [] t h = absurd (let wrong : ⊥ = cc in wrong)
less-longer [] (n ∷ b) t h = refl
less-longer (m ∷ a) (n ∷ b) t h = go (less-parts m n a b h) (less-longer a b t) where
  go : (m < n) ⊎ ((m ≡ n) × (less a b ≡ true)) → (less a b ≡ true → less a (b ++ t) ≡ true) → less (m ∷ a) (n ∷ (b ++ t)) ≡ true
  go (inl i) rest = less-head m n a (b ++ t) i
  go (inr i) rest = less-tail m n a (b ++ t) i.0 (rest i.1)

-- ---- leaves by their paths

abbrev pub IsOnlyAt : LeafAt → LeafAt → Type 0
IsOnlyAt a b = leaf_path b ≡ leaf_path a → b ≡ a

mutual
  only_in : (c : Spot) (n : Node) → AllByRecursion (λ a. AllByRecursion (IsOnlyAt a) (leaves_in c n)) (leaves_in c n)
  only_in c (leaf_node v) = ((λ e. refl, tt), tt)
  only_in c (dir_node d ns) = only_among (spot_path c) d 0 ns

  only_among : (path : List ℕ) (d : DirValue) (i : ℕ) (ns : Nodes) → AllByRecursion (λ a. AllByRecursion (IsOnlyAt a) (placed_leaves path d i ns)) (placed_leaves path d i ns)
  only_among path d i no_nodes = tt
  only_among path d i (more_nodes n ns) =
      each-append _ (leaves_in (spot_in path d i) n) (placed_leaves path d (i + 1) ns)
      (each-both _ _ _ (λ a same u. each-append (IsOnlyAt a) (leaves_in (spot_in path d i) n) _ same (each-weaker _ _ (λ b f e. absurd (true≢false (sym u ∙ ap (is_under (path ++ i ∷ [])) (sym e) ∙ f.later i (omega arith)))) _ (placed_from path d (i + 1) ns))) _ (only_in (spot_in path d i) n) (leaves_under (spot_in path d i) n))
      (each-both _ _ _ (λ a same f. each-append (IsOnlyAt a) (leaves_in (spot_in path d i) n) _ (each-weaker _ _ (λ b u e. absurd (true≢false (sym u ∙ ap (is_under (path ++ i ∷ [])) e ∙ f.later i (omega arith)))) _ (leaves_under (spot_in path d i) n)) same) _ (only_among path d (i + 1) ns) (placed_from path d (i + 1) ns))

-- no two leaves of a machine have one path
pub one_of_path : (m : MachineValue) → AllByRecursion (λ a. AllByRecursion (IsOnlyAt a) (leaves_at m)) (leaves_at m)
unfolding leaves_at
one_of_path m = only_among [] m.top 0 m.kids

-- ---- one operation between the two

-- what ended before an operation ended before it afterwards, too
pub ended-moved : (path old new : List ℕ) (Has : ℕ → Type 0) (key : List ℕ) (k k' : CopyAt) → Moved path old new Has k k' → Holds (ended_before k key) → Holds (ended_before k' key)
ended-moved path old new Has key k k' moved h = by moved.end where
  by : (k'.end ≡ k.end) ⊎ Ended path old new Has k k' → Holds (ended_before k' key)
  by (inl e) = subst (λ o. Holds (there_and (λ e. is_so (past e key)) o)) (sym e) h
  by (inr n) = subst (λ o. Holds (there_and (λ e. is_so (past e key)) o)) (sym n.is) (earlier k.end refl) where
    earlier : (o : Option (List ℕ)) → k.end ≡ o → past new key ≡ true
    earlier None is =
        let wrong : false ≡ true = subst (λ o. Holds (there_and (λ e. is_so (past e key)) o)) is h in
        cc
    earlier (Some e) is =
        let was : past e key ≡ true = subst (λ o. Holds (there_and (λ e. is_so (past e key)) o)) is h in
        let on : GoesOn new e = subst (λ o. IfSome o (GoesOn new)) is n.later in
        GoesOn-past new e key on was

-- what is known of an operation at the leaf before: one of its hart, or under its path, is less than its `now`
pub record IsOwnBefore (depth : ℕ) (a : LeafAt) (o : Op) : Type 0 where
  pub hart : nat_eq o.hart a.leaf.number ≡ true → less (op_key depth o) (leaf_now a) ≡ true
  pub path : op_path depth o ≡ leaf_path a → less (op_key depth o) (leaf_now a) ≡ true
  pub size : length (op_path depth o) ≡ length (leaf_path a)

module _ (depth : ℕ) (items : ItemTable) (y : ℕ) (a b : LeafAt) where
  -- the copy of the leaf's entry before, and the one after that comes from it
  module _ (k k' : CopyAt) (ended : (key : List ℕ) → Holds (ended_before k key) → Holds (ended_before k' key)) (place : k.place ≡ leaf_path a) (clock : k.clock ≡ spot_moment a.spot) (tail : List ℕ) (now : leaf_now b ≡ k'.clock ++ tail) (late : EndsLater k') (rises : less (leaf_now b) (leaf_now a) ≡ false) where
    -- a change of the item isn't between
    no-change : (o : Op) → IsOwnBefore depth a o → Holds (knows_change depth items y k o) → less (op_key depth o) (leaf_now a) ≡ false → less (op_key depth o) (leaf_now b) ≡ true → changes_item items y o.effect ≡ true → ⊥
    no-change o own knows was is changes = by (is_under k.place (op_path depth o)) refl where
      by_rule : (less_at (moment_length (parted k.place (op_path depth o))) (op_key depth o) k.clock ≡ true) ⊎ Holds (ended_before k (op_key depth o)) → ⊥
      by_rule (inl h) =
          let known : less (op_key depth o) (spot_moment a.spot) ≡ true = subst (λ c. less (op_key depth o) c ≡ true) clock (less_at-less (moment_length (parted k.place (op_path depth o))) (op_key depth o) k.clock h) in
          true≢false (sym (less-longer (op_key depth o) (spot_moment a.spot) (a.spot.number ∷ a.leaf.done ∷ []) known) ∙ was)
      by_rule (inr h) =
          let gone : less (leaf_now b) (op_key depth o) ≡ true = ap (λ n. less n (op_key depth o)) now ∙ past_end_later k' tail (op_key depth o) late (ended (op_key depth o) h) in
          true≢false (sym is ∙ less-asymmetric (leaf_now b) (op_key depth o) gone)

      by : (t : Bool) → is_under k.place (op_path depth o) ≡ t → ⊥
      by true u =
          let under : is_under (leaf_path a) (op_path depth o) ≡ true = subst (λ p. is_under p (op_path depth o) ≡ true) place u in
          true≢false (sym (own.path (sym (under-same (leaf_path a) (op_path depth o) under (sym own.size)))) ∙ was)
      by false u = by_rule (knows changes u)

    pub between : (o : Op) → IsOwnBefore depth a o → Holds (knows_change depth items y k o) → IsBetween items a.leaf.number y (λ o. less (op_key depth o) (leaf_now a)) (λ o. less (op_key depth o) (leaf_now b)) o
    between o own knows = record {
      more = λ was. less-least (op_key depth o) (leaf_now a) (leaf_now b) was rises;
      leaves = λ was is. (λ e. true≢false (sym (own.hart (eq-eqb o.hart a.leaf.number e)) ∙ was), λ e. no-change o own knows was is (changed_changes items o.effect y e));
    }
