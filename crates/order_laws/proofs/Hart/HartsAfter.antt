-- The flat machine after a turn that completes, and each leaf's hart, halt, count and reservation over it.
use Rattle.std.proofs.Common.{◌≡◌, ◌≢◌, ℕ, ◌+◌, ◌<◌, Bool, true, false, nat_eq, ◌⊎◌, inl, inr, List, [], ◌∷◌, ◌++◌, filter, length, Option, Some, None, option_map, refl, sym, ap, subst, ◌∙◌, arith}
use Rattle.std.specs.List.{AllByRecursion}
use Rattle.std.specs.Prelude.{unwrap_or}
use Rattle.std.proofs.lemmas.Bool.{true≢false, eqb-true, eqb-false, eq-eqb, ne_eqb}
use Rattle.std.proofs.lemmas.List.{length-append}
use Rattle.std.proofs.lemmas.List.Elements.{filter-append}
use Rattle.order_laws.specs.DdmTypes.declared.operations.Effect.{Effect}
use Rattle.order_laws.specs.DdmTypes.declared.operations.Effect.TheVariants.{Plain, Put, Load, Store, Lr, ScOk, ScFail, Amo}
use Rattle.order_laws.specs.DdmTypes.declared.operations.HaltCause.{HaltCause}
use Rattle.order_laws.specs.DdmTypes.declared.operations.Op.{Op}
use Rattle.order_laws.specs.DdmTypes.Keys.{key_less}
use Rattle.order_laws.specs.DdmTypes.ItemTable.{ItemTable, item_at}
use Rattle.order_laws.specs.FlatModel.Hart.{HartValue}
use Rattle.order_laws.specs.FlatModel.Flat.{FlatMachine, flat_hart, has_reserved}
use Rattle.order_laws.specs.FlatModel.Legal.{is_of, on_item, changed_item, reserved_by_own, reservation, flat_after}
use Rattle.order_laws.proofs.FlatModel.Items.{asks_inside}
use Rattle.order_laws.specs.TreeModel.State.Values.{LeafValue, MachineValue}
use Rattle.order_laws.specs.TreeModel.State.States.{is_held, entry_hold}
use Rattle.order_laws.specs.TreeModel.State.Leaf.{LeafEntry, entry_state, leaf_entry, leaf_hold}
use Rattle.order_laws.specs.TreeModel.State.Place.{at_child, key_at_leaf}
use Rattle.order_laws.specs.TreeModel.State.Shape.{depth_of}
use Rattle.order_laws.specs.TreeModel.Turns.Witness.{sorted_ops}
use Rattle.order_laws.specs.TreeRules.Statements.{Holds, if_there}
use Rattle.order_laws.specs.TreeRules.Bus.Rules.{items_of_machine}
use Rattle.order_laws.specs.TreeRules.Order.Moments.{less, key_path, spot_moment, is_under}
use Rattle.order_laws.specs.TreeRules.Order.Places.{LeafAt, leaf_path, leaf_now, leaves_at}
use Rattle.order_laws.specs.TreeRules.Order.Copies.{CopyAt, copies_of}
use Rattle.order_laws.specs.TreeRules.Order.Ops.{op_key, op_count}
use Rattle.order_laws.specs.TreeRules.Order.Core as core
use Rattle.order_lists.proofs.Filters.{each-weaker, each-both, filter-yes, filter-no}
use Rattle.order_lists.proofs.Moments.{less-irreflexive, less-asymmetric}
use Rattle.order_lists.proofs.Paths.{under-itself, under-same}
use Rattle.order_lists.proofs.Sorted.{lesser}
use Rattle.order_laws.proofs.Hart.LeafTurned.{hold_turned, HasEntry, awake_entry}
use Rattle.order_laws.proofs.Hart.LeafPlaces.{IsPlaced, placed-length}
use Rattle.order_laws.proofs.Hart.NewOp.{now_rises}
use Rattle.order_laws.proofs.Hart.Between.{key_length, next_same}
use Rattle.order_laws.proofs.Hart.Completed.{whole_words}
use Rattle.order_laws.proofs.Hart.Facts.{EndsLater, IsBesideExclusive}
use Rattle.order_laws.proofs.Hart.Ready.{CopyOf, HasItsCopy, entry_copy, past_end_later, IsToldCopy, ready_words}
use Rattle.order_laws.proofs.Hart.LegalAfter.{IsReady, IsLegalAfter, legal_after}
use Rattle.order_laws.proofs.Hart.ReservedKept.{own_reservation, other_reservation, own_next, before_now}
use Rattle.order_laws.proofs.Hart.Halting.{running, flat_is, is_flat, AsksHalt, ask_from_halts, halts_from_ask}
use Rattle.order_laws.proofs.Hart.Seen.{each-family, changed_inside, changed_changes, Before, KnownCopy, flat, done, now_is, exclusive, OpSeen, ops_seen, differ, new, latest, own_less, flat_run}

-- ---- small facts

has_is : (r : Option ℕ) (x : ℕ) → has_reserved r x ≡ true → r ≡ Some x
has_is None x h = absurd (let wrong : ⊥ = cc in wrong)
has_is (Some y) x h = ap Some (eqb-true y x h)

is_has : (r : Option ℕ) (x : ℕ) → r ≡ Some x → has_reserved r x ≡ true
is_has r x e = ap (λ o. has_reserved o x) e ∙ eq-eqb x x refl

count_yes : (p : Op → Bool) (ops : List Op) (o : Op) → p o ≡ true → length (filter p (ops ++ o ∷ [])) ≡ length (filter p ops) + 1
count_yes p ops o e = ap (λ l. length l) (filter-append p ops (o ∷ []) ∙ ap (λ l. filter p ops ++ l) (filter-yes p o [] e)) ∙ length-append (filter p ops) (o ∷ [])

count_no : (p : Op → Bool) (ops : List Op) (o : Op) → p o ≡ false → length (filter p (ops ++ o ∷ [])) ≡ length (filter p ops)
count_no p ops o e = ap (λ l. length l) (filter-append p ops (o ∷ []) ∙ ap (λ l. filter p ops ++ l) (filter-no p o [] e)) ∙ length-append (filter p ops) [] ∙ plus_none (length (filter p ops)) where
  plus_none : (n : ℕ) → n + 0 ≡ n
  plus_none n = omega arith

held_entry : (x : ℕ) (v : LeafValue) → is_held (leaf_hold x v) ≡ true → HasEntry x v
unfolding leaf_hold
held_entry x v h = go (leaf_entry x v) refl h where
  go : (o : Option LeafEntry) → leaf_entry x v ≡ o → is_held (entry_hold (option_map entry_state o)) ≡ true → HasEntry x v
  go None e k = absurd (let wrong : ⊥ = cc in wrong)
  go (Some e) at k = record { entry = e; at = at; held = k }

entry_held : (x : ℕ) (v : LeafValue) → HasEntry x v → is_held (leaf_hold x v) ≡ true
unfolding leaf_hold
entry_held x v h = ap (λ o. is_held (entry_hold (option_map entry_state o))) h.at ∙ h.held

-- where a reservation is from: it was there, or the effect is on its item
own_source : (items : ItemTable) (r : Option ℕ) (effect : Effect) (y : ℕ) → reserved_by_own items r effect ≡ Some y → (r ≡ Some y) ⊎ (on_item items y effect ≡ true)
unfolding on_item
own_source items r Plain y e = inl e
own_source items r (Put byte) y e = inl e
own_source items r (Load address word) y e = inl e
own_source items r (Store address was word) y e = inl e
own_source items r (Lr address word) y e = inr (is_has (item_at items address) y e)
own_source items r (ScOk address was word) y e = absurd (let wrong : ⊥ = cc in wrong)
own_source items r (ScFail address) y e = absurd (let wrong : ⊥ = cc in wrong)
own_source items r (Amo address was word) y e = inl e

module _ (s : FlatMachine) (hart victim : ℕ) (m : MachineValue) (op : Op) (was : Before s hart victim m op) where
  abbrev leaf : LeafValue
  leaf = (done s hart victim m op was).place.leaf

  abbrev pub place : LeafAt
  place = (done s hart victim m op was).place

  abbrev after : LeafValue
  after = (done s hart victim m op was).after

  abbrev more : List Op
  more = m.ops ++ op ∷ []

  number_is : op.hart ≡ leaf.number
  number_is = (done s hart victim m op was).new.hart

  runs : leaf.hart.halt ≡ None
  runs = (done s hart victim m op was).retires.at_hand.running

  running_leaf : running leaf.hart ≡ leaf.hart
  running_leaf = ap (λ o. record leaf.hart { halt = o }) (sym runs)

  -- ---- what the flat machine has at the new operation's place

  earlier_same : AllByRecursion (λ (o : Op). less (op_key (depth_of m) o) (leaf_now place) ≡ key_less o.key op.key) m.ops
  earlier_same = each-weaker (OpSeen s hart victim m op was) (λ (o : Op). less (op_key (depth_of m) o) (leaf_now place) ≡ key_less o.key op.key) (λ o i. sym (i.same ∙ ap (less (op_key (depth_of m) o)) (now_is s hart victim m op was))) m.ops (ops_seen s hart victim m op was)

  reserved_before : (x : ℕ) → leaf.reservation ≡ Some x → reservation m.items op.hart (flat_hart s op.hart).reserved (lesser op (sorted_ops m.ops)) ≡ Some x
  reserved_before x e =
      let kept : Holds (if_there (core.keeps_reserved s (depth_of m) m.items m.ops place) (Some x)) = subst (λ o. Holds (if_there (core.keeps_reserved s (depth_of m) m.items m.ops place) o)) e (done s hart victim m op was).fact.reserved in
      ap (λ n. reservation m.items n (flat_hart s n).reserved (lesser op (sorted_ops m.ops))) number_is ∙ ap (reservation m.items leaf.number (flat_hart s leaf.number).reserved) (sym (before_now m.code m.items m.ops op (differ s hart victim m op was) (new s hart victim m op was) (λ o. less (op_key (depth_of m) o) (leaf_now place)) earlier_same)) ∙ has_is (core.reserved_until s (depth_of m) m.items m.ops leaf.number (leaf_now place)) x kept.1

  ready : IsReady m.code m.items s (flat s hart victim m op was) m.ops op leaf
  ready = record {
    hart = ap (λ n. (flat_hart (flat s hart victim m op was) n).hart) number_is ∙ flat_is leaf.hart (flat_hart (flat s hart victim m op was) leaf.number).hart (done s hart victim m op was).fact.follows ∙ running_leaf;
    words = λ x e asked at. ready_words s m x op place e (now_is s hart victim m op was) (own_less s hart victim m op was x) (told x e (((done s hart victim m op was).fact.items x (asks_inside m.code m.items leaf.hart x asked)).copy e at (held x e at)));
    reserved = λ x k. is_has _ x (reserved_before x (has_is leaf.reservation x k));
  } where
    held : (x : ℕ) (e : LeafEntry) → leaf_entry x leaf ≡ Some e → is_held (entry_hold (Some e.state)) ≡ true
    held x e at =
        let h : HasEntry x leaf = awake_entry x leaf e (done s hart victim m op was).retires.at_hand.awake at in
        entry_same_held h.entry e h.held (sym h.at ∙ at) where
          entry_same_held : (f e : LeafEntry) → is_held (entry_hold (Some f.state)) ≡ true → (let o : Option LeafEntry = Some f in o ≡ Some e) → is_held (entry_hold (Some e.state)) ≡ true
          entry_same_held f e k same = let is : f ≡ e = cc in sym (ap (λ (g : LeafEntry). is_held (entry_hold (Some g.state))) is) ∙ k

    told : (x : ℕ) (e : LeafEntry) → CopyOf (KnownCopy s hart victim m op was x) place e → CopyOf (IsToldCopy s m x op) place e
    told x e c = record { copy = c.copy; fact = c.fact.told; place = c.place; words = c.words; tail = c.tail; now = c.now }

  -- ---- the flat machine after

  pub legal_now : IsLegalAfter m.code m.items s (flat s hart victim m op was) m.ops op after
  legal_now = legal_after m.code m.items s (flat s hart victim m op was) m.ops op (key_at_leaf (at_child place.spot) leaf.done) leaf after (whole_words m was.shaped) (differ s hart victim m op was) (new s hart victim m op was) (latest s hart victim m op was) (flat_run s hart victim m op was) ready (done s hart victim m op was).retires

  pub flat_next : flat_after m.code m.items s (sorted_ops more) ≡ legal_now.after
  flat_next = ap (λ o. unwrap_or o s) legal_now.run

  -- ---- each leaf

  -- the leaf's own, after
  abbrev pub own : LeafAt
  own = record { spot = place.spot; leaf = after }

  own_number : after.number ≡ op.hart
  own_number = (done s hart victim m op was).turned.beside.number ∙ sym number_is

  pub own_follows : Holds (core.has_flat_hart legal_now.after own)
  own_follows = is_flat after.hart (flat_hart legal_now.after after.number).hart (ap (λ n. (flat_hart legal_now.after n).hart) own_number ∙ legal_now.hart ∙ ap (λ o. record after.hart { halt = o }) (done s hart victim m op was).turned.beside.runs)

  pub own_halts : Holds (core.halts_as_flat m.code m.items legal_now.after own)
  own_halts = subst (λ o. Holds (if_there (core.halts_next m.code m.items legal_now.after after.number) o)) (sym (done s hart victim m op was).turned.beside.runs) tt

  pub own_counted : Holds (core.has_counted m.ops place) → Holds (core.has_counted more own)
  own_counted h = eq-eqb after.done (op_count after.number more) ((done s hart victim m op was).turned.beside.done ∙ ap (λ n. n + 1) (eqb-true leaf.done (op_count leaf.number m.ops) h ∙ ap (λ n. op_count n m.ops) (sym (own_number ∙ number_is))) ∙ sym (count_yes (is_of after.number) m.ops op (eq-eqb op.hart after.number (sym own_number))))

  own_now : leaf_now own ≡ spot_moment place.spot ++ place.spot.number ∷ (leaf.done + 1) ∷ []
  own_now = ap (λ n. spot_moment place.spot ++ place.spot.number ∷ n ∷ []) (done s hart victim m op was).turned.beside.done

  -- those before the leaf's next `now` are those before the present one, and the new one
  later_same : AllByRecursion (λ (o : Op). less (op_key (depth_of m) o) (leaf_now own) ≡ key_less o.key op.key) m.ops
  later_same = each-weaker (OpSeen s hart victim m op was) (λ (o : Op). less (op_key (depth_of m) o) (leaf_now own) ≡ key_less o.key op.key) one m.ops (ops_seen s hart victim m op was) where
    one : (o : Op) → OpSeen s hart victim m op was o → less (op_key (depth_of m) o) (leaf_now own) ≡ key_less o.key op.key
    one o i =
        ap (less (op_key (depth_of m) o)) own_now ∙ next_same (spot_moment place.spot) place.spot.number leaf.done (op_key (depth_of m) o) (key_length (depth_of m) o.key op.key ∙ ap (λ (k : List ℕ). length k) (now_is s hart victim m op was)) (λ e. apart o i (e ∙ sym (now_is s hart victim m op was))) ∙ sym (i.same ∙ ap (less (op_key (depth_of m) o)) (now_is s hart victim m op was)) where
          apart : (o : Op) → OpSeen s hart victim m op was o → op_key (depth_of m) o ≡ op_key (depth_of m) op → ⊥
          apart o i e = go (nat_eq o.hart op.hart) refl where
            go : (t : Bool) → nat_eq o.hart op.hart ≡ t → ⊥
            go true t = true≢false (sym (sym i.same ∙ i.earlier.own (eqb-true o.hart op.hart t)) ∙ ap (λ k. less k (op_key (depth_of m) op)) e ∙ less-irreflexive (op_key (depth_of m) op))
            go false t = i.earlier.other (eqb-false o.hart op.hart t) (ap key_path e)

  pub own_reserved : Holds (core.keeps_reservation s (depth_of m) m.items m.ops place) → Holds (core.keeps_reservation s (depth_of m) m.items more own)
  own_reserved h = go after.reservation refl where
    held : (y : ℕ) → (leaf.reservation ≡ Some y) ⊎ (on_item m.items y op.effect ≡ true) → is_held (leaf_hold y leaf) ≡ true
    held y (inl e) = (subst (λ o. Holds (if_there (core.keeps_reserved s (depth_of m) m.items m.ops place) o)) e h).0
    held y (inr on) = entry_held y leaf ((done s hart victim m op was).turned.has y on)

    go : (o : Option ℕ) → after.reservation ≡ o → Holds (if_there (core.keeps_reserved s (depth_of m) m.items more own) o)
    go None e = tt
    go (Some y) e =
        let by_own : reserved_by_own m.items leaf.reservation op.effect ≡ Some y = sym (done s hart victim m op was).turned.reservation ∙ e in
        let kept : reserved_by_own m.items (reservation m.items op.hart (flat_hart s op.hart).reserved (lesser op (sorted_ops m.ops))) op.effect ≡ Some y = own_reservation m.items leaf.reservation (reservation m.items op.hart (flat_hart s op.hart).reserved (lesser op (sorted_ops m.ops))) op.effect reserved_before y by_own in
        let here : less (op_key (depth_of m) op) (leaf_now own) ≡ true = ap (λ k. less k (leaf_now own)) (now_is s hart victim m op was) ∙ ap (less (leaf_now place)) own_now ∙ now_rises (spot_moment place.spot) place.spot.number leaf.done in
        (ap is_held (hold_turned m.items op.effect y leaf after ((done s hart victim m op was).turned.entries y)) ∙ held y (own_source m.items leaf.reservation op.effect y by_own), is_has _ y (ap (λ n. core.reserved_until s (depth_of m) m.items more n (leaf_now own)) own_number ∙ own_next m.code m.items m.ops op (differ s hart victim m op was) (new s hart victim m op was) (λ o. less (op_key (depth_of m) o) (leaf_now own)) here later_same (flat_hart s op.hart).reserved ∙ kept))

  -- ---- another leaf

  module _ (a : LeafAt) (off : op.hart ≢ a.leaf.number) where
    other_hart_same : (flat_hart (flat s hart victim m op was) a.leaf.number).hart ≡ (flat_hart legal_now.after a.leaf.number).hart
    other_hart_same = legal_now.others.hart a.leaf.number (λ e. off (sym e))

    pub other_follows : Holds (core.has_flat_hart (flat s hart victim m op was) a) → Holds (core.has_flat_hart legal_now.after a)
    other_follows h = is_flat a.leaf.hart (flat_hart legal_now.after a.leaf.number).hart (sym other_hart_same ∙ flat_is a.leaf.hart (flat_hart (flat s hart victim m op was) a.leaf.number).hart h)

    pub other_halts : Holds (core.has_flat_hart (flat s hart victim m op was) a) → Holds (core.halts_as_flat m.code m.items (flat s hart victim m op was) a) → Holds (core.halts_as_flat m.code m.items legal_now.after a)
    other_halts h k = go a.leaf.hart.halt k where
      halt_none : (flat_hart (flat s hart victim m op was) a.leaf.number).hart.halt ≡ None
      halt_none = ap (λ (u : HartValue). u.halt) (flat_is a.leaf.hart (flat_hart (flat s hart victim m op was) a.leaf.number).hart h)

      go : (o : Option HaltCause) → Holds (if_there (core.halts_next m.code m.items (flat s hart victim m op was) a.leaf.number) o) → Holds (if_there (core.halts_next m.code m.items legal_now.after a.leaf.number) o)
      go None i = tt
      go (Some cause) i = halts_from_ask m.code m.items legal_now.after a.leaf.number cause (ap (λ (u : HartValue). u.halt) (sym other_hart_same) ∙ halt_none) (subst (λ (u : HartValue). AsksHalt m.code m.items u cause) other_hart_same (ask_from_halts m.code m.items (flat s hart victim m op was) a.leaf.number cause halt_none i))

    pub other_counted : Holds (core.has_counted m.ops a) → Holds (core.has_counted more a)
    other_counted h = ap (nat_eq a.leaf.done) (count_no (is_of a.leaf.number) m.ops op (ne_eqb op.hart a.leaf.number off)) ∙ h

  -- the copies of an item: their ends, and what the leaf knows of them where it has the item Exclusive
  pub record EndCopy (y : ℕ) (k : CopyAt) : Type 0 where
    pub late : EndsLater k
    pub beside : IsBesideExclusive y place k

  pub end_copies : AllByRecursion (λ a. (y : ℕ) → y < items_of_machine m → HasItsCopy y (EndCopy y) a) (leaves_at m)
  end_copies = each-family (items_of_machine m) (λ y. HasItsCopy y (EndCopy y)) (leaves_at m) (λ y l. entry_copy y m (EndCopy y) (each-both EndsLater (IsBesideExclusive y place) (EndCopy y) (λ k i j. record { late = i; beside = j }) (copies_of y m) (was.facts y l).late ((done s hart victim m op was).fact.items y l).beside))

  module _ (a : LeafAt) (off : op.hart ≢ a.leaf.number) (apart : is_under (leaf_path place) (leaf_path a) ≡ false) (placed : IsPlaced (depth_of m) a) (ends : (y : ℕ) → y < items_of_machine m → HasItsCopy y (EndCopy y) a) where
    -- an item that the leaf changes: this one's copy ended, and this one isn't past the new operation
    not_yet : (y : ℕ) → is_held (leaf_hold y a.leaf) ≡ true → changed_item m.items op.effect ≡ Some y → less (op_key (depth_of m) op) (leaf_now a) ≡ false
    not_yet y held c =
        let e : HasEntry y a.leaf = held_entry y a.leaf held in
        let k : CopyOf (EndCopy y) a e.entry = ends y (changed_inside m.items op.effect y c) e.entry e.at e.held in
        let apart_k : is_under (leaf_path place) k.copy.place ≡ false = ap (is_under (leaf_path place)) k.place ∙ apart in
        let ended : Holds (core.ended_before k.copy (leaf_now place)) = k.fact.beside.past_end (exclusive s hart victim m op was y (changed_changes m.items op.effect y c)) apart_k (not_over k.copy.place k.place) in
        ap (λ n. less n (leaf_now a)) (now_is s hart victim m op was) ∙ less-asymmetric (leaf_now a) (leaf_now place) (ap (λ n. less n (leaf_now place)) k.now ∙ past_end_later k.copy k.tail (leaf_now place) k.fact.late ended) where
          not_over : (p : List ℕ) → p ≡ leaf_path a → is_under p (leaf_path place) ≡ false
          not_over p e = go (is_under p (leaf_path place)) refl where
            go : (t : Bool) → is_under p (leaf_path place) ≡ t → is_under p (leaf_path place) ≡ false
            go false i = i
            go true i =
                let same : leaf_path a ≡ leaf_path place = under-same (leaf_path a) (leaf_path place) (ap (λ q. is_under q (leaf_path place)) (sym e) ∙ i) (placed-length (depth_of m) a placed ∙ sym (placed-length (depth_of m) place (done s hart victim m op was).new.placed)) in
                absurd (true≢false (sym (ap (is_under (leaf_path place)) same ∙ under-itself (leaf_path place)) ∙ apart))

    pub other_reserved : Holds (core.keeps_reservation s (depth_of m) m.items m.ops a) → Holds (core.keeps_reservation s (depth_of m) m.items more a)
    other_reserved h = go a.leaf.reservation h where
      go : (o : Option ℕ) → Holds (if_there (core.keeps_reserved s (depth_of m) m.items m.ops a) o) → Holds (if_there (core.keeps_reserved s (depth_of m) m.items more a) o)
      go None i = tt
      go (Some y) i = (i.0, is_has _ y (other_reservation m.code m.items m.ops op (differ s hart victim m op was) (new s hart victim m op was) a.leaf.number y (flat_hart s a.leaf.number).reserved (λ o. less (op_key (depth_of m) o) (leaf_now a)) off (not_yet y i.0) (has_is _ y i.1)))
