-- A bus's turn keeps the rule of reservations, from what is known of the copy of an entry that a leaf keeps.
-- Letters: a is a leaf before, b the same one after, y the item that it has reserved.
use Rattle.std.proofs.Common.{◌≡◌, ℕ, ◌<◌, ◌≤◌, Bool, true, false, List, [], ◌∷◌, ◌++◌, length, filter, option_map, Option, None, Some, IfSome, refl, sym, ap, subst, ◌∙◌, ◌⊎◌, inl, inr, arith}
use Rattle.std.specs.List.{AllByRecursion}
use Rattle.std.proofs.lemmas.Bool.{cases_lt, eq-eqb, eqb-true, true≢false}
use Rattle.order_laws.specs.DdmTypes.declared.operations.Op.{Op}
use Rattle.order_laws.specs.DdmTypes.declared.turns.Turn.{Turn}
use Rattle.order_laws.specs.FlatModel.Flat.{FlatMachine, flat_hart, has_reserved}
use Rattle.order_laws.specs.FlatModel.Legal.{reservation}
use Rattle.order_laws.specs.TreeModel.State.Values.{MachineValue, LeafValue}
use Rattle.order_laws.specs.TreeModel.State.Leaf.{LeafEntry, leaf_entry, leaf_hold, entry_state}
use Rattle.order_laws.specs.TreeModel.State.States.{entry_hold, is_held}
use Rattle.order_laws.specs.TreeModel.State.Shape.{depth_of, IsShaped}
use Rattle.order_laws.specs.TreeModel.Turns.Witness.{sorted_ops}
use Rattle.order_laws.proofs.TreeModel.FrameKept.{turn-shape}
use Rattle.order_laws.specs.TreeRules.Statements.{Holds, if_there, each}
use Rattle.order_laws.specs.TreeRules.Bus.Rules.{items_of_machine, IsMachineOk}
use Rattle.order_laws.specs.TreeRules.Order.Copies.{CopyAt, copies_of}
use Rattle.order_laws.specs.TreeRules.Order.Core as core
use Rattle.order_laws.specs.TreeRules.Order.Moments.{less, before, moment_at, spot_moment}
use Rattle.order_laws.specs.TreeRules.Order.Ops.{op_key, op_path}
use Rattle.order_laws.specs.TreeRules.Order.Time.{is_before_now}
use Rattle.order_laws.specs.TreeRules.Order.Places.{LeafAt, leaf_path, leaf_now, leaves_at, dirs_at}
use Rattle.order_laws.specs.TreeRules.Order.Rules.{commands_past_taken, reservations_kept, clocks_know, IsTimed, IsCore}
use Rattle.order_laws.proofs.TreeRules.Statements.{each-facts}
use Rattle.order_lists.proofs.Filters.{each-both, each-weaker}
use Rattle.order_lists.proofs.Ends.{IsTimely}
use Rattle.order_lists.proofs.Moments.{less-least}
use Rattle.order_lists.proofs.Sorted.{sorted-each}
use Rattle.order_lists.proofs.Stamps.{same_length}
use Rattle.order_lists.proofs.State.{copies_timely, ops_at_depth}
use Rattle.order_laws.specs.Grant.{after_bus, CommandsPastAfter, ReservationsAfter, ClaimsAfterCopies}
use Rattle.order_laws.specs.Moves.CopiesMoved.{IsBusTurn}
use Rattle.order_laws.specs.Moves.HeldWords.{held_words}
use Rattle.order_laws.specs.Moves.LeavesKept.{LeafKept}
use Rattle.order_laws.specs.Moves.Moved.{In}
use Rattle.order_laws.proofs.Hart.Completed.{IsKnownLeaf, known_leaves}
use Rattle.order_laws.proofs.Hart.CoreParts.{core_of}
use Rattle.order_laws.specs.Pairs.{Pairs}
use Rattle.order_laws.proofs.Hart.EndsShort.{IsLong, ends_short}
use Rattle.order_laws.proofs.Hart.Facts.{EndsLater}
use Rattle.order_laws.proofs.Hart.LeafPlaces.{placed-length}
use Rattle.order_laws.proofs.Hart.Ready.{HasItsCopy, CopyOf, entry_copy}
use Rattle.order_laws.proofs.Hart.Seen.{each-family, changed_inside}
use Rattle.order_laws.proofs.Moves.Below.{ops-by_leaves}
use Rattle.order_laws.proofs.Moves.CopiesMoved.{reservations-kept}
use Rattle.order_laws.proofs.Moves.Sources.{each-in}
use Rattle.order_laws.proofs.Grant.Kept.{same-frame, grant-core}
use Rattle.order_laws.proofs.Grant.Reserved.{IsBetween, reserved-later, least-behind, IsOnlyAt, one_of_path, IsOwnBefore, between}

-- ---- lists

pub each-member : {X : Type 0} (xs : List X) → AllByRecursion (λ x. In x xs) xs
each-member [] = tt
each-member (x ∷ xs) = (inl refl, each-weaker (λ z. In z xs) (λ z. In z (x ∷ xs)) (λ z h. inr h) xs (each-member xs))

-- ---- entries

held-by_words : (y : ℕ) (v w : LeafValue) → held_words (leaf_entry y w) ≡ held_words (leaf_entry y v) → is_held (leaf_hold y v) ≡ true → is_held (leaf_hold y w) ≡ true
unfolding leaf_hold
held-by_words y v w = go (leaf_entry y v) (leaf_entry y w) where
  go : (o p : Option LeafEntry) → held_words p ≡ held_words o → is_held (entry_hold (option_map entry_state o)) ≡ true → is_held (entry_hold (option_map entry_state p)) ≡ true
  go None p words h = cc
  go (Some e) None words h = absurd (let none : [] ≡ e.words ∷ [] = rw h at words in let wrong : ⊥ = cc in wrong)
  go (Some e) (Some f) words h = by (is_held (entry_hold (Some f.state))) refl where
    by : (t : Bool) → is_held (entry_hold (Some f.state)) ≡ t → is_held (entry_hold (Some f.state)) ≡ true
    by true is = is
    by false is = absurd (let none : [] ≡ e.words ∷ [] = rw (h, is) at words in let wrong : ⊥ = cc in wrong)

pub record HeldEntry (y : ℕ) (v : LeafValue) : Type 0 where
  pub entry : LeafEntry
  pub is : leaf_entry y v ≡ Some entry
  pub held : is_held (entry_hold (Some entry.state)) ≡ true

pub held-entry : (y : ℕ) (v : LeafValue) → is_held (leaf_hold y v) ≡ true → HeldEntry y v
unfolding leaf_hold
held-entry y v h = go (leaf_entry y v) refl h where
  go : (o : Option LeafEntry) → leaf_entry y v ≡ o → is_held (entry_hold (option_map entry_state o)) ≡ true → HeldEntry y v
  go None is held = cc
  go (Some e) is held = record { entry = e; is = is; held = held }

pub reserved-is : (q : Option ℕ) (y : ℕ) → has_reserved q y ≡ true → q ≡ Some y
reserved-is None y h = cc
reserved-is (Some z) y h = ap Some (eqb-true z y h)

-- ---- the copies at a leaf's place

-- a copy after comes from that of the leaf's own entry before, and has ended where that had
pub record FromOwn (x : ℕ) (m : MachineValue) (a : LeafAt) (k' : CopyAt) : Type 0 where
  pub source : CopyAt
  pub there : In source (copies_of x m)
  pub place : source.place ≡ leaf_path a
  pub clock : source.clock ≡ spot_moment a.spot
  pub ended : (key : List ℕ) → Holds (core.ended_before source key) → Holds (core.ended_before k' key)

-- where a leaf held an item, each copy at its place afterwards comes from its own entry
abbrev pub OwnCopyStays : MachineValue → Turn → LeafAt → LeafAt → Type 0
OwnCopyStays m t a b = (x : ℕ) → x < items_of_machine m → is_held (leaf_hold x a.leaf) ≡ true → AllByRecursion (λ k. k.place ≡ leaf_path b → FromOwn x m a k) (copies_of x (after_bus t m))

abbrev pub OwnCopiesStay : MachineValue → Turn → Type 0
OwnCopiesStay m t = Pairs (OwnCopyStays m t) (leaves_at m) (leaves_at (after_bus t m))

-- ---- one leaf

module _ (s : FlatMachine) (m : MachineValue) (t : Turn) (order : IsCore s m) where
  abbrev next : MachineValue
  next = after_bus t m

  abbrev depth : ℕ
  depth = depth_of m

  pub record IsReadyBefore (a : LeafAt) : Type 0 where
    pub own : AllByRecursion (IsOwnBefore depth a) m.ops
    pub deep : length a.spot.above < 4

  -- the copy of each entry afterwards
  abbrev IsLateCopy : ℕ → CopyAt → Type 0
  IsLateCopy x k = EndsLater k × In k (copies_of x next)

  abbrev IsReadyAfter : LeafAt → Type 0
  IsReadyAfter b = (x : ℕ) → x < items_of_machine m → HasItsCopy x (IsLateCopy x) b

  module _ (a b : LeafAt) (k : LeafKept a b) (ready : IsReadyBefore a) (after : IsReadyAfter b) (stays : OwnCopyStays m t a b) where
    rises : less (leaf_now b) (leaf_now a) ≡ false
    rises =
        let lengths : length (spot_moment a.spot) ≡ length (spot_moment b.spot) = same_length a.spot.above a.spot.present b.spot.present ready.deep ∙ ap (λ l. length (moment_at l b.spot.present)) (sym k.above) in
        ap (λ n. less (spot_moment b.spot ++ n ∷ b.leaf.done ∷ []) (leaf_now a)) k.number ∙ ap (λ n. less (spot_moment b.spot ++ a.spot.number ∷ n ∷ []) (leaf_now a)) k.leaf.done ∙ least-behind (spot_moment a.spot) (spot_moment b.spot) (a.spot.number ∷ a.leaf.done ∷ []) lengths k.moment

    abbrev Between : ℕ → Op → Type 0
    Between y = IsBetween m.items a.leaf.number y (λ o. less (op_key depth o) (leaf_now a)) (λ o. less (op_key depth o) (leaf_now b))

    all-between : (y : ℕ) → y < items_of_machine m → is_held (leaf_hold y a.leaf) ≡ true → held_words (leaf_entry y b.leaf) ≡ held_words (leaf_entry y a.leaf) → AllByRecursion (Between y) m.ops
    all-between y low held words =
        let e : HeldEntry y b.leaf = held-entry y b.leaf (held-by_words y a.leaf b.leaf words held) in
        let c : CopyOf (IsLateCopy y) b e.entry = after y low e.entry e.is e.held in
        let from : FromOwn y m a c.copy = each-in (λ k. k.place ≡ leaf_path b → FromOwn y m a k) c.copy (copies_of y next) (stays y low held) c.fact.1 c.place in
        let knows : Holds (each (core.knows_change depth m.items y from.source) m.ops) = each-in (λ k. Holds (each (core.knows_change depth m.items y k) m.ops)) from.source (copies_of y m) (each-facts (λ k. each (core.knows_change depth m.items y k) m.ops) (copies_of y m) (order.copies y low clocks_know)) from.there in
        each-both (IsOwnBefore depth a) (λ o. Holds (core.knows_change depth m.items y from.source o)) (Between y) (λ o own known. between depth m.items y a b from.source c.copy from.ended from.place from.clock c.tail c.now c.fact.0 rises o own known) m.ops ready.own (each-facts (core.knows_change depth m.items y from.source) m.ops knows)

    -- no operation on an item that isn't there
    none-beside : (y : ℕ) → items_of_machine m ≤ y → AllByRecursion (Between y) m.ops
    none-beside y high = each-weaker (IsOwnBefore depth a) (Between y) (λ o own. record {
      more = λ was. less-least (op_key depth o) (leaf_now a) (leaf_now b) was rises;
      leaves = λ was is. (λ e. true≢false (sym (own.hart (eq-eqb o.hart a.leaf.number e)) ∙ was), λ e. let low : y < items_of_machine m = changed_inside m.items o.effect y e in omega (arith, low, high));
    }) m.ops ready.own

    any-between : (y : ℕ) → is_held (leaf_hold y a.leaf) ≡ true → held_words (leaf_entry y b.leaf) ≡ held_words (leaf_entry y a.leaf) → AllByRecursion (Between y) m.ops
    any-between y held words = go (cases_lt y (items_of_machine m)) where
      go : (y < items_of_machine m) ⊎ (items_of_machine m ≤ y) → AllByRecursion (Between y) m.ops
      go (inl low) = all-between y low held words
      go (inr high) = none-beside y high

    -- what the leaf before keeps, the leaf after keeps
    keeps-still : (y : ℕ) → b.leaf.reservation ≡ Some y → Holds (core.keeps_reservation s depth m.items m.ops a) → Holds (core.keeps_reserved s depth m.items m.ops b y)
    keeps-still y is h =
        let was = k.leaf.reserved y is in
        let kept : Holds (core.keeps_reserved s depth m.items m.ops a y) = subst (λ o. Holds (if_there (core.keeps_reserved s depth m.items m.ops a) o)) was.0 h in
        let words : held_words (leaf_entry y b.leaf) ≡ held_words (leaf_entry y a.leaf) = was.1 kept.0 in
        let r : Option ℕ = (flat_hart s a.leaf.number).reserved in
        let flat : reservation m.items a.leaf.number r (filter (λ o. less (op_key depth o) (leaf_now a)) (sorted_ops m.ops)) ≡ Some y = reserved-is _ y kept.1 in
        let later : reservation m.items a.leaf.number r (filter (λ o. less (op_key depth o) (leaf_now b)) (sorted_ops m.ops)) ≡ Some y = reserved-later m.items a.leaf.number y (λ o. less (op_key depth o) (leaf_now a)) (λ o. less (op_key depth o) (leaf_now b)) r [] (sorted_ops m.ops) (sorted-each (Between y) m.ops (any-between y kept.0 words)) flat in
        (held-by_words y a.leaf b.leaf words kept.0, ap (λ n. has_reserved (core.reserved_until s depth m.items m.ops n (leaf_now b)) y) k.leaf.number ∙ ap (λ q. has_reserved q y) later ∙ eq-eqb y y refl)

    pub reservation-still : Holds (core.keeps_reservation s depth m.items m.ops a) → Holds (core.keeps_reservation s depth m.items m.ops b)
    reservation-still h = go b.leaf.reservation refl where
      go : (o : Option ℕ) → b.leaf.reservation ≡ o → Holds (if_there (core.keeps_reserved s depth m.items m.ops b) o)
      go None is = tt
      go (Some y) is = keeps-still y is h

  -- ---- all leaves

  reservations-still : (xs ys : List LeafAt) → Pairs LeafKept xs ys → Pairs (OwnCopyStays m t) xs ys → AllByRecursion IsReadyBefore xs → AllByRecursion IsReadyAfter ys → Holds (each (core.keeps_reservation s depth m.items m.ops) xs) → Holds (each (core.keeps_reservation s depth m.items m.ops) ys)
  reservations-still [] [] k o r f h = tt
  reservations-still [] (b ∷ ys) k o r f h = absurd k
  reservations-still (a ∷ xs) [] k o r f h = absurd k
  reservations-still (a ∷ xs) (b ∷ ys) k o r f h = (reservation-still a b k.0 r.0 f.0 o.0 h.0, reservations-still xs ys k.1 o.1 r.1 f.1 h.1)

  module _ (shaped : IsShaped m) (ok : IsMachineOk m) (timed : IsTimed m) where
    ready-before : AllByRecursion IsReadyBefore (leaves_at m)
    ready-before = each-both (IsKnownLeaf 0 0 m) (λ a. AllByRecursion (IsOnlyAt a) (leaves_at m)) IsReadyBefore one (leaves_at m) (known_leaves 0 0 m shaped ok timed) (one_of_path m) where
      one : (a : LeafAt) → IsKnownLeaf 0 0 m a → AllByRecursion (IsOnlyAt a) (leaves_at m) → IsReadyBefore a
      one a known only = record { own = own; deep = let l : length a.spot.above ≤ 3 = known.placed.deep in omega (arith, l) } where
        paths : AllByRecursion (λ o. op_path depth o ≡ leaf_path a → less (op_key depth o) (leaf_now a) ≡ true) m.ops
        paths = ops-by_leaves m timed (λ o. op_path depth o ≡ leaf_path a → less (op_key depth o) (leaf_now a) ≡ true) (IsOnlyAt a) (λ o c path now same e. subst (λ u. less (op_key depth o) (leaf_now u) ≡ true) (same (sym path ∙ e)) now) only

        own : AllByRecursion (IsOwnBefore depth a) m.ops
        own = each-both (λ o. Holds (is_before_now depth o a)) (λ o. (op_path depth o ≡ leaf_path a → less (op_key depth o) (leaf_now a) ≡ true) × (length (op_path depth o) ≡ depth)) (IsOwnBefore depth a) (λ o i j. record { hart = i; path = j.0; size = j.1 ∙ sym (placed-length depth a known.placed) }) m.ops known.before
            (each-both (λ o. op_path depth o ≡ leaf_path a → less (op_key depth o) (leaf_now a) ≡ true) (λ o. length (op_path depth o) ≡ depth) _ (λ o i j. (i, j)) m.ops paths (ops_at_depth m shaped timed))

    module _ (timed_after : IsTimed next) (past_after : CommandsPastAfter s m t) where
      shaped_after : IsShaped next
      shaped_after = turn-shape t m shaped

      late : (x : ℕ) → AllByRecursion EndsLater (copies_of x next)
      late x = each-both (IsTimely []) (IsLong 0) EndsLater one (copies_of x next) (copies_timely next shaped_after timed_after past_after x) (ends_short next shaped_after x) where
        one : (k : CopyAt) → IsTimely [] k → IsLong 0 k → EndsLater k
        one k i l = go k.end i.end l.end where
          go : (o : Option (List ℕ)) → IfSome o (λ e. before k.clock e ≡ true) → IfSome o (λ e. length e ≤ length k.clock) → IfSome o (λ e. (before k.clock e ≡ true) × (length e ≤ length k.clock))
          go None i j = tt
          go (Some e) i j = (i, j)

      ready-after : AllByRecursion IsReadyAfter (leaves_at next)
      ready-after = each-family (items_of_machine m) (λ x b. HasItsCopy x (IsLateCopy x) b) (leaves_at next) (λ x low. entry_copy x next (IsLateCopy x) (each-both EndsLater (λ k. In k (copies_of x next)) (IsLateCopy x) (λ k i j. (i, j)) (copies_of x next) (late x) (each-member (copies_of x next))))

      -- the rule after a bus's turn
      pub reservations-after : IsBusTurn t → OwnCopiesStay m t → ReservationsAfter s m t
      reservations-after bus stays = same-frame s m t bus (λ code items depth ops. Holds (core_of s code items depth reservations_kept (leaves_at next) (dirs_at next) ops)) (reservations-still (leaves_at m) (leaves_at next) (reservations-kept m shaped ok timed (order.each commands_past_taken) t bus) stays ready-before ready-after (order.each reservations_kept))

-- and so all core rules
pub core-after-bus : (s : FlatMachine) (m : MachineValue) (t : Turn) → IsShaped m → IsMachineOk m → IsTimed m → IsTimed (after_bus t m) → IsBusTurn t → CommandsPastAfter s m t → OwnCopiesStay m t → ClaimsAfterCopies s m t → IsCore s m → IsCore s (after_bus t m)
core-after-bus s m t shaped ok timed timed_after bus commands stays claims core = grant-core s m t shaped ok timed bus commands (reservations-after s m t core shaped ok timed timed_after commands bus stays) claims core
