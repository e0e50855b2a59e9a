-- The entries of a leaf, one by one: what the leaf's own rules say of them, and what stands where after a change of one item's
-- entry.
use Rattle.std.proofs.Common.{◌≡◌, ℕ, zero, suc, ◌+◌, ◌%◌, ◌<◌, Bool, true, false, List, [], ◌∷◌, ◌++◌, map, length, Option, Some, None, refl, sym, subst, ◌∙◌, zero-add, arith}
use Rattle.std.specs.Prelude.{not, ◌&&◌, nat_eq, nat_lt, is_none, find, option_map, slice_index_or}
use Rattle.std.specs.List.{All, list_any, list_all}
use Rattle.std.specs.Cmp.Derive.{both_true}
use Rattle.std.proofs.lemmas.Bool.{eqb-true, eqb-false, eq-eqb, ne_eqb, ltb-true, lt-ltb, not-true, and_parts, or_parts}
use Rattle.std.proofs.lemmas.List.{get_or_default}
use Rattle.std.proofs.lemmas.List.Elements.{All-nil, All-cons, All-head, All-tail}
use Rattle.std.proofs.lemmas.List.Sums.{AllPass-from_list_all, list_all-from_AllPass}
use Rattle.bus_laws.specs.DdmTypes.declared.sizes.LeafState.{LeafState}
use Rattle.bus_laws.specs.TreeModel.State.Lists.{all_from, find_from, first_some}
use Rattle.bus_laws.specs.FlatModel.Flat.{has_reserved}
use Rattle.bus_laws.specs.TreeModel.State.States.{is_waiting}
use Rattle.bus_laws.specs.TreeModel.State.Rooms.{leaf_within}
use Rattle.bus_laws.specs.TreeModel.State.Shape.{are_distinct}
use Rattle.bus_laws.specs.TreeModel.State.Values.{WayValue, BufferValue, LeafSizes, LeafValue}
use Rattle.bus_laws.specs.TreeModel.State.Leaf.{way_at, buffer_item, is_buffered, buffered, entry_state, entry_at, state_at, way_waits, buffer_waits, waiting_item, stands_in}
use Rattle.bus_laws.proofs.TreeModel.Children.{found-passes, none-passes}
use Rattle.tree_rules.specs.Bus.Own.{LeafRule, has_ways, leaf_lists, ways_fit, ways_alone, buffer_fit, buffered_once, one_waiting, slot_fits, leaf_replies, reservation_fits, leaf_test, IsLeafOk, copy_fits, state_waits, waits_alone, slot_suits, reserves_below, words_suit, way_fits, buffer_fits, same_if_there, has_way_alone}
use Rattle.bus_laws.proofs.TreeModel.Tests.{first_some-none_first, first_some-none_second, first_some-either}
use Rattle.tree_rules.proofs.Lists.{range-from_each, each-from_range}
use Rattle.tree_rules.proofs.Implying.{implies-use, implies-by, implies-false}

-- ---- tests of a list, place by place

module _ {X : Type 0} where
  pub all_from-at : (t : ℕ → X → Bool) (d : X) → ((i : ℕ) → t i d ≡ true) → (i : ℕ) (xs : List X) → all_from t i xs ≡ true → (k : ℕ) → t (i + k) (slice_index_or xs k d) ≡ true
  all_from-at t d past i [] h k = past (i + k)
  all_from-at t d past i (x ∷ xs) h zero =
      let same : i + 0 ≡ i = omega arith in
      rw same (and_parts (t i x) (all_from t (i + 1) xs) h).0
  all_from-at t d past i (x ∷ xs) h (suc k) =
      let same : i + suc k ≡ (i + 1) + k = omega arith in
      rw same (all_from-at t d past (i + 1) xs (and_parts (t i x) (all_from t (i + 1) xs) h).1 k)

  pub all_from-each : (t : ℕ → X → Bool) (d : X) (i : ℕ) (xs : List X) → ((k : ℕ) → k < length xs → t (i + k) (slice_index_or xs k d) ≡ true) → all_from t i xs ≡ true
  all_from-each t d i [] h = refl
  all_from-each t d i (x ∷ xs) h =
      let same : i + 0 ≡ i = omega arith in
      let first : t (i + 0) x ≡ true = h 0 (omega arith) in
      let first' : t i x ≡ true = rw same at first in
      both_true first' (all_from-each t d (i + 1) xs (λ k l.
      let next : i + suc k ≡ (i + 1) + k = omega arith in
      let later : t (i + suc k) (slice_index_or xs k d) ≡ true = h (suc k) (omega arith) in
      subst (λ j. t j (slice_index_or xs k d) ≡ true) next later))

  pub find-fails : (t : X → Bool) (xs : List X) → All (λ x. t x ≡ false) xs → find t xs ≡ None
  find-fails t [] h = refl
  find-fails t (x ∷ xs) h =
      let first : t x ≡ false = All-head (λ y. t y ≡ false) x xs h in
      rw first (find-fails t xs (All-tail (λ y. t y ≡ false) x xs h))

  pub fails-find : (t : X → Bool) (xs : List X) → find t xs ≡ None → All (λ x. t x ≡ false) xs
  fails-find t [] h = All-nil (λ x. t x ≡ false)
  fails-find t (x ∷ xs) h =
      elim (t x) as (λ b. t x ≡ b → All (λ y. t y ≡ false) (x ∷ xs)) [
        | true ↦ λ is.
            let found : Some x ≡ None = rw is at h in
            cc
        | false ↦ λ other. All-cons (λ y. t y ≡ false) x xs other (fails-find t xs (rw other at h))
      ] refl

  pub find-holds : (P : X → Type 0) (t : X → Bool) (xs : List X) (x : X) → All P xs → find t xs ≡ Some x → P x × (t x ≡ true)
  find-holds P t [] x all h = cc
  find-holds P t (y ∷ ys) x all h =
      elim (t y) as (λ b. t y ≡ b → P x × (t x ≡ true)) [
        | true ↦ λ is.
            let found : Some y ≡ Some x = rw is at h in
            let same : y ≡ x = cc in
            subst (λ z. P z × (t z ≡ true)) same (All-head P y ys all, is)
        | false ↦ λ other. find-holds P t ys x (All-tail P y ys all) (rw other at h)
      ] refl

  pub find-append : (t : X → Bool) (xs ys : List X) → find t (xs ++ ys) ≡ first_some (find t xs) (find t ys)
  find-append t [] ys = refl
  find-append t (x ∷ xs) ys =
      elim (t x) as (λ b. t x ≡ b → find t (x ∷ xs ++ ys) ≡ first_some (find t (x ∷ xs)) (find t ys)) [ true ↦ λ is. rw is refl | false ↦ λ other. rw other (find-append t xs ys) ] refl

-- ---- the entries of a leaf

-- an entry of the buffer: its item stands in no way
pub record StandsAside (n : ℕ) (ways : List (Option WayValue)) (e : BufferValue) : Type 0 where
  pub known : e.item < n
  pub alone : way_at e.item ways ≡ None
  pub words : words_suit e.state e.words ≡ true

pub record HasEntries (n : ℕ) (sizes : LeafSizes) (ways : List (Option WayValue)) (buffer : List BufferValue) : Type 0 where
  pub count : length ways ≡ n
  pub fits : (x : ℕ) (e : WayValue) → way_at x ways ≡ Some e → (e.way < sizes.way_count) × (words_suit e.state e.words ≡ true)
  -- two items don't stand in one way of one set
  pub alone : (x y : ℕ) (e f : WayValue) → way_at x ways ≡ Some e → way_at y ways ≡ Some f → y % sizes.sets ≡ x % sizes.sets → f.way ≡ e.way → x ≡ y
  pub aside : All (StandsAside n ways) buffer
  pub once : are_distinct (map buffer_item buffer) ≡ true

-- an item with an entry in a way is one of the n
pub way-within : (x : ℕ) (ways : List (Option WayValue)) (e : WayValue) → way_at x ways ≡ Some e → x < length ways
way-within x [] e h = cc
way-within zero (o ∷ ways) e h = omega arith
way-within (suc x) (o ∷ ways) e h =
    let rest = way-within x ways e h in
    omega arith

is_none-fact : {X : Type 0} (o : Option X) → is_none o ≡ true → o ≡ None
is_none-fact None h = refl
is_none-fact (Some x) h = cc

stands-test : (sets x way y : ℕ) (e : WayValue) → y % sets ≡ x % sets → e.way ≡ way → stands_in sets x way y (Some e) ≡ true
stands-test sets x way y e set there = both_true (eq-eqb _ _ set) (eq-eqb _ _ there)

pub entries-from_rules : (n : ℕ) (v : LeafValue) → IsLeafOk n v → HasEntries n v.sizes v.ways v.buffer
entries-from_rules n v ok =
    let lists = and_parts (nat_eq (length v.ways) n) _ (ok.each leaf_lists) in
    record {
      count = eqb-true _ _ lists.0;
      fits = λ x e is.
          let test : way_fits v.sizes.way_count (way_at x v.ways) ≡ true = all_from-at (λ i. way_fits v.sizes.way_count) None (λ i. refl) 0 v.ways (each-way (ok.each ways_fit)) x in
          let here : way_fits v.sizes.way_count (Some e) ≡ true = rw is at test in
          let parts = and_parts (nat_lt e.way v.sizes.way_count) (words_suit e.state e.words) here in
          (ltb-true _ _ parts.0, parts.1);
      alone = λ x y e f at_x at_y set there.
          let here : has_way_alone v (0 + x) (way_at x v.ways) ≡ true = all_from-at (has_way_alone v) None (λ i. refl) 0 v.ways (ok.each ways_alone) x in
          let same : 0 + x ≡ x = omega arith in
          let mine : has_way_alone v x (Some e) ≡ true = rw (same, at_x) at here in
          let other : same_if_there v.sizes.sets x e.way (0 + y) (way_at y v.ways) ≡ true = all_from-at (same_if_there v.sizes.sets x e.way) None (λ i. implies-false (nat_eq x i)) 0 v.ways mine y in
          let same_y : 0 + y ≡ y = omega arith in
          let one : same_if_there v.sizes.sets x e.way y (Some f) ≡ true = rw (same_y, at_y) at other in
          eqb-true _ _ (implies-use (stands_in v.sizes.sets x e.way y (Some f)) (nat_eq x y) one (stands-test v.sizes.sets x e.way y f set there));
      aside = λ k d l.
          let e : BufferValue = slice_index_or v.buffer k d in
          let test : buffer_fits n v e ≡ true = AllPass-from_list_all (buffer_fits n v) v.buffer (ok.each buffer_fit) k d l in
          let parts = and_parts (nat_lt e.item n) (is_none (way_at e.item v.ways) && words_suit e.state e.words) test in
          let rest = and_parts (is_none (way_at e.item v.ways)) (words_suit e.state e.words) parts.1 in
          record { known = ltb-true _ _ parts.0; alone = is_none-fact _ rest.0; words = rest.1 };
      once = ok.each buffered_once;
    } where
      each-way : list_all (way_fits v.sizes.way_count) v.ways ≡ true → all_from (λ i. way_fits v.sizes.way_count) 0 v.ways ≡ true
      each-way h = go 0 v.ways h where
        go : (i : ℕ) (ways : List (Option WayValue)) → list_all (way_fits v.sizes.way_count) ways ≡ true → all_from (λ i. way_fits v.sizes.way_count) i ways ≡ true
        go i [] h = refl
        go i (o ∷ ways) h =
            let parts = and_parts (way_fits v.sizes.way_count o) (list_all (way_fits v.sizes.way_count) ways) h in
            both_true parts.0 (go (i + 1) ways parts.1)

abbrev pub state_in : ℕ → List (Option WayValue) → List BufferValue → Option LeafState
state_in x ways buffer = option_map entry_state (entry_at x ways buffer)

-- ---- who waits

-- in a list whose items differ each entry is the one of its item
pub found-itself : (t : BufferValue → Bool) (buffer : List BufferValue) (e : BufferValue) → are_distinct (map buffer_item buffer) ≡ true → find t buffer ≡ Some e → buffered e.item buffer ≡ Some e
found-itself t [] e once h = cc
found-itself t (b ∷ bs) e once h =
    let parts = and_parts (not (list_any (nat_eq b.item) (map buffer_item bs))) (are_distinct (map buffer_item bs)) once in
    elim (t b) as (λ c. t b ≡ c → buffered e.item (b ∷ bs) ≡ Some e) [
      | true ↦ λ is.
          let found : Some b ≡ Some e = rw is at h in
          let same : b ≡ e = cc in
          subst (λ (f : BufferValue). buffered f.item (b ∷ bs) ≡ Some f) same (rw (eq-eqb b.item b.item refl) refl)
      | false ↦ λ other.
          let found : find t bs ≡ Some e = rw other at h in
          let differs : nat_eq b.item e.item ≡ false = (find-holds (λ (f : BufferValue). nat_eq b.item f.item ≡ false) t bs e (others b.item bs (not-true _ parts.0)) found).0 in
          let back : nat_eq e.item b.item ≡ false = ne_eqb _ _ (λ same. eqb-false _ _ differs (sym same)) in
          rw back (found-itself t bs e parts.1 found)
    ] refl where
      others : (x : ℕ) (bs : List BufferValue) → list_any (nat_eq x) (map buffer_item bs) ≡ false → All (λ (f : BufferValue). nat_eq x f.item ≡ false) bs
      others x [] h = All-nil (λ (f : BufferValue). nat_eq x f.item ≡ false)
      others x (b ∷ bs) h =
          let parts = or_parts (nat_eq x b.item) (list_any (nat_eq x) (map buffer_item bs)) h in
          All-cons (λ (f : BufferValue). nat_eq x f.item ≡ false) b bs parts.0 (others x bs parts.1)

-- where nobody is found to wait, nobody does
pub waiting-none : (ways : List (Option WayValue)) (buffer : List BufferValue) → waiting_item ways buffer ≡ None → (y : ℕ) → state_waits (state_in y ways buffer) ≡ false
unfolding waiting_item entry_at
waiting-none ways buffer none y =
    let no_way : find_from way_waits 0 ways ≡ None = first_some-none_first _ _ none in
    let no_buffer : option_map buffer_item (find buffer_waits buffer) ≡ None = first_some-none_second _ _ none in
    elim (way_at y ways) as (λ o. way_at y ways ≡ o → state_waits (state_in y ways buffer) ≡ false) [
      | Some e ↦ λ is.
          let fails : way_waits y (way_at y ways) ≡ false = none-passes way_waits y ways None no_way (way-within y ways e is) in
          let mine : is_waiting e.state ≡ false = rw is at fails in
          rw is mine
      | None ↦ λ no.
          elim (buffered y buffer) as (λ o. buffered y buffer ≡ o → state_waits (state_in y ways buffer) ≡ false) [
            | Some e ↦ λ is.
                let mine : buffer_waits e ≡ false = (find-holds (λ f. buffer_waits f ≡ false) (is_buffered y) buffer e (fails-find buffer_waits buffer (map-none _ _ no_buffer)) is).0 in
                rw (no, is) mine
            | None ↦ λ is. rw (no, is) refl
          ] refl
    ] refl where
      map-none : {X Y : Type 0} (f : X → Y) (o : Option X) → option_map f o ≡ None → o ≡ None
      map-none f None h = refl
      map-none f (Some x) h = cc

-- who is found to wait does
pub waiting-some : (n : ℕ) (sizes : LeafSizes) (ways : List (Option WayValue)) (buffer : List BufferValue) → HasEntries n sizes ways buffer → (y : ℕ) → waiting_item ways buffer ≡ Some y → state_waits (state_in y ways buffer) ≡ true
unfolding waiting_item entry_at
waiting-some n sizes ways buffer has y some = first_some-either (λ z. state_waits (state_in z ways buffer) ≡ true) (find_from way_waits 0 ways) (option_map buffer_item (find buffer_waits buffer)) in_way in_buffer y some
  where
    in_way : (z : ℕ) → find_from way_waits 0 ways ≡ Some z → state_waits (state_in z ways buffer) ≡ true
    in_way z found =
        let passes : way_waits z (way_at z ways) ≡ true = found-passes way_waits z ways None found in
        elim (way_at z ways) as (λ o. way_at z ways ≡ o → state_waits (state_in z ways buffer) ≡ true) [
          | Some e ↦ λ is.
              let mine : is_waiting e.state ≡ true = rw is at passes in
              rw is mine
          | None ↦ λ no.
              let wrong : false ≡ true = rw no at passes in
              cc
        ] refl

    in_buffer : (z : ℕ) → option_map buffer_item (find buffer_waits buffer) ≡ Some z → state_waits (state_in z ways buffer) ≡ true
    in_buffer z found =
        elim (find buffer_waits buffer) as (λ o. find buffer_waits buffer ≡ o → state_waits (state_in z ways buffer) ≡ true) [
          | None ↦ λ no.
              let wrong : None ≡ Some z = rw no at found in
              cc
          | Some e ↦ λ is.
              let named : Some e.item ≡ Some z = rw is at found in
              let same : e.item ≡ z = cc in
              let held = find-holds (StandsAside n ways) buffer_waits buffer e has.aside is in
              subst (λ k. state_waits (state_in k ways buffer) ≡ true) same (rw (held.0.alone, found-itself buffer_waits buffer e has.once is) held.1)
        ] refl

pub waits_alone-from : (n : ℕ) (v : LeafValue) → HasEntries n v.sizes v.ways v.buffer → ((y z : ℕ) → state_waits (state_at y v) ≡ true → state_waits (state_at z v) ≡ true → y ≡ z) → (z : ℕ) → waits_alone v z ≡ true
waits_alone-from n v has one z = implies-by _ _ (λ waits.
    elim (waiting_item v.ways v.buffer) as (λ o. waiting_item v.ways v.buffer ≡ o → has_reserved (waiting_item v.ways v.buffer) z ≡ true) [
      | Some y ↦ λ is.
          let same : y ≡ z = one y z (waiting-some n v.sizes v.ways v.buffer has y is) waits in
          rw is (eq-eqb _ _ same)
      | None ↦ λ none.
          let fails : state_waits (state_at z v) ≡ false = waiting-none v.ways v.buffer none z in
          cc
    ] refl)

-- ---- the rules, from the entries

pub record LeafRest (n : ℕ) (v : LeafValue) : Type 0 where
  pub sets : leaf_test has_ways n v ≡ true
  pub lists : leaf_within n v ≡ true
  pub entries : HasEntries n v.sizes v.ways v.buffer
  pub waiting : (y z : ℕ) → state_waits (state_at y v) ≡ true → state_waits (state_at z v) ≡ true → y ≡ z
  pub slot : slot_suits v v.slot ≡ true
  pub replies : list_all (copy_fits n) v.replies ≡ true
  pub reservation : reserves_below n v.reservation ≡ true

pub rules-from_entries : (n : ℕ) (v : LeafValue) → LeafRest n v → IsLeafOk n v
rules-from_entries n v h = record { each = each } where
  fits-at : (k : ℕ) → way_fits v.sizes.way_count (slice_index_or v.ways k None) ≡ true
  fits-at k =
      elim (way_at k v.ways) as (λ o. way_at k v.ways ≡ o → way_fits v.sizes.way_count (way_at k v.ways) ≡ true) [
        | Some e ↦ λ is.
            let parts = h.entries.fits k e is in
            rw is (both_true (lt-ltb _ _ parts.0) parts.1)
        | None ↦ λ no. rw no refl
      ] refl

  same-at : (x : ℕ) (e : WayValue) → way_at x v.ways ≡ Some e → (k : ℕ) → same_if_there v.sizes.sets x e.way k (way_at k v.ways) ≡ true
  same-at x e is k = implies-by _ _ (λ there.
      elim (way_at k v.ways) as (λ o. way_at k v.ways ≡ o → nat_eq x k ≡ true) [
        | Some f ↦ λ other.
            let test : stands_in v.sizes.sets x e.way k (Some f) ≡ true = rw other at there in
            let parts = and_parts (nat_eq (k % v.sizes.sets) (x % v.sizes.sets)) (nat_eq f.way e.way) test in
            eq-eqb _ _ (h.entries.alone x k e f is other (eqb-true _ _ parts.0) (eqb-true _ _ parts.1))
        | None ↦ λ no.
            let wrong : false ≡ true = rw no at there in
            cc
      ] refl)

  alone-at : (k : ℕ) → has_way_alone v k (way_at k v.ways) ≡ true
  alone-at k =
      elim (way_at k v.ways) as (λ o. way_at k v.ways ≡ o → has_way_alone v k (way_at k v.ways) ≡ true) [
        | Some e ↦ λ is. rw is (all_from-each (same_if_there v.sizes.sets k e.way) None 0 v.ways (λ j l. subst (λ i. same_if_there v.sizes.sets k e.way i (way_at j v.ways) ≡ true) (sym (zero-add j)) (same-at k e is j)))
        | None ↦ λ no. rw no refl
      ] refl

  aside-at : (e : BufferValue) → StandsAside n v.ways e → buffer_fits n v e ≡ true
  aside-at e s =
      let none : is_none (way_at e.item v.ways) ≡ true = rw s.alone refl in
      both_true (lt-ltb _ _ s.known) (both_true none s.words)

  each : (r : LeafRule) → leaf_test r n v ≡ true
  each has_ways = h.sets
  each leaf_lists = h.lists
  each ways_fit = list_all-from_AllPass (way_fits v.sizes.way_count) v.ways (λ k d l. subst (λ o. way_fits v.sizes.way_count o ≡ true) (get_or_default v.ways k None d l) (fits-at k))
  each ways_alone = all_from-each (has_way_alone v) None 0 v.ways (λ k l. subst (λ i. has_way_alone v i (way_at k v.ways) ≡ true) (sym (zero-add k)) (alone-at k))
  each buffer_fit = list_all-from_AllPass (buffer_fits n v) v.buffer (λ k d l. aside-at (slice_index_or v.buffer k d) (h.entries.aside k d l))
  each buffered_once = h.entries.once
  each one_waiting = range-from_each (waits_alone v) n (λ x l. waits_alone-from n v h.entries h.waiting x)
  each slot_fits = h.slot
  each leaf_replies = h.replies
  each reservation_fits = h.reservation

-- who has an entry is one of the n items
pub state-known : (n : ℕ) (sizes : LeafSizes) (ways : List (Option WayValue)) (buffer : List BufferValue) → HasEntries n sizes ways buffer → (y : ℕ) (s : LeafState) → state_in y ways buffer ≡ Some s → y < n
unfolding entry_at
state-known n sizes ways buffer has y s is =
    elim (way_at y ways) as (λ o. way_at y ways ≡ o → y < n) [
      | Some e ↦ λ here. subst (λ k. y < k) has.count (way-within y ways e here)
      | None ↦ λ no.
          elim (buffered y buffer) as (λ o. buffered y buffer ≡ o → y < n) [
            | Some e ↦ λ here.
                let held = find-holds (StandsAside n ways) (is_buffered y) buffer e has.aside here in
                subst (λ k. k < n) (sym (eqb-true _ _ held.1)) held.0.known
            | None ↦ λ none.
                let wrong : None ≡ Some s = rw (no, none) at is in
                cc
          ] refl
    ] refl

-- two entries don't wait
pub one-waits : (n : ℕ) (v : LeafValue) → IsLeafOk n v → (y z : ℕ) → state_waits (state_at y v) ≡ true → state_waits (state_at z v) ≡ true → y ≡ z
one-waits n v ok y z wait_y wait_z = same-reserved (waiting_item v.ways v.buffer) (alone y wait_y) (alone z wait_z)
  where
    known : (x : ℕ) → state_waits (state_at x v) ≡ true → x < n
    known x wait =
        elim (state_at x v) as (λ o. state_at x v ≡ o → x < n) [
          | Some s ↦ λ is. state-known n v.sizes v.ways v.buffer (entries-from_rules n v ok) x s is
          | None ↦ λ none.
              let wrong : false ≡ true = rw none at wait in
              cc
        ] refl

    alone : (x : ℕ) → state_waits (state_at x v) ≡ true → has_reserved (waiting_item v.ways v.buffer) x ≡ true
    alone x wait = implies-use _ _ (each-from_range (waits_alone v) n (ok.each one_waiting) x (known x wait)) wait

    same-reserved : (o : Option ℕ) → has_reserved o y ≡ true → has_reserved o z ≡ true → y ≡ z
    same-reserved None first second = cc
    same-reserved (Some x) first second = sym (eqb-true _ _ first) ∙ eqb-true _ _ second
