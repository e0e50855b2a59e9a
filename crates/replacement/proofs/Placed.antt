-- What the list of the taken places and the entries in them give when a place is taken, freed or written.
use Rattle.std.proofs.Common.{◌≡◌, ◌∙◌, ap, ap₂, sym, refl, subst, ℕ, zero, suc, ◌+◌, ◌<◌, ◌≤◌, Bool, true, false, cond, nat_eq, nat_lt, List, [], ◌∷◌, ◌++◌, length, get_or, set, remove, slice_get, arith, length-set, get_or-set_same, get_or-set_other, eq-eqb, ltb-true, lt-ltb}
use Rattle.std.specs.List.{cons_option}
use Rattle.std.proofs.lemmas.Bool.Decides.{nat_tests}
use Rattle.std.proofs.lemmas.List.Elements.{filter_map-append}
use Rattle.std.proofs.lemmas.List.Sums.{sum_by-cons, sum_by_push, get_or-le-sum_by}
use Rattle.std.proofs.lemmas.Option.{slice_get-get_or}
use Rattle.std.proofs.lemmas.List.{get_or_default}
use Rattle.replacement.specs.Places.{ArrivedList, in_order, times, IsPlaced}

abbrev one_if : Bool → ℕ
one_if b = cond b 1 0

-- a number that stands in the list stands there once at least
times-at : (ns : List ℕ) (i : ℕ) → i < length ns → 1 ≤ times (get_or ns i 0) ns
times-at ns i within =
    let n = get_or ns i 0 in
    let below : one_if (nat_eq n n) ≤ times n ns = get_or-le-sum_by (λ m. one_if (nat_eq n m)) ns i 0 within in
    omega (arith, below, ap one_if (eq-eqb n n refl))

times-cons : (n m : ℕ) (ns : List ℕ) → times n (m ∷ ns) ≡ one_if (nat_eq n m) + times n ns
times-cons n m ns = sum_by-cons (λ k. one_if (nat_eq n k)) m ns

times-own : (n : ℕ) (ns : List ℕ) → times n (n ∷ ns) ≡ 1 + times n ns
times-own n ns = times-cons n n ns ∙ ap (λ b. one_if b + times n ns) (eq-eqb n n refl)

times-rest : (n m : ℕ) (ns : List ℕ) → times n ns ≤ times n (m ∷ ns)
times-rest n m ns = omega (arith, times-cons n m ns)

-- each of these numbers is below n
abbrev pub Below : ℕ → List ℕ → Type 0
Below n [] = Unit {0}
Below n (q ∷ qs) = (q < n) × Below n qs

below_from_times : (n : ℕ) (qs : List ℕ) → ((p : ℕ) → 0 < times p qs → p < n) → Below n qs
below_from_times n [] h = tt
below_from_times n (q ∷ qs) h =
    (h q (omega (arith, times-own q qs)), below_from_times n qs (λ p some. h p (omega (arith, some, times-rest p q qs))))

-- a number that stands somewhere is that of a place
is_place : {n : ℕ} (order free : List ℕ) (p : ℕ) → times p order + times p free ≡ one_if (nat_lt p n) → 0 < times p order + times p free → p < n
is_place {n} order free p once some = by_test (nat_lt p n) refl
  where
    by_test : (b : Bool) → nat_lt p n ≡ b → p < n
    by_test true e = ltb-true p n e
    by_test false e = let none = once ∙ ap (λ b. one_if b) e in absurd (omega arith)

-- a place that stands among the free ones isn't in the order
pub not_taken : {n : ℕ} {order : List ℕ} {order_memory free_memory : ℕ} (free : List ℕ) (p : ℕ) → IsPlaced n order (free ++ p ∷ []) order_memory free_memory → (times p order ≡ 0) × (p < n)
not_taken {n} {order} free p placed =
    let more : times p (free ++ p ∷ []) ≡ times p free + 1 = sum_by_push (λ k. one_if (nat_eq p k)) free p ∙ ap (λ b. times p free + one_if b) (eq-eqb p p refl) in
    let inside : p < n = is_place order (free ++ p ∷ []) p (placed.once p) (omega (arith, more)) in
    (omega (arith, placed.once p, ap one_if (lt-ltb p n inside), more), inside)

-- the places in the order are places, and none stands there twice
pub order_below : {n : ℕ} {order free : List ℕ} {order_memory free_memory : ℕ} → IsPlaced n order free order_memory free_memory → Below n order
order_below {n} {order} {free} placed = below_from_times n order (λ p some. is_place order free p (placed.once p) (omega (arith, some)))

test_below_two : (b : Bool) → one_if b ≤ 1
test_below_two true = omega arith
test_below_two false = omega arith

order_once : {n : ℕ} {order free : List ℕ} {order_memory free_memory : ℕ} → IsPlaced n order free order_memory free_memory → (p : ℕ) → times p order ≤ 1
order_once {n} placed p = omega (arith, placed.once p, test_below_two (nat_lt p n))

other_place : (p q : ℕ) (qs : List ℕ) → times p (q ∷ qs) ≡ 0 → q ≡ p → ⊥
other_place p q qs none e =
    let own : times p (p ∷ qs) ≡ 0 = subst (λ k. times p (k ∷ qs) ≡ 0) e none in
    absurd (omega (arith, own, times-own p qs))

pub place_within : (n : ℕ) (qs : List ℕ) (i : ℕ) → Below n qs → i < length qs → get_or qs i 0 < n
place_within n [] i below h = absurd (omega arith)
place_within n (q ∷ qs) zero below h = below.0
place_within n (q ∷ qs) (suc i) below h = place_within n qs i below.1 (omega arith)

module _ {X : Type 0} where
  in_order-cons : (xs : List X) (q : ℕ) (qs : List ℕ) (d : X) → q < length xs → in_order xs (q ∷ qs) ≡ get_or xs q d ∷ in_order xs qs
  in_order-cons xs q qs d h = ap (λ o. cons_option o (in_order xs qs)) (slice_get-get_or xs q d h)

  length_with : (xs : List X) (d : X) (qs : List ℕ) → Below (length xs) qs → length (in_order xs qs) ≡ length qs
  length_with xs d [] below = refl
  length_with xs d (q ∷ qs) below = ap length (in_order-cons xs q qs d below.0) ∙ ap suc (length_with xs d qs below.1)

  pub length-in_order : (xs : List X) (qs : List ℕ) → Below (length xs) qs → length (in_order xs qs) ≡ length qs
  length-in_order xs [] below = refl
  length-in_order [] (q ∷ qs) below = absurd (omega (arith, below.0))
  length-in_order (x ∷ xs) (q ∷ qs) below = length_with (x ∷ xs) x (q ∷ qs) below

  pub get_or-in_order : (xs : List X) (qs : List ℕ) (i : ℕ) (d : X) → Below (length xs) qs → i < length qs → get_or (in_order xs qs) i d ≡ get_or xs (get_or qs i 0) d
  get_or-in_order xs [] i d below h = absurd (omega arith)
  get_or-in_order xs (q ∷ qs) zero d below h = ap (λ l. get_or l 0 d) (in_order-cons xs q qs d below.0)
  get_or-in_order xs (q ∷ qs) (suc i) d below h =
      ap (λ l. get_or l (suc i) d) (in_order-cons xs q qs d below.0) ∙ get_or-in_order xs qs i d below.1 (omega arith)

  -- a write to a place changes what that place has alone
  kept_at : (xs : List X) (p q : ℕ) (e : X) (qs : List ℕ) → (q ≡ p → ⊥) → q < length xs → in_order (set xs p e) (q ∷ qs) ≡ get_or xs q e ∷ in_order (set xs p e) qs
  kept_at xs p q e qs other below =
      let inside : q < length (set xs p e) = rw (length-set xs p e) below in
      in_order-cons (set xs p e) q qs e inside ∙ ap (λ x. x ∷ in_order (set xs p e) qs) (get_or-set_other xs p q e e other)

  set_elsewhere : (xs : List X) (p : ℕ) (e : X) (qs : List ℕ) → times p qs ≡ 0 → Below (length xs) qs → in_order (set xs p e) qs ≡ in_order xs qs
  set_elsewhere xs p e [] none below = refl
  set_elsewhere xs p e (q ∷ qs) none below =
      let later : times p qs ≡ 0 = omega (arith, none, times-rest p q qs) in
      kept_at xs p q e qs (other_place p q qs none) below.0 ∙ ap (λ l. get_or xs q e ∷ l) (set_elsewhere xs p e qs later below.1) ∙ sym (in_order-cons xs q qs e below.0)

  written_at : (xs : List X) (p : ℕ) (e : X) (qs : List ℕ) → p < length xs → in_order (set xs p e) (p ∷ qs) ≡ e ∷ in_order (set xs p e) qs
  written_at xs p e qs h =
      let inside : p < length (set xs p e) = rw (length-set xs p e) h in
      in_order-cons (set xs p e) p qs e inside ∙ ap (λ x. x ∷ in_order (set xs p e) qs) (get_or-set_same xs p e e h)

  -- an entry comes into a free place
  pub put_behind : {order : List ℕ} {order_memory free_memory : ℕ} (free : List ℕ) (xs : List X) (p : ℕ) (e : X) → IsPlaced (length xs) order (free ++ p ∷ []) order_memory free_memory → in_order (set xs p e) (order ++ p ∷ []) ≡ in_order xs order ++ e ∷ []
  put_behind {order} free xs p e placed =
      let at = not_taken free p placed in
      let others : in_order (set xs p e) order ≡ in_order xs order = set_elsewhere xs p e order at.0 (order_below placed) in
      filter_map-append (slice_get (set xs p e)) order (p ∷ []) ∙ ap (λ l. l ++ in_order (set xs p e) (p ∷ [])) others ∙ ap (λ l. in_order xs order ++ l) (written_at xs p e [] at.1)

  set_with : (xs : List X) (qs : List ℕ) (i : ℕ) (e : X) → Below (length xs) qs → ((p : ℕ) → times p qs ≤ 1) → i < length qs → in_order (set xs (get_or qs i 0) e) qs ≡ set (in_order xs qs) i e
  set_with xs [] i e below once h = absurd (omega arith)
  set_with xs (q ∷ qs) zero e below once h =
      let none : times q qs ≡ 0 = omega (arith, once q, times-own q qs) in
      written_at xs q e qs below.0 ∙ ap (λ l. e ∷ l) (set_elsewhere xs q e qs none below.1) ∙ sym (ap (λ l. set l 0 e) (in_order-cons xs q qs e below.0))
  set_with xs (q ∷ qs) (suc i) e below once h =
      let p = get_or qs i 0 in
      let stands : 1 ≤ times p qs = times-at qs i (omega arith) in
      let later : (k : ℕ) → times k qs ≤ 1 = λ k. omega (arith, once k, times-rest k q qs) in
      let other : q ≡ p → ⊥ = λ e. absurd (omega (arith, stands, subst (λ k. times k (q ∷ qs) ≤ 1) e (once q), subst (λ k. times k (q ∷ qs) ≡ 1 + times k qs) e (times-own q qs))) in
      kept_at xs p q e qs other below.0 ∙ ap (λ l. get_or xs q e ∷ l) (set_with xs qs i e below.1 later (omega arith)) ∙ sym (ap (λ l. set l (suc i) e) (in_order-cons xs q qs e below.0))

  -- an entry is written in the place of another
  pub set_in_order : {order free : List ℕ} {order_memory free_memory : ℕ} (xs : List X) (i : ℕ) (e : X) → IsPlaced (length xs) order free order_memory free_memory → i < length order → in_order (set xs (get_or order i 0) e) order ≡ set (in_order xs order) i e
  set_in_order {order} xs i e placed h = set_with xs order i e (order_below placed) (order_once placed) h

  remove_with : (xs : List X) (d : X) (qs : List ℕ) (i : ℕ) → Below (length xs) qs → i < length qs → in_order xs (remove qs i) ≡ remove (in_order xs qs) i
  remove_with xs d [] i below h = absurd (omega arith)
  remove_with xs d (q ∷ qs) zero below h = sym (ap (λ l. remove l 0) (in_order-cons xs q qs d below.0))
  remove_with xs d (q ∷ qs) (suc i) below h =
      in_order-cons xs q (remove qs i) d below.0 ∙ ap (λ l. get_or xs q d ∷ l) (remove_with xs d qs i below.1 (omega arith)) ∙ sym (ap (λ l. remove l (suc i)) (in_order-cons xs q qs d below.0))

  -- an entry's place is taken out of the order
  pub remove_in_order : (xs : List X) (qs : List ℕ) (i : ℕ) → Below (length xs) qs → i < length qs → in_order xs (remove qs i) ≡ remove (in_order xs qs) i
  remove_in_order xs [] i below h = absurd (omega arith)
  remove_in_order [] (q ∷ qs) i below h = absurd (omega (arith, below.0))
  remove_in_order (x ∷ xs) (q ∷ qs) i below h = remove_with (x ∷ xs) x (q ∷ qs) i below h

test_more : (p n : ℕ) → one_if (nat_lt p n) + one_if (nat_eq p n) ≡ one_if (nat_lt p (n + 1))
test_more p n = grind (arith, nat_tests)

-- the numbers below n, and n behind them
pub times_more : (numbers : List ℕ) (n : ℕ) → ((p : ℕ) → times p numbers ≡ one_if (nat_lt p n)) → (p : ℕ) → times p (numbers ++ n ∷ []) ≡ one_if (nat_lt p (n + 1))
times_more numbers n once p = omega (arith, sum_by_push (λ k. one_if (nat_eq p k)) numbers n, once p, test_more p n)

module _ {X : Type 0} where
  abbrev pub arrived : List X → ℕ → ArrivedList X
  arrived list capacity = record { list = list; capacity = capacity }

  -- how many entries there are
  pub length_seen : {order free : List ℕ} {order_memory free_memory : ℕ} (xs : List X) (now : ArrivedList X) → IsPlaced (length xs) order free order_memory free_memory → arrived (in_order xs order) (length xs) ≡ now → length order ≡ length now.list
  length_seen {order} xs now placed seen = sym (length-in_order xs order (order_below placed)) ∙ ap (λ a. length a.list) seen

  -- the place of an entry
  pub place_seen : {order free : List ℕ} {order_memory free_memory : ℕ} (xs : List X) (now : ArrivedList X) → IsPlaced (length xs) order free order_memory free_memory → arrived (in_order xs order) (length xs) ≡ now → (i p : ℕ) → i < length now.list → p ≡ get_or order i p → (p ≡ get_or order i 0) × (p < length xs)
  place_seen {order} xs now placed seen i p h is =
      let inside : i < length order = omega (arith, length_seen xs now placed seen) in
      let at : p ≡ get_or order i 0 = is ∙ get_or_default order i p 0 inside in
      (at, rw at (place_within (length xs) order i (order_below placed) inside))

  -- the entry at a place
  pub entry_seen : {order free : List ℕ} {order_memory free_memory : ℕ} (xs : List X) (now : ArrivedList X) → IsPlaced (length xs) order free order_memory free_memory → arrived (in_order xs order) (length xs) ≡ now → (i p : ℕ) (x : X) → i < length now.list → p ≡ get_or order i p → x ≡ get_or xs p x → x ≡ get_or now.list i x
  entry_seen {order} xs now placed seen i p x h is read =
      let inside : i < length order = omega (arith, length_seen xs now placed seen) in
      let at = place_seen xs now placed seen i p h is in
      read ∙ ap (λ k. get_or xs k x) at.0 ∙ sym (get_or-in_order xs order i x (order_below placed) inside) ∙ ap (λ a. get_or a.list i x) seen

  -- an entry more
  pub put_seen : {order : List ℕ} {order_memory free_memory : ℕ} (free : List ℕ) (xs : List X) (now : ArrivedList X) (p : ℕ) (e : X) (longer : List ℕ) → IsPlaced (length xs) order (free ++ p ∷ []) order_memory free_memory → arrived (in_order xs order) (length xs) ≡ now → longer ≡ order ++ p ∷ [] → arrived (in_order (set xs p e) longer) (length (set xs p e)) ≡ arrived (now.list ++ e ∷ []) now.capacity
  put_seen free xs now p e longer placed seen is =
      ap₂ arrived (ap (in_order (set xs p e)) is ∙ put_behind free xs p e placed ∙ ap (λ a. a.list ++ e ∷ []) seen) (length-set xs p e ∙ ap (λ a. a.capacity) seen)

  -- another entry in the place of one
  pub set_seen : {order free : List ℕ} {order_memory free_memory : ℕ} (xs : List X) (now : ArrivedList X) → IsPlaced (length xs) order free order_memory free_memory → arrived (in_order xs order) (length xs) ≡ now → (i p : ℕ) (e : X) → i < length now.list → p ≡ get_or order i p → arrived (in_order (set xs p e) order) (length (set xs p e)) ≡ arrived (set now.list i e) now.capacity
  set_seen {order} xs now placed seen i p e h is =
      let inside : i < length order = omega (arith, length_seen xs now placed seen) in
      let at = place_seen xs now placed seen i p h is in
      ap₂ arrived (ap (λ k. in_order (set xs k e) order) at.0 ∙ set_in_order xs i e placed inside ∙ ap (λ a. set a.list i e) seen) (length-set xs p e ∙ ap (λ a. a.capacity) seen)

  -- an entry less
  pub remove_seen : {order free : List ℕ} {order_memory free_memory : ℕ} (xs : List X) (now : ArrivedList X) (i : ℕ) (shorter : List ℕ) → IsPlaced (length xs) order free order_memory free_memory → arrived (in_order xs order) (length xs) ≡ now → i < length now.list → shorter ≡ remove order i → arrived (in_order xs shorter) (length xs) ≡ arrived (remove now.list i) now.capacity
  remove_seen {order} xs now i shorter placed seen h is =
      let inside : i < length order = omega (arith, length_seen xs now placed seen) in
      ap₂ arrived (ap (in_order xs) is ∙ remove_in_order xs order i (order_below placed) inside ∙ ap (λ a. remove a.list i) seen) (ap (λ a. a.capacity) seen)
