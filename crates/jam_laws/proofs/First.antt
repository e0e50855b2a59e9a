-- The first turn of a machine that would be granted: there is one where some turn would be.
-- Letters: m is a machine, t a turn.
use Rattle.std.proofs.Common.{◌≡◌, ◌≢◌, ℕ, zero, suc, ◌+◌, ◌<◌, ◌≤◌, Bool, true, false, List, [], ◌∷◌, ◌++◌, length, map, Option, Some, None, refl, sym, ap, subst, ◌∙◌, arith}
use Rattle.std.specs.Prelude.{◌||◌, nat_eq, nat_lt, find, is_some, unwrap_or}
use Rattle.std.specs.List.{AllByRecursion, list_any, flat_map, range_with_len}
use native.Mathlib.Decide.{ℕ_discrete}
use Rattle.std.proofs.lemmas.Bool.{and_parts, or_right, eqb-true, lt-ltb, ltb-true, true≢false}
use Rattle.std.proofs.lemmas.List.Concat.{flat_map-cons}
use Rattle.jam_laws.specs.DdmTypes.declared.turns.Turn.{Turn}
use Rattle.jam_laws.specs.TreeModel.State.Values.{MachineValue, root_of}
use Rattle.jam_laws.specs.TreeModel.State.Place.{at_top}
use Rattle.jam_laws.specs.TreeModel.State.Shape.{IsShaped, skeleton, buses_of, are_below, tree_counts, traffic_counted}
use Rattle.jam_laws.specs.TreeModel.Turns.Tree.{bus_of_number, has_node, of_dir}
use Rattle.jam_laws.specs.TreeModel.Turns.Machine.{named_by, child_count, names_part, is_child_of}
use Rattle.jam_laws.proofs.TreeModel.NamedNode.{read_in-is_some}
use Rattle.jam_laws.proofs.TreeModel.TurnChanges.{turn-changes_nothing}
use Rattle.jam_laws.specs.GoesOn.{is_granted, would_grant, turns_of_bus, bus_turns, first_granted, is_down_reply_or_request, SomeTurn, IsFirstGranted}
use Rattle.jam_laws.proofs.Named.{or-first, number-in}

-- ---- lists

module _ {X : Type 0} (t : X → Bool) where
  any-append_first : (xs ys : List X) → list_any t xs ≡ true → list_any t (xs ++ ys) ≡ true
  any-append_first [] ys h = absurd (true≢false (sym h))
  any-append_first (x ∷ xs) ys h = by (t x) h (any-append_first xs ys) where
    by : (b : Bool) → (b || list_any t xs) ≡ true → (list_any t xs ≡ true → list_any t (xs ++ ys) ≡ true) → (b || list_any t (xs ++ ys)) ≡ true
    by true h rest = refl
    by false h rest = rest h

  any-append_second : (xs ys : List X) → list_any t ys ≡ true → list_any t (xs ++ ys) ≡ true
  any-append_second [] ys h = h
  any-append_second (x ∷ xs) ys h = or_right (t x) _ (any-append_second xs ys h)

  -- what is found is the first that passes
  record IsFirst (x : X) (xs : List X) : Type 0 where
    before : List X
    behind : List X
    order : xs ≡ before ++ x ∷ behind
    fails : list_any t before ≡ false
    passes : t x ≡ true

  find-first : (xs : List X) (x : X) → find t xs ≡ Some x → IsFirst x xs
  find-first [] x found = cc
  find-first (y ∷ ys) x found = by (t y) refl (find-first ys x) where
    by : (b : Bool) → t y ≡ b → (find t ys ≡ Some x → IsFirst x ys) → IsFirst x (y ∷ ys)
    by true is rest =
        let here : Some y ≡ Some x = rw is at found in
        let same : y ≡ x = cc in
        record { before = []; behind = ys; order = ap (λ z. z ∷ ys) same; fails = refl; passes = subst (λ z. t z ≡ true) same is }
    by false is rest =
        let f = rest (rw is at found) in
        let e : ys ≡ f.before ++ x ∷ f.behind = f.order in
        record { before = y ∷ f.before; behind = f.behind; order = ap (λ zs. y ∷ zs) e; fails = rw is f.fails; passes = f.passes }

  found-some : (xs : List X) → list_any t xs ≡ true → is_some (find t xs) ≡ true
  found-some [] h = absurd (true≢false (sym h))
  found-some (x ∷ xs) h = by (t x) refl h (found-some xs) where
    by : (b : Bool) → t x ≡ b → (b || list_any t xs) ≡ true → (list_any t xs ≡ true → is_some (find t xs) ≡ true) → is_some (find t (x ∷ xs)) ≡ true
    by true is h rest = rw is refl
    by false is h rest = rw is (rest h)

  -- a turn of each number of a range
  any-range : (f : ℕ → X) (a k j : ℕ) → a ≤ j → j < a + k → t (f j) ≡ true → list_any t (map f (range_with_len a k)) ≡ true
  any-range f a zero j low high h = absurd (omega (arith, low, high))
  any-range f a (suc k) j low high h = by (ℕ_discrete a j) (λ other. any-range f (a + 1) k j (omega (arith, low, other)) (omega (arith, high)) h) where
    by : Dec (a ≡ j) → ((a ≢ j) → list_any t (map f (range_with_len (a + 1) k)) ≡ true) → (t (f a) || list_any t (map f (range_with_len (a + 1) k))) ≡ true
    by (yes same) rest = rw same (rw h refl)
    by (no other) rest = or_right (t (f a)) _ (rest other)

  any-flat : (f : ℕ → List X) (a k j : ℕ) → a ≤ j → j < a + k → list_any t (f j) ≡ true → list_any t (flat_map f (range_with_len a k)) ≡ true
  any-flat f a zero j low high h = absurd (omega (arith, low, high))
  any-flat f a (suc k) j low high h = subst (λ xs. list_any t xs ≡ true) (sym (flat_map-cons f a (range_with_len (a + 1) k))) (by (ℕ_discrete a j) (λ other. any-flat f (a + 1) k j (omega (arith, low, other)) (omega (arith, high)) h)) where
    by : Dec (a ≡ j) → ((a ≢ j) → list_any t (flat_map f (range_with_len (a + 1) k)) ≡ true) → list_any t (f a ++ flat_map f (range_with_len (a + 1) k)) ≡ true
    by (yes same) rest = any-append_first (f a) _ (subst (λ i. list_any t (f i) ≡ true) (sym same) h)
    by (no other) rest = any-append_second (f a) _ (rest other)

module _ {X : Type 0} (P : X → Type 0) where
  each-append : (xs ys : List X) → AllByRecursion P xs → AllByRecursion P ys → AllByRecursion P (xs ++ ys)
  each-append [] ys first second = second
  each-append (x ∷ xs) ys first second = (first.0, each-append xs ys first.1 second)

  each-range : (f : ℕ → X) (a k : ℕ) → ((j : ℕ) → j < a + k → P (f j)) → AllByRecursion P (map f (range_with_len a k))
  each-range f a zero h = tt
  each-range f a (suc k) h = (h a (omega arith), each-range f (a + 1) k (λ j l. h j (omega (arith, l))))

  each-flat : (f : ℕ → List X) (ks : List ℕ) → ((j : ℕ) → AllByRecursion P (f j)) → AllByRecursion P (flat_map f ks)
  each-flat f [] h = tt
  each-flat f (k ∷ ks) h = subst (AllByRecursion P) (sym (flat_map-cons f k ks)) (each-append (f k) _ (h k) (each-flat f ks h))

  each-middle : (xs : List X) (x : X) (ys : List X) → AllByRecursion P (xs ++ x ∷ ys) → P x
  each-middle [] x ys all = all.0
  each-middle (z ∷ xs) x ys all = each-middle xs x ys all.1

-- ---- numbers of buses

any-below : (most : ℕ) (ns : List ℕ) → are_below most ns ≡ true → (k : ℕ) → list_any (nat_eq k) ns ≡ true → k < most
any-below most [] e k there = absurd (true≢false (sym there))
any-below most (n ∷ ns) e k there = by (nat_eq k n) refl there (any-below most ns parts.1 k) where
  parts : (nat_lt n most ≡ true) × (are_below most ns ≡ true)
  parts = and_parts (nat_lt n most) _ e

  by : (b : Bool) → nat_eq k n ≡ b → (b || list_any (nat_eq k) ns) ≡ true → (list_any (nat_eq k) ns ≡ true → k < most) → k < most
  by true is h rest =
      let same : k ≡ n = eqb-true k n is in
      let low : n < most = ltb-true n most parts.0 in
      omega (arith, same, low)
  by false is h rest = rest h

module _ (m : MachineValue) where
  bus-there : (bus : ℕ) → is_some (child_count bus m) ≡ true → has_node (bus_of_number bus) (root_of m) ≡ true
  bus-there bus some = sym (read_in-is_some (bus_of_number bus) (of_dir (λ w d ns. length ns) 0) at_top (root_of m)) ∙ some

  bus-counted : IsShaped m → (bus : ℕ) → is_some (child_count bus m) ≡ true → bus < (tree_counts m).buses
  bus-counted shaped bus some =
      let ns : List ℕ = buses_of (skeleton (root_of m)) [] in
      let parts = and_parts (nat_eq (length ns) (length m.traffic)) (are_below (length m.traffic) ns) (shaped.each traffic_counted) in
      let low : bus < length m.traffic = any-below (length m.traffic) ns parts.1 bus (number-in bus (root_of m) [] (bus-there bus some)) in
      let size : length ns ≡ length m.traffic = eqb-true _ _ parts.0 in
      omega (arith, low, size)

  -- ---- a turn of the machine is among its turns

  of-bus : IsShaped m → (test : Turn → Bool) (bus : ℕ) → is_some (child_count bus m) ≡ true → list_any test (turns_of_bus bus (unwrap_or (child_count bus m) 0)) ≡ true → list_any test (bus_turns m) ≡ true
  of-bus shaped test bus some h = any-flat test (λ b. turns_of_bus b (unwrap_or (child_count b m) 0)) 0 (tree_counts m).buses bus (omega arith) (omega (arith, bus-counted shaped bus some)) h

  child-there : (c : ℕ) (o : Option ℕ) → is_child_of c o ≡ true → (is_some o ≡ true) × (c < unwrap_or o 0)
  child-there c None h = absurd (true≢false (sym h))
  child-there c (Some count) h = (refl, ltb-true c count h)

  listed : IsShaped m → (test : Turn → Bool) (t : Turn) → is_down_reply_or_request t ≡ true → names_part t m ≡ true → test t ≡ true → list_any test (bus_turns m) ≡ true
  listed shaped test (Turn.Hart hart victim) kind names h = absurd (true≢false (sym kind))
  listed shaped test (Turn.Leave bus c choice) kind names h = absurd (true≢false (sym kind))
  listed shaped test (Turn.Down bus) kind names h = of-bus shaped test bus names (or-first (test (Turn.Down bus)) _ h)
  listed shaped test (Turn.Reply bus c) kind names h =
      let there = child-there c (child_count bus m) names in
      let count = unwrap_or (child_count bus m) 0 in
      of-bus shaped test bus there.0 (or_right (test (Turn.Down bus)) _ (any-append_first test (map (Turn.Reply bus) (range_with_len 0 count)) (map (Turn.Request bus) (range_with_len 0 count)) (any-range test (Turn.Reply bus) 0 count c (omega arith) (omega (arith, there.1)) h)))
  listed shaped test (Turn.Request bus c) kind names h =
      let there = child-there c (child_count bus m) names in
      let count = unwrap_or (child_count bus m) 0 in
      of-bus shaped test bus there.0 (or_right (test (Turn.Down bus)) _ (any-append_second test (map (Turn.Reply bus) (range_with_len 0 count)) (map (Turn.Request bus) (range_with_len 0 count)) (any-range test (Turn.Request bus) 0 count c (omega arith) (omega (arith, there.1)) h)))

  pub first-some : IsShaped m → SomeTurn m is_granted → is_some (first_granted m) ≡ true
  first-some shaped s = found-some (would_grant m) (bus_turns m) (listed shaped (would_grant m) s.turn s.kind s.names s.answer)

  -- ---- the turns of a machine name parts of it, those at least that would be granted

  IsTurnOf : Turn → Type 0
  IsTurnOf t = (is_down_reply_or_request t ≡ true) × (would_grant m t ≡ true → names_part t m ≡ true)

  granted-there : (t : Turn) → would_grant m t ≡ true → has_node (named_by t) (root_of m) ≡ true
  granted-there t granted = by (has_node (named_by t) (root_of m)) refl where
    by : (b : Bool) → has_node (named_by t) (root_of m) ≡ b → b ≡ true
    by true is = refl
    by false is = absurd (true≢false (sym granted ∙ ap (λ o. is_granted o.answer) (turn-changes_nothing t m is)))

  child-named : (c : ℕ) (o : Option ℕ) → c < unwrap_or o 0 → is_child_of c o ≡ true
  child-named c None l = absurd (omega (arith, l))
  child-named c (Some count) l = lt-ltb c count l

  bus-turns_of : (bus : ℕ) → AllByRecursion IsTurnOf (turns_of_bus bus (unwrap_or (child_count bus m) 0))
  unfolding IsTurnOf
  bus-turns_of bus =
      let count = unwrap_or (child_count bus m) 0 in (
        (refl, λ granted. read_in-is_some (bus_of_number bus) (of_dir (λ w d ns. length ns) 0) at_top (root_of m) ∙ granted-there (Turn.Down bus) granted),
        each-append IsTurnOf (map (Turn.Reply bus) (range_with_len 0 count)) (map (Turn.Request bus) (range_with_len 0 count))
            (each-range IsTurnOf (Turn.Reply bus) 0 count (λ c l. (refl, λ granted. child-named c (child_count bus m) (omega (arith, l)))))
            (each-range IsTurnOf (Turn.Request bus) 0 count (λ c l. (refl, λ granted. child-named c (child_count bus m) (omega (arith, l))))),
      )

  pub first-is : (t : Turn) → first_granted m ≡ Some t → IsFirstGranted m t
  unfolding IsTurnOf
  first-is t found =
      let f = find-first (would_grant m) (bus_turns m) t found in
      let order : bus_turns m ≡ f.before ++ t ∷ f.behind = f.order in
      let all = each-flat IsTurnOf (λ b. turns_of_bus b (unwrap_or (child_count b m) 0)) (range_with_len 0 (tree_counts m).buses) bus-turns_of in
      let mine = each-middle IsTurnOf f.before t f.behind (subst (AllByRecursion IsTurnOf) order all) in
      record { before = f.before; behind = f.behind; order = order; refused = f.fails; granted = f.passes; kind = mine.0; names = mine.1 f.passes }
