-- One more turn is made: what it adds to counts.
-- Letters: k is a turn with its answer, h the number of a hart, b that of a bus, x an item, a an answer, t a turn.
use Rattle.std.proofs.Common.{◌≡◌, ◌∙◌, ◌<◌, ◌≤◌, ℕ, suc, ◌+◌, Bool, true, false, ◌&&◌, nat_eq, List, [], ◌∷◌, ◌++◌, cond, length, filter, map, refl, sym, ap, if◌then◌else◌, arith}
use Rattle.std.proofs.Math.Nat.{min-eq_left}
use Rattle.std.proofs.lemmas.Bool.{eq-eqb, ne_eqb}
use Rattle.std.specs.List.{range_with_len}
use Rattle.ddm_types.specs.declared.answers.TurnAnswer.{TurnAnswer}
use Rattle.ddm_types.specs.declared.turns.Turn.{Turn}
use Rattle.recording_model.specs.TreeModel.State.Values.{MachineValue}
use Rattle.recording_model.specs.TreeModel.Turns.Machine.{run_of, turn_of}
use Rattle.measure_model.specs.Counts.{Made, asks, asks_for, bus_busy, hart_counts, has_effect, how_many, injects, is_amo, is_busy, is_erase, is_failed, is_inject, is_load, is_of_bus, is_of_hart, is_read, is_store, item_counts, made_of, of_hart}
use Rattle.measuring.specs.Tally.{busy_after, hart_after, harts_after, item_asked, item_granted, items_after, more, no_hart_counts, no_item_counts}
use Rattle.measuring.proofs.Sets.{map-same, set-one}

-- ---- one more

pub more-is : (so : Bool) (n : ℕ) → n < 4294967295 → more so n ≡ n + (if so then 1 else 0)
more-is true n few = min-eq_left (omega (arith, few))
more-is false n few = omega arith

module _ (test : Made → Bool) where
  longer : (b : Bool) (k : Made) (l : List Made) → length (cond b (k ∷ l) l) ≡ length l + (if b then 1 else 0)
  longer true k l = omega arith
  longer false k l = omega arith

  pub many-more : (made : List Made) (k : Made) → how_many test (made ++ k ∷ []) ≡ how_many test made + (if test k then 1 else 0)
  many-more [] k = longer (test k) k []
  many-more (j ∷ made) k =
      let first = longer (test j) j (filter test (made ++ k ∷ [])) in
      let rest = many-more made k in
      let before = longer (test j) j (filter test made) in
      omega (arith, first, rest, before)

  fewer : (b : Bool) (k : Made) (l : List Made) (n : ℕ) → length l ≤ n → length (cond b (k ∷ l) l) ≤ n + 1
  fewer true k l n few = omega (arith, few)
  fewer false k l n few = omega (arith, few)

  pub many-few : (made : List Made) → how_many test made ≤ length made
  many-few [] = omega arith
  many-few (j ∷ made) = let rest = fewer (test j) j (filter test made) (length made) (many-few made) in omega (arith, rest)

  pub one-counted : (made : List Made) (k : Made) (so : Bool) → length made < 4294967295 → test k ≡ so → how_many test (made ++ k ∷ []) ≡ more so (how_many test made)
  one-counted made k so few is =
      let most = many-few made in
      many-more made k ∙ ap (λ b. how_many test made + (if b then 1 else 0)) is ∙ sym (more-is so (how_many test made) (omega (arith, most, few)))

  pub none-counted : (made : List Made) (k : Made) → test k ≡ false → how_many test (made ++ k ∷ []) ≡ how_many test made
  none-counted made k is = let grown = many-more made k in let add = ap {B = ℕ} (λ (b : Bool). if b then 1 else 0) is in omega (arith, grown, add)

-- ---- harts

and-is : (a b : Bool) → a ≡ true → (a && b) ≡ b
and-is true b is = refl
and-is false b is = cc

and-none : (a b : Bool) → a ≡ false → (a && b) ≡ false
and-none true b is = cc
and-none false b is = refl

module _ (made : List Made) (k : Made) (few : length made < 4294967295) where
  of-hart : (h : ℕ) (test : TurnAnswer → Bool) → is_of_hart h k.turn ≡ true → of_hart h test (made ++ k ∷ []) ≡ more (test k.answer) (of_hart h test made)
  of-hart h test own = one-counted (λ (j : Made). is_of_hart h j.turn && test j.answer) made k (test k.answer) few (and-is (is_of_hart h k.turn) (test k.answer) own)

  of-other : (h : ℕ) (test : TurnAnswer → Bool) → is_of_hart h k.turn ≡ false → of_hart h test (made ++ k ∷ []) ≡ of_hart h test made
  of-other h test other = none-counted (λ (j : Made). is_of_hart h j.turn && test j.answer) made k (and-none (is_of_hart h k.turn) (test k.answer) other)

  own-counts : (h : ℕ) → is_of_hart h k.turn ≡ true → hart_counts (made ++ k ∷ []) h ≡ hart_after k.answer (hart_counts made h)
  unfolding hart_counts
  own-counts h own =
      rw (of-hart h (has_effect is_load) own, of-hart h (has_effect is_store) own, of-hart h (has_effect is_amo) own, of-hart h (has_effect is_failed) own, of-hart h (asks is_read) own, of-hart h (asks is_erase) own, of-hart h is_busy own) refl

  other-counts : (h : ℕ) → is_of_hart h k.turn ≡ false → hart_counts (made ++ k ∷ []) h ≡ hart_counts made h
  unfolding hart_counts
  other-counts h other =
      rw (of-other h (has_effect is_load) other, of-other h (has_effect is_store) other, of-other h (has_effect is_amo) other, of-other h (has_effect is_failed) other, of-other h (asks is_read) other, of-other h (asks is_erase) other, of-other h is_busy other) refl

  pub harts-more : (n : ℕ) → harts_after k.turn k.answer (map (hart_counts made) (range_with_len 0 n)) ≡ map (hart_counts (made ++ k ∷ [])) (range_with_len 0 n)
  harts-more n = by_turn k.turn refl where
    by_turn : (t : Turn) → k.turn ≡ t → harts_after t k.answer (map (hart_counts made) (range_with_len 0 n)) ≡ map (hart_counts (made ++ k ∷ [])) (range_with_len 0 n)
    by_turn (Turn.Hart hart victim) is =
        set-one (hart_counts made) (hart_counts (made ++ k ∷ [])) (hart_after k.answer) no_hart_counts hart n
        (λ j other. other-counts j (ap (is_of_hart j) is ∙ ne_eqb hart j (λ same. other (sym same)))) (own-counts hart (ap (is_of_hart hart) is ∙ eq-eqb hart hart refl))
    by_turn (Turn.Down bus) is = map-same (hart_counts made) (hart_counts (made ++ k ∷ [])) 0 n (λ j l. other-counts j (ap (is_of_hart j) is))
    by_turn (Turn.Request bus child) is = map-same (hart_counts made) (hart_counts (made ++ k ∷ [])) 0 n (λ j l. other-counts j (ap (is_of_hart j) is))
    by_turn (Turn.Reply bus child) is = map-same (hart_counts made) (hart_counts (made ++ k ∷ [])) 0 n (λ j l. other-counts j (ap (is_of_hart j) is))
    by_turn (Turn.Leave bus child choice) is = map-same (hart_counts made) (hart_counts (made ++ k ∷ [])) 0 n (λ j l. other-counts j (ap (is_of_hart j) is))

  -- ---- items

  item-more : (x : ℕ) (reads erases granted : Bool) → asks_for is_read x k.answer ≡ reads → asks_for is_erase x k.answer ≡ erases → injects x k.answer ≡ granted
      → item_counts (made ++ k ∷ []) x ≡ record { reads = more reads (item_counts made x).reads; erases = more erases (item_counts made x).erases; injects = more granted (item_counts made x).injects }
  unfolding item_counts
  item-more x reads erases granted read erase inject =
      rw (one-counted (λ (j : Made). asks_for is_read x j.answer) made k reads few read, one-counted (λ (j : Made). asks_for is_erase x j.answer) made k erases few erase, one-counted (λ (j : Made). injects x j.answer) made k granted few inject) refl

  and-at : (b : Bool) (x : ℕ) → (b && nat_eq x x) ≡ b
  and-at true x = eq-eqb x x refl
  and-at false x = refl

  and-elsewhere : (b : Bool) (x y : ℕ) → (x ≡ y → ⊥) → (b && nat_eq x y) ≡ false
  and-elsewhere true x y other = ne_eqb x y other
  and-elsewhere false x y other = refl

  pub items-more : (n : ℕ) → items_after k.answer (map (item_counts made) (range_with_len 0 n)) ≡ map (item_counts (made ++ k ∷ [])) (range_with_len 0 n)
  items-more n = by_answer k.answer refl where
    rest : (a : TurnAnswer) → k.answer ≡ a → ((x : ℕ) → (asks_for is_read x a ≡ false) × (asks_for is_erase x a ≡ false) × (injects x a ≡ false)) → map (item_counts made) (range_with_len 0 n) ≡ map (item_counts (made ++ k ∷ [])) (range_with_len 0 n)
    rest a is none = map-same (item_counts made) (item_counts (made ++ k ∷ [])) 0 n (λ x l. item-more x false false false (ap (asks_for is_read x) is ∙ (none x).0) (ap (asks_for is_erase x) is ∙ (none x).1) (ap (injects x) is ∙ (none x).2))

    by_answer : (a : TurnAnswer) → k.answer ≡ a → items_after a (map (item_counts made) (range_with_len 0 n)) ≡ map (item_counts (made ++ k ∷ [])) (range_with_len 0 n)
    by_answer (TurnAnswer.Retired op) is = rest (TurnAnswer.Retired op) is (λ x. (refl, refl, refl))
    by_answer (TurnAnswer.Issued kind y) is =
        set-one (item_counts made) (item_counts (made ++ k ∷ [])) (item_asked kind) no_item_counts y n
        (λ x other. item-more x false false false (ap (asks_for is_read x) is ∙ and-elsewhere (is_read kind) y x (λ same. other (sym same))) (ap (asks_for is_erase x) is ∙ and-elsewhere (is_erase kind) y x (λ same. other (sym same))) (ap (injects x) is))
        (item-more y (is_read kind) (is_erase kind) false (ap (asks_for is_read y) is ∙ and-at (is_read kind) y) (ap (asks_for is_erase y) is ∙ and-at (is_erase kind) y) (ap (injects y) is))
    by_answer (TurnAnswer.Waiting y) is = rest (TurnAnswer.Waiting y) is (λ x. (refl, refl, refl))
    by_answer (TurnAnswer.Halted cause) is = rest (TurnAnswer.Halted cause) is (λ x. (refl, refl, refl))
    by_answer (TurnAnswer.Granted entry) is =
        set-one (item_counts made) (item_counts (made ++ k ∷ [])) (item_granted entry.kind) no_item_counts entry.item n
        (λ x other. item-more x false false false (ap (asks_for is_read x) is) (ap (asks_for is_erase x) is) (ap (injects x) is ∙ and-elsewhere (is_inject entry.kind) entry.item x (λ same. other (sym same))))
        (item-more entry.item false false (is_inject entry.kind) (ap (asks_for is_read entry.item) is) (ap (asks_for is_erase entry.item) is) (ap (injects entry.item) is ∙ and-at (is_inject entry.kind) entry.item))
    by_answer TurnAnswer.Empty is = rest TurnAnswer.Empty is (λ x. (refl, refl, refl))
    by_answer (TurnAnswer.Busy cause) is = rest (TurnAnswer.Busy cause) is (λ x. (refl, refl, refl))

  -- ---- buses

  bus-own : (b : ℕ) → is_of_bus b k.turn ≡ true → is_busy k.answer ≡ true → bus_busy (made ++ k ∷ []) b ≡ more true (bus_busy made b)
  unfolding bus_busy
  bus-own b own busy = one-counted (λ (j : Made). is_of_bus b j.turn && is_busy j.answer) made k true few (and-is (is_of_bus b k.turn) (is_busy k.answer) own ∙ busy)

  bus-other : (b : ℕ) → is_of_bus b k.turn ≡ false → bus_busy (made ++ k ∷ []) b ≡ bus_busy made b
  unfolding bus_busy
  bus-other b other = none-counted (λ (j : Made). is_of_bus b j.turn && is_busy j.answer) made k (and-none (is_of_bus b k.turn) (is_busy k.answer) other)

  and-later : (a b : Bool) → b ≡ false → (a && b) ≡ false
  and-later true b is = is
  and-later false b is = refl

  bus-idle : (b : ℕ) → is_busy k.answer ≡ false → bus_busy (made ++ k ∷ []) b ≡ bus_busy made b
  unfolding bus_busy
  bus-idle b idle = none-counted (λ (j : Made). is_of_bus b j.turn && is_busy j.answer) made k (and-later (is_of_bus b k.turn) (is_busy k.answer) idle)

  pub buses-idle : (n : ℕ) → is_busy k.answer ≡ false → map (bus_busy made) (range_with_len 0 n) ≡ map (bus_busy (made ++ k ∷ [])) (range_with_len 0 n)
  buses-idle n idle = map-same (bus_busy made) (bus_busy (made ++ k ∷ [])) 0 n (λ b l. bus-idle b idle)

  pub buses-busy : (n : ℕ) → is_busy k.answer ≡ true → busy_after k.turn (map (bus_busy made) (range_with_len 0 n)) ≡ map (bus_busy (made ++ k ∷ [])) (range_with_len 0 n)
  buses-busy n busy = by_turn k.turn refl where
    at_bus : (b : ℕ) → ((j : ℕ) → is_of_bus j k.turn ≡ nat_eq b j) → busy_after (Turn.Down b) (map (bus_busy made) (range_with_len 0 n)) ≡ map (bus_busy (made ++ k ∷ [])) (range_with_len 0 n)
    at_bus b of = set-one (bus_busy made) (bus_busy (made ++ k ∷ [])) (more true) 0 b n (λ j other. bus-other j (of j ∙ ne_eqb b j (λ same. other (sym same)))) (bus-own b (of b ∙ eq-eqb b b refl) busy)

    by_turn : (t : Turn) → k.turn ≡ t → busy_after t (map (bus_busy made) (range_with_len 0 n)) ≡ map (bus_busy (made ++ k ∷ [])) (range_with_len 0 n)
    by_turn (Turn.Hart hart victim) is = map-same (bus_busy made) (bus_busy (made ++ k ∷ [])) 0 n (λ b l. bus-other b (ap (is_of_bus b) is))
    by_turn (Turn.Down bus) is = at_bus bus (λ j. ap (is_of_bus j) is)
    by_turn (Turn.Request bus child) is = at_bus bus (λ j. ap (is_of_bus j) is)
    by_turn (Turn.Reply bus child) is = at_bus bus (λ j. ap (is_of_bus j) is)
    by_turn (Turn.Leave bus child choice) is = at_bus bus (λ j. ap (is_of_bus j) is)

-- ---- the turns that were made

pub made-more : (ts : List Turn) (t : Turn) (m : MachineValue) → made_of (ts ++ t ∷ []) m ≡ made_of ts m ++ (record { turn = t; answer = (turn_of t (run_of ts m).machine).answer }) ∷ []
unfolding made_of run_of
made-more [] t m = refl
made-more (u ∷ ts) t m = ap (λ l. (record { turn = u; answer = (turn_of u m).answer }) ∷ l) (made-more ts t (turn_of u m).machine)

pub made-length : (ts : List Turn) (m : MachineValue) → length (made_of ts m) ≡ length ts
unfolding made_of
made-length [] m = refl
made-length (t ∷ ts) m = ap suc (made-length ts (turn_of t m).machine)
