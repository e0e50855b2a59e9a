-- The entries that stand in ways, by set and then by way, one more at a time.
use Rattle.std.proofs.Common.{◌≡◌, ℕ, true, false, ◌+◌, ◌*◌, ◌%◌, ◌<◌, ◌≤◌, ◌++◌, List, [], ◌∷◌, length, Option, Some, None, refl, sym, ap, subst, ◌∙◌, ◌↔◌, arith, length-append}
use Rattle.std.specs.Prelude.{option_map, option_to_list, is_some}
use Rattle.std.specs.List.{flat_map, range_with_len}
use Rattle.std.proofs.Math.Nat.{mod-eq_of_lt}
use Rattle.std.proofs.lemmas.List.{append-nil}
use Rattle.std.proofs.lemmas.Option.{none-some, same_Some}
use Rattle.std.proofs.lemmas.Grind.{flat_map-append}
use Rattle.leaf_protocol.specs.TreeModel.State.Values.{WayValue}
use Rattle.attraction_mem.specs.Memory.{EntryValue, MemoryValue, entry_of, StandsIn}
use Rattle.leaf_protocol.specs.StateWords.Parts.{StandingValue, standing_words, standing_of, standing_at, standing_in, standing}
use Rattle.leaf_protocol.proofs.StateWords.OneMore.{filter_map-more, flat_map-more}
use Rattle.leaf_protocol.specs.Entries.{way_value, ways_of}
use Rattle.leaf_protocol.proofs.Ways.{AreBelow, way_at-ways_of, item_in_way-only, item_in_way-none}

module _ (n : ℕ) (m : MemoryValue) (below : AreBelow n m) (set way : ℕ) (inside : set < m.sets) where
  own-set : set % m.sets ≡ set
  own-set = mod-eq_of_lt inside

  from-own : (y : ℕ) → StandsIn m (set % m.sets) way y → StandsIn m set way y
  from-own y there = let P : ℕ → Type 0 = λ s. StandsIn m s way y in subst P own-set there

  to-own : (y : ℕ) → StandsIn m set way y → StandsIn m (set % m.sets) way y
  to-own y there = let P : ℕ → Type 0 = λ s. StandsIn m s way y in subst P (sym own-set) there

  pub standing-none : (o : Option ℕ) → ((y : ℕ) → (o ≡ Some y) ↔ StandsIn m set way y) → o ≡ None → standing_at m.sets (ways_of n m) set way ≡ None
  unfolding standing_at
  standing-none o is none = ap (standing_of m.sets (ways_of n m)) (item_in_way-none n m below set way (λ y there. absurd (none-some y (sym none ∙ (is y).1 (from-own y there)))))

  pub standing-some : (y : ℕ) (e : EntryValue) → ((z : ℕ) → (Some y ≡ Some z) ↔ StandsIn m set way z) → entry_of m y ≡ Some e → standing_at m.sets (ways_of n m) set way ≡ Some (record { item = y; entry = way_value e })
  unfolding standing_at
  standing-some y e is there =
      let item = item_in_way-only n m below set way y (to-own y ((is y).0 refl)) (λ z stands. same_Some y z ((is z).1 (from-own z stands))) in
      let with_item : WayValue → StandingValue = λ w. record { item = y; entry = w } in
      ap (standing_of m.sets (ways_of n m)) item ∙ ap (option_map with_item) (way_at-ways_of n m y below ∙ ap (option_map way_value) there)

module _ (sets : ℕ) (ways : List (Option WayValue)) where
  pub one_way_more : (set n : ℕ) → standing_in sets ways (n + 1) set ≡ standing_in sets ways n set ++ option_to_list (standing_at sets ways set n)
  unfolding standing_in
  one_way_more set n = filter_map-more (standing_at sets ways set) n

  pub taken_way : (set n : ℕ) (e : StandingValue) → standing_at sets ways set n ≡ Some e → standing_in sets ways (n + 1) set ≡ standing_in sets ways n set ++ e ∷ []
  taken_way set n e is = one_way_more set n ∙ ap (λ o. standing_in sets ways n set ++ option_to_list o) is

  pub free_way : (set n : ℕ) → standing_at sets ways set n ≡ None → standing_in sets ways (n + 1) set ≡ standing_in sets ways n set
  free_way set n is = one_way_more set n ∙ (ap (λ o. standing_in sets ways n set ++ option_to_list o) is ∙ append-nil (standing_in sets ways n set))

  -- the words of one entry more
  pub words_of_way : (set n : ℕ) (e : StandingValue) → standing_at sets ways set n ≡ Some e → flat_map standing_words (standing_in sets ways (n + 1) set) ≡ flat_map standing_words (standing_in sets ways n set) ++ standing_words e
  words_of_way set n e is = ap (flat_map standing_words) (taken_way set n e is) ∙ (flat_map-append standing_words (standing_in sets ways n set) (e ∷ []) ∙ ap (λ t. flat_map standing_words (standing_in sets ways n set) ++ t) (append-nil (standing_words e)))

  -- the entries of the first so many sets
  unfoldable pub first_sets : ℕ → ℕ → List StandingValue
  first_sets way_count n = flat_map (standing_in sets ways way_count) (range_with_len 0 n)

  pub all_sets : (way_count : ℕ) → first_sets way_count sets ≡ standing sets ways way_count
  unfolding first_sets standing
  all_sets way_count = refl

  pub no_sets : (way_count : ℕ) → first_sets way_count 0 ≡ []
  unfolding first_sets
  no_sets way_count = refl

  pub one_set_more : (way_count n : ℕ) → first_sets way_count (n + 1) ≡ first_sets way_count n ++ standing_in sets ways way_count n
  unfolding first_sets
  one_set_more way_count n = flat_map-more (standing_in sets ways way_count) n

  pub words_of_set : (way_count n : ℕ) → flat_map standing_words (first_sets way_count (n + 1)) ≡ flat_map standing_words (first_sets way_count n) ++ flat_map standing_words (standing_in sets ways way_count n)
  words_of_set way_count n = ap (flat_map standing_words) (one_set_more way_count n) ∙ flat_map-append standing_words (first_sets way_count n) (standing_in sets ways way_count n)

  -- how many entries there are with one way more
  pub count_more : (set n : ℕ) (o : Option StandingValue) → standing_at sets ways set n ≡ o → length (standing_in sets ways (n + 1) set) ≡ length (standing_in sets ways n set) + length (option_to_list o)
  count_more set n o is = ap length (one_way_more set n ∙ ap (λ p. standing_in sets ways n set ++ option_to_list p) is) ∙ length-append (standing_in sets ways n set) (option_to_list o)

pub row_more : (n w a b : ℕ) → a ≤ n * w → b ≤ w → a + b ≤ (n + 1) * w
row_more n w a b most few = rw (add_mul n w) (omega (arith, most, few)) where
  add_mul : (n w : ℕ) → (n + 1) * w ≡ n * w + w
  add_mul n w = grind arith

pub some_counts : {X : Type 0} (o : Option X) → is_some o ≡ true → length (option_to_list o) ≡ 1
some_counts None is = absurd cc
some_counts (Some x) is = refl

pub none_counts : {X : Type 0} (o : Option X) → is_some o ≡ false → length (option_to_list o) ≡ 0
none_counts None is = refl
none_counts (Some x) is = absurd cc
