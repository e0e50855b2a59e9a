-- Runs that satisfy a condition, counted one state more at a time.
use Rattle.std.proofs.Common.{◌≡◌, ℕ, suc, ◌+◌, ◌<◌, ◌≤◌, List, [], ◌∷◌, length, drop, get_or, refl, add-one, arith}
use Rattle.std.specs.Prelude.{Bool, true, false}
use Rattle.std.proofs.Math.Seq.{drop-cons}
use Rattle.std.proofs.lemmas.List.Sums.{sum_by-cons}
use Rattle.std.proofs.Math.ListN.{drop_of_length-le}
use Rattle.litmus_model.specs.Satisfies.{satisfies}
use Rattle.litmus_model.specs.StatesText.{StateLine, runs_that}
use Rattle.litmus_model.specs.Test.{Test}
use Rattle.litmus_log.specs.Kept.{counted, times_in}

-- each is counted once
pub both : (satisfied : Bool) (times : ℕ) → counted true satisfied times + counted false satisfied times ≡ times
unfolding counted
both true times = omega arith
both false times = omega arith

module _ (test : Test) (item_bytes : ℕ) where
  next : (satisfy : Bool) (states : List StateLine) (k : ℕ) (d : StateLine) → k < length states
      → runs_that satisfy test item_bytes (drop k states) ≡ counted satisfy (satisfies test item_bytes (get_or states k d).words) (get_or states k d).times + runs_that satisfy test item_bytes (drop (k + 1) states)
  unfolding runs_that counted
  next satisfy states k d inside =
      rw (add-one, drop-cons states k d inside)
      (sum_by-cons (λ (s : StateLine). counted satisfy (satisfies test item_bytes s.words) s.times) (get_or states k d) (drop (suc k) states))

  pub done : (satisfy : Bool) (states : List StateLine) (k : ℕ) → length states ≤ k → runs_that satisfy test item_bytes (drop k states) ≡ 0
  unfolding runs_that
  done satisfy states k past = rw (drop_of_length-le states past) refl

times_next : (states : List StateLine) (k : ℕ) (d : StateLine) → k < length states → times_in (drop k states) ≡ (get_or states k d).times + times_in (drop (k + 1) states)
times_next states k d inside = rw (add-one, drop-cons states k d inside) (sum_by-cons (λ (s : StateLine). s.times) (get_or states k d) (drop (suc k) states))

-- one state more: of its seeds, those that came to a state that satisfies the condition, and the others
module _ (test : Test) (item_bytes : ℕ) (states : List StateLine) (k : ℕ) (d : StateLine) (inside : k < length states) where
  abbrev here : StateLine
  here = get_or states k d

  pub step : (satisfied : Bool) (times t o more others : ℕ) → satisfied ≡ satisfies test item_bytes here.words → times ≡ here.times → more ≡ t + counted true satisfied times → others ≡ o + counted false satisfied times
      → t + runs_that true test item_bytes (drop k states) ≡ runs_that true test item_bytes states → o + runs_that false test item_bytes (drop k states) ≡ runs_that false test item_bytes states
      → t + o + times_in (drop k states) ≡ times_in states
      → (more + runs_that true test item_bytes (drop (k + 1) states) ≡ runs_that true test item_bytes states)
      × (others + runs_that false test item_bytes (drop (k + 1) states) ≡ runs_that false test item_bytes states)
      × (more + others + times_in (drop (k + 1) states) ≡ times_in states)
  step satisfied times t o more others is same added left first second all =
      let yes : counted true satisfied times ≡ counted true (satisfies test item_bytes here.words) here.times = rw (is, same) refl in
      let no : counted false satisfied times ≡ counted false (satisfies test item_bytes here.words) here.times = rw (is, same) refl in
      let one = next test item_bytes true states k d inside in
      let other = next test item_bytes false states k d inside in
      let sum = times_next states k d inside in
      let each = both satisfied times in
      (omega (arith, yes, one, added, first), omega (arith, no, other, left, second), omega (arith, sum, each, same, added, left, all))
