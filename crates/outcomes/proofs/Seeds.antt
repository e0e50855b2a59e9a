-- The outcomes of one seed more.
use Rattle.std.proofs.Common.{◌≡◌, ◌∙◌, ap, refl, ℕ, ◌+◌, ◌<◌, List, [], ◌∷◌, ◌++◌, length, map, arith}
use Rattle.std.specs.Prelude.{nat_eq}
use Rattle.std.specs.List.{AllByRecursion, range_with_len}
use Rattle.std.specs.Cmp.Lexicographic.{pointwise}
use Rattle.std.proofs.lemmas.List.FromFn.{length-map-range_with_len, map-range_with_len_more}
use Rattle.std.proofs.lemmas.List.Elements.{All-from_recursion}
use Rattle.std.proofs.lemmas.List.Sums.{count_by-le-length}
use Rattle.outcome_model.specs.Table.{OutcomeLine, counted, tallied}
use Rattle.outcome_model.specs.TableLaws.{IsLine}
use Rattle.outcomes.specs.Runs.{AreFew}
use Rattle.outcome_model.proofs.TableLaws.{all-tally}

tallied-last : (seed : ℕ) (os : List (List ℕ)) (o : List ℕ) (ls : List OutcomeLine) → tallied seed (os ++ o ∷ []) ls ≡ counted (seed + length os) o (tallied seed os ls)
unfolding tallied
tallied-last seed [] o ls = ap (λ n. counted n o ls) (omega arith)
tallied-last seed (p ∷ os) o ls = tallied-last (seed + 1) os o (counted seed p ls) ∙ ap (λ n. counted n o (tallied (seed + 1) os (counted seed p ls))) (omega arith)

-- the outcomes of seeds, each from `first` on
module _ (outcome : ℕ → List ℕ) (first : ℕ) where
  abbrev pub given : ℕ → List (List ℕ)
  given count = map outcome (range_with_len first count)

  abbrev pub tally : ℕ → List OutcomeLine
  tally count = tallied first (given count) []

  given-next : (count : ℕ) → given (count + 1) ≡ given count ++ outcome (first + count) ∷ []
  given-next count = map-range_with_len_more outcome first count (first + count) refl

  given-counted : (count : ℕ) → length (given count) ≡ count
  given-counted count = length-map-range_with_len outcome first count

  pub tally-next : (count : ℕ) → tally (count + 1) ≡ counted (first + count) (outcome (first + count)) (tally count)
  tally-next count =
      ap (λ os. tallied first os []) (given-next count) ∙ tallied-last first (given count) (outcome (first + count)) [] ∙ ap (λ n. counted (first + n) (outcome (first + count)) (tally count)) (given-counted count)

  -- no line counts more seeds than there were
  pub tally-few : (count : ℕ) → count < 4294967296 → AreFew (tally count)
  tally-few count few = All-from_recursion (λ (l : OutcomeLine). l.times < 18446744073709551615) (tally count) (each (tally count) (all-tally first (given count)).lines)
    where
      each : (ls : List OutcomeLine) → AllByRecursion (IsLine first (given count)) ls → AllByRecursion (λ (l : OutcomeLine). l.times < 18446744073709551615) ls
      each [] all = tt
      each (l ∷ ls) all =
          let within = count_by-le-length (pointwise nat_eq l.outcome) (given count) in
          (omega (arith, all.0.times, within, given-counted count, few), each ls all.1)
