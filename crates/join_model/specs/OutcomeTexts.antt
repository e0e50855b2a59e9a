-- The texts of the outcomes of a machine's seeds, put together, in the words of their reader.
-- Letters: m is a machine.
-- To be believed: it is what is claimed of them.
use Rattle.std.specs.Prelude.{◌≡◌, ℕ, ◌+◌, ◌≤◌, List, [], ◌∷◌, length, sum, Ok}
use Rattle.std.specs.List.{AllByRecursion}
use Rattle.text_model.specs.Schedule.{ShapeView}
use Rattle.outcome_model.specs.Outcome.{outcome_of}
use Rattle.outcome_model.specs.Outcomes.{outcomes_text}
use Rattle.outcome_model.specs.TreeModel.State.Values.{MachineValue}
use Rattle.join_model.specs.Files.{joined_text}
use Rattle.join_model.specs.Table.{most_bytes, most_number}
use Rattle.join_model.specs.TextLaws.{IsOutcomeText}

-- every outcome is in one line, and is behind a seed there
abbrev pub OutcomesAreTexts : Type 0
OutcomesAreTexts = (m : MachineValue) → IsOutcomeText (outcome_of m)

-- what calls for so many seeds each print, of which each begins behind the one before it
unfoldable pub range_texts : ShapeView → ℕ → MachineValue → ℕ → List ℕ → List (List ℕ)
range_texts shape turns m first [] = []
range_texts shape turns m first (count ∷ counts) =
    outcomes_text shape turns m first count ∷ range_texts shape turns m (first + count) counts

-- together it is byte for byte what one call prints for all of them
abbrev pub JoinedOutcomes : Type 0
JoinedOutcomes = (shape : ShapeView) (turns : ℕ) (m : MachineValue) (first count : ℕ) (counts : List ℕ)
    → first + sum (count ∷ counts) ≤ most_number + 1 → sum (count ∷ counts) ≤ most_number
    → AllByRecursion (λ (text : List ℕ). length text ≤ most_bytes) (range_texts shape turns m first (count ∷ counts))
    → joined_text (range_texts shape turns m first (count ∷ counts)) ≡ Ok (outcomes_text shape turns m first (sum (count ∷ counts)))
