-- What is printed of the states to which runs of a test came, in the words of litmus7.
use Rattle.std.specs.Prelude.{ℕ, ◌+◌, ◌-◌, ◌^◌, Bool, true, false, not, nat_eq, nat_lt, List, [], ◌∷◌, ◌++◌, length}
use Rattle.std.specs.Prelude.{replicate, find, sum_by, codes, decimal, Option, Some, None, if◌then◌else◌}
use Rattle.std.specs.List.{flat_map}
use Rattle.litmus_model.specs.declared.parts.Target.{Target}
use Rattle.litmus_model.specs.declared.parts.Target.TheVariants.{Register, Location}
use Rattle.litmus_model.specs.declared.parts.Chunk.{Chunk}
use Rattle.litmus_model.specs.declared.parts.Chunk.TheVariants as chunk
use Rattle.litmus_model.specs.declared.test.Quantifier.{Quantifier}
use Rattle.litmus_model.specs.declared.test.Quantifier.TheVariants.{Exists, NotExists, Forall}
use Rattle.litmus_model.specs.Image.{address_of, word_of}
use Rattle.litmus_model.specs.Satisfies.{satisfies}
use Rattle.litmus_model.specs.Test.{Test}

-- A state, the words of what is observed; how many seeds came to it, and the smallest of these.
pub record StateLine : Type 0 where
  pub times : ℕ
  pub seed : ℕ
  pub words : List ℕ

-- The runs of so many seeds: the states to which they came in the order in which they are printed, how many hadn't ended, and in how
-- many a hart faulted.
pub record RunStates : Type 0 where
  pub states : List StateLine
  pub runs : ℕ
  pub unfinished : ℕ
  pub faulted : ℕ

-- ---- words

abbrev pub line : List ℕ → List ℕ
line text = text ++ 10 ∷ []

-- in two's complement
unfoldable pub number_text : ℕ → List ℕ
number_text w = if nat_lt w (2 ^ 31) then decimal w else codes "-" ++ decimal (2 ^ 32 - w)

abbrev pub location_or_number : Option (List ℕ) → ℕ → List ℕ
location_or_number None w = number_text w
location_or_number (Some name) w = name

-- the name of the location whose address a word is, else its number
unfoldable pub word_text : Test → ℕ → ℕ → List ℕ
word_text test item_bytes w = location_or_number (find (λ name. nat_eq (address_of test item_bytes name) w) test.locations) w

abbrev pub target_text : Target → List ℕ
target_text (Register k r) = decimal k ++ codes ":x" ++ decimal r
target_text (Location name) = name

-- ---- states

abbrev pub observed_text : Test → ℕ → Target → ℕ → List ℕ
observed_text test item_bytes target w = target_text target ++ codes "=" ++ word_text test item_bytes w ++ codes ";"

-- each behind a blank
unfoldable pub others_text : Test → ℕ → List Target → List ℕ → List ℕ
others_text test item_bytes [] words = []
others_text test item_bytes (t ∷ ts) [] = []
others_text test item_bytes (t ∷ ts) (w ∷ ws) = codes " " ++ observed_text test item_bytes t w ++ others_text test item_bytes ts ws

abbrev pub targets_text : Test → ℕ → List Target → List ℕ → List ℕ
targets_text test item_bytes [] words = []
targets_text test item_bytes (t ∷ ts) [] = []
targets_text test item_bytes (t ∷ ts) (w ∷ ws) = observed_text test item_bytes t w ++ others_text test item_bytes ts ws

unfoldable pub state_text : Test → ℕ → List ℕ → List ℕ
state_text test item_bytes words = targets_text test item_bytes test.observed words

-- a number with blanks behind it up to six places
abbrev pub six_places : ℕ → List ℕ
six_places n = decimal n ++ replicate (6 - length (decimal n)) 32

abbrev pub mark_of : Bool → List ℕ
mark_of true = codes "*"
mark_of false = codes ":"

abbrev pub histogram_line : Test → ℕ → StateLine → List ℕ
histogram_line test item_bytes s =
    line (six_places s.times ++ mark_of (satisfies test item_bytes s.words) ++ codes ">" ++ state_text test item_bytes s.words)

abbrev pub seed_line : Test → ℕ → StateLine → List ℕ
seed_line test item_bytes s = line (codes "Seed " ++ decimal s.seed ++ codes " " ++ state_text test item_bytes s.words)

-- ---- the condition

unfoldable pub chunk_text : Test → ℕ → Chunk → List ℕ
chunk_text test item_bytes chunk.Open = codes "("
chunk_text test item_bytes chunk.Close = codes ")"
chunk_text test item_bytes chunk.Not = codes "not "
chunk_text test item_bytes chunk.And = codes " /\\ "
chunk_text test item_bytes chunk.Or = codes " \\/ "
chunk_text test item_bytes chunk.True = codes "true"
chunk_text test item_bytes chunk.False = codes "false"
chunk_text test item_bytes (chunk.Is target value) =
    target_text target ++ codes "=" ++ word_text test item_bytes (word_of test item_bytes value)

abbrev pub quantifier_text : Quantifier → List ℕ
quantifier_text Exists = codes "exists"
quantifier_text NotExists = codes "~exists"
quantifier_text Forall = codes "forall"

unfoldable pub condition_text : Test → ℕ → List ℕ
condition_text test item_bytes = quantifier_text test.quantifier ++ codes " " ++ flat_map (chunk_text test item_bytes) test.chunks

-- what the author expects
abbrev pub kind_text : Quantifier → List ℕ
kind_text Exists = codes "Allowed"
kind_text NotExists = codes "Forbidden"
kind_text Forall = codes "Required"

-- ---- what the states say of it; t runs satisfy the condition, f others came to a state

unfoldable pub runs_that : Bool → Test → ℕ → List StateLine → ℕ
runs_that satisfy test item_bytes states =
    sum_by
    (λ (s : StateLine). if satisfies test item_bytes s.words then (if satisfy then s.times else 0)
    else (if satisfy then 0 else s.times)) states

abbrev pub is_validated : Quantifier → ℕ → ℕ → Bool
is_validated Exists t f = nat_lt 0 t
is_validated NotExists t f = nat_eq t 0
is_validated Forall t f = nat_eq f 0

abbrev pub result_text : Bool → List ℕ
result_text validated = if validated then codes "Ok" else codes "No"

abbrev pub validated_text : Bool → List ℕ
validated_text validated = if validated then codes "validated" else codes "NOT validated"

abbrev pub witnesses : ℕ → ℕ → List ℕ
witnesses positive negative = codes "Positive: " ++ decimal positive ++ codes ", Negative: " ++ decimal negative

abbrev pub witnesses_text : Quantifier → ℕ → ℕ → List ℕ
witnesses_text Exists t f = witnesses t f
witnesses_text NotExists t f = witnesses f t
witnesses_text Forall t f = witnesses t f

abbrev pub often_text : ℕ → ℕ → List ℕ
often_text t f = if nat_eq t 0 then codes "Never" else (if nat_eq f 0 then codes "Always" else codes "Sometimes")

unfoldable pub verdict_text : Test → ℕ → ℕ → ℕ → List ℕ
verdict_text test item_bytes t f =
    let validated = is_validated test.quantifier t f in
    line (result_text validated) ++ line [] ++ line (codes "Witnesses") ++
    line (witnesses_text test.quantifier t f) ++
    line (codes "Condition " ++ condition_text test item_bytes ++ codes " is " ++ validated_text validated) ++
    line (codes "Observation " ++ test.name ++ codes " " ++ often_text t f ++ codes " " ++ decimal t ++ codes " " ++ decimal f)

-- ---- all of it

unfoldable pub states_text : Test → ℕ → RunStates → List ℕ
states_text test item_bytes r =
    line (codes "Test " ++ test.name ++ codes " " ++ kind_text test.quantifier) ++
    line (codes "Histogram (" ++ decimal (length r.states) ++ codes " states)") ++
    flat_map (histogram_line test item_bytes) r.states ++
    verdict_text test item_bytes (runs_that true test item_bytes r.states) (runs_that false test item_bytes r.states) ++
    flat_map (seed_line test item_bytes) r.states ++
    line (codes "Runs " ++ test.name ++ codes " " ++ decimal r.runs ++ codes " unfinished "
    ++ decimal r.unfinished ++ codes " faulted " ++ decimal r.faulted)
