-- Which of the turns that a seed draws are let by.
-- Letters: t is a turn, g a generator, w its next word and the generator after it.
-- To be believed: it is what is made of a seed.
use Rattle.std.specs.Prelude.{ℕ, zero, suc, ◌+◌, ◌*◌, ◌%◌, ◌^◌, Bool, true, nat_eq, List, [], ◌∷◌, length, map}
use Rattle.std.specs.Prelude.{sum_by, take, slice_index_or}
use Rattle.rand_pcg.specs.Lcg.{Lcg, started, increment_of}
use Rattle.rand_pcg.specs.Pcg.{pcg32, multiplier_64}
use Rattle.recording_model.specs.DdmTypes.declared.turns.Turn.{Turn}
use Rattle.recording_model.specs.TextModel.Schedule.{ShapeView}
use Rattle.recording_model.specs.TextModel.Seeded.{seeded_turns}
use Rattle.recording_model.specs.declared.SeedKind.{SeedKind}

-- a drawn turn, and whether it is let by
pub record Draw : Type 0 where
  pub turn : Turn
  pub let_by : Bool

-- ---- the turns of a tree, victims and choices aside, in order: its harts, then for each bus its Down, and the requests, the replies
-- and the leavings of its children

-- how many a bus with so many children has
abbrev pub turns_of_bus : ℕ → ℕ
turns_of_bus children = 1 + 3 * children

-- how many come before those of a bus
abbrev pub turns_before : ShapeView → ℕ → ℕ
turns_before shape bus = shape.harts + sum_by turns_of_bus (take bus shape.buses)

-- how many there are
abbrev pub turns_of_tree : ShapeView → ℕ
turns_of_tree shape = turns_before shape (length shape.buses)

-- the place of a turn among them
abbrev pub place_of : ShapeView → Turn → ℕ
place_of shape (Turn.Hart hart victim) = hart
place_of shape (Turn.Down bus) = turns_before shape bus
place_of shape (Turn.Request bus child) = turns_before shape bus + 1 + child
place_of shape (Turn.Reply bus child) = turns_before shape bus + 1 + slice_index_or shape.buses bus 0 + child
place_of shape (Turn.Leave bus child choice) = turns_before shape bus + 1 + 2 * slice_index_or shape.buses bus 0 + child

-- ---- rates: a turn of rate r is let by once in 2^r times

abbrev pub rate_of_word : ℕ → ℕ
rate_of_word w = slice_index_or (0 ∷ 0 ∷ 3 ∷ 6 ∷ []) (w % 4) 0

-- the rate of each turn of the tree, and the generator that then lets turns by
pub record Skew : Type 0 where
  pub rates : List ℕ
  pub words : Lcg

-- so many rates of a generator
unfoldable pub skew_from : ℕ → Lcg → Skew
skew_from zero g = record { rates = []; words = g }
skew_from (suc n) g = let w = pcg32 g in let rest = skew_from n w.1 in record rest { rates = rate_of_word w.0 ∷ rest.rates }

-- the second generator of a seed: stream 55
abbrev pub skewing_generator : ℕ → Lcg
skewing_generator seed = started 64 multiplier_64 seed (increment_of 64 55)

abbrev pub skew_of : ShapeView → ℕ → Skew
skew_of shape seed = skew_from (turns_of_tree shape) (skewing_generator seed)

abbrev pub rate_of : ShapeView → List ℕ → Turn → ℕ
rate_of shape rates t = slice_index_or rates (place_of shape t) 0

-- whether a turn of a rate is let by, and the generator after it; a turn of rate 0 takes no word
abbrev pub let_by_rate : ℕ → Lcg → Bool × Lcg
let_by_rate zero g = (true, g)
let_by_rate (suc r) g = let w = pcg32 g in (nat_eq (w.0 % 2 ^ suc r) 0, w.1)

-- ---- draws

unfoldable pub skewed_draws : ShapeView → List ℕ → Lcg → List Turn → List Draw
skewed_draws shape rates g [] = []
skewed_draws shape rates g (t ∷ ts) =
    let by = let_by_rate (rate_of shape rates t) g in
    record { turn = t; let_by = by.0 } ∷ skewed_draws shape rates by.1 ts

abbrev pub even_draw : Turn → Draw
even_draw t = record { turn = t; let_by = true }

-- these turns of a seed, with whether each is let by
unfoldable pub draws_of : SeedKind → ShapeView → ℕ → List Turn → List Draw
draws_of SeedKind.Even shape seed ts = map even_draw ts
draws_of SeedKind.Skewed shape seed ts = let skew = skew_of shape seed in skewed_draws shape skew.rates skew.words ts

-- so many turns of a seed
abbrev pub seed_draws : SeedKind → ShapeView → ℕ → ℕ → List Draw
seed_draws kind shape seed count = draws_of kind shape seed (seeded_turns shape seed count)
