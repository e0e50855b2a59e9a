-- The schedule of a seed: two words of the generator PCG XSH RR 64/32 (stream 54) for each turn.
use Rattle.std.specs.Prelude.{ℕ, zero, suc, ◌+◌, ◌-◌, ◌*◌, ◌/◌, ◌%◌, nat_lt, nat_eq, List, [], ◌∷◌, length, slice_index_or, if◌then◌else◌}
use Rattle.text_model.specs.DdmTypes.declared.turns.Turn.{Turn}
use Rattle.rand_pcg.specs.Lcg.{Lcg, started, increment_of}
use Rattle.rand_pcg.specs.Pcg.{pcg32, multiplier_64}
use Rattle.text_model.specs.Schedule.{ShapeView}

-- a turn of a bus with n children, by the number of its source: Down, then the requests, the replies and the leavings of its children
abbrev pub bus_turn_from : ℕ → ℕ → ℕ → ℕ → Turn
bus_turn_from bus n choice source =
    if nat_eq source 0 then Turn.Down bus
    else (if nat_lt source (n + 1) then Turn.Request bus (source - 1)
    else (if nat_lt source (2 * n + 1) then Turn.Reply bus (source - n - 1)
    else Turn.Leave bus (source - 2 * n - 1) choice))

abbrev hart_turn_from : ShapeView → ℕ → Turn
hart_turn_from shape b = Turn.Hart (b % shape.harts) (b / shape.harts % 256)

abbrev bus_turn_of_words : ShapeView → ℕ → ℕ → Turn
bus_turn_of_words shape a b =
    let buses = length shape.buses in
    let n = slice_index_or shape.buses (b % buses) 0 in
    bus_turn_from (b % buses) n (a / 4 % 16) (b / buses % (1 + 3 * n))

-- the turn of two words: half of the first words choose a hart
unfoldable pub seeded_turn : ShapeView → ℕ → ℕ → Turn
seeded_turn shape a b = if nat_lt (a % 4) 2 then hart_turn_from shape b else bus_turn_of_words shape a b

abbrev pub seeded_generator : ℕ → Lcg
seeded_generator seed = started 64 multiplier_64 seed (increment_of 64 54)

-- so many words of a generator
unfoldable pub words_of : Lcg → ℕ → List ℕ
words_of g zero = []
words_of g (suc n) = let w = pcg32 g in w.0 ∷ words_of w.1 n

-- the turns of a list of words
unfoldable pub turns_of_words : ShapeView → List ℕ → List Turn
turns_of_words shape [] = []
turns_of_words shape (a ∷ []) = []
turns_of_words shape (a ∷ b ∷ words) = seeded_turn shape a b ∷ turns_of_words shape words

unfoldable pub seeded_turns : ShapeView → ℕ → ℕ → List Turn
seeded_turns shape seed count = turns_of_words shape (words_of (seeded_generator seed) (2 * count))
