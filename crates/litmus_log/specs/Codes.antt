-- How the logic stores a state of runs.
use Rattle.std.specs.Prelude.{ℕ, List, refl}
use Rattle.std.specs.Coded.{Coded, code_by, coded×, coded_list, coded_ℕ}
use Rattle.litmus_model.specs.StatesText.{StateLine}

-- as its numbers and its words
abbrev pub state_code : Coded StateLine
state_code = code_by (ℕ × (ℕ × List ℕ)) (coded× coded_ℕ (coded× coded_ℕ (coded_list coded_ℕ)))
    (λ s. (s.times, (s.seed, s.words))) (λ p. record { times = p.0; seed = p.1.0; words = p.1.1 }) (λ _. refl)
