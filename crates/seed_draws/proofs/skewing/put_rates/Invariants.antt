use Rattle.std.proofs.Common.{◌≡◌, ◌++◌, ◌-◌, length, take}
use Rattle.recording_model.specs.LetBy.{skew_from}
use Rattle.seed_draws.proofs.skewing.put_rates.Given as goal

-- the rates so far, and those to come
abbrev pub invariant-loop-place : goal.invariant-loop-place
invariant-loop-place l =
    (length l.rates ≡ length l.initial.rates) × (take l.place l.rates ++ (skew_from (length l.initial.rates - l.place) l.words).rates ≡ (skew_from (length l.initial.rates) l.initial.words).rates)
    × ((skew_from (length l.initial.rates - l.place) l.words).words ≡ (skew_from (length l.initial.rates) l.initial.words).words)
