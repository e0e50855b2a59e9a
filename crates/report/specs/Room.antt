-- The room in what text is put into.
use Rattle.std.specs.Prelude.{ℕ, ◌+◌, ◌<◌, ◌≤◌, Result, MatchResult}

-- Text that was put there took at most so many bytes of the room; text that wasn't had less room than that.
abbrev pub UsesRoom : {A E : Type 0} → ℕ → ℕ → ℕ → Result A E → Type 0
UsesRoom most old new result = MatchResult result (λ _. old ≤ new + most) (λ _. old < most)
