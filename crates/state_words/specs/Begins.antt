-- What is left of a list where no memory was there for all that was to be put behind it.
use Rattle.std.specs.Prelude.{◌≡◌, ℕ, List, ◌++◌}
use Rattle.ddm_text.specs.Adds.{Adds}

-- new begins with old
pub record Begins (old new : List ℕ) : Type 0 where
  pub rest : List ℕ
  pub added : Adds old new rest
