-- States and the turns between them: what a search goes through.
-- Letters: s is a state, t a turn, ts are turns, x is one of the things xs.
use Rattle.std.specs.Prelude.{◌≡◌, Bool, List, [], ◌∷◌, ◌⊎◌}

-- S are the states, T the turns, O what can come out
pub record Space (S T O : Type 0) : Type 0 where
  -- what a turn makes of a state
  pub step : T → S → S
  -- the turns that are tried of a state, in order
  pub choices : S → List T
  -- a state is an end, and what came out
  pub ended : S → Bool
  pub outcome : S → O
  -- two states, two outcomes are the same
  pub same : S → S → Bool
  pub same_outcome : O → O → Bool

-- the state after turns
abbrev pub state_after : {S T O : Type 0} → Space S T O → List T → S → S
state_after space [] s = s
state_after space (t ∷ ts) s = state_after space ts (space.step t s)

-- x is one of them
abbrev pub IsOneOf : {X : Type 0} → List X → X → Type 0
IsOneOf [] x = ⊥
IsOneOf (y ∷ ys) x = (y ≡ x) ⊎ IsOneOf ys x
