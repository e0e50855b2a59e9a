-- What is asked of states and turns for a search to find all: states that are alike can't be told apart, the turns that are
-- tried are enough, and what waits can be done first.
-- Letters: s, r and q are states, t and u turns, o and p outcomes.
-- To be believed with the laws: it is what they speak of.
use Rattle.std.specs.Prelude.{◌≡◌, true, false, [], ◌∷◌}
use Rattle.search_laws.specs.Space.{Space, IsOneOf}

module _ {S T O : Type 0} (space : Space S T O) (Alike : S → S → Type 0) where
  -- states that are alike
  pub record KeepsAlike : Type 0 where
    pub itself : (s : S) → Alike s s
    pub back : (s r : S) → Alike s r → Alike r s
    pub through : (s r q : S) → Alike s r → Alike r q → Alike s q
    pub step : (t : T) (s r : S) → Alike s r → Alike (space.step t s) (space.step t r)
    pub choices : (s r : S) → Alike s r → space.choices s ≡ space.choices r
    pub ended : (s r : S) → Alike s r → space.ended s ≡ space.ended r
    pub outcome : (s r : S) → Alike s r → space.outcome s ≡ space.outcome r
    -- the test of it is exact, and so is that of outcomes
    pub same : (s r : S) → space.same s r ≡ true → Alike s r
    pub found_same : (s r : S) → Alike s r → space.same s r ≡ true
    pub same_outcome : (o p : O) → space.same_outcome o p ≡ true → o ≡ p
    pub outcome_itself : (o : O) → space.same_outcome o o ≡ true

  -- what came out stays
  pub record EndsStay : Type 0 where
    pub ended : (t : T) (s : S) → space.ended s ≡ true → space.ended (space.step t s) ≡ true
    pub outcome : (t : T) (s : S) → space.ended s ≡ true → space.outcome (space.step t s) ≡ space.outcome s

  -- a turn changes nothing, or does what one of the turns does that are tried
  pub data Tried (s : S) (t : T) : Type 0 where
    changes_nothing : Alike (space.step t s) s → Tried s t
    does_what : (u : T) → IsOneOf (space.choices s) u → Alike (space.step t s) (space.step u s) → Tried s t

  module _ (IsQuiet : S → T → Type 0) where
    -- the turns that are tried of a state that is no end: a quiet one alone, or all that there are
    pub data Enough (s : S) : Type 0 where
      quiet_one : (t : T) → space.choices s ≡ t ∷ [] → IsQuiet s t → Enough s
      all_others : ((t : T) → Tried s t) → Enough s

    -- beside a quiet turn another does the same, or it leaves it quiet, and the two may be swapped
    pub data Beside (s : S) (t u : T) : Type 0 where
      instead : Alike (space.step u s) (space.step t s) → Beside s t u
      swapped : IsQuiet (space.step u s) t → Alike (space.step t (space.step u s)) (space.step u (space.step t s)) → Beside s t u

    -- asked of the states alone that are fit, and those after them
    pub record QuietFirst (IsFit : S → Type 0) : Type 0 where
      pub stays_fit : (t : T) (s : S) → IsFit s → IsFit (space.step t s)
      pub enough : (s : S) → IsFit s → space.ended s ≡ false → Enough s
      pub beside : (s : S) (t u : T) → IsFit s → IsQuiet s t → Beside s t u
      -- where a turn is quiet there is no end, and a turn is tried
      pub runs : (s : S) (t : T) → IsQuiet s t → space.ended s ≡ false
      pub moves : (s : S) (t : T) → IsFit s → IsQuiet s t → space.choices s ≡ [] → ⊥
