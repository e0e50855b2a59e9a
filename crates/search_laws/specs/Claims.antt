-- What is claimed of a search.
-- Letters: m is the state that it began with, s the search, ts and us are turns, f is a found outcome, e a kept state.
-- To be believed: it is what is claimed of every search.
use Rattle.std.specs.Prelude.{◌≡◌, ◌≤◌, ◌<◌, true, false, List, [], ◌++◌, length}
use Rattle.search_laws.specs.Space.{Space, state_after, IsOneOf}
use Rattle.search_laws.specs.Search.{Kept, Found, Searched, first_length}
use Rattle.search_laws.specs.Lost.{lost}

module _ {S T O : Type 0} (space : Space S T O) (m : S) where
  -- these turns lead to an end with this outcome
  pub record EndsWith (o : O) (ts : List T) : Type 0 where
    pub ended : space.ended (state_after space ts m) ≡ true
    pub outcome : space.outcome (state_after space ts m) ≡ o

  -- they lead to a state that is no end, of which no turn is tried
  pub record JamsWith (o : O) (ts : List T) : Type 0 where
    pub runs : space.ended (state_after space ts m) ≡ false
    pub stuck : space.choices (state_after space ts m) ≡ []
    pub outcome : space.outcome (state_after space ts m) ≡ o

  -- one of these has the outcome, and is no longer
  pub record HasNoLonger (fs : List (Found T O)) (o : O) (ts : List T) : Type 0 where
    pub found : Found T O
    pub is_one : IsOneOf fs found
    pub outcome : found.outcome ≡ o
    pub no_longer : length found.schedule ≤ length ts

  -- turns that lead to an end from the state after these
  pub record CanEnd (ts : List T) : Type 0 where
    pub later : List T
    pub ended : space.ended (state_after space (ts ++ later) m) ≡ true

  module _ (s : Searched S T O) where
    -- each line is that of an end, and no turns are a shorter way to its outcome; a jam likewise
    pub record LinesAreShortest : Type 0 where
      pub found : (f : Found T O) → IsOneOf s.found f → EndsWith f.outcome f.schedule
      pub shortest : (f : Found T O) → IsOneOf s.found f → (ts : List T) → EndsWith f.outcome ts → length f.schedule ≤ length ts
      pub jams : (f : Found T O) → IsOneOf s.jams f → JamsWith f.outcome f.schedule
      pub shortest_jam : (f : Found T O) → IsOneOf s.jams f → (ts : List T) → JamsWith f.outcome ts → length f.schedule ≤ length ts

    -- where no state was without a place, each outcome and each jam has a line
    pub record LinesAreAll : Type 0 where
      pub found : (o : O) (ts : List T) → EndsWith o ts → HasNoLonger s.found o ts
      pub jams : (o : O) (ts : List T) → JamsWith o ts → HasNoLonger s.jams o ts

    -- where the search was ended, so have those of so many turns
    pub record LinesReachFar : Type 0 where
      pub found : (o : O) (ts : List T) → length ts ≤ first_length s.waiting → EndsWith o ts → HasNoLonger s.found o ts
      pub jams : (o : O) (ts : List T) → length ts < first_length s.waiting → JamsWith o ts → HasNoLonger s.jams o ts

    -- from a lost state no turns lead to an end; where none is lost, some turns do from wherever others led
    pub record LostAreRight : Type 0 where
      pub after : (e : Kept S T) → IsOneOf (lost space s) e → (ts : List T) → space.ended (state_after space (e.schedule ++ ts) m) ≡ false
      pub none : lost space s ≡ [] → (ts : List T) → CanEnd ts

    pub record IsRight : Type 0 where
      pub lines : LinesAreShortest
      pub all : s.full ≡ false → LinesAreAll
      pub ended : s.full ≡ true → LinesReachFar
      pub lost : s.full ≡ false → LostAreRight
