-- A breadth first search for all outcomes, in which so many states are kept at most. States are taken up in the order in which
-- they were kept, and each one's turns in their order.
-- Letters: s is a search, e and k are kept states, f and g are found outcomes, t is a turn, m the state that is begun with.
use Rattle.std.specs.Prelude.{ℕ, zero, suc, Bool, true, false, nat_lt, List, [], ◌∷◌, ◌++◌, length, if◌then◌else◌}
use Rattle.std.specs.List.{list_any}
use Rattle.search_laws.specs.Space.{Space}

-- a state and the turns that led to it
pub record Kept (S T : Type 0) : Type 0 where
  pub state : S
  pub schedule : List T

-- an outcome and the turns that led to it
pub record Found (T O : Type 0) : Type 0 where
  pub outcome : O
  pub schedule : List T

pub record Searched (S T O : Type 0) : Type 0 where
  -- states of which all turns were looked at; those that wait for it, of which the first may be under way
  pub taken : List (Kept S T)
  pub waiting : List (Kept S T)
  -- the outcomes of ends, and of states of which no turn is tried
  pub found : List (Found T O)
  pub jams : List (Found T O)
  -- a state had no place, and the search ended there
  pub full : Bool

abbrev pub kept : {S T O : Type 0} → Searched S T O → List (Kept S T)
kept s = s.taken ++ s.waiting

abbrev pub is_empty : {X : Type 0} → List X → Bool
is_empty [] = true
is_empty (x ∷ xs) = false

module _ {S T O : Type 0} (space : Space S T O) where
  abbrev pub after_turn : T → Kept S T → Kept S T
  after_turn t k = record { state = space.step t k.state; schedule = k.schedule ++ t ∷ [] }

  abbrev pub found_at : Kept S T → Found T O
  found_at k = record { outcome = space.outcome k.state; schedule = k.schedule }

  -- one more, where its outcome is new
  abbrev pub with_found : Found T O → List (Found T O) → List (Found T O)
  with_found f fs = if list_any (λ (g : Found T O). space.same_outcome g.outcome f.outcome) fs then fs else fs ++ f ∷ []

  module _ (most : ℕ) where
    -- a state that is no end: it is kept, or there is no place for it
    abbrev pub with_place : Kept S T → Searched S T O → Searched S T O
    with_place e s = if nat_lt (length (kept s)) most then record s { waiting = s.waiting ++ e ∷ [] } else record s { full = true }

    abbrev pub with_state : Kept S T → Searched S T O → Searched S T O
    with_state e s = if list_any (λ (k : Kept S T). space.same e.state k.state) (kept s) then s else with_place e s

    -- the state after a turn is looked at
    abbrev pub looked_at : Kept S T → Searched S T O → Searched S T O
    looked_at e s =
        if s.full then s
        else (if space.ended e.state then record s { found = with_found (found_at e) s.found }
        else with_state e s)

    abbrev pub looked_through : Kept S T → List T → Searched S T O → Searched S T O
    looked_through k [] s = s
    looked_through k (t ∷ ts) s = looked_through k ts (looked_at (after_turn t k) s)

    -- a state of which no turn is tried is a jam
    abbrev pub with_jam : Kept S T → Searched S T O → Searched S T O
    with_jam k s = if is_empty (space.choices k.state) then record s { jams = with_found (found_at k) s.jams } else s

    -- the first that waits was looked through
    abbrev pub moved_on : List (Kept S T) → Searched S T O → Searched S T O
    moved_on [] s = s
    moved_on (k ∷ rest) s = record s { taken = s.taken ++ k ∷ []; waiting = rest }

    abbrev pub unless_full : Searched S T O → Searched S T O
    unless_full s = if s.full then s else moved_on s.waiting s

    abbrev pub first_taken_up : List (Kept S T) → Searched S T O → Searched S T O
    first_taken_up [] s = s
    first_taken_up (k ∷ rest) s = unless_full (looked_through k (space.choices k.state) (with_jam k s))

    abbrev pub next_taken_up : Searched S T O → Searched S T O
    next_taken_up s = if s.full then s else first_taken_up s.waiting s

    abbrev pub taken_up : ℕ → Searched S T O → Searched S T O
    taken_up zero s = s
    taken_up (suc n) s = taken_up n (next_taken_up s)

    abbrev pub begun : S → Searched S T O
    begun m = record { taken = []; waiting = record { state = m; schedule = [] } ∷ []; found = []; jams = []; full = false }

    -- the whole search: no more states are taken up than there are places
    unfoldable pub searched : S → Searched S T O
    searched m = taken_up most (begun m)

-- how many turns led to the state that was taken up when the search was ended
abbrev pub first_length : {S T : Type 0} → List (Kept S T) → ℕ
first_length [] = 0
first_length (k ∷ rest) = length k.schedule
