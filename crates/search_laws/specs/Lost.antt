-- The kept states from which no turns lead to an end.
-- Letters: e is a kept state, us are kept states.
use Rattle.std.specs.Prelude.{ℕ, zero, suc, Bool, not, ◌&&◌, List, length}
use Rattle.std.specs.List.{list_any, list_all, filter}
use Rattle.search_laws.specs.Space.{Space}
use Rattle.search_laws.specs.Search.{Kept, Searched}

module _ {S T O : Type 0} (space : Space S T O) where
  -- a turn leads to one of these states again
  abbrev pub leads_into : List (Kept S T) → S → Bool
  leads_into us s = not (space.ended s) && list_any (λ (k : Kept S T). space.same s k.state) us

  -- each turn does
  abbrev pub stays_in : List (Kept S T) → Kept S T → Bool
  stays_in us e = list_all (λ (t : T). leads_into us (space.step t e.state)) (space.choices e.state)

  -- those that are left after so many times taking out the states that have a turn to an end or to one taken out before
  abbrev pub left_after : ℕ → List (Kept S T) → List (Kept S T)
  left_after zero us = us
  left_after (suc n) us = left_after n (filter (stays_in us) us)

  -- where no state was without a place
  unfoldable pub lost : Searched S T O → List (Kept S T)
  lost s = left_after (length s.taken) s.taken
