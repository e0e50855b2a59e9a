-- How many turns led to the state that is taken up next.
-- Letters: m is the machine that is begun with, ss are schedules by number, ts is one, n a number.
use Rattle.std.proofs.Common.{◌≡◌, ℕ, zero, suc, List, [], ◌∷◌, length, map, drop}
use Rattle.std.specs.Prelude.{slice_get, Some}
use Rattle.ddm_types.specs.declared.turns.Turn.{Turn}
use Rattle.tree_model.specs.State.Values.{MachineValue}
use Rattle.search_laws.specs.Search.{first_length}
use Rattle.explorer.specs.Searching.{kept_by}

-- the first of those that wait
pub first-next :
    (m : MachineValue) (ss : List (List Turn)) (n : ℕ) (ts : List Turn) → slice_get ss n ≡ Some ts
    → length ts ≡ first_length (drop n (map (kept_by m) ss))
first-next m [] zero ts there = cc
first-next m [] (suc n) ts there = cc
first-next m (us ∷ ss) zero ts there = cc
first-next m (us ∷ ss) (suc n) ts there = first-next m ss n ts there
