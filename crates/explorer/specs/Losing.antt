-- Which of the states that were taken up are left, as flags by their numbers, and what their turns lead to.
-- Letters: bs are flags, w is a way and ws are ways, i is the number of a state, m the machine that was begun with, v what is kept.
-- To be believed with the contracts: they speak of it.
use Rattle.std.specs.Prelude.{◌≡◌, ℕ, zero, suc, ◌+◌, ◌<◌, ◌≤◌, Bool, true, false, not, ◌||◌, ◌&&◌, nat_eq}
use Rattle.std.specs.Prelude.{List, [], ◌∷◌, length, slice_index_or}
use Rattle.std.specs.Prelude.{Option, Some, None, if◌then◌else◌}
use Rattle.std.specs.List.{list_all}
use Rattle.tree_model.specs.State.Values.{MachineValue}
use Rattle.search_laws.specs.Search.{Kept}
use Rattle.search_laws.specs.Lost.{leads_into, stays_in}
use Rattle.search_model.specs.Machines.{quiet_space}
use Rattle.ddm_types.specs.declared.turns.Turn.{Turn}
use Rattle.state_keys.specs.Same.{same_state}
use Rattle.explorer.specs.Searching.{SearchState, kept_by, searched_by, state_by}
use Rattle.explorer.specs.declared.losing.Way.{Way}

-- those whose flag is true
abbrev pub picked : {X : Type 0} → List Bool → List X → List X
picked [] xs = []
picked (b ∷ bs) [] = []
picked (b ∷ bs) (x ∷ xs) = if b then x ∷ picked bs xs else picked bs xs

-- the numbers of these, counted from n on
abbrev pub places_from : ℕ → List Bool → List ℕ
places_from n [] = []
places_from n (b ∷ bs) = if b then n ∷ places_from (n + 1) bs else places_from (n + 1) bs

-- a turn leads to a state that is left; it doesn't where it leads to no state that is kept
abbrev pub is_left : List Bool → Option ℕ → Bool
is_left bs None = false
is_left bs (Some i) = slice_index_or bs i false

-- each way from a state does
abbrev pub leads_on : List Bool → ℕ → Way → Bool
leads_on bs i w = not (nat_eq w.from i) || is_left bs w.to

abbrev pub all_left : List Way → List Bool → ℕ → Bool
all_left ws bs i = list_all (leads_on bs i) ws

-- of the flags bs of the states from number n on, those stay of which each way leads to a state that is left
abbrev pub staying_from : ℕ → List Way → List Bool → List Bool → List Bool
staying_from n ws left [] = []
staying_from n ws left (b ∷ bs) = (b && all_left ws left n) ∷ staying_from (n + 1) ws left bs

abbrev pub staying : List Way → List Bool → List Bool
staying ws left = staying_from 0 ws left left

abbrev pub flags_after : ℕ → List Way → List Bool → List Bool
flags_after zero ws bs = bs
flags_after (suc n) ws bs = flags_after n ws (staying ws bs)

module _ (m : MachineValue) (v : SearchState) where
  abbrev pub taken_by : List (Kept MachineValue Turn)
  taken_by = (searched_by m v).taken

  -- a machine after turns
  pub record IsReached (n : MachineValue) : Type 0 where
    pub turns : List Turn
    pub is : n ≡ state_by m turns

  -- where a machine leads: to a state that is left, or not
  abbrev pub LeadsTo : MachineValue → Option ℕ → Type 0
  LeadsTo n to = (bs : List Bool) → length bs ≡ v.next → is_left bs to ≡ leads_into (quiet_space same_state) (picked bs taken_by) n

  abbrev pub kept_at : ℕ → Kept MachineValue Turn
  kept_at i = kept_by m (slice_index_or v.schedules i [])

  -- the ways of the first n states are those of their turns, and there are no others
  pub record AreWays (n : ℕ) (ws : List Way) : Type 0 where
    pub lead :
        (bs : List Bool) → length bs ≡ v.next → (i : ℕ) → i < n →
        all_left ws bs i ≡ stays_in (quiet_space same_state) (picked bs taken_by) (kept_at i)
    pub others : (bs : List Bool) (i : ℕ) → n ≤ i → all_left ws bs i ≡ true
