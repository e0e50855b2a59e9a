-- Turns are looked through one after the other, and states are taken up so.
-- Letters: m is the machine that is begun with, v what is kept, k is the state that is taken up, ts are turns, t is one.
use Rattle.std.proofs.Common.{◌≡◌, ℕ, zero, suc, ◌+◌, ◌<◌, ◌≤◌, true, false, ◌||◌, cond, inl, inr, List, [], ◌∷◌, ◌++◌, length, map, take, drop, refl, sym, ap, ◌∙◌, arith}
use Rattle.std.specs.Prelude.{nat_le, slice_get, slice_index_or, Some, if◌then◌else◌}
use Rattle.std.proofs.lemmas.Bool.{leb-true}
use Rattle.std.proofs.lemmas.List.{take_more}
use Rattle.std.proofs.lemmas.Option.{slice_get_within}
use Rattle.ddm_types.specs.declared.turns.Turn.{Turn}
use Rattle.tree_model.specs.State.Values.{MachineValue}
use Rattle.tree_model.specs.Turns.Machine.{run_of, turn_of}
use Rattle.outcome_model.specs.Halted.{all_halted}
use Rattle.outcome_model.specs.Outcome.{outcome_of}
use Rattle.outcome_model.proofs.Halted.{joined}
use Rattle.search_laws.specs.Search.{Kept, Searched, after_turn, looked_at, looked_through, unless_full, first_taken_up, next_taken_up, taken_up, with_jam, with_state, moved_on, begun, searched}
use Rattle.search_laws.proofs.Lists.{if-either, true-or-false}
use Rattle.search_laws.specs.Space.{Space}
use Rattle.search_model.specs.Explored.{MachineSearch, MachineFound}
use Rattle.search_model.specs.Machines.{quiet_space}
use Rattle.search_model.specs.Tried.{tried_turns}
use Rattle.state_keys.specs.Same.{same_state}
use Rattle.explorer.specs.Searching.{SearchState, state_by, kept_by, searched_by, noted, IsKept, TakesUp}

-- the state after a turn is that after one turn more
pub gone-state : (m : MachineValue) (ts : List Turn) (t : Turn) → state_by m (ts ++ t ∷ []) ≡ (turn_of t (state_by m ts)).machine
unfolding run_of
gone-state m ts t = joined ts (t ∷ []) m

pub gone-kept : (m : MachineValue) (ts : List Turn) (t : Turn) → kept_by m (ts ++ t ∷ []) ≡ after_turn (quiet_space same_state) t (kept_by m ts)
gone-kept m ts t = ap (λ (s : MachineValue). record { state = s; schedule = ts ++ t ∷ [] }) (gone-state m ts t)

module _ {S T O : Type 0} (space : Space S T O) (most : ℕ) where
  pub through-more : (k : Kept S T) (ts : List T) (t : T) (s : Searched S T O) → looked_through space most k (ts ++ t ∷ []) s ≡ looked_at space most (after_turn space t k) (looked_through space most k ts s)
  through-more k [] t s = refl
  through-more k (u ∷ ts) t s = through-more k ts t (looked_at space most (after_turn space u k) s)

  -- one state more is taken up
  pub taken-more : (n : ℕ) (s : Searched S T O) → taken_up space most (suc n) s ≡ next_taken_up space most (taken_up space most n s)
  taken-more zero s = refl
  taken-more (suc n) s = taken-more n (next_taken_up space most s)

  -- the whole search
  pub all-taken : (n : ℕ) (m : S) → n ≡ most → taken_up space most n (begun space most m) ≡ searched space most m
  unfolding searched
  all-taken n m all = ap (λ k. taken_up space most k (begun space most m)) all

-- the first that waits
pub first-waits : (m : MachineValue) (ss : List (List Turn)) (n : ℕ) (ts : List Turn) → slice_get ss n ≡ Some ts → drop n (map (kept_by m) ss) ≡ kept_by m ts ∷ drop (suc n) (map (kept_by m) ss)
first-waits m [] zero ts there = cc
first-waits m [] (suc n) ts there = cc
first-waits m (us ∷ ss) zero ts there = cc
first-waits m (us ∷ ss) (suc n) ts there = first-waits m ss n ts there

pub first-taken : (m : MachineValue) (ss : List (List Turn)) (n : ℕ) (ts : List Turn) → slice_get ss n ≡ Some ts → take n (map (kept_by m) ss) ++ kept_by m ts ∷ [] ≡ take (suc n) (map (kept_by m) ss)
first-taken m [] zero ts there = cc
first-taken m [] (suc n) ts there = cc
first-taken m (us ∷ ss) zero ts there = cc
first-taken m (us ∷ ss) (suc n) ts there = ap (λ l. kept_by m us ∷ l) (first-taken m ss n ts there)

-- none waits where all were taken up
pub none-waits : (m : MachineValue) (ss : List (List Turn)) (n : ℕ) → length ss ≤ n → drop n (map (kept_by m) ss) ≡ []
none-waits m [] zero all = refl
none-waits m [] (suc n) all = refl
none-waits m (us ∷ ss) zero all = absurd (omega (arith, all))
none-waits m (us ∷ ss) (suc n) all = none-waits m ss n (omega (arith, all))

-- ---- a turn is looked at

module _ (most : ℕ) (m : MachineValue) (ts : List Turn) (v : SearchState) where
  abbrev line : MachineFound
  line = record { outcome = outcome_of (state_by m ts); schedule = ts }

  abbrev looked : MachineSearch
  looked = if all_halted (state_by m ts) then searched_by m (record v { found = noted line v.found }) else with_state (quiet_space same_state) most (kept_by m ts) (searched_by m v)

  pub full-looked : v.full ≡ true → looked_at (quiet_space same_state) most (kept_by m ts) (searched_by m v) ≡ searched_by m v
  full-looked full = ap (λ b. cond b (searched_by m v) looked) full

  pub end-looked : v.full ≡ false → all_halted (state_by m ts) ≡ true → looked_at (quiet_space same_state) most (kept_by m ts) (searched_by m v) ≡ searched_by m (record v { found = noted line v.found })
  end-looked full ended =
      ap (λ b. cond b (searched_by m v) looked) full ∙ ap (λ b. cond b (searched_by m (record v { found = noted line v.found })) (with_state (quiet_space same_state) most (kept_by m ts) (searched_by m v))) ended

  pub state-looked : v.full ≡ false → all_halted (state_by m ts) ≡ false → looked_at (quiet_space same_state) most (kept_by m ts) (searched_by m v) ≡ with_state (quiet_space same_state) most (kept_by m ts) (searched_by m v)
  state-looked full runs =
      ap (λ b. cond b (searched_by m v) looked) full ∙ ap (λ b. cond b (searched_by m (record v { found = noted line v.found })) (with_state (quiet_space same_state) most (kept_by m ts) (searched_by m v))) runs

pub take-next : (ts : List Turn) (k : ℕ) (t : Turn) → k < length ts → t ≡ slice_index_or ts k t → take (k + 1) ts ≡ take k ts ++ t ∷ []
take-next ts k t inside is = take_more ts k t inside ∙ ap (λ u. take k ts ++ u ∷ []) (sym is)

-- ---- a state is taken up

module _ (most : ℕ) (m : MachineValue) (v : SearchState) where
  abbrev space : Space MachineValue Turn (List ℕ)
  space = quiet_space same_state

  abbrev taken_first : List (Kept MachineValue Turn) → MachineSearch
  taken_first l = first_taken_up space most l (searched_by m v)

  pub ended-stays : v.full ≡ true → next_taken_up space most (searched_by m v) ≡ searched_by m v
  ended-stays full = ap (λ b. cond b (searched_by m v) (taken_first (searched_by m v).waiting)) full

  pub last-stays : v.full ≡ false → length v.schedules ≤ v.next → next_taken_up space most (searched_by m v) ≡ searched_by m v
  last-stays full all = ap (λ b. cond b (searched_by m v) (taken_first (searched_by m v).waiting)) full ∙ ap taken_first (none-waits m v.schedules v.next all)

  module _ (ts : List Turn) (there : slice_get v.schedules v.next ≡ Some ts) where
    pub next-taken : v.full ≡ false → next_taken_up space most (searched_by m v) ≡ unless_full space most (looked_through space most (kept_by m ts) (space.choices (state_by m ts)) (with_jam space most (kept_by m ts) (searched_by m v)))
    next-taken full = ap (λ b. cond b (searched_by m v) (taken_first (searched_by m v).waiting)) full ∙ ap taken_first (first-waits m v.schedules v.next ts there)

    pub full-stays : v.full ≡ true → unless_full space most (searched_by m v) ≡ searched_by m v
    full-stays full = ap (λ b. cond b (searched_by m v) (moved_on space most (searched_by m v).waiting (searched_by m v))) full

    one-further : suc v.next ≡ v.next + 1
    one-further = omega arith

    pub one-done : v.full ≡ false → unless_full space most (searched_by m v) ≡ searched_by m (record v { next = v.next + 1 })
    one-done full =
        ap (λ b. cond b (searched_by m v) (moved_on space most (searched_by m v).waiting (searched_by m v))) full
        ∙ ap (λ (l : List (Kept MachineValue Turn)). moved_on space most l (searched_by m v)) (first-waits m v.schedules v.next ts there)
        ∙ ap (λ (l : List (Kept MachineValue Turn)). record (searched_by m v) { taken = l; waiting = drop (suc v.next) (map (kept_by m) v.schedules) }) (first-taken m v.schedules v.next ts there)
        ∙ ap (λ n. searched_by m (record v { next = n })) one-further

-- no state is to be taken up
pub rested : (most : ℕ) (m : MachineValue) (v : SearchState) → (v.full || nat_le (length v.schedules) v.next) ≡ true → next_taken_up (quiet_space same_state) most (searched_by m v) ≡ searched_by m v
rested most m v rests = elim (true-or-false v.full) [
  | inl full ↦ ended-stays most m v full
  | inr runs ↦ last-stays most m v runs (leb-true _ _ (sym (ap (λ b. b || nat_le (length v.schedules) v.next) runs) ∙ rests))
]

-- a state that is taken up is the first that waits
pub up-taken : (most : ℕ) (m : MachineValue) (v w : SearchState) (ts turns : List Turn) (jam : MachineSearch) → v.full ≡ false → slice_get v.schedules v.next ≡ Some ts → turns ≡ tried_turns (state_by m ts)
    → jam ≡ with_jam (quiet_space same_state) most (kept_by m ts) (searched_by m v) → searched_by m w ≡ looked_through (quiet_space same_state) most (kept_by m ts) turns jam
    → next_taken_up (quiet_space same_state) most (searched_by m v) ≡ unless_full (quiet_space same_state) most (searched_by m w)
up-taken most m v w ts turns jam runs there tried is through =
    next-taken most m v ts there runs
    ∙ ap (unless_full (quiet_space same_state) most) (sym (through ∙ ap (λ l. looked_through (quiet_space same_state) most (kept_by m ts) l jam) tried ∙ ap (looked_through (quiet_space same_state) most (kept_by m ts) (tried_turns (state_by m ts))) is))

module _ (most : ℕ) (m : MachineValue) (w : SearchState) (ts : List Turn) (taking : TakesUp m ts w) where
  pub moved : unless_full (quiet_space same_state) most (searched_by m w) ≡ searched_by m (if w.full then w else record w { next = w.next + 1 })
  moved = if-either (λ u. unless_full (quiet_space same_state) most (searched_by m w) ≡ searched_by m u) w.full w (record w { next = w.next + 1 }) (λ full. full-stays most m w ts taking.taken full) (λ runs. one-done most m w ts taking.taken runs)

  pub there-next : w.next < length w.schedules
  there-next = slice_get_within w.schedules w.next ts taking.taken

  pub moved-kept : IsKept m (if w.full then w else record w { next = w.next + 1 })
  moved-kept = if-either (IsKept m) w.full w (record w { next = w.next + 1 }) (λ full. taking.kept) (λ runs. record { keys = taking.kept.keys; once = taking.kept.once; next = omega (arith, there-next); few = taking.kept.few })

-- ---- what is begun with

pub begun-searched : (m : MachineValue) (keys : List (List ℕ)) (ss : List (List Turn)) (found jams : List MachineFound) → ss ≡ [] ∷ [] → found ≡ [] → jams ≡ [] → (most : ℕ)
    → searched_by m (record { keys = keys; schedules = ss; found = found; jams = jams; next = 0; full = false }) ≡ begun (quiet_space same_state) most m
unfolding run_of
begun-searched m keys ss found jams one none empty most =
    ap (λ (l : List (List Turn)). searched_by m (record { keys = keys; schedules = l; found = found; jams = jams; next = 0; full = false })) one
    ∙ ap (λ (l : List MachineFound). searched_by m (record { keys = keys; schedules = [] ∷ []; found = l; jams = jams; next = 0; full = false })) none
    ∙ ap (λ (l : List MachineFound). searched_by m (record { keys = keys; schedules = [] ∷ []; found = []; jams = l; next = 0; full = false })) empty
