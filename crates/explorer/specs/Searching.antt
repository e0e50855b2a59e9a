-- A search as the code keeps it, and the search of the tables that it is.
-- Letters: m is the machine that it begins with, v what is kept, ss are schedules by number, ts is a schedule, f is a line, o an outcome.
-- To be believed with the contracts: they speak of it.
use Rattle.std.specs.Prelude.{◌≡◌, ℕ, ◌≤◌, Bool, false, nat_eq, List, [], ◌∷◌, ◌++◌, length, map, take, drop}
use Rattle.std.specs.Prelude.{slice_get, Some, ⊤, refl, if◌then◌else◌}
use Rattle.std.specs.List.{list_any}
use Rattle.std.specs.Coded.{Coded, codes, code_by, coded×, coded_list, coded_ℕ}
use Rattle.std.specs.Cmp.Lexicographic.{pointwise}
use Rattle.ddm_types.specs.declared.turns.Turn.{Turn}
use Rattle.tree_model.specs.State.Values.{MachineValue}
use Rattle.tree_model.specs.Turns.Machine.{run_of}
use Rattle.search_laws.specs.Search.{Kept}
use Rattle.search_model.specs.Explored.{MachineSearch, MachineFound}
use Rattle.state_keys.specs.Key.{state_key}
use Rattle.state_keys.specs.Same.{same_state}

pub turn_code : Coded Turn
turn_code = hlevel codes

abbrev pub found_code : Coded MachineFound
found_code =
    code_by (List ℕ × List Turn) (coded× (coded_list coded_ℕ) (coded_list turn_code))
    (λ f. (f.outcome, f.schedule)) (λ p. record { outcome = p.0; schedule = p.1 }) (λ _. refl)

-- a line has this outcome
abbrev pub has_outcome : List ℕ → MachineFound → Bool
has_outcome o f = pointwise nat_eq f.outcome o

-- the lines with one more, where its outcome is new
abbrev pub noted : MachineFound → List MachineFound → List MachineFound
noted f fs = if list_any (has_outcome f.outcome) fs then fs else fs ++ f ∷ []

-- no words are there twice
abbrev pub AreOnce : List (List ℕ) → Type 0
AreOnce [] = ⊤
AreOnce (k ∷ ks) = (list_any (pointwise nat_eq k) ks ≡ false) × AreOnce ks

-- ---- a search as the code keeps it

pub record SearchState : Type 0 where
  -- of each kept state the words, and the turns that led to it
  pub keys : List (List ℕ)
  pub schedules : List (List Turn)
  pub found : List MachineFound
  pub jams : List MachineFound
  -- how many states were taken up
  pub next : ℕ
  pub full : Bool

module _ (m : MachineValue) where
  abbrev pub state_by : List Turn → MachineValue
  state_by ts = (run_of ts m).machine

  abbrev pub kept_by : List Turn → Kept MachineValue Turn
  kept_by ts = record { state = state_by ts; schedule = ts }

  abbrev pub key_by : List Turn → List ℕ
  key_by ts = state_key (state_by ts)

  -- the search of the tables
  abbrev pub searched_by : SearchState → MachineSearch
  searched_by v = record {
    taken = take v.next (map kept_by v.schedules);
    waiting = drop v.next (map kept_by v.schedules);
    found = v.found;
    jams = v.jams;
    full = v.full;
  }

  -- the words of each state are beside its schedule and come once, no more states were taken up than there are, and these are not
  -- too many
  pub record IsKept (v : SearchState) : Type 0 where
    pub keys : v.keys ≡ map key_by v.schedules
    pub once : AreOnce v.keys
    pub next : v.next ≤ length v.schedules
    pub few : length v.schedules ≤ 1048576

  -- the state that is taken up is the one after this schedule
  pub record TakesUp (ts : List Turn) (v : SearchState) : Type 0 where
    pub kept : IsKept v
    pub taken : slice_get v.schedules v.next ≡ Some ts

  -- words tell the states that runs come to
  pub record KeysTell : Type 0 where
    pub tell : (ts us : List Turn) → same_state (state_by ts) (state_by us) ≡ pointwise nat_eq (key_by ts) (key_by us)
