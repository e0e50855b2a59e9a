-- The table of a machine is right, in words of runs.
-- Letters: m is the machine before its first turn, n another one, s the search, f is a line, o an outcome, ts are turns, t is a turn.
use Rattle.std.proofs.Common.{◌≡◌, ℕ, ◌<◌, Bool, true, false, List, [], ◌∷◌, ◌++◌, filter, map, refl, sym, ap, subst, ◌∙◌}
use Rattle.std.specs.Prelude.{if◌then◌else◌}
use Rattle.ddm_types.specs.declared.answers.TurnAnswer.{TurnAnswer}
use Rattle.ddm_types.specs.declared.turns.Turn.{Turn}
use Rattle.tree_model.specs.State.Values.{LeafValue, MachineValue}
use Rattle.tree_model.specs.Turns.Machine.{machine_leaves, run_of, turn_of}
use Rattle.outcomes.specs.OutcomeModel.Halted.{all_halted}
use Rattle.outcomes.specs.OutcomeModel.Outcome.{outcome_of}
use Rattle.outcomes.specs.RecordingModel.Doing.{does_by, does_something, had_halted}
use Rattle.search_laws.specs.Claims.{CanEnd, EndsWith, HasNoLonger, IsRight, JamsWith}
use Rattle.search_laws.specs.Lost.{lost}
use Rattle.search_laws.specs.Search.{searched}
use Rattle.search_laws.specs.Space.{state_after}
use Rattle.explorer.specs.SearchModel.Explored.{MachineFound, MachineSearch, lost_states}
use Rattle.explorer.specs.SearchModel.Machines.{has_ways, quiet_space}
use Rattle.explorer.specs.SearchModel.Tried.{doing_turns, first_or, is_quiet, is_quiet_answer, quiet_turns, tried_turns, turns_of_tree}
use Rattle.explorer.proofs.SearchModel.Fit.{turn-ways}
use Rattle.explorer.proofs.SearchModel.QuietFirst.{quiet-right}
use Rattle.explorer.proofs.SearchModel.TriedTurns.{none-left, states-are-runs}
use Rattle.explorer.proofs.StateKeys.Told.{alike-same, same-alike}
use Rattle.explorer.specs.StateKeys.Same.{same_state}
use Rattle.machine_states.specs.Started.{IsStarted}
use Rattle.machine_states.specs.Table.{EndsIn, JamsIn, HasLine, TableIsRight}
use Rattle.machine_states.specs.Table as table
use Rattle.machine_states.proofs.Begins.{started-runs, started-ways}

-- ---- where no turn does anything, none is tried

none-passes : (p : Turn → Bool) → ((t : Turn) → p t ≡ false) → (ts : List Turn) → filter p ts ≡ []
none-passes p none [] = refl
none-passes p none (t ∷ ts) = ap (λ b. if b then t ∷ filter p ts else filter p ts) (none t) ∙ none-passes p none ts

quiet-does : (a : TurnAnswer) (halted : Bool) → does_by a halted ≡ false → is_quiet_answer a halted ≡ false
quiet-does (TurnAnswer.Retired op) halted none = cc
quiet-does (TurnAnswer.Issued kind x) halted none = refl
quiet-does (TurnAnswer.Waiting x) halted none = refl
quiet-does (TurnAnswer.Halted cause) halted none = none
quiet-does (TurnAnswer.Granted entry) halted none = refl
quiet-does TurnAnswer.Empty halted none = refl
quiet-does (TurnAnswer.Busy cause) halted none = refl

module _ (n : MachineValue) where
  none-quiet : ((t : Turn) → does_something t n ≡ false) → (t : Turn) → is_quiet n t ≡ false
  unfolding does_something is_quiet
  none-quiet none t = quiet-does (turn_of t n).answer (had_halted t n) (none t)

  stuck-untried : ((t : Turn) → does_something t n ≡ false) → tried_turns n ≡ []
  unfolding tried_turns quiet_turns doing_turns
  stuck-untried none =
      let quiet : quiet_turns n ≡ [] = none-passes (is_quiet n) (none-quiet none) (map (λ (v : LeafValue). Turn.Hart v.number 0) (machine_leaves n)) in
      let doing : doing_turns n ≡ [] = none-passes (λ t. does_something t n) none (turns_of_tree n) in
      ap (λ ts. first_or ts (doing_turns n)) quiet ∙ doing

  by-first : (ts others : List Turn) → first_or ts others ≡ [] → others ≡ []
  by-first [] others e = e
  by-first (t ∷ ts) others e = cc

  untried-stuck : has_ways n ≡ true → tried_turns n ≡ [] → (t : Turn) → does_something t n ≡ false
  unfolding tried_turns
  untried-stuck ways none t = none-left t n ways (by-first (quiet_turns n) (doing_turns n) none)

-- ---- the states of a search are the machines after runs

pub ways-after : (ts : List Turn) (m : MachineValue) → has_ways m ≡ true → has_ways (run_of ts m).machine ≡ true
unfolding run_of
ways-after [] m ways = ways
ways-after (t ∷ ts) m ways = ways-after ts (turn_of t m).machine (turn-ways t m ways)

module _ (m : MachineValue) (ways : has_ways m ≡ true) where
  is-after : (ts : List Turn) → state_after (quiet_space same_state) ts m ≡ (run_of ts m).machine
  is-after ts = states-are-runs same_state tried_turns ts m

  ends-in : (o : List ℕ) (ts : List Turn) → EndsWith (quiet_space same_state) m o ts → EndsIn m o ts
  ends-in o ts e = record {
    ended = subst (λ n. all_halted n ≡ true) (is-after ts) e.ended;
    outcome = subst (λ n. outcome_of n ≡ o) (is-after ts) e.outcome;
  }

  in-ends : (o : List ℕ) (ts : List Turn) → EndsIn m o ts → EndsWith (quiet_space same_state) m o ts
  in-ends o ts e = record {
    ended = subst (λ n. all_halted n ≡ true) (sym (is-after ts)) e.ended;
    outcome = subst (λ n. outcome_of n ≡ o) (sym (is-after ts)) e.outcome;
  }

  jams-in : (o : List ℕ) (ts : List Turn) → JamsWith (quiet_space same_state) m o ts → JamsIn m o ts
  jams-in o ts j = record {
    runs = subst (λ n. all_halted n ≡ false) (is-after ts) j.runs;
    stuck = untried-stuck (run_of ts m).machine (ways-after ts m ways) (subst (λ n. tried_turns n ≡ []) (is-after ts) j.stuck);
    outcome = subst (λ n. outcome_of n ≡ o) (is-after ts) j.outcome;
  }

  in-jams : (o : List ℕ) (ts : List Turn) → JamsIn m o ts → JamsWith (quiet_space same_state) m o ts
  in-jams o ts j = record {
    runs = subst (λ n. all_halted n ≡ false) (sym (is-after ts)) j.runs;
    stuck = subst (λ n. tried_turns n ≡ []) (sym (is-after ts)) (stuck-untried (run_of ts m).machine j.stuck);
    outcome = subst (λ n. outcome_of n ≡ o) (sym (is-after ts)) j.outcome;
  }

  has-line : (fs : List MachineFound) (o : List ℕ) (ts : List Turn) → HasNoLonger (quiet_space same_state) m fs o ts → HasLine m fs o ts
  has-line fs o ts h = record { line = h.found; is_one = h.is_one; outcome = h.outcome; no_longer = h.no_longer }

  can-end : (ts : List Turn) → CanEnd (quiet_space same_state) m ts → table.CanEnd m ts
  can-end ts c = record { later = c.later; ended = subst (λ n. all_halted n ≡ true) (is-after (ts ++ c.later)) c.ended }

  lost-are : (s : MachineSearch) → s.full ≡ false → lost_states same_state s ≡ lost (quiet_space same_state) s
  lost-are s none = ap (λ b. if b then [] else lost (quiet_space same_state) s) none

  pub table-right : (s : MachineSearch) → IsRight (quiet_space same_state) m s → TableIsRight m s
  table-right s right = record {
    shown = record {
      found = λ f i. ends-in f.outcome f.schedule (right.lines.found f i);
      shortest = λ f i ts e. right.lines.shortest f i ts (in-ends f.outcome ts e);
      jams = λ f i. jams-in f.outcome f.schedule (right.lines.jams f i);
      shortest_jam = λ f i ts j. right.lines.shortest_jam f i ts (in-jams f.outcome ts j);
    };
    complete = λ none. record {
      found = λ o ts e. has-line s.found o ts ((right.all none).found o ts (in-ends o ts e));
      jams = λ o ts j. has-line s.jams o ts ((right.all none).jams o ts (in-jams o ts j));
    };
    far = λ full. record {
      found = λ o ts few e. has-line s.found o ts ((right.ended full).found o ts few (in-ends o ts e));
      jams = λ o ts few j. has-line s.jams o ts ((right.ended full).jams o ts few (in-jams o ts j));
    };
    lost = λ full. record {
      never = λ e i ts. subst (λ n. all_halted n ≡ false) (is-after (e.schedule ++ ts)) ((right.lost full).after e (subst (λ es. Rattle.search_laws.specs.Space.IsOneOf es e) (lost-are s full) i) ts);
      none = λ is ts. can-end ts ((right.lost full).none (sym (lost-are s full) ∙ is) ts);
    };
  }

-- ---- the table of a start

pub started-right : (m : MachineValue) (most : ℕ) → IsStarted m → 0 < most → TableIsRight m (searched (quiet_space same_state) most m)
started-right m most s some =
    let ways = started-ways m s in
    table-right m ways (searched (quiet_space same_state) most m) (quiet-right same_state (record { alike = same-alike; finds = alike-same }) most m some ways (started-runs m s))
