-- A run with one turn more.
use Rattle.std.proofs.Common.{◌≡◌, ℕ, suc, ◌+◌, ◌-◌, ◌<◌, ◌≤◌, Bool, true, false, List, [], ◌∷◌, ◌++◌, length, take, if◌then◌else◌, refl, sym, ap, subst, ◌∙◌, arith, append_assoc}
use Rattle.std.specs.Prelude.{slice_index_or}
use Rattle.std.proofs.lemmas.List.{append-nil, length-append, length-take-le, take_more}
use Rattle.std.proofs.lemmas.List.Elements.{All-get_or}
use Rattle.any_runs.specs.DdmTypes.declared.answers.TurnAnswer.{TurnAnswer}
use Rattle.any_runs.specs.DdmTypes.declared.turns.Turn.{Turn}
use Rattle.any_runs.specs.TreeModel.State.Values.{MachineValue}
use Rattle.any_runs.specs.TreeModel.State.Shape.{IsShaped}
use Rattle.any_runs.specs.TreeModel.Turns.Machine.{names_part, turn_of, run_of}
use Rattle.text_model.specs.declared.RunCounts.{RunCounts}
use Rattle.text_model.specs.Run.{counted_answer, counts_of, no_counts}
use Rattle.any_runs.specs.DdmTree.Machine.{MachineState, spare_after, state_after}
use Rattle.any_runs.specs.DdmTree.Rules.{KeepsRules, StaysInOrder}
use Rattle.any_runs.proofs.DdmTree.RulesKept.{run-order}
use Rattle.any_runs.proofs.StartParts.Names.{run-names}
use Rattle.any_runs.specs.Run.{AreBelow, CanRun, NameParts, answers_in, counts_in, ran}

-- ---- the tables' run

pub answers-more : (ts : List Turn) (t : Turn) (m : MachineValue) → (run_of (ts ++ t ∷ []) m).answers ≡ (run_of ts m).answers ++ (turn_of t (run_of ts m).machine).answer ∷ []
unfolding run_of
answers-more [] t m = refl
answers-more (u ∷ us) t m = ap (λ l. (turn_of u m).answer ∷ l) (answers-more us t (turn_of u m).machine)

pub machine-more : (ts : List Turn) (t : Turn) (m : MachineValue) → (run_of (ts ++ t ∷ []) m).machine ≡ (turn_of t (run_of ts m).machine).machine
unfolding run_of
machine-more [] t m = refl
machine-more (u ∷ us) t m = machine-more us t (turn_of u m).machine

pub made-order : (ts : List Turn) (before after : MachineValue) → after ≡ (run_of ts before).machine → IsShaped before → KeepsRules before → StaysInOrder before after
made-order ts before after made shaped rules = subst (StaysInOrder before) (sym made) (run-order ts before shaped rules)

-- ---- counts

-- what an answer adds to a number of instructions that completed
retired-by : (a : TurnAnswer) (c : RunCounts) (n : ℕ) → n - (counted_answer a c).retired ≡ spare_after a (n - c.retired)
retired-by (TurnAnswer.Retired op) c n = omega arith
retired-by (TurnAnswer.Granted e) c n = refl
retired-by (TurnAnswer.Busy cause) c n = refl
retired-by (TurnAnswer.Issued kind item) c n = refl
retired-by (TurnAnswer.Waiting item) c n = refl
retired-by (TurnAnswer.Halted cause) c n = refl
retired-by TurnAnswer.Empty c n = refl

-- answers are counted in either order
pub same-counts : (c d : RunCounts) → c.turns ≡ d.turns → c.retired ≡ d.retired → c.granted ≡ d.granted → c.busy ≡ d.busy → c ≡ d
same-counts c d turns retired granted busy = rw (turns, retired, granted, busy) refl

abbrev pub plus : RunCounts → RunCounts → RunCounts
plus c d = record { turns = c.turns + d.turns; retired = c.retired + d.retired; granted = c.granted + d.granted; busy = c.busy + d.busy }

add-none : (n : ℕ) → n ≡ n + 0
add-none n = omega arith

pub counted-plus : (a : TurnAnswer) (c : RunCounts) → counted_answer a c ≡ plus c (counted_answer a no_counts)
counted-plus (TurnAnswer.Retired op) c = same-counts _ _ refl refl (add-none c.granted) (add-none c.busy)
counted-plus (TurnAnswer.Granted e) c = same-counts _ _ refl (add-none c.retired) refl (add-none c.busy)
counted-plus (TurnAnswer.Busy cause) c = same-counts _ _ refl (add-none c.retired) (add-none c.granted) refl
counted-plus (TurnAnswer.Issued kind item) c = same-counts _ _ refl (add-none c.retired) (add-none c.granted) (add-none c.busy)
counted-plus (TurnAnswer.Waiting item) c = same-counts _ _ refl (add-none c.retired) (add-none c.granted) (add-none c.busy)
counted-plus (TurnAnswer.Halted cause) c = same-counts _ _ refl (add-none c.retired) (add-none c.granted) (add-none c.busy)
counted-plus TurnAnswer.Empty c = same-counts _ _ refl (add-none c.retired) (add-none c.granted) (add-none c.busy)

add-swap : (k m n : ℕ) → k + m + n ≡ k + n + m
add-swap k m n = omega arith

pub plus-swap : (c d e : RunCounts) → plus (plus c d) e ≡ plus (plus c e) d
plus-swap c d e = same-counts _ _ (add-swap c.turns d.turns e.turns) (add-swap c.retired d.retired e.retired) (add-swap c.granted d.granted e.granted) (add-swap c.busy d.busy e.busy)

counted-swap : (b a : TurnAnswer) (c : RunCounts) → counted_answer b (counted_answer a c) ≡ counted_answer a (counted_answer b c)
counted-swap b a c =
    counted-plus b (counted_answer a c) ∙ ap (λ d. plus d (counted_answer b no_counts)) (counted-plus a c) ∙ plus-swap c (counted_answer a no_counts) (counted_answer b no_counts)
    ∙ sym (counted-plus a (counted_answer b c) ∙ ap (λ d. plus d (counted_answer a no_counts)) (counted-plus b c))

pub counted-end : (answers : List TurnAnswer) (a : TurnAnswer) → counts_of (answers ++ a ∷ []) ≡ counted_answer a (counts_of answers)
unfolding counts_of
counted-end [] a = refl
counted-end (b ∷ bs) a = ap (counted_answer b) (counted-end bs a) ∙ counted-swap b a (counts_of bs)

-- each count rises by one at most
pub counted-below : (n : ℕ) (a : TurnAnswer) (c : RunCounts) → AreBelow n c → AreBelow (n + 1) (counted_answer a c)
counted-below n (TurnAnswer.Retired op) c below = record { turns = omega (arith, below.turns); retired = omega (arith, below.retired); granted = omega (arith, below.granted); busy = omega (arith, below.busy) }
counted-below n (TurnAnswer.Granted e) c below = record { turns = omega (arith, below.turns); retired = omega (arith, below.retired); granted = omega (arith, below.granted); busy = omega (arith, below.busy) }
counted-below n (TurnAnswer.Busy cause) c below = record { turns = omega (arith, below.turns); retired = omega (arith, below.retired); granted = omega (arith, below.granted); busy = omega (arith, below.busy) }
counted-below n (TurnAnswer.Issued kind item) c below = record { turns = omega (arith, below.turns); retired = omega (arith, below.retired); granted = omega (arith, below.granted); busy = omega (arith, below.busy) }
counted-below n (TurnAnswer.Waiting item) c below = record { turns = omega (arith, below.turns); retired = omega (arith, below.retired); granted = omega (arith, below.granted); busy = omega (arith, below.busy) }
counted-below n (TurnAnswer.Halted cause) c below = record { turns = omega (arith, below.turns); retired = omega (arith, below.retired); granted = omega (arith, below.granted); busy = omega (arith, below.busy) }
counted-below n TurnAnswer.Empty c below = record { turns = omega (arith, below.turns); retired = omega (arith, below.retired); granted = omega (arith, below.granted); busy = omega (arith, below.busy) }

-- ---- the machine

same-state : (s r : MachineState) → s.machine ≡ r.machine → s.spare ≡ r.spare → s.turns ≡ r.turns → s ≡ r
same-state s r machine spare turns = rw (machine, spare, turns) refl

pub ran-none : (s : MachineState) → ran [] s ≡ s
unfolding run_of counts_of
ran-none s = same-state _ _ refl (sub-none s.spare) (sym (add-none s.turns)) where
  sub-none : (n : ℕ) → n - 0 ≡ n
  sub-none n = omega arith

pub counts-more : (ts : List Turn) (t : Turn) (s : MachineState) → counts_in (ts ++ t ∷ []) s ≡ counted_answer (turn_of t (ran ts s).machine).answer (counts_in ts s)
counts-more ts t s = ap counts_of (answers-more ts t s.machine) ∙ counted-end (answers_in ts s) (turn_of t (ran ts s).machine).answer

pub ran-more : (ts : List Turn) (t : Turn) (s : MachineState) → ran (ts ++ t ∷ []) s ≡ state_after t (ran ts s)
ran-more ts t s =
    let longer = length-append ts (t ∷ []) in
    same-state _ _ (machine-more ts t s.machine) (ap (λ (c : RunCounts). s.spare - c.retired) (counts-more ts t s) ∙ retired-by (turn_of t (ran ts s).machine).answer (counts_in ts s) s.spare) (omega (arith, longer))

-- a turn takes the room of at most one operation
pub spare-falls : (a : TurnAnswer) (n : ℕ) → n ≤ spare_after a n + 1
spare-falls (TurnAnswer.Retired op) n = omega arith
spare-falls (TurnAnswer.Granted e) n = omega arith
spare-falls (TurnAnswer.Busy cause) n = omega arith
spare-falls (TurnAnswer.Issued kind item) n = omega arith
spare-falls (TurnAnswer.Waiting item) n = omega arith
spare-falls (TurnAnswer.Halted cause) n = omega arith
spare-falls TurnAnswer.Empty n = omega arith

-- ---- the loop's steps

pub take-next : (ts : List Turn) (k : ℕ) (t : Turn) → k < length ts → t ≡ slice_index_or ts k t → take (k + 1) ts ≡ take k ts ++ t ∷ []
take-next ts k t inside is = take_more ts k t inside ∙ ap (λ u. take k ts ++ u ∷ []) (sym is)

-- a turn of those that were asked for names a part of the machine where it is made
pub named-here : (ts : List Turn) (k : ℕ) (t : Turn) (s : MachineState) → NameParts ts s.machine → k < length ts → t ≡ slice_index_or ts k t → names_part t (ran (take k ts) s).machine ≡ true
named-here ts k t s named inside is = run-names t (take k ts) s.machine ∙ subst (λ u. names_part u s.machine ≡ true) (sym is) (All-get_or (λ u. names_part u s.machine ≡ true) ts k t inside named)

pub turns-here : (ts : List Turn) (k : ℕ) (s : MachineState) → CanRun ts s → k < length ts → (ran (take k ts) s).turns < 4294967295
turns-here ts k s few inside =
    let shorter = length-take-le k ts (omega (arith, inside)) in
    omega (arith, few, inside, shorter)

pub counts-none : (s : MachineState) → counts_in [] s ≡ no_counts
unfolding run_of counts_of
counts-none s = refl

pub below-none : AreBelow 1 no_counts
below-none = record { turns = omega arith; retired = omega arith; granted = omega arith; busy = omega arith }

-- the answers that are kept
abbrev pub kept_answers : Bool → List TurnAnswer → List Turn → MachineState → List TurnAnswer
kept_answers keep before ts s = if keep then before ++ answers_in ts s else before

pub kept-none : (keep : Bool) (before : List TurnAnswer) (s : MachineState) → before ≡ kept_answers keep before [] s
unfolding run_of
kept-none true before s = sym (append-nil before)
kept-none false before s = refl

pub kept-more : (keep : Bool) (before : List TurnAnswer) (ts : List Turn) (t : Turn) (s : MachineState)
    → (if keep then kept_answers keep before ts s ++ (turn_of t (ran ts s).machine).answer ∷ [] else kept_answers keep before ts s) ≡ kept_answers keep before (ts ++ t ∷ []) s
kept-more true before ts t s = append_assoc before (answers_in ts s) ((turn_of t (ran ts s).machine).answer ∷ []) ∙ ap (λ l. before ++ l) (sym (answers-more ts t s.machine))
kept-more false before ts t s = refl

pub answers-length : (ts : List Turn) (m : MachineValue) → length (run_of ts m).answers ≡ length ts
unfolding run_of
answers-length [] m = refl
answers-length (t ∷ ts) m = ap suc (answers-length ts (turn_of t m).machine)

-- an answer that counts only where it is kept
pub kept-alike : (keep : Bool) (before : List TurnAnswer) (a b : TurnAnswer) → (keep ≡ true → a ≡ b) → (if keep then before ++ a ∷ [] else before) ≡ (if keep then before ++ b ∷ [] else before)
kept-alike true before a b same = ap (λ x. before ++ x ∷ []) (same refl)
kept-alike false before a b same = refl
