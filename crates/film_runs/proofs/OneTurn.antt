-- A run of one turn, and its film from what was put at the end of a text.
-- Letters: s and old are machines as the code has them, m a machine, t a turn.
use Rattle.std.proofs.Common.{◌≡◌, ℕ, List, [], ◌∷◌, ◌++◌, refl, ap, ◌∙◌, append_assoc, append-nil}
use Rattle.film_runs.specs.AnyRuns.Run.{ran, with_room}
use Rattle.film_runs.specs.DdmText.Adds.{Adds}
use Rattle.film_runs.specs.DdmTree.Machine.{MachineState}
use Rattle.film_runs.specs.DdmTypes.declared.answers.TurnAnswer.{TurnAnswer}
use Rattle.film_runs.specs.DdmTypes.declared.turns.Turn.{Turn}
use Rattle.film_runs.specs.TreeModel.State.Values.{MachineValue}
use Rattle.film_runs.specs.TreeModel.Turns.Machine.{run_of, turn_of}
use Rattle.film_runs.specs.TextModel.Trace.{trace_line, trace_from}
use Rattle.film_runs.specs.FilmModel.Film.{turn_film}
use Rattle.film_runs.specs.FilmModel.Part.{Part, changed}
use Rattle.film_runs.specs.FilmModel.Still.{still}

one_answer : (t : Turn) (m : MachineValue) → (run_of (t ∷ []) m).answers ≡ (turn_of t m).answer ∷ []
unfolding run_of
one_answer t m = refl

one_machine : (t : Turn) (m : MachineValue) → (run_of (t ∷ []) m).machine ≡ (turn_of t m).machine
unfolding run_of
one_machine t m = refl

one_line : (number : ℕ) (t : Turn) (answer : TurnAnswer) → trace_from number (t ∷ []) (answer ∷ []) ≡ trace_line number t answer
unfolding trace_from
one_line number t answer = append-nil (trace_line number t answer)

pub answer_after : (was now given : List TurnAnswer) (t : Turn) (m : MachineValue) → given ≡ now → now ≡ was ++ (run_of (t ∷ []) m).answers → was ≡ [] → given ≡ (turn_of t m).answer ∷ []
answer_after was now given t m is added none = is ∙ added ∙ ap (λ (xs : List TurnAnswer). xs ++ (run_of (t ∷ []) m).answers) none ∙ one_answer t m

pub machine_after : (s old : MachineState) (t : Turn) → s ≡ ran (t ∷ []) (with_room 1 old) → s.machine ≡ (turn_of t old.machine).machine
machine_after s old t is = ap (λ (r : MachineState). r.machine) is ∙ one_machine t old.machine

pub text_after : (was mid now : List ℕ) (number : ℕ) (t : Turn) (m next : MachineValue) (before : List Part) (given : List TurnAnswer) →
    mid ≡ was ++ trace_from number (t ∷ []) given → Adds mid now (changed before (still next)) → given ≡ (turn_of t m).answer ∷ [] → before ≡ still m → next ≡ (turn_of t m).machine →
    now ≡ was ++ turn_film number t m
unfolding turn_film
text_after was mid now number t m next before given told added answers from is =
    let line = trace_line number t (turn_of t m).answer in
    added.is
    ∙ ap (λ (x : List ℕ). x ++ changed before (still next)) told
    ∙ append_assoc was (trace_from number (t ∷ []) given) (changed before (still next))
    ∙ ap (λ (xs : List TurnAnswer). was ++ (trace_from number (t ∷ []) xs ++ changed before (still next))) answers
    ∙ ap (λ (x : List ℕ). was ++ (x ++ changed before (still next))) (one_line number t (turn_of t m).answer)
    ∙ ap (λ (ps : List Part). was ++ (line ++ changed ps (still next))) from
    ∙ ap (λ (n : MachineValue). was ++ (line ++ changed (still m) (still n))) is
