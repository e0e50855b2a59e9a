-- Turns that are filmed, with one more.
-- Letters: m is a machine, t and u are turns, s is a machine as the code has it.
use Rattle.std.proofs.Common.{◌≡◌, ℕ, ◌+◌, ◌<◌, List, [], ◌∷◌, ◌++◌, length, take, refl, sym, ap, subst, ◌∙◌, append_assoc, append-nil, arith}
use Rattle.std.proofs.lemmas.List.{length-take-le}
use Rattle.film.proofs.AnyRuns.RunMore.{below-none, counted-below, counted-plus, counts-more, machine-more}
use Rattle.film_runs.specs.AnyRuns.Run.{AreBelow, counts_in}
use Rattle.film_runs.specs.Counts.{sum}
use Rattle.film_runs.specs.DdmTree.Machine.{MachineState}
use Rattle.film_runs.specs.DdmTypes.declared.turns.Turn.{Turn}
use Rattle.film_runs.specs.TreeModel.State.Values.{MachineValue}
use Rattle.film_runs.specs.TreeModel.Turns.Machine.{run_of, turn_of}
use Rattle.film_runs.specs.TextModel.declared.RunCounts.{RunCounts}
use Rattle.film_runs.specs.TextModel.Run.{counted_answer, counts_of, no_counts}
use Rattle.film_runs.specs.FilmModel.Film.{turn_film, turns_film}

-- ---- the text

at_none : (n : ℕ) → n ≡ n + 0
at_none n = omega arith

films_more : (n : ℕ) (ts : List Turn) (t : Turn) (m : MachineValue) → turns_film n (ts ++ t ∷ []) m ≡ turns_film n ts m ++ turn_film (n + length ts) t (run_of ts m).machine
unfolding turns_film run_of
films_more n [] t m = append-nil (turn_film n t m) ∙ ap (λ k. turn_film k t m) (at_none n)
films_more n (u ∷ us) t m =
    let next = (turn_of u m).machine in
    ap (λ x. turn_film n u m ++ x) (films_more (n + 1) us t next ∙ ap (λ k. turns_film (n + 1) us next ++ turn_film k t (run_of us next).machine) (omega arith))
    ∙ sym (append_assoc (turn_film n u m) (turns_film (n + 1) us next) (turn_film (n + length (u ∷ us)) t (run_of us next).machine))

pub text_more : (old was now : List ℕ) (ts : List Turn) (k number : ℕ) (t : Turn) (m here : MachineValue) → k < length ts → take (k + 1) ts ≡ take k ts ++ t ∷ [] →
    was ≡ old ++ turns_film 0 (take k ts) m → here ≡ (run_of (take k ts) m).machine → number ≡ k → now ≡ was ++ turn_film number t here →
    now ≡ old ++ turns_film 0 (take (k + 1) ts) m
text_more old was now ts k number t m here inside next is there counted told =
    let made = length-take-le k ts (omega (arith, inside)) in
    let count : number ≡ 0 + length (take k ts) = omega (arith, made, counted) in
    told
    ∙ ap (λ (x : List ℕ). x ++ turn_film number t here) is
    ∙ append_assoc old (turns_film 0 (take k ts) m) (turn_film number t here)
    ∙ ap (λ (x : List ℕ). old ++ (turns_film 0 (take k ts) m ++ x)) (ap (λ (n : ℕ). turn_film n t here) count ∙ ap (turn_film (0 + length (take k ts)) t) there)
    ∙ ap (λ (x : List ℕ). old ++ x) (sym (films_more 0 (take k ts) t m) ∙ ap (λ (us : List Turn). turns_film 0 us m) (sym next))

pub text_none : (x : List ℕ) (m : MachineValue) → x ≡ x ++ turns_film 0 [] m
unfolding turns_film
text_none x m = sym (append-nil x)

-- ---- the machine

pub machine_none : (m : MachineValue) → m ≡ (run_of [] m).machine
unfolding run_of
machine_none m = refl

pub machine_more : (ts : List Turn) (k : ℕ) (t : Turn) (m here next : MachineValue) → take (k + 1) ts ≡ take k ts ++ t ∷ [] → here ≡ (run_of (take k ts) m).machine → next ≡ (turn_of t here).machine → next ≡ (run_of (take (k + 1) ts) m).machine
machine_more ts k t m here next more there is =
    is ∙ ap (λ (n : MachineValue). (turn_of t n).machine) there ∙ sym (machine-more (take k ts) t m) ∙ ap (λ (us : List Turn). (run_of us m).machine) (sym more)

-- ---- counts

pub one_counted : (t : Turn) (s : MachineState) → counts_in (t ∷ []) s ≡ counted_answer (turn_of t s.machine).answer no_counts
unfolding run_of counts_of
one_counted t s = refl

pub one_below : (more : RunCounts) (t : Turn) (here : MachineState) → more ≡ counts_in (t ∷ []) here → AreBelow 2 more
one_below more t here one = subst (AreBelow 2) (sym (one ∙ one_counted t here)) (counted-below 1 (turn_of t here.machine).answer no_counts below-none)

counted_once : (c more now : RunCounts) (t : Turn) (here : MachineState) → now ≡ sum c more → more ≡ counts_in (t ∷ []) here → now ≡ counted_answer (turn_of t here.machine).answer c
counted_once c more now t here added one = added ∙ ap (sum c) (one ∙ one_counted t here) ∙ sym (counted-plus (turn_of t here.machine).answer c)

pub below_after : (c more now : RunCounts) (k : ℕ) (t : Turn) (here : MachineState) → now ≡ sum c more → more ≡ counts_in (t ∷ []) here → AreBelow (k + 1) c → AreBelow (k + 1 + 1) now
below_after c more now k t here added one below = subst (AreBelow (k + 1 + 1)) (sym (counted_once c more now t here added one)) (counted-below (k + 1) (turn_of t here.machine).answer c below)

pub counts_after : (c more now : RunCounts) (ts : List Turn) (k : ℕ) (t : Turn) (s here : MachineState) → take (k + 1) ts ≡ take k ts ++ t ∷ [] →
    now ≡ sum c more → more ≡ counts_in (t ∷ []) here → c ≡ counts_in (take k ts) s → here.machine ≡ (run_of (take k ts) s.machine).machine →
    now ≡ counts_in (take (k + 1) ts) s
counts_after c more now ts k t s here next added one is there =
    counted_once c more now t here added one
    ∙ ap (λ (m : MachineValue). counted_answer (turn_of t m).answer c) there
    ∙ ap (counted_answer (turn_of t (run_of (take k ts) s.machine).machine).answer) is
    ∙ sym (counts-more (take k ts) t s)
    ∙ ap (λ (us : List Turn). counts_in us s) (sym next)
