-- A trace as its lines, one behind the other.
use Rattle.std.proofs.Common.{◌≡◌, ◌<◌, ◌≤◌, ℕ, ◌+◌, List, [], ◌++◌, length, drop, take, get_or, refl, sym, ap, ◌∙◌, append_assoc}
use Rattle.std.proofs.lemmas.List.{drop_all, drop_more}
use Rattle.report.specs.DdmTypes.declared.turns.Turn.{Turn}
use Rattle.report.specs.DdmTypes.declared.answers.TurnAnswer.{TurnAnswer}
use Rattle.text_model.specs.Trace.{trace_from, trace_line}
use Rattle.text_model.proofs.Numbered.{trace_from-take}
use Rattle.report.proofs.Lines.{not-empty}

-- the lines of the first turns, and one more
pub trace-next : (old now new : List ℕ) (n i : ℕ) (turns : List Turn) (answers : List TurnAnswer) (turn : Turn) (answer : TurnAnswer) → i < length turns → i < length answers → turn ≡ get_or turns i turn → answer ≡ get_or answers i answer
    → now ≡ old ++ trace_from n (take i turns) (take i answers) → new ≡ now ++ trace_line (n + i) turn answer → new ≡ old ++ trace_from n (take (i + 1) turns) (take (i + 1) answers)
trace-next old now new n i turns answers turn answer inside inside' at at' first next =
    let before = trace_from n (take i turns) (take i answers) in
    let line = trace_line (n + i) turn answer in
    let whole : trace_from n (take (i + 1) turns) (take (i + 1) answers) ≡ before ++ line =
    trace_from-take n i turns answers turn answer inside inside'
    ∙ ap (λ t. before ++ trace_line (n + i) t (get_or answers i answer)) (sym at)
    ∙ ap (λ a. before ++ trace_line (n + i) turn a) (sym at') in
    next ∙ ap (λ t. t ++ line) first ∙ append_assoc old before line ∙ ap (λ t. old ++ t) (sym whole)

-- the line k, and those behind it
pub trace-more : (turns : List Turn) (answers : List TurnAnswer) (k : ℕ) (t : Turn) (a : TurnAnswer) → k < length turns → k < length answers → trace_from k (drop k turns) (drop k answers) ≡ trace_line k (get_or turns k t) (get_or answers k a) ++ trace_from (k + 1) (drop (k + 1) turns) (drop (k + 1) answers)
unfolding trace_from
trace-more turns answers k t a inside inside' = rw (drop_more turns k t inside, drop_more answers k a inside') refl

pub trace-none : (turns : List Turn) (answers : List TurnAnswer) (k : ℕ) → length turns ≤ k → trace_from k (drop k turns) answers ≡ []
unfolding trace_from
trace-none turns answers k past = rw (drop_all k turns past) refl

pub line-some : (k : ℕ) (t : Turn) (a : TurnAnswer) → trace_line k t a ≡ [] → ⊥
unfolding trace_line
line-some k t a none = not-empty none
