-- Lines with a number that counts up, for loops that print them: a further line stands at the end.
use Rattle.std.proofs.Common.{◌≡◌, ℕ, ◌+◌, ◌<◌, List, [], ◌∷◌, ◌++◌, length, take, get_or, sym, ap, ◌∙◌, subst, append_assoc, add-zero, zero-add, arith}
use Rattle.text_model.specs.DdmTypes.declared.turns.Turn.{Turn}
use Rattle.text_model.specs.DdmTypes.declared.answers.TurnAnswer.{TurnAnswer}
use Rattle.tree_model.specs.declared.Traffic.{Traffic}
use Rattle.ddm_text.specs.Adds.{Adds, ◌▸◌}
use Rattle.text_model.specs.Trace.{trace_line, trace_from}
use Rattle.text_model.specs.Report.{bus_line, bus_lines_from}
use Rattle.std.proofs.lemmas.List.{append-nil, length-take-le, take_more}

pub bus_lines_from-append : (n : ℕ) (xs ys : List Traffic) → bus_lines_from n (xs ++ ys) ≡ bus_lines_from n xs ++ bus_lines_from (n + length xs) ys
unfolding bus_lines_from
bus_lines_from-append n [] ys = ap (λ (m : ℕ). bus_lines_from m ys) (sym (add-zero n))
bus_lines_from-append n (x ∷ xs) ys =
    let next : (n + 1) + length xs ≡ n + length (x ∷ xs) = omega arith in
    ap (λ t. bus_line n x ++ t) (bus_lines_from-append (n + 1) xs ys ∙ ap (λ (m : ℕ). bus_lines_from (n + 1) xs ++ bus_lines_from m ys) next)
    ∙ sym (append_assoc (bus_line n x) (bus_lines_from (n + 1) xs) (bus_lines_from (n + length (x ∷ xs)) ys))

-- the lines of the first buses, with one more
pub bus_lines_from-take : (n i : ℕ) (xs : List Traffic) (d : Traffic) → i < length xs → bus_lines_from n (take (i + 1) xs) ≡ bus_lines_from n (take i xs) ++ bus_line (n + i) (get_or xs i d)
unfolding bus_lines_from
bus_lines_from-take n i xs d inside =
    let x = get_or xs i d in
    let first = bus_lines_from n (take i xs) in
    let number : n + length (take i xs) ≡ n + i = ap (λ (m : ℕ). n + m) (length-take-le i xs (omega (arith, inside))) in
    ap (λ ys. bus_lines_from n ys) (take_more xs i d inside)
    ∙ bus_lines_from-append n (take i xs) (x ∷ [])
    ∙ ap (λ (m : ℕ). first ++ bus_lines_from m (x ∷ [])) number
    ∙ ap (λ t. first ++ t) (append-nil (bus_line (n + i) x))

pub trace_from-append : (n : ℕ) (turns more : List Turn) (answers further : List TurnAnswer) → length turns ≡ length answers → trace_from n (turns ++ more) (answers ++ further) ≡ trace_from n turns answers ++ trace_from (n + length turns) more further
unfolding trace_from
trace_from-append n [] more [] further same = ap (λ (m : ℕ). trace_from m more further) (sym (add-zero n))
trace_from-append n [] more (answer ∷ answers) further same = absurd (omega (arith, same))
trace_from-append n (turn ∷ turns) more [] further same = absurd (omega (arith, same))
trace_from-append n (turn ∷ turns) more (answer ∷ answers) further same =
    let next : (n + 1) + length turns ≡ n + length (turn ∷ turns) = omega arith in
    ap (λ t. trace_line n turn answer ++ t) (trace_from-append (n + 1) turns more answers further (omega (arith, same)) ∙ ap (λ (m : ℕ). trace_from (n + 1) turns answers ++ trace_from m more further) next)
    ∙ sym (append_assoc (trace_line n turn answer) (trace_from (n + 1) turns answers) (trace_from (n + length (turn ∷ turns)) more further))

-- the lines of the first turns, with one more
pub trace_from-take : (n i : ℕ) (turns : List Turn) (answers : List TurnAnswer) (t : Turn) (a : TurnAnswer) → i < length turns → i < length answers → trace_from n (take (i + 1) turns) (take (i + 1) answers) ≡ trace_from n (take i turns) (take i answers) ++ trace_line (n + i) (get_or turns i t) (get_or answers i a)
unfolding trace_from
trace_from-take n i turns answers t a inside inside' =
    let turn = get_or turns i t in
    let answer = get_or answers i a in
    let first = trace_from n (take i turns) (take i answers) in
    let number : n + length (take i turns) ≡ n + i = ap (λ (m : ℕ). n + m) (length-take-le i turns (omega (arith, inside))) in
    ap (λ ys. trace_from n ys (take (i + 1) answers)) (take_more turns i t inside)
    ∙ ap (λ ys. trace_from n (take i turns ++ turn ∷ []) ys) (take_more answers i a inside')
    ∙ trace_from-append n (take i turns) (turn ∷ []) (take i answers) (answer ∷ []) (length-take-le i turns (omega (arith, inside)) ∙ sym (length-take-le i answers (omega (arith, inside'))))
    ∙ ap (λ (m : ℕ). first ++ trace_from m (turn ∷ []) (answer ∷ [])) number
    ∙ ap (λ t. first ++ t) (append-nil (trace_line (n + i) turn answer))

-- a loop over buses, with one line more
pub bus_lines-next : {old now new : List ℕ} (i : ℕ) (xs : List Traffic) (d : Traffic) → i < length xs → Adds old now (bus_lines_from 0 (take i xs)) → Adds now new (bus_line i (get_or xs i d)) → Adds old new (bus_lines_from 0 (take (i + 1) xs))
bus_lines-next {old} {now} {new} i xs d inside first next =
    let P : List ℕ → Type 0 = λ text. Adds old new text in
    let whole : bus_lines_from 0 (take (i + 1) xs) ≡ bus_lines_from 0 (take i xs) ++ bus_line i (get_or xs i d) =
    bus_lines_from-take 0 i xs d inside ∙ ap (λ (m : ℕ). bus_lines_from 0 (take i xs) ++ bus_line m (get_or xs i d)) (zero-add i) in
    subst P (sym whole) (first ▸ next)
