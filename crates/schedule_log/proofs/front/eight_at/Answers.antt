use Rattle.std.proofs.Common.{◌≡◌, ℕ, zero, suc, ◌+◌, ◌<◌, ◌≤◌, List, [], ◌∷◌, length, take, drop, get_or, ap, ◌∙◌, length-drop, arith}
use Rattle.std.proofs.lemmas.List.{get_or-drop, length-take-le, take_rest}
use Rattle.std.proofs.lemmas.Nat.{le_bytes_8}
use Rattle.schedule_log.proofs.front.eight_at.Goals as goal

-- what is taken of bytes are bytes
taken : (n i : ℕ) (xs : List ℕ) → ((j : ℕ) → get_or xs j 0 < 256) → get_or (take n xs) i 0 < 256
taken zero i xs small = omega arith
taken (suc n) i [] small = omega arith
taken (suc n) zero (x ∷ xs) small = small 0
taken (suc n) (suc i) (x ∷ xs) small = taken n i xs (λ j. small (suc j))

pub returns : goal.returns
returns c =
    let text = c.args.text.now in
    let rest = drop c.args.place text in
    let eight = c.in-Some.eight.now in
    let same : eight ≡ take 8 rest = c.in-Some.ensures.cases.same ∙ ap (λ (xs : List ℕ). take 8 xs) (take_rest text c.args.place) in
    let long : 8 ≤ length rest = omega (arith, length-drop c.args.place text, c.requires) in
    let many : length eight ≡ 8 = ap length same ∙ length-take-le 8 rest long in
    let small : (i : ℕ) → get_or eight i 0 < 256 = λ i. rw same (taken 8 i rest (λ j. rw (get_or-drop c.args.place text j 0) (c.type_inv.text (c.args.place + j)).fits)) in
    le_bytes_8 eight c.from_le_bytes.result many small c.from_le_bytes.ensures ∙ same
