-- The lines of turns, one line after the other.
use Rattle.std.proofs.Common.{◌≡◌, ◌<◌, ℕ, ◌+◌, ◌++◌, List, [], ◌∷◌, length, length-append, refl, sym, ap, ◌∙◌, append_assoc, arith, false, Bool}
use Rattle.std.specs.Prelude.{codes}
use Rattle.ddm_cli.specs.DdmTypes.declared.turns.Turn.{Turn}
use Rattle.ddm_cli.specs.TextModel.Schedule.{schedule_text, turn_line, turn_lines, turn_text}
use Rattle.ddm_cli.specs.Listing.{lines_left}

-- the next turn's line is put after those that are there
pub line_more : (text line put : List ℕ) (t : Turn) (left after : List Turn) → left ≡ t ∷ after → text ≡ line ++ turn_lines left → put ≡ line ++ turn_line t → text ≡ put ++ turn_lines after
unfolding turn_lines
line_more text line put t left after next is more =
    is ∙ ap (λ ts. line ++ turn_lines ts) next ∙ sym (append_assoc line (turn_line t) (turn_lines after)) ∙ ap (λ l. l ++ turn_lines after) (sym more)

pub line_some : (line put : List ℕ) (t : Turn) → put ≡ line ++ turn_line t → 0 < length put
unfolding turn_line
line_some line put t is =
    let all : length put ≡ length line + length (turn_line t) = ap length is ∙ length-append line (turn_line t) in
    let one : length (turn_line t) ≡ length (turn_text t) + 1 = length-append (turn_text t) (codes "\n") in
    omega (arith, all, one)

-- the last line, and nothing after it
pub end_left : (left : List Turn) (ended : Bool) (line put : List ℕ) → length left ≡ 0 → ended ≡ false → line ≡ [] → put ≡ line ++ codes "end\n" → lines_left left ended ≡ put ++ []
unfolding schedule_text turn_lines
end_left [] ended line put none not empty is = rw (not, is, empty) refl
end_left (t ∷ ts) ended line put none not empty is = absurd (omega (arith, none))

-- some lines, and the others after them
pub lines_put : (left after : List Turn) (ended : Bool) (put : List ℕ) → ended ≡ false → turn_lines left ≡ put ++ turn_lines after → lines_left left ended ≡ put ++ lines_left after ended
unfolding schedule_text
lines_put left after ended put not is = rw not (ap (λ l. l ++ codes "end\n") is ∙ append_assoc put (turn_lines after) (codes "end\n"))
