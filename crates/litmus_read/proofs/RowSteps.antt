-- The rows of a program, one cell or row more at a time.
use Rattle.std.proofs.Common.{◌≡◌, ℕ, ◌+◌, ◌<◌, ◌≤◌, List, [], ◌++◌, length, drop, get_or, refl, ap, ◌∙◌, arith, eq-eqb}
use Rattle.std.specs.Prelude.{nat_eq, false, Ok, Err}
use Rattle.std.proofs.lemmas.Bool.Decides.{nat_tests}
use Rattle.std.proofs.lemmas.List.{append-nil, drop_all, drop_more}
use Rattle.litmus_model.specs.declared.parts.Step.{Step}
use Rattle.litmus_model.specs.declared.parts.PlacedStep.{PlacedStep}
use Rattle.litmus_model.specs.declared.refusal.Fault.TheVariants.{BadRow}
use Rattle.litmus_model.specs.declared.refusal.TestRefusal.{TestRefusal}
use Rattle.litmus_model.specs.declared.refusal.TestRefusal.TheVariants.{InLine}
use Rattle.litmus_model.specs.Refusing.{Judged, ◌>>=◌, and_then}
use Rattle.litmus_model.specs.Tokens.{Piece}
use Rattle.litmus_model.specs.Program.{cell_steps, cells_of, placed, row_steps, rows_steps}
use Rattle.litmus_text.specs.declared.judged.Unread.{Unread}
use Rattle.litmus_text.specs.declared.judged.Unread.TheVariants.{Refused, NoMemory}
use Rattle.litmus_text.specs.Reads.{Adds, ReadsList, behind}
use Rattle.litmus_text.proofs.Judging.{behind_nothing, both_behind, refused_behind}
use Rattle.litmus_read.specs.Cells.{cell_placed, one_row, placed_steps}
use Rattle.litmus_read.proofs.CellSteps.{behind_err}

cell_behind_others : (thread line : ℕ) (j : Judged (List Step)) (m : Judged (List PlacedStep))
    → j >>= (λ steps. m >>= (λ others. Ok (placed thread line steps ++ others))) ≡ placed_steps thread line j >>= (λ steps. behind steps m)
unfolding behind placed_steps and_then
cell_behind_others thread line (Ok steps) m = refl
cell_behind_others thread line (Err r) m = refl

pub cells_next : (old new : List PlacedStep) (line : ℕ) (cells : List Piece) (k : ℕ) (d : Piece) → k < length cells → behind old (cell_placed k line (get_or cells k d).tokens) ≡ Ok new
    → behind old (row_steps line k (drop k cells)) ≡ behind new (row_steps line (k + 1) (drop (k + 1) cells))
unfolding row_steps
cells_next old new line cells k d inside is =
    let m = row_steps line (k + 1) (drop (k + 1) cells) in
    rw (drop_more cells k d inside, cell_behind_others k line (cell_steps line (get_or cells k d).tokens) m)
    (both_behind old new (cell_placed k line (get_or cells k d).tokens) m is)

pub cells_done : (old : List PlacedStep) (line : ℕ) (cells : List Piece) (k : ℕ) → length cells ≤ k → behind old (row_steps line k (drop k cells)) ≡ Ok old
unfolding row_steps behind and_then
cells_done old line cells k past = rw (drop_all k cells past) (ap (λ (ss : List PlacedStep). Ok ss) (append-nil old))

cell_refused : (r : TestRefusal) (thread line : ℕ) (j : Judged (List Step)) (m : Judged (List PlacedStep)) → placed_steps thread line j ≡ Err r
    → j >>= (λ steps. m >>= (λ others. Ok (placed thread line steps ++ others))) ≡ Err r
unfolding placed_steps and_then
cell_refused r thread line (Ok steps) m is = absurd (cc)
cell_refused r thread line (Err s) m is = is

row_refused : (line : ℕ) (cells : List Piece) (k : ℕ) (d : Piece) (r : TestRefusal) → k < length cells → cell_placed k line (get_or cells k d).tokens ≡ Err r
    → row_steps line k (drop k cells) ≡ Err r
unfolding row_steps
row_refused line cells k d r inside is =
    rw (drop_more cells k d inside) (cell_refused r k line (cell_steps line (get_or cells k d).tokens) (row_steps line (k + 1) (drop (k + 1) cells)) is)

pub cells_fail : (first old new last : List PlacedStep) (line : ℕ) (cells : List Piece) (k : ℕ) (d : Piece) (e : Unread) → k < length cells
    → behind first (row_steps line 0 cells) ≡ behind old (row_steps line k (drop k cells)) → Adds (cell_placed k line (get_or cells k d).tokens) old new (Err e)
    → Adds (row_steps line 0 cells) first last (Err e)
cells_fail first old new last line cells k d (Refused r) inside whole fails =
    behind_err first r (row_steps line 0 cells) (whole ∙ refused_behind old r (row_steps line k (drop k cells)) (row_refused line cells k d r inside fails))
cells_fail first old new last line cells k d NoMemory inside whole fails = tt

differ : (a b : ℕ) → (a ≡ b → ⊥) → nat_eq a b ≡ false
differ a b h = grind (arith, nat_tests)

pub other_count : (threads : ℕ) (row : Piece) → (length (cells_of row) ≡ threads → ⊥) → one_row threads row ≡ Err (InLine row.line BadRow)
unfolding one_row
other_count threads row other = rw (differ (length (cells_of row)) threads other) refl

pub same_count : (threads : ℕ) (row : Piece) → length (cells_of row) ≡ threads → one_row threads row ≡ row_steps row.line 0 (cells_of row)
unfolding one_row
same_count threads row same = rw (eq-eqb (length (cells_of row)) threads same) refl

pub rows_begun : (threads : ℕ) (rows : List Piece) → rows_steps threads rows ≡ behind [] (rows_steps threads rows)
rows_begun threads rows = behind_nothing (rows_steps threads rows)

pub rows_next : (old new : List PlacedStep) (threads : ℕ) (rows : List Piece) (k : ℕ) (d : Piece) → k < length rows → behind old (one_row threads (get_or rows k d)) ≡ Ok new
    → behind old (rows_steps threads (drop k rows)) ≡ behind new (rows_steps threads (drop (k + 1) rows))
unfolding rows_steps one_row behind
rows_next old new threads rows k d inside is =
    rw (drop_more rows k d inside) (both_behind old new (one_row threads (get_or rows k d)) (rows_steps threads (drop (k + 1) rows)) is)

pub rows_done : (old : List PlacedStep) (threads : ℕ) (rows : List Piece) (k : ℕ) → length rows ≤ k → behind old (rows_steps threads (drop k rows)) ≡ Ok old
unfolding rows_steps behind and_then
rows_done old threads rows k past = rw (drop_all k rows past) (ap (λ (ss : List PlacedStep). Ok ss) (append-nil old))

refused_first : {A : Type 0} (r : TestRefusal) (j : Judged (List A)) (m : Judged (List A)) → j ≡ Err r → j >>= (λ xs. behind xs m) ≡ Err r
unfolding and_then
refused_first r j m is = rw is refl

pub rows_fail : (old new : List PlacedStep) (threads : ℕ) (rows : List Piece) (k : ℕ) (d : Piece) (e : Unread) → k < length rows
    → rows_steps threads rows ≡ behind old (rows_steps threads (drop k rows)) → Adds (one_row threads (get_or rows k d)) old new (Err e)
    → ReadsList (rows_steps threads rows) (Err e)
unfolding rows_steps one_row behind
rows_fail old new threads rows k d (Refused r) inside whole fails =
    whole ∙ refused_behind old r (rows_steps threads (drop k rows))
    (rw (drop_more rows k d inside) (refused_first r (one_row threads (get_or rows k d)) (rows_steps threads (drop (k + 1) rows)) fails))
rows_fail old new threads rows k d NoMemory inside whole fails = tt

-- One row after another.
pub ruleset rows_in_turn = (rows_begun, rows_next, rows_done)
