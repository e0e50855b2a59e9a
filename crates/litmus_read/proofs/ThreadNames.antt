-- The names of threads, and how many rows there are.
use Rattle.std.proofs.Common.{◌≡◌, ℕ, ◌+◌, ◌<◌, ◌≤◌, List, [], ◌∷◌, ◌++◌, length, take, drop, get_or, refl, sym, ap, ◌∙◌, arith}
use Rattle.std.specs.Prelude.{true, false, Ok, Err}
use Rattle.std.proofs.lemmas.List.{drop_all, drop_more, take_all, take_more}
use Rattle.litmus_model.specs.declared.parts.Token.{Token}
use Rattle.litmus_model.specs.declared.refusal.Fault.TheVariants.{NoThreads, TooManyRows}
use Rattle.litmus_model.specs.declared.refusal.TestRefusal.{TestRefusal}
use Rattle.litmus_model.specs.declared.refusal.TestRefusal.TheVariants.{InLine}
use Rattle.litmus_model.specs.Refusing.{and_then}
use Rattle.litmus_model.specs.Tokens.{Piece, parts_of}
use Rattle.litmus_model.specs.Program.{is_thread_name, name_threads, no_open_row, not_too_many, thread_count, whole_rows}
use Rattle.litmus_read.specs.Rows.{named_count}

pub one_token : (k : ℕ) (tokens : List Token) (d : Token) → length tokens ≡ 1 → is_thread_name k (parts_of tokens) ≡ is_thread_name k ((get_or tokens 0 d).part ∷ [])
one_token k [] d one = absurd (omega (arith, one))
one_token k (t ∷ []) d one = refl
one_token k (t ∷ u ∷ ts) d one = absurd (omega (arith, one))

pub other_tokens : (k : ℕ) (tokens : List Token) → (length tokens ≡ 1 → ⊥) → is_thread_name k (parts_of tokens) ≡ false
other_tokens k [] other = refl
other_tokens k (t ∷ []) other = absurd (other refl)
other_tokens k (t ∷ u ∷ ts) other = refl

pub names_next : (cells : List Piece) (k : ℕ) (d : Piece) → k < length cells → is_thread_name k (parts_of (get_or cells k d).tokens) ≡ true
    → name_threads k (drop k cells) ≡ name_threads (k + 1) (drop (k + 1) cells)
unfolding name_threads
names_next cells k d inside named = rw (drop_more cells k d inside, named) refl

pub names_fail : (cells : List Piece) (k : ℕ) (d : Piece) → k < length cells → is_thread_name k (parts_of (get_or cells k d).tokens) ≡ false → name_threads k (drop k cells) ≡ false
unfolding name_threads
names_fail cells k d inside other = rw (drop_more cells k d inside, other) refl

pub names_done : (cells : List Piece) (k : ℕ) → length cells ≤ k → name_threads k (drop k cells) ≡ true
unfolding name_threads
names_done cells k past = rw (drop_all k cells past) refl

pub no_rows : (line : ℕ) (rows : List Piece) → length rows ≡ 0 → thread_count line rows ≡ Err (InLine line NoThreads)
unfolding thread_count
no_rows line [] none = refl
no_rows line (r ∷ rows) none = absurd (omega (arith, none))

pub some_rows : (line : ℕ) (rows : List Piece) (d : Piece) → (length rows ≡ 0 → ⊥) → thread_count line rows ≡ named_count (get_or rows 0 d)
unfolding thread_count named_count
some_rows line [] d some = absurd (some refl)
some_rows line (r ∷ rows) d some = refl

pub no_pieces : (pieces : List Piece) → length pieces ≡ 0 → whole_rows pieces ≡ Ok (take 0 pieces)
unfolding whole_rows
no_pieces [] none = refl
no_pieces (p ∷ ps) none = absurd (omega (arith, none))

closed_behind : (ps : List Piece) (p : Piece) → no_open_row p.tokens ≡ Ok [] → whole_rows (ps ++ p ∷ []) ≡ Ok ps
unfolding whole_rows and_then
closed_behind [] p none = none
closed_behind (q ∷ []) p none = rw none refl
closed_behind (q ∷ r ∷ ps) p none = rw (closed_behind (r ∷ ps) p none) refl

open_behind : (ps : List Piece) (p : Piece) (r : TestRefusal) → no_open_row p.tokens ≡ Err r → whole_rows (ps ++ p ∷ []) ≡ Err r
unfolding whole_rows and_then
open_behind [] p r more = more
open_behind (q ∷ []) p r more = rw more refl
open_behind (q ∷ s ∷ ps) p r more = rw (open_behind (s ∷ ps) p r more) refl

with_last : (pieces : List Piece) (k : ℕ) (d : Piece) → k + 1 ≡ length pieces → pieces ≡ take k pieces ++ get_or pieces k d ∷ []
with_last pieces k d last =
    let inside : k < length pieces = omega (arith, last) in
    let whole : length pieces ≤ k + 1 = omega (arith, last) in
    sym (take_all (k + 1) pieces whole) ∙ take_more pieces k d inside

pub rows_closed : (pieces : List Piece) (k : ℕ) (d : Piece) → k + 1 ≡ length pieces → no_open_row (get_or pieces k d).tokens ≡ Ok [] → whole_rows pieces ≡ Ok (take k pieces)
rows_closed pieces k d last none = ap whole_rows (with_last pieces k d last) ∙ closed_behind (take k pieces) (get_or pieces k d) none

pub rows_open : (pieces : List Piece) (k : ℕ) (d : Piece) (r : TestRefusal) → k + 1 ≡ length pieces → no_open_row (get_or pieces k d).tokens ≡ Err r → whole_rows pieces ≡ Err r
rows_open pieces k d r last more = ap whole_rows (with_last pieces k d last) ∙ open_behind (take k pieces) (get_or pieces k d) r more

pub too_many : (rows : List Piece) (d : Piece) → 257 < length rows → not_too_many rows ≡ Err (InLine (get_or rows 257 d).line TooManyRows)
unfolding not_too_many
too_many rows d many = rw (drop_more rows 257 d many) refl

pub not_many : (rows : List Piece) → length rows ≤ 257 → not_too_many rows ≡ Ok (drop 1 rows)
unfolding not_too_many
not_many rows few = rw (drop_all 257 rows few) refl

-- One name after another.
pub ruleset name_steps = (names_next, names_fail, names_done)

-- Where the rows end.
pub ruleset row_ends = (no_pieces, rows_closed, rows_open)
