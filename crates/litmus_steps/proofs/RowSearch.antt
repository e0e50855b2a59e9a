-- Searches in tables of rows, one row more at a time: what is left decides.
use Rattle.std.proofs.Common.{◌≡◌, ℕ, ◌+◌, ◌<◌, ◌≤◌, List, [], ◌∷◌, length, drop, get_or, refl}
use Rattle.std.specs.Prelude.{true, false, bytes_eq, map, Some, None, if◌then◌else◌}
use Rattle.std.specs.Option.{option_map}
use Rattle.std.proofs.lemmas.List.{drop_all, drop_more}
use Rattle.litmus_model.specs.Mnemonics.{Named, row, meaning_in}
use Rattle.litmus_steps.specs.declared.forms.Row.{Row}
use Rattle.litmus_steps.specs.Rows.{named_rows}

pub row_next : {A : Type 0} (w : List ℕ) (rows : List (Row A)) (k : ℕ) (d : Row A) → k < length rows → bytes_eq w (get_or rows k d).name.now ≡ false
    → meaning_in (named_rows (drop k rows)) w ≡ meaning_in (named_rows (drop (k + 1) rows)) w
row_next w rows k d inside fails = rw (drop_more rows k d inside, fails) refl

pub row_found : {A : Type 0} (w : List ℕ) (rows : List (Row A)) (k : ℕ) (d : Row A) → k < length rows → bytes_eq w (get_or rows k d).name.now ≡ true
    → meaning_in (named_rows (drop k rows)) w ≡ Some (get_or rows k d).meaning
row_found w rows k d inside passes = rw (drop_more rows k d inside, passes) refl

pub row_done : {A : Type 0} (w : List ℕ) (rows : List (Row A)) (k : ℕ) → length rows ≤ k → meaning_in (named_rows (drop k rows)) w ≡ None
row_done w rows k past = rw (drop_all k rows past) refl

-- what is said in place of each meaning
abbrev with_meanings : {A B : Type 0} → (A → B) → List (Named A) → List (Named B)
with_meanings f rows = map (λ r. row r.name (f r.meaning)) rows

pub mapped : {A B : Type 0} (f : A → B) (rows : List (Named A)) (w : List ℕ) → option_map f (meaning_in rows w) ≡ meaning_in (with_meanings f rows) w
mapped f [] w = refl
mapped f (r ∷ rows) w =
    elim (bytes_eq w r.name) as (λ b. option_map f (if b then Some r.meaning else meaning_in rows w) ≡ (if b then Some (f r.meaning) else meaning_in (with_meanings f rows) w))
    [ true ↦ refl | false ↦ mapped f rows w ]
