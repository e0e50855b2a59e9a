-- What the code's answers say of rows: which are kept.
use Rattle.std.specs.Prelude.{◌≡◌, ℕ, List, [], length, take, drop, Result, Ok, Err, if◌then◌else◌}
use Rattle.litmus_model.specs.declared.refusal.Fault.TheVariants.{NoThreads}
use Rattle.litmus_model.specs.declared.refusal.TestRefusal.{TestRefusal}
use Rattle.litmus_model.specs.Refusing.{Judged, refused}
use Rattle.litmus_model.specs.Tokens.{Piece}
use Rattle.litmus_model.specs.Program.{cells_of, name_threads}

-- how many threads a row names
unfoldable pub named_count : Piece → Judged ℕ
named_count row = if name_threads 0 (cells_of row) then Ok (length (cells_of row)) else refused row.line NoThreads

abbrev pub Opens : Judged (List Piece) → Result (Unit {0}) TestRefusal → Type 0
Opens judged (Ok done) = judged ≡ Ok []
Opens judged (Err refusal) = judged ≡ Err refusal

-- the first of these pieces
abbrev pub Cuts : Judged (List Piece) → List Piece → Result ℕ TestRefusal → Type 0
Cuts judged pieces (Ok count) = judged ≡ Ok (take count pieces)
Cuts judged pieces (Err refusal) = judged ≡ Err refusal

-- all but the first
abbrev pub Drops : Judged (List Piece) → List Piece → Result (Unit {0}) TestRefusal → Type 0
Drops judged rows (Ok done) = judged ≡ Ok (drop 1 rows)
Drops judged rows (Err refusal) = judged ≡ Err refusal
