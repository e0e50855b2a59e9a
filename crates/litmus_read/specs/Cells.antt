-- The steps of a cell and of a row, with their threads and lines.
use Rattle.std.specs.Prelude.{ℕ, nat_eq, List, [], ◌∷◌, length, Option, None, Ok, if◌then◌else◌}
use Rattle.litmus_model.specs.declared.parts.Token.{Token}
use Rattle.litmus_model.specs.declared.parts.Step.{Step}
use Rattle.litmus_model.specs.declared.parts.PlacedStep.{PlacedStep}
use Rattle.litmus_model.specs.Refusing.{Judged, ◌>>=◌, refused}
use Rattle.litmus_model.specs.declared.refusal.Fault.TheVariants.{BadRow}
use Rattle.litmus_model.specs.Tokens.{Piece}
use Rattle.litmus_model.specs.Program.{cell_steps, cells_of, label_name, placed, row_steps}

unfoldable pub placed_steps : ℕ → ℕ → Judged (List Step) → Judged (List PlacedStep)
placed_steps thread line judged = judged >>= (λ steps. Ok (placed thread line steps))

abbrev pub cell_placed : ℕ → ℕ → List Token → Judged (List PlacedStep)
cell_placed thread line tokens = placed_steps thread line (cell_steps line tokens)

-- the label with which tokens begin
unfoldable pub first_label : List Token → Option (List ℕ)
first_label [] = None
first_label (t ∷ []) = None
first_label (t ∷ u ∷ ts) = label_name t.part u.part

-- the steps of a row that has so many cells
unfoldable pub one_row : ℕ → Piece → Judged (List PlacedStep)
one_row threads row = if nat_eq (length (cells_of row)) threads then row_steps row.line 0 (cells_of row) else refused row.line BadRow
