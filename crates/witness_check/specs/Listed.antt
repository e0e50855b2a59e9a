-- The operations that a text says.
-- To be believed with the contracts: they speak of it.
use Rattle.std.specs.Prelude.{ℕ, List, [], ◌∷◌, Option, Some, None}
use Rattle.std.specs.List.{flat_map}
use Rattle.witness_check.specs.DdmTypes.declared.operations.Op.{Op}
use Rattle.text_model.specs.Schedule.{pieces_at}
use Rattle.witness_check.specs.Lines.{op_in, without_key}

-- the operation that a line says, if it says one; its key isn't looked at
abbrev pub said : Option Op → List Op
said None = []
said (Some op) = without_key op ∷ []

-- of the lines of a text, in their order
unfoldable pub ops_in : List ℕ → List Op
ops_in text = flat_map (λ line. said (op_in line)) (pieces_at 10 text)
