-- The rows of tables in code, as those of the definition.
use Rattle.std.specs.Prelude.{codes, List, [], ◌∷◌, map}
use Rattle.rv_decode.specs.declared.instructions.AmoOp.TheVariants.{Add as AmoAdd, Swap as AmoSwap, Xor as AmoXor}
use Rattle.rv_decode.specs.declared.instructions.AmoOp.TheVariants.{Or as AmoOr, And as AmoAnd, Min as AmoMin}
use Rattle.rv_decode.specs.declared.instructions.AmoOp.TheVariants.{Max as AmoMax, Minu as AmoMinu, Maxu as AmoMaxu}
use Rattle.litmus_model.specs.declared.test.Orders.{Orders}
use Rattle.litmus_model.specs.declared.test.Form.{Form}
use Rattle.litmus_model.specs.declared.test.Form.TheVariants as form
use Rattle.litmus_model.specs.Mnemonics.{Named, row}
use Rattle.litmus_steps.specs.declared.forms.Row.{Row}
use Rattle.litmus_steps.specs.declared.forms.Atomic.{Atomic}
use Rattle.litmus_steps.specs.declared.forms.Atomic.TheVariants.{LoadReserved, StoreConditional, Amo}

abbrev pub named_rows : {A : Type 0} → List (Row A) → List (Named A)
named_rows {A} rows = map (λ (r : Row A). row r.name.now r.meaning) rows

-- the form of an atomic instruction, by its orders
abbrev pub form_with : Atomic → Orders → Form
form_with LoadReserved = form.LoadReserved
form_with StoreConditional = form.StoreConditional
form_with (Amo op) = form.Amo op

-- the table of these
abbrev pub atomics : List (Named Atomic)
atomics =
    row (codes "lr") LoadReserved ∷ row (codes "sc") StoreConditional ∷
    row (codes "amoswap") (Amo AmoSwap) ∷ row (codes "amoadd") (Amo AmoAdd) ∷ row (codes "amoxor") (Amo AmoXor) ∷
    row (codes "amoand") (Amo AmoAnd) ∷ row (codes "amoor") (Amo AmoOr) ∷ row (codes "amomin") (Amo AmoMin) ∷
    row (codes "amomax") (Amo AmoMax) ∷ row (codes "amominu") (Amo AmoMinu) ∷ row (codes "amomaxu") (Amo AmoMaxu) ∷ []
