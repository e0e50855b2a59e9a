-- A named number at the end of a text.
use Rattle.std.specs.Prelude.{ℕ, List, ◌++◌}
use Rattle.std.proofs.Common.{ap, sym, ◌∙◌, append_assoc}
use Rattle.report.specs.DdmText.Adds.{Adds, ◌▸◌}

-- a text, and then a name and its number
pub named : {a b c text : List ℕ} (name number : List ℕ) → Adds a b text → Adds b c (name ++ number) → Adds a c (text ++ name ++ number)
named {a} {b} {c} {text} name number first next = record { is = (first ▸ next).is ∙ ap (λ (l : List ℕ). a ++ l) (sym (append_assoc text name number)) }
