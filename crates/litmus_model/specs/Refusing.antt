-- Steps that may refuse a file, and the refusal of a line.
use Rattle.std.specs.Prelude.{ℕ, Result, Ok, Err}
use Rattle.litmus_model.specs.declared.refusal.Fault.{Fault}
use Rattle.litmus_model.specs.declared.refusal.TestRefusal.{TestRefusal}
use Rattle.litmus_model.specs.declared.refusal.TestRefusal.TheVariants.{InLine}

-- what may be refused
abbrev pub Judged : Type 0 → Type 0
Judged A = Result A TestRefusal

-- a step after one that may refuse
unfoldable pub and_then : {A B : Type 0} → Judged A → (A → Judged B) → Judged B
and_then (Ok a) step = step a
and_then (Err r) step = Err r

infixl 10 ◌>>=◌
abbrev pub ◌>>=◌ : {A B : Type 0} → Judged A → (A → Judged B) → Judged B
judged >>= step = and_then judged step

abbrev pub refused : {A : Type 0} → ℕ → Fault → Judged A
refused line fault = Err (InLine line fault)
