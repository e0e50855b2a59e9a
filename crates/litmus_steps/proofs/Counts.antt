-- How many operands an instruction has.
use Rattle.std.proofs.Common.{◌≡◌, ℕ, ◌≤◌, List, [], ◌∷◌, length, get_or, refl, arith}
use Rattle.std.specs.Prelude.{None, Ok}
use Rattle.litmus_model.specs.declared.parts.Part.{Part}
use Rattle.litmus_model.specs.declared.test.Form.{Form}
use Rattle.litmus_model.specs.declared.test.Form.TheVariants as form
use Rattle.litmus_model.specs.Steps.{form_steps}

pub none_given : (line : ℕ) (f : Form) (operands : List (List Part)) → length operands ≡ 0 → form_steps line f operands ≡ form_steps line f []
none_given line f [] many = refl
none_given line f (a ∷ rest) many = absurd (omega (arith, many))

pub one_given : (line : ℕ) (f : Form) (operands : List (List Part)) (d : List Part) → length operands ≡ 1
    → form_steps line f operands ≡ form_steps line f (get_or operands 0 d ∷ [])
one_given line f [] d many = absurd (omega (arith, many))
one_given line f (a ∷ []) d many = refl
one_given line f (a ∷ b ∷ rest) d many = absurd (omega (arith, many))

pub two_given : (line : ℕ) (f : Form) (operands : List (List Part)) (d : List Part) → length operands ≡ 2
    → form_steps line f operands ≡ form_steps line f (get_or operands 0 d ∷ get_or operands 1 d ∷ [])
two_given line f [] d many = absurd (omega (arith, many))
two_given line f (a ∷ []) d many = absurd (omega (arith, many))
two_given line f (a ∷ b ∷ []) d many = refl
two_given line f (a ∷ b ∷ c ∷ rest) d many = absurd (omega (arith, many))

pub three_given : (line : ℕ) (f : Form) (operands : List (List Part)) (d : List Part) → length operands ≡ 3
    → form_steps line f operands ≡ form_steps line f (get_or operands 0 d ∷ get_or operands 1 d ∷ get_or operands 2 d ∷ [])
three_given line f [] d many = absurd (omega (arith, many))
three_given line f (a ∷ []) d many = absurd (omega (arith, many))
three_given line f (a ∷ b ∷ []) d many = absurd (omega (arith, many))
three_given line f (a ∷ b ∷ c ∷ []) d many = refl
three_given line f (a ∷ b ∷ c ∷ e ∷ rest) d many = absurd (omega (arith, many))

four : (line : ℕ) (f : Form) (a b c e : List Part) (rest : List (List Part)) → form_steps line f (a ∷ b ∷ c ∷ e ∷ rest) ≡ Ok None
unfolding form_steps
four line (form.Registers op) a b c e rest = refl
four line (form.Immediate op) a b c e rest = refl
four line form.Upper a b c e rest = refl
four line form.Number a b c e rest = refl
four line (form.Load op) a b c e rest = refl
four line (form.Store op) a b c e rest = refl
four line (form.Branch op turned) a b c e rest = refl
four line (form.ZeroBranch op turned) a b c e rest = refl
four line form.Jump a b c e rest = refl
four line (form.Move m) a b c e rest = refl
four line form.Nothing a b c e rest = refl
four line form.Fence a b c e rest = refl
four line (form.FixedFence bits) a b c e rest = refl
four line (form.LoadReserved o) a b c e rest = refl
four line (form.StoreConditional o) a b c e rest = refl
four line (form.Amo op o) a b c e rest = refl

pub more_given : (line : ℕ) (f : Form) (operands : List (List Part)) → 4 ≤ length operands → form_steps line f operands ≡ Ok None
more_given line f [] many = absurd (omega (arith, many))
more_given line f (a ∷ []) many = absurd (omega (arith, many))
more_given line f (a ∷ b ∷ []) many = absurd (omega (arith, many))
more_given line f (a ∷ b ∷ c ∷ []) many = absurd (omega (arith, many))
more_given line f (a ∷ b ∷ c ∷ e ∷ rest) many = four line f a b c e rest

-- How many operands are given.
pub ruleset operand_counts = (none_given, one_given, two_given, three_given, more_given)
