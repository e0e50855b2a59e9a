-- A place in memory: how many parts it has.
use Rattle.std.proofs.Common.{◌≡◌, ℕ, List, [], ◌∷◌, length, take, get_or, refl, arith}
use Rattle.std.specs.Prelude.{None, Ok}
use Rattle.litmus_model.specs.declared.parts.Part.{Part}
use Rattle.litmus_model.specs.declared.parts.Part.TheVariants.{Word, Mark}
use Rattle.litmus_model.specs.Operands.{memory_operand}
use Rattle.litmus_words.specs.Brackets.{bracketed, plain_place}

pub after_none : (line : ℕ) (parts : List Part) (d : Part) → length parts ≡ 3 → memory_operand line parts ≡ Ok (plain_place (get_or parts 0 d) (get_or parts 1 d) (get_or parts 2 d))
unfolding memory_operand plain_place
after_none line ((Word a) ∷ (Word b) ∷ (Word c) ∷ []) d many = refl
after_none line ((Word a) ∷ (Word b) ∷ (Mark c) ∷ []) d many = refl
after_none line ((Word a) ∷ (Mark b) ∷ (Word c) ∷ []) d many = refl
after_none line ((Word a) ∷ (Mark b) ∷ (Mark c) ∷ []) d many = refl
after_none line ((Mark a) ∷ (Word b) ∷ (Word c) ∷ []) d many = refl
after_none line ((Mark a) ∷ (Word b) ∷ (Mark c) ∷ []) d many = refl
after_none line ((Mark a) ∷ (Mark b) ∷ (Word c) ∷ []) d many = refl
after_none line ((Mark a) ∷ (Mark b) ∷ (Mark c) ∷ []) d many = refl
after_none line [] d many = absurd (omega (arith, many))
after_none line (a ∷ []) d many = absurd (omega (arith, many))
after_none line (a ∷ b ∷ []) d many = absurd (omega (arith, many))
after_none line (a ∷ b ∷ c ∷ e ∷ ps) d many = absurd (omega (arith, many))

pub after_one : (line : ℕ) (parts : List Part) (d : Part) → length parts ≡ 4 → memory_operand line parts ≡ bracketed line (take 1 parts) (get_or parts 1 d) (get_or parts 2 d) (get_or parts 3 d)
unfolding memory_operand bracketed
after_one line ((Word a) ∷ (Word b) ∷ (Word c) ∷ (Word e) ∷ []) d many = refl
after_one line ((Word a) ∷ (Word b) ∷ (Word c) ∷ (Mark e) ∷ []) d many = refl
after_one line ((Word a) ∷ (Word b) ∷ (Mark c) ∷ (Word e) ∷ []) d many = refl
after_one line ((Word a) ∷ (Word b) ∷ (Mark c) ∷ (Mark e) ∷ []) d many = refl
after_one line ((Word a) ∷ (Mark b) ∷ (Word c) ∷ (Word e) ∷ []) d many = refl
after_one line ((Word a) ∷ (Mark b) ∷ (Word c) ∷ (Mark e) ∷ []) d many = refl
after_one line ((Word a) ∷ (Mark b) ∷ (Mark c) ∷ (Word e) ∷ []) d many = refl
after_one line ((Word a) ∷ (Mark b) ∷ (Mark c) ∷ (Mark e) ∷ []) d many = refl
after_one line ((Mark a) ∷ (Word b) ∷ (Word c) ∷ (Word e) ∷ []) d many = refl
after_one line ((Mark a) ∷ (Word b) ∷ (Word c) ∷ (Mark e) ∷ []) d many = refl
after_one line ((Mark a) ∷ (Word b) ∷ (Mark c) ∷ (Word e) ∷ []) d many = refl
after_one line ((Mark a) ∷ (Word b) ∷ (Mark c) ∷ (Mark e) ∷ []) d many = refl
after_one line ((Mark a) ∷ (Mark b) ∷ (Word c) ∷ (Word e) ∷ []) d many = refl
after_one line ((Mark a) ∷ (Mark b) ∷ (Word c) ∷ (Mark e) ∷ []) d many = refl
after_one line ((Mark a) ∷ (Mark b) ∷ (Mark c) ∷ (Word e) ∷ []) d many = refl
after_one line ((Mark a) ∷ (Mark b) ∷ (Mark c) ∷ (Mark e) ∷ []) d many = refl
after_one line [] d many = absurd (omega (arith, many))
after_one line (a ∷ []) d many = absurd (omega (arith, many))
after_one line (a ∷ b ∷ []) d many = absurd (omega (arith, many))
after_one line (a ∷ b ∷ c ∷ []) d many = absurd (omega (arith, many))
after_one line (a ∷ b ∷ c ∷ e ∷ f ∷ ps) d many = absurd (omega (arith, many))

pub after_two : (line : ℕ) (parts : List Part) (d : Part) → length parts ≡ 5 → memory_operand line parts ≡ bracketed line (take 2 parts) (get_or parts 2 d) (get_or parts 3 d) (get_or parts 4 d)
unfolding memory_operand bracketed
after_two line ((Word a) ∷ (Word b) ∷ (Word c) ∷ (Word e) ∷ (Word f) ∷ []) d many = refl
after_two line ((Word a) ∷ (Word b) ∷ (Word c) ∷ (Word e) ∷ (Mark f) ∷ []) d many = refl
after_two line ((Word a) ∷ (Word b) ∷ (Word c) ∷ (Mark e) ∷ (Word f) ∷ []) d many = refl
after_two line ((Word a) ∷ (Word b) ∷ (Word c) ∷ (Mark e) ∷ (Mark f) ∷ []) d many = refl
after_two line ((Word a) ∷ (Word b) ∷ (Mark c) ∷ (Word e) ∷ (Word f) ∷ []) d many = refl
after_two line ((Word a) ∷ (Word b) ∷ (Mark c) ∷ (Word e) ∷ (Mark f) ∷ []) d many = refl
after_two line ((Word a) ∷ (Word b) ∷ (Mark c) ∷ (Mark e) ∷ (Word f) ∷ []) d many = refl
after_two line ((Word a) ∷ (Word b) ∷ (Mark c) ∷ (Mark e) ∷ (Mark f) ∷ []) d many = refl
after_two line ((Word a) ∷ (Mark b) ∷ (Word c) ∷ (Word e) ∷ (Word f) ∷ []) d many = refl
after_two line ((Word a) ∷ (Mark b) ∷ (Word c) ∷ (Word e) ∷ (Mark f) ∷ []) d many = refl
after_two line ((Word a) ∷ (Mark b) ∷ (Word c) ∷ (Mark e) ∷ (Word f) ∷ []) d many = refl
after_two line ((Word a) ∷ (Mark b) ∷ (Word c) ∷ (Mark e) ∷ (Mark f) ∷ []) d many = refl
after_two line ((Word a) ∷ (Mark b) ∷ (Mark c) ∷ (Word e) ∷ (Word f) ∷ []) d many = refl
after_two line ((Word a) ∷ (Mark b) ∷ (Mark c) ∷ (Word e) ∷ (Mark f) ∷ []) d many = refl
after_two line ((Word a) ∷ (Mark b) ∷ (Mark c) ∷ (Mark e) ∷ (Word f) ∷ []) d many = refl
after_two line ((Word a) ∷ (Mark b) ∷ (Mark c) ∷ (Mark e) ∷ (Mark f) ∷ []) d many = refl
after_two line ((Mark a) ∷ (Word b) ∷ (Word c) ∷ (Word e) ∷ (Word f) ∷ []) d many = refl
after_two line ((Mark a) ∷ (Word b) ∷ (Word c) ∷ (Word e) ∷ (Mark f) ∷ []) d many = refl
after_two line ((Mark a) ∷ (Word b) ∷ (Word c) ∷ (Mark e) ∷ (Word f) ∷ []) d many = refl
after_two line ((Mark a) ∷ (Word b) ∷ (Word c) ∷ (Mark e) ∷ (Mark f) ∷ []) d many = refl
after_two line ((Mark a) ∷ (Word b) ∷ (Mark c) ∷ (Word e) ∷ (Word f) ∷ []) d many = refl
after_two line ((Mark a) ∷ (Word b) ∷ (Mark c) ∷ (Word e) ∷ (Mark f) ∷ []) d many = refl
after_two line ((Mark a) ∷ (Word b) ∷ (Mark c) ∷ (Mark e) ∷ (Word f) ∷ []) d many = refl
after_two line ((Mark a) ∷ (Word b) ∷ (Mark c) ∷ (Mark e) ∷ (Mark f) ∷ []) d many = refl
after_two line ((Mark a) ∷ (Mark b) ∷ (Word c) ∷ (Word e) ∷ (Word f) ∷ []) d many = refl
after_two line ((Mark a) ∷ (Mark b) ∷ (Word c) ∷ (Word e) ∷ (Mark f) ∷ []) d many = refl
after_two line ((Mark a) ∷ (Mark b) ∷ (Word c) ∷ (Mark e) ∷ (Word f) ∷ []) d many = refl
after_two line ((Mark a) ∷ (Mark b) ∷ (Word c) ∷ (Mark e) ∷ (Mark f) ∷ []) d many = refl
after_two line ((Mark a) ∷ (Mark b) ∷ (Mark c) ∷ (Word e) ∷ (Word f) ∷ []) d many = refl
after_two line ((Mark a) ∷ (Mark b) ∷ (Mark c) ∷ (Word e) ∷ (Mark f) ∷ []) d many = refl
after_two line ((Mark a) ∷ (Mark b) ∷ (Mark c) ∷ (Mark e) ∷ (Word f) ∷ []) d many = refl
after_two line ((Mark a) ∷ (Mark b) ∷ (Mark c) ∷ (Mark e) ∷ (Mark f) ∷ []) d many = refl
after_two line [] d many = absurd (omega (arith, many))
after_two line (a ∷ []) d many = absurd (omega (arith, many))
after_two line (a ∷ b ∷ []) d many = absurd (omega (arith, many))
after_two line (a ∷ b ∷ c ∷ []) d many = absurd (omega (arith, many))
after_two line (a ∷ b ∷ c ∷ e ∷ []) d many = absurd (omega (arith, many))
after_two line (a ∷ b ∷ c ∷ e ∷ f ∷ g ∷ ps) d many = absurd (omega (arith, many))

pub other_length : (line : ℕ) (parts : List Part) → (length parts ≡ 3 → ⊥) → (length parts ≡ 4 → ⊥) → (length parts ≡ 5 → ⊥) → memory_operand line parts ≡ Ok None
unfolding memory_operand
other_length line [] x y z = refl
other_length line ((Word a) ∷ []) x y z = refl
other_length line ((Mark a) ∷ []) x y z = refl
other_length line ((Word a) ∷ (Word b) ∷ []) x y z = refl
other_length line ((Word a) ∷ (Mark b) ∷ []) x y z = refl
other_length line ((Mark a) ∷ (Word b) ∷ []) x y z = refl
other_length line ((Mark a) ∷ (Mark b) ∷ []) x y z = refl
other_length line (a ∷ b ∷ c ∷ []) x y z = absurd (x refl)
other_length line (a ∷ b ∷ c ∷ e ∷ []) x y z = absurd (y refl)
other_length line (a ∷ b ∷ c ∷ e ∷ f ∷ []) x y z = absurd (z refl)
other_length line ((Word a) ∷ (Word b) ∷ (Word c) ∷ (Word e) ∷ (Word f) ∷ g ∷ ps) x y z = refl
other_length line ((Word a) ∷ (Word b) ∷ (Word c) ∷ (Word e) ∷ (Mark f) ∷ g ∷ ps) x y z = refl
other_length line ((Word a) ∷ (Word b) ∷ (Word c) ∷ (Mark e) ∷ (Word f) ∷ g ∷ ps) x y z = refl
other_length line ((Word a) ∷ (Word b) ∷ (Word c) ∷ (Mark e) ∷ (Mark f) ∷ g ∷ ps) x y z = refl
other_length line ((Word a) ∷ (Word b) ∷ (Mark c) ∷ (Word e) ∷ (Word f) ∷ g ∷ ps) x y z = refl
other_length line ((Word a) ∷ (Word b) ∷ (Mark c) ∷ (Word e) ∷ (Mark f) ∷ g ∷ ps) x y z = refl
other_length line ((Word a) ∷ (Word b) ∷ (Mark c) ∷ (Mark e) ∷ (Word f) ∷ g ∷ ps) x y z = refl
other_length line ((Word a) ∷ (Word b) ∷ (Mark c) ∷ (Mark e) ∷ (Mark f) ∷ g ∷ ps) x y z = refl
other_length line ((Word a) ∷ (Mark b) ∷ (Word c) ∷ (Word e) ∷ (Word f) ∷ g ∷ ps) x y z = refl
other_length line ((Word a) ∷ (Mark b) ∷ (Word c) ∷ (Word e) ∷ (Mark f) ∷ g ∷ ps) x y z = refl
other_length line ((Word a) ∷ (Mark b) ∷ (Word c) ∷ (Mark e) ∷ (Word f) ∷ g ∷ ps) x y z = refl
other_length line ((Word a) ∷ (Mark b) ∷ (Word c) ∷ (Mark e) ∷ (Mark f) ∷ g ∷ ps) x y z = refl
other_length line ((Word a) ∷ (Mark b) ∷ (Mark c) ∷ (Word e) ∷ (Word f) ∷ g ∷ ps) x y z = refl
other_length line ((Word a) ∷ (Mark b) ∷ (Mark c) ∷ (Word e) ∷ (Mark f) ∷ g ∷ ps) x y z = refl
other_length line ((Word a) ∷ (Mark b) ∷ (Mark c) ∷ (Mark e) ∷ (Word f) ∷ g ∷ ps) x y z = refl
other_length line ((Word a) ∷ (Mark b) ∷ (Mark c) ∷ (Mark e) ∷ (Mark f) ∷ g ∷ ps) x y z = refl
other_length line ((Mark a) ∷ (Word b) ∷ (Word c) ∷ (Word e) ∷ (Word f) ∷ g ∷ ps) x y z = refl
other_length line ((Mark a) ∷ (Word b) ∷ (Word c) ∷ (Word e) ∷ (Mark f) ∷ g ∷ ps) x y z = refl
other_length line ((Mark a) ∷ (Word b) ∷ (Word c) ∷ (Mark e) ∷ (Word f) ∷ g ∷ ps) x y z = refl
other_length line ((Mark a) ∷ (Word b) ∷ (Word c) ∷ (Mark e) ∷ (Mark f) ∷ g ∷ ps) x y z = refl
other_length line ((Mark a) ∷ (Word b) ∷ (Mark c) ∷ (Word e) ∷ (Word f) ∷ g ∷ ps) x y z = refl
other_length line ((Mark a) ∷ (Word b) ∷ (Mark c) ∷ (Word e) ∷ (Mark f) ∷ g ∷ ps) x y z = refl
other_length line ((Mark a) ∷ (Word b) ∷ (Mark c) ∷ (Mark e) ∷ (Word f) ∷ g ∷ ps) x y z = refl
other_length line ((Mark a) ∷ (Word b) ∷ (Mark c) ∷ (Mark e) ∷ (Mark f) ∷ g ∷ ps) x y z = refl
other_length line ((Mark a) ∷ (Mark b) ∷ (Word c) ∷ (Word e) ∷ (Word f) ∷ g ∷ ps) x y z = refl
other_length line ((Mark a) ∷ (Mark b) ∷ (Word c) ∷ (Word e) ∷ (Mark f) ∷ g ∷ ps) x y z = refl
other_length line ((Mark a) ∷ (Mark b) ∷ (Word c) ∷ (Mark e) ∷ (Word f) ∷ g ∷ ps) x y z = refl
other_length line ((Mark a) ∷ (Mark b) ∷ (Word c) ∷ (Mark e) ∷ (Mark f) ∷ g ∷ ps) x y z = refl
other_length line ((Mark a) ∷ (Mark b) ∷ (Mark c) ∷ (Word e) ∷ (Word f) ∷ g ∷ ps) x y z = refl
other_length line ((Mark a) ∷ (Mark b) ∷ (Mark c) ∷ (Word e) ∷ (Mark f) ∷ g ∷ ps) x y z = refl
other_length line ((Mark a) ∷ (Mark b) ∷ (Mark c) ∷ (Mark e) ∷ (Word f) ∷ g ∷ ps) x y z = refl
other_length line ((Mark a) ∷ (Mark b) ∷ (Mark c) ∷ (Mark e) ∷ (Mark f) ∷ g ∷ ps) x y z = refl
