-- The operands of an instruction: registers, numbers of a range, labels, places in memory, sets of a fence.
use Rattle.std.specs.Prelude.{ℕ, ◌+◌, ◌&&◌, nat_eq, List, [], ◌∷◌, ℤ, pos, negsuc, int_le, Option, Some, None, Ok, if◌then◌else◌}
use Rattle.std.specs.Option.{option_map}
use Rattle.litmus_model.specs.declared.parts.Part.{Part}
use Rattle.litmus_model.specs.declared.parts.Part.TheVariants.{Word, Mark}
use Rattle.litmus_model.specs.declared.parts.Place.{Place}
use Rattle.litmus_model.specs.declared.refusal.Fault.TheVariants.{BadNumber}
use Rattle.litmus_model.specs.Refusing.{Judged, ◌>>=◌, refused}
use Rattle.litmus_model.specs.Words.{begins_with_digit, register_of, signed_number}

abbrev pub register_in : Part → Option ℕ
register_in (Word w) = register_of w
register_in (Mark b) = None

unfoldable pub register_operand : List Part → Option ℕ
register_operand (p ∷ []) = register_in p
register_operand parts = None

unfoldable pub label_operand : List Part → Option (List ℕ)
label_operand (Word w ∷ []) = if begins_with_digit w then None else Some w
label_operand parts = None

abbrev pub within : ℕ → ℤ → ℤ → Option ℤ → Judged (Option ℤ)
within line least most None = Ok None
within line least most (Some z) = if int_le least z && int_le z most then Ok (Some z) else refused line BadNumber

-- a number of this range; None of parts that are no number at all
unfoldable pub number_operand : ℕ → ℤ → ℤ → List Part → Judged (Option ℤ)
number_operand line least most parts = signed_number line parts >>= within line least most

-- 12 bits in two's complement
abbrev pub short_operand : ℕ → List Part → Judged (Option ℤ)
short_operand line parts = number_operand line (negsuc 2047) (pos 2047) parts

-- ---- a place in memory: a register, and an offset in bytes

unfoldable pub place : Option ℕ → Option ℤ → Option Place
place None offset = None
place (Some register) None = None
place (Some register) (Some offset) = Some (record { register = register; offset = offset })

-- the offset's parts, and what stands behind them: the register in its brackets
abbrev pub place_at : ℕ → List Part → ℕ → Part → ℕ → Judged (Option Place)
place_at line parts left register right =
    if nat_eq left 40 && nat_eq right 41 then short_operand line parts >>= (λ offset. Ok (place (register_in register) offset))
    else Ok None

-- `(x6)`, `4(x6)` or `-4(x6)`
unfoldable pub memory_operand : ℕ → List Part → Judged (Option Place)
memory_operand line (Mark left ∷ register ∷ Mark right ∷ []) =
    Ok (if nat_eq left 40 && nat_eq right 41 then place (register_in register) (Some (pos 0)) else None)
memory_operand line (n ∷ Mark left ∷ register ∷ Mark right ∷ []) = place_at line (n ∷ []) left register right
memory_operand line (m ∷ n ∷ Mark left ∷ register ∷ Mark right ∷ []) = place_at line (m ∷ n ∷ []) left register right
memory_operand line parts = Ok None

-- ---- the set of a fence: some of the letters `iorw` in this order, each of which has a bit

pub record Letter : Type 0 where
  pub byte : ℕ
  pub bit : ℕ

abbrev pub fence_letters : List Letter
fence_letters =
    record { byte = 105; bit = 8 } ∷ record { byte = 111; bit = 4 } ∷
    record { byte = 114; bit = 2 } ∷ record { byte = 119; bit = 1 } ∷ []

unfoldable pub letter_bits : List Letter → List ℕ → Option ℕ
letter_bits letters [] = Some 0
letter_bits [] (b ∷ bs) = None
letter_bits (l ∷ ls) (b ∷ bs) =
    if nat_eq b l.byte then option_map (λ bits. l.bit + bits) (letter_bits ls bs) else letter_bits ls (b ∷ bs)

unfoldable pub set_operand : List Part → Option ℕ
set_operand (Word w ∷ []) = letter_bits fence_letters w
set_operand parts = None
