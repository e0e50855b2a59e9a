-- Decimal numbers in a text. A number is `0`, or a digit 1 to 9 followed by digits, so each number has one spelling.
use Rattle.std.specs.Prelude.{ℕ, ◌+◌, ◌-◌, ◌*◌, Bool, not, ◌&&◌, nat_eq, nat_le, List, [], ◌∷◌, Option, Some, None}
use Rattle.std.specs.Prelude.{Result, Ok, Err, fold, position, if◌then◌else◌}
use Rattle.ddm_text.specs.declared.reading.NumberRefusal.{NumberRefusal}
use Rattle.ddm_text.specs.declared.reading.NumberRefusal.TheVariants.{NotANumber, TooLarge}

-- the byte of a digit
abbrev pub is_digit : ℕ → Bool
is_digit byte = nat_le 48 byte && nat_le byte 57

-- where bytes behind a first `0` stop: a number goes on with nothing there
abbrev pub stop_after_zero : List ℕ → Option ℕ
stop_after_zero [] = None
stop_after_zero (byte ∷ bytes) = Some 1

-- Where the bytes aren't a number, the place at which they stop being the front of one: that of the first byte with which
-- no number goes on, or the end.
unfoldable pub number_stop : List ℕ → Option ℕ
number_stop [] = Some 0
number_stop (byte ∷ bytes) =
    if nat_eq byte 48 then stop_after_zero bytes
    else position (λ b. not (is_digit b)) (byte ∷ bytes)

-- a number with one digit more
abbrev pub with_digit : ℕ → ℕ → ℕ
with_digit n byte = n * 10 + (byte - 48)

-- the value of digits behind a number
abbrev pub value_from : ℕ → List ℕ → ℕ
value_from n bytes = fold with_digit n bytes

-- the value of digits
abbrev pub value_of : List ℕ → ℕ
value_of bytes = value_from 0 bytes

-- a value that must not be above a limit
abbrev pub at_most : ℕ → ℕ → Result ℕ NumberRefusal
at_most most n = if nat_le n most then Ok n else Err TooLarge

-- a number, or the place at which the bytes stop being one
abbrev pub unless_stopped : Option ℕ → Result ℕ NumberRefusal → Result ℕ NumberRefusal
unless_stopped None number = number
unless_stopped (Some place) number = Err (NotANumber place)

-- the number that the bytes are, up to a limit, or why they are none
unfoldable pub number_of : List ℕ → ℕ → Result ℕ NumberRefusal
number_of bytes most = unless_stopped (number_stop bytes) (at_most most (value_of bytes))
