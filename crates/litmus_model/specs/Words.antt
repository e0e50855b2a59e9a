-- What words say: numbers, registers, names, threads; targets and values.
use Rattle.std.specs.Prelude.{ℕ, ◌+◌, ◌-◌, ◌*◌, ◌^◌, ◌&&◌, ◌||◌, Bool, false, nat_eq, nat_lt, nat_le, bytes_eq, codes}
use Rattle.std.specs.Prelude.{ℤ, pos, neg_ℤ, List, [], ◌∷◌, length, take, drop, position, fold, Option, Some, None}
use Rattle.std.specs.Prelude.{Ok, if◌then◌else◌}
use Rattle.std.specs.List.{list_all}
use Rattle.std.specs.Int.{w32, cast_unsigned}
use Rattle.std.specs.Option.{option_or, option_map, option_map_or}
use Rattle.litmus_model.specs.declared.parts.Part.{Part}
use Rattle.litmus_model.specs.declared.parts.Part.TheVariants.{Word, Mark}
use Rattle.litmus_model.specs.declared.parts.Value.{Value}
use Rattle.litmus_model.specs.declared.parts.Value.TheVariants.{Number, Address}
use Rattle.litmus_model.specs.declared.parts.Target.{Target}
use Rattle.litmus_model.specs.declared.parts.Target.TheVariants.{Register, Location}
use Rattle.litmus_model.specs.declared.refusal.Fault.TheVariants.{BadNumber, BadRegister, NoThread}
use Rattle.litmus_model.specs.Refusing.{Judged, ◌>>=◌, refused}
use Rattle.litmus_model.specs.Bytes.{is_between, is_digit, is_letter}

-- ---- first bytes

abbrev pub begins_with_digit : List ℕ → Bool
begins_with_digit [] = false
begins_with_digit (b ∷ bs) = is_digit b

-- a letter or `_` in front
abbrev pub is_name : List ℕ → Bool
is_name [] = false
is_name (b ∷ bs) = is_letter b || nat_eq b 95

-- ---- numbers

-- 16 is no digit
unfoldable pub digit_value : ℕ → ℕ
digit_value b =
    if is_digit b then b - 48
    else (if is_between 97 102 b then b - 87
    else (if is_between 65 70 b then b - 55
    else 16))

abbrev pub are_digits : ℕ → List ℕ → Bool
are_digits base digits = nat_lt 0 (length digits) && list_all (λ b. nat_lt (digit_value b) base) digits

abbrev pub digits_value : ℕ → List ℕ → ℕ
digits_value base digits = fold (λ n b. n * base + digit_value b) 0 digits

abbrev pub number_in_base : ℕ → List ℕ → Option ℕ
number_in_base base digits =
    if are_digits base digits && nat_lt (digits_value base digits) (2 ^ 32) then Some (digits_value base digits) else None

abbrev pub is_hexadecimal : List ℕ → Bool
is_hexadecimal w = bytes_eq (take 2 w) (codes "0x") || bytes_eq (take 2 w) (codes "0X")

-- a word that is a number below 2^32
unfoldable pub number_of : List ℕ → Option ℕ
number_of w = if is_hexadecimal w then number_in_base 16 (drop 2 w) else number_in_base 10 w

-- None of a word that doesn't begin with a digit: it is no number at all
unfoldable pub number_at : ℕ → List ℕ → Judged (Option ℕ)
number_at line w =
    if begins_with_digit w then option_map_or (λ n. Ok (Some n)) (number_of w) (refused line BadNumber) else Ok None

-- a number below 0, at least -2^31
abbrev pub negated : ℕ → Option ℕ → Judged (Option ℤ)
negated line None = Ok None
negated line (Some n) = if nat_le n (2 ^ 31) then Ok (Some (neg_ℤ (pos n))) else refused line BadNumber

-- a number with or without `-` before it; None of parts that are no number at all
unfoldable pub signed_number : ℕ → List Part → Judged (Option ℤ)
signed_number line (Word w ∷ []) = number_at line w >>= (λ n. Ok (option_map pos n))
signed_number line (Mark m ∷ Word w ∷ []) =
    if nat_eq m 45 then number_at line w >>= negated line else Ok None
signed_number line parts = Ok None

-- ---- registers

-- the names of the registers in a program, by their numbers
unfoldable pub abi_names : List (List ℕ)
abi_names =
    codes "zero" ∷ codes "ra" ∷ codes "sp" ∷ codes "gp" ∷ codes "tp" ∷ codes "t0" ∷ codes "t1" ∷ codes "t2" ∷
    codes "s0" ∷ codes "s1" ∷ codes "a0" ∷ codes "a1" ∷ codes "a2" ∷ codes "a3" ∷ codes "a4" ∷ codes "a5" ∷
    codes "a6" ∷ codes "a7" ∷ codes "s2" ∷ codes "s3" ∷ codes "s4" ∷ codes "s5" ∷ codes "s6" ∷ codes "s7" ∷
    codes "s8" ∷ codes "s9" ∷ codes "s10" ∷ codes "s11" ∷ codes "t3" ∷ codes "t4" ∷ codes "t5" ∷ codes "t6" ∷ []

-- x0 to x31
unfoldable pub numbered_names : List (List ℕ)
numbered_names =
    codes "x0" ∷ codes "x1" ∷ codes "x2" ∷ codes "x3" ∷ codes "x4" ∷ codes "x5" ∷ codes "x6" ∷ codes "x7" ∷
    codes "x8" ∷ codes "x9" ∷ codes "x10" ∷ codes "x11" ∷ codes "x12" ∷ codes "x13" ∷ codes "x14" ∷ codes "x15" ∷
    codes "x16" ∷ codes "x17" ∷ codes "x18" ∷ codes "x19" ∷ codes "x20" ∷ codes "x21" ∷ codes "x22" ∷ codes "x23" ∷
    codes "x24" ∷ codes "x25" ∷ codes "x26" ∷ codes "x27" ∷ codes "x28" ∷ codes "x29" ∷ codes "x30" ∷ codes "x31" ∷ []

abbrev pub place_in : List (List ℕ) → List ℕ → Option ℕ
place_in names w = position (bytes_eq w) names

-- the number of a register, also by `fp`
unfoldable pub register_of : List ℕ → Option ℕ
register_of w =
    option_or (place_in numbered_names w) (option_or (place_in abi_names w) (if bytes_eq w (codes "fp") then Some 8 else None))

abbrev pub register_at : ℕ → List ℕ → Judged ℕ
register_at line w = option_map_or Ok (register_of w) (refused line BadRegister)

-- ---- targets and values

-- `0` or `P0`; None where it is neither
unfoldable pub thread_digits : List ℕ → Option ℕ
thread_digits w =
    let digits = (if bytes_eq (take 1 w) (codes "P") then drop 1 w else w) in
    if are_digits 10 digits then Some (digits_value 10 digits) else None

-- a register of a thread, of so many threads
unfoldable pub register_target : ℕ → ℕ → List ℕ → Option ℕ → Judged (Option Target)
register_target threads line r None = Ok None
register_target threads line r (Some thread) =
    if nat_lt thread threads then register_at line r >>= (λ register. Ok (Some (Register thread register)))
    else refused line NoThread

abbrev pub location_target : List ℕ → Option Target
location_target w = if is_name w then Some (Location w) else None

-- `0:x5`, `x` or `[x]`; None where it is none of them
unfoldable pub target_of : ℕ → ℕ → List Part → Judged (Option Target)
target_of threads line (Word w ∷ []) = Ok (location_target w)
target_of threads line (Word t ∷ Mark m ∷ Word r ∷ []) =
    if nat_eq m 58 then register_target threads line r (thread_digits t) else Ok None
target_of threads line (Mark m ∷ Word w ∷ Mark n ∷ []) =
    Ok (if nat_eq m 91 && nat_eq n 93 then location_target w else None)
target_of threads line parts = Ok None

-- the word of a number
abbrev pub word_of : ℤ → ℕ
word_of z = cast_unsigned w32 z

abbrev pub number_value : ℕ → List Part → Judged (Option Value)
number_value line parts = signed_number line parts >>= (λ n. Ok (option_map (λ z. Number (word_of z)) n))

-- a number, or the name of the location whose address it is; None where it is neither
unfoldable pub value_of : ℕ → List Part → Judged (Option Value)
value_of line (Word w ∷ []) = if is_name w then Ok (Some (Address w)) else number_value line (Word w ∷ [])
value_of line parts = number_value line parts
