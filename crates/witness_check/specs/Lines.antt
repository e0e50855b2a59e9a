-- The operation that a line of a witness is: the line that a report has of it, read backwards.
use Rattle.std.specs.Prelude.{ℕ, ◌+◌, ◌-◌, ◌*◌, ◌&&◌, nat_eq, nat_le, bytes_eq, List, [], ◌∷◌, length, take, drop}
use Rattle.std.specs.Prelude.{Option, Some, None, codes, option_map, option_and_then, if◌then◌else◌}
use Rattle.witness_check.specs.DdmTypes.declared.operations.Effect.{Effect}
use Rattle.witness_check.specs.DdmTypes.declared.operations.Effect.TheVariants.{Plain, Put, Load, Store, Lr, ScOk, ScFail, Amo}
use Rattle.witness_check.specs.DdmTypes.declared.operations.Op.{Op}
use Rattle.witness_check.specs.DdmTypes.declared.keys.Key.{Key}
use Rattle.witness_check.specs.DdmTypes.Keys.{key_zero}
use Rattle.text_model.specs.Schedule.{pieces_at, place_in}

-- ---- hexadecimal numbers

-- the value of a digit, in lower case
abbrev pub hex_digit : ℕ → Option ℕ
hex_digit byte =
    if nat_le 48 byte && nat_le byte 57 then Some (byte - 48)
    else (if nat_le 97 byte && nat_le byte 102 then Some (byte - 87) else None)

-- a number of two parts, where the higher one counts so much
abbrev pub with_part : ℕ → Option ℕ → Option ℕ → Option ℕ
with_part unit (Some high) (Some low) = Some (high * unit + low)
with_part unit (Some high) None = None
with_part unit None low = None

-- the number that two digits are, and so for four and eight
unfoldable pub hex2_in : List ℕ → Option ℕ
hex2_in [] = None
hex2_in (a ∷ []) = None
hex2_in (a ∷ b ∷ []) = with_part 16 (hex_digit a) (hex_digit b)
hex2_in (a ∷ b ∷ c ∷ more) = None

unfoldable pub hex4_in : List ℕ → Option ℕ
hex4_in word = if nat_eq (length word) 4 then with_part 256 (hex2_in (take 2 word)) (hex2_in (drop 2 word)) else None

unfoldable pub hex8_in : List ℕ → Option ℕ
hex8_in word = if nat_eq (length word) 8 then with_part 65536 (hex4_in (take 4 word)) (hex4_in (drop 4 word)) else None

-- ---- keys

abbrev pub with_number : Option ℕ → Option (List ℕ) → Option (List ℕ)
with_number (Some n) (Some ns) = Some (n ∷ ns)
with_number (Some n) None = None
with_number None ns = None

-- the numbers that words are, if each is one
abbrev pub numbers_in : List (List ℕ) → Option (List ℕ)
numbers_in [] = Some []
numbers_in (word ∷ words) = with_number (place_in word) (numbers_in words)

-- the key of two numbers for each of one to four levels, and a last one; those of further levels are 0
abbrev pub key_of_numbers : List ℕ → Option Key
key_of_numbers [] = None
key_of_numbers (a ∷ []) = None
key_of_numbers (a ∷ b ∷ []) = None
key_of_numbers (a ∷ b ∷ i ∷ []) = Some (record key_zero { s0 = a; c0 = b; i = i })
key_of_numbers (a ∷ b ∷ c ∷ d ∷ []) = None
key_of_numbers (a ∷ b ∷ c ∷ d ∷ i ∷ []) = Some (record key_zero { s0 = a; c0 = b; s1 = c; c1 = d; i = i })
key_of_numbers (a ∷ b ∷ c ∷ d ∷ e ∷ f ∷ []) = None
key_of_numbers (a ∷ b ∷ c ∷ d ∷ e ∷ f ∷ i ∷ []) = Some (record key_zero { s0 = a; c0 = b; s1 = c; c1 = d; s2 = e; c2 = f; i = i })
key_of_numbers (a ∷ b ∷ c ∷ d ∷ e ∷ f ∷ g ∷ h ∷ []) = None
key_of_numbers (a ∷ b ∷ c ∷ d ∷ e ∷ f ∷ g ∷ h ∷ i ∷ []) =
    Some (record { s0 = a; c0 = b; s1 = c; c1 = d; s2 = e; c2 = f; s3 = g; c3 = h; i = i })
key_of_numbers (a ∷ b ∷ c ∷ d ∷ e ∷ f ∷ g ∷ h ∷ i ∷ j ∷ more) = None

-- the key that a word is: numbers joined by full stops
unfoldable pub key_in : List ℕ → Option Key
key_in word = option_and_then key_of_numbers (numbers_in (pieces_at 46 word))

-- ---- effects

abbrev pub plain_in : List ℕ → Option Effect
plain_in name = if bytes_eq name (codes "plain") then Some Plain else None

-- an effect with one number
abbrev pub effect_of_one : List ℕ → List ℕ → Option Effect
effect_of_one name a =
    if bytes_eq name (codes "put") then option_map (λ byte. Put byte) (hex2_in a)
    else (if bytes_eq name (codes "scfail") then option_map (λ address. ScFail address) (hex8_in a)
    else None)

-- an address and a word, made into something
abbrev pub with_both : (ℕ → ℕ → Effect) → Option ℕ → Option ℕ → Option Effect
with_both make (Some address) (Some word) = Some (make address word)
with_both make (Some address) None = None
with_both make None word = None

-- an effect with two numbers
abbrev pub effect_of_two : List ℕ → List ℕ → List ℕ → Option Effect
effect_of_two name a b =
    if bytes_eq name (codes "load") then with_both (λ address word. Load address word) (hex8_in a) (hex8_in b)
    else (if bytes_eq name (codes "lr") then with_both (λ address word. Lr address word) (hex8_in a) (hex8_in b)
    else None)

-- an address, and a word before and after, made into something
abbrev pub with_all : (ℕ → ℕ → ℕ → Effect) → Option ℕ → Option ℕ → Option ℕ → Option Effect
with_all make (Some address) (Some before) (Some after) = Some (make address before after)
with_all make (Some address) (Some before) None = None
with_all make (Some address) None after = None
with_all make None before after = None

-- an effect with three numbers
abbrev pub effect_of_three : List ℕ → List ℕ → List ℕ → List ℕ → Option Effect
effect_of_three name a b c =
    if bytes_eq name (codes "store") then with_all (λ address before after. Store address before after) (hex8_in a) (hex8_in b) (hex8_in c)
    else (if bytes_eq name (codes "scok")
    then with_all (λ address before after. ScOk address before after) (hex8_in a) (hex8_in b) (hex8_in c)
    else (if bytes_eq name (codes "amo")
    then with_all (λ address before after. Amo address before after) (hex8_in a) (hex8_in b) (hex8_in c)
    else None))

-- the effect that words are
unfoldable pub effect_of_words : List (List ℕ) → Option Effect
effect_of_words [] = None
effect_of_words (name ∷ []) = plain_in name
effect_of_words (name ∷ a ∷ []) = effect_of_one name a
effect_of_words (name ∷ a ∷ b ∷ []) = effect_of_two name a b
effect_of_words (name ∷ a ∷ b ∷ c ∷ []) = effect_of_three name a b c
effect_of_words (name ∷ a ∷ b ∷ c ∷ d ∷ more) = None

-- ---- lines

-- an operation of its parts, if each is there
abbrev pub op_of_parts : Option ℕ → Option Key → Option ℕ → Option Effect → Option Op
op_of_parts (Some hart) (Some key) (Some pc) (Some effect) = Some (record { key = key; hart = hart; pc = pc; effect = effect })
op_of_parts (Some hart) (Some key) (Some pc) None = None
op_of_parts (Some hart) (Some key) None effect = None
op_of_parts (Some hart) None pc effect = None
op_of_parts None key pc effect = None

-- the operation that words are: `op HART KEY PC EFFECT`
unfoldable pub op_of_words : List (List ℕ) → Option Op
op_of_words [] = None
op_of_words (mark ∷ []) = None
op_of_words (mark ∷ hart ∷ []) = None
op_of_words (mark ∷ hart ∷ key ∷ []) = None
op_of_words (mark ∷ hart ∷ key ∷ pc ∷ effect) =
    if bytes_eq mark (codes "op") then op_of_parts (place_in hart) (key_in key) (hex8_in pc) (effect_of_words effect)
    else None

-- the operation that a line is, without its line feed, if it is one
unfoldable pub op_in : List ℕ → Option Op
op_in line = op_of_words (pieces_at 32 line)

-- an operation whose key isn't looked at
abbrev pub without_key : Op → Op
without_key op = record op { key = key_zero }
