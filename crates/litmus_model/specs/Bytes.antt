-- The bytes that a test's text is made of.
use Rattle.std.specs.Prelude.{ℕ, Bool, ◌||◌, ◌&&◌, nat_eq, nat_le, List, [], codes}
use Rattle.std.specs.List.{list_any}

abbrev pub is_one_of : List ℕ → ℕ → Bool
is_one_of bytes b = list_any (λ c. nat_eq b c) bytes

abbrev pub is_line_feed : ℕ → Bool
is_line_feed b = nat_eq b 10

-- space, tab, carriage return
abbrev pub is_blank : ℕ → Bool
is_blank b = nat_eq b 32 || (nat_eq b 9 || nat_eq b 13)

abbrev pub is_between : ℕ → ℕ → ℕ → Bool
is_between low high b = nat_le low b && nat_le b high

abbrev pub is_digit : ℕ → Bool
is_digit b = is_between 48 57 b

abbrev pub is_letter : ℕ → Bool
is_letter b = is_between 97 122 b || is_between 65 90 b

-- letters, digits, `_` and `.`
abbrev pub is_word_byte : ℕ → Bool
is_word_byte b = is_letter b || (is_digit b || (nat_eq b 95 || nat_eq b 46))

-- a byte that stands alone
unfoldable pub is_mark_byte : ℕ → Bool
is_mark_byte b = is_one_of (codes "{}()[];|,:=-~*/\\") b
