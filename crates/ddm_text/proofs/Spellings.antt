-- A number has one spelling: the one that `decimal` writes.
use Rattle.std.proofs.Common.{◌≡◌, ℕ, ◌+◌, ◌^◌, ◌<◌, ◌≤◌, Bool, true, false, not, cond, ◌&&◌, List, [], ◌∷◌, Option, Some, None, Result, Ok, Err, IfOk, get_or, decimal, refl, sym, ap, ◌∙◌, subst, arith, rules}
use Rattle.std.specs.List.{list_all, position_from}
use Rattle.std.specs.Prelude.{position, nat_eq, nat_le}
use Rattle.std.proofs.lemmas.Iterator.Adapters.{position_from-zero}
use Rattle.std.proofs.lemmas.Str.Parse.{IsNumeralModel, numerals_by_fold}
use Rattle.std.proofs.lemmas.Fmt.{decimal-digits_value, digits_value-decimal, digits_decimal, first_decimal, decimal_digit}
use Rattle.ddm_text.specs.declared.reading.NumberRefusal.{NumberRefusal}
use Rattle.ddm_text.specs.declared.reading.NumberRefusal.TheVariants.{NotANumber, TooLarge}
use Rattle.ddm_text.specs.Numbers.{is_digit, number_stop, stop_after_zero, value_from, value_of, at_most, unless_stopped, number_of}

-- all bytes are digits
abbrev pub AreDigits : List ℕ → Type 0
AreDigits bytes = list_all is_digit bytes ≡ true

own : IsNumeralModel AreDigits (value_from 0)
own = numerals_by_fold AreDigits (search rules) value_from (search rules)

-- ---- from the bytes to the number

digit_first : (d : Bool) (i : ℕ) (rest : Option ℕ) (all : Bool) → (rest ≡ None → all ≡ true) → cond (not d) (Some i) rest ≡ None → (d && all) ≡ true
digit_first true i rest all on none = on none
digit_first false i rest all on none = absurd (cc none)

digits_from : (i : ℕ) (bytes : List ℕ) → position_from (λ b. not (is_digit b)) i bytes ≡ None → AreDigits bytes
digits_from i [] none = refl
digits_from i (byte ∷ bytes) none = digit_first (is_digit byte) i (position_from (λ b. not (is_digit b)) (i + 1) bytes) (list_all is_digit bytes) (digits_from (i + 1) bytes) none

AreDigits-position : (bytes : List ℕ) → position (λ b. not (is_digit b)) bytes ≡ None → AreDigits bytes
AreDigits-position bytes none = digits_from 0 bytes (sym (position_from-zero (λ b. not (is_digit b)) bytes) ∙ none)

-- ---- and back

no_stop_first : (d : Bool) (i : ℕ) (rest : Option ℕ) (all : Bool) → (all ≡ true → rest ≡ None) → (d && all) ≡ true → cond (not d) (Some i) rest ≡ None
no_stop_first true i rest all on digits = on digits
no_stop_first false i rest all on digits = absurd (cc digits)

no_stop_from : (i : ℕ) (bytes : List ℕ) → AreDigits bytes → position_from (λ b. not (is_digit b)) i bytes ≡ None
no_stop_from i [] digits = refl
no_stop_from i (byte ∷ bytes) digits = no_stop_first (is_digit byte) i (position_from (λ b. not (is_digit b)) (i + 1) bytes) (list_all is_digit bytes) (no_stop_from (i + 1) bytes) digits

position-AreDigits : (bytes : List ℕ) → AreDigits bytes → position (λ b. not (is_digit b)) bytes ≡ None
position-AreDigits bytes digits = position_from-zero (λ b. not (is_digit b)) bytes ∙ no_stop_from 0 bytes digits

-- ---- what is read is the spelling of what it gives

is_48 : (byte : ℕ) → nat_eq byte 48 ≡ true → byte ≡ 48
is_48 byte same = grind arith

spelling_by : (d : Bool) (byte : ℕ) (bytes : List ℕ) → nat_eq byte 48 ≡ d → cond d (stop_after_zero bytes) (position (λ b. not (is_digit b)) (byte ∷ bytes)) ≡ None → value_of (byte ∷ bytes) < 2 ^ 64 → decimal (value_of (byte ∷ bytes)) ≡ byte ∷ bytes
spelling_by true byte [] same none small = let P : ℕ → Type 0 = λ b. decimal (value_of (b ∷ [])) ≡ b ∷ [] in subst P (sym (is_48 byte same)) (decimal_digit 0 (omega arith))
spelling_by true byte (next ∷ bytes) same none small = absurd (cc none)
spelling_by false byte bytes other none small =
    decimal-digits_value own (byte ∷ bytes) (AreDigits-position (byte ∷ bytes) none) (grind arith)
    (λ e. absurd (cc (sym other ∙ ap (λ b. nat_eq b 48) e))) small

-- the bytes of a number are what `decimal` writes of its value
pub decimal-value_of : (bytes : List ℕ) → number_stop bytes ≡ None → value_of bytes < 2 ^ 64 → decimal (value_of bytes) ≡ bytes
unfolding number_stop
decimal-value_of [] none small = absurd (cc none)
decimal-value_of (byte ∷ bytes) none small = spelling_by (nat_eq byte 48) byte bytes refl none small

within_by : (d : Bool) (value most n : ℕ) → nat_le value most ≡ d → cond d (Ok value) (Err TooLarge) ≡ Ok n → (value ≤ most) × (value ≡ n)
within_by true value most n le e = (grind arith, cc e)
within_by false value most n gt e = absurd (cc e)

given_by : (stop : Option ℕ) (bytes : List ℕ) (most n : ℕ) → number_stop bytes ≡ stop → unless_stopped stop (at_most most (value_of bytes)) ≡ Ok n → most < 2 ^ 64 → bytes ≡ decimal n
given_by (Some place) bytes most n stop e small = absurd (cc e)
given_by None bytes most n none e small =
    let within = within_by (nat_le (value_of bytes) most) (value_of bytes) most n refl e in
    sym (decimal-value_of bytes none (omega (arith, within.0))) ∙ ap decimal within.1

-- bytes that are read are what `decimal` writes of the number
pub spelling-number_of : (bytes : List ℕ) (most n : ℕ) → most < 2 ^ 64 → number_of bytes most ≡ Ok n → bytes ≡ decimal n
unfolding number_of
spelling-number_of bytes most n small e = given_by (number_stop bytes) bytes most n refl e small

-- ---- what is written is read

no_stop_by : (d : Bool) (byte : ℕ) (bytes : List ℕ) → nat_eq byte 48 ≡ d → 48 < byte → AreDigits (byte ∷ bytes) → cond d (stop_after_zero bytes) (position (λ b. not (is_digit b)) (byte ∷ bytes)) ≡ None
no_stop_by true byte bytes same above digits = absurd (omega (arith, is_48 byte same))
no_stop_by false byte bytes other above digits = position-AreDigits (byte ∷ bytes) digits

number_stop-AreDigits : (bytes : List ℕ) → AreDigits bytes → 48 < get_or bytes 0 0 → number_stop bytes ≡ None
unfolding number_stop
number_stop-AreDigits [] digits above = absurd (omega arith)
number_stop-AreDigits (byte ∷ bytes) digits above = no_stop_by (nat_eq byte 48) byte bytes refl above digits

number_stop_of : (d : Bool) (n : ℕ) → nat_eq n 0 ≡ d → n < 2 ^ 64 → number_stop (decimal n) ≡ None
unfolding number_stop
number_stop_of true n zero small =
    let P : List ℕ → Type 0 = λ bytes. number_stop bytes ≡ None in
    let is_zero : n ≡ 0 = grind arith in
    subst P (sym (ap decimal is_zero ∙ decimal_digit 0 (omega arith))) refl
number_stop_of false n positive small =
    number_stop-AreDigits (decimal n) (digits_decimal own n small) (first_decimal n (grind arith) small)

pub number_stop-decimal : (n : ℕ) → n < 2 ^ 64 → number_stop (decimal n) ≡ None
number_stop-decimal n small = number_stop_of (nat_eq n 0) n refl small

at_most-within : (most n : ℕ) → n ≤ most → at_most most n ≡ Ok n
at_most-within most n within = grind arith

-- what `decimal` writes of a number is read
pub number_of-decimal : (n most : ℕ) → n ≤ most → most < 2 ^ 64 → number_of (decimal n) most ≡ Ok n
unfolding number_of
number_of-decimal n most within small =
    let fits : n < 2 ^ 64 = omega arith in
    ap (λ stop. unless_stopped stop (at_most most (value_of (decimal n)))) (number_stop-decimal n fits)
    ∙ ap (λ value. at_most most value) (digits_value-decimal own n fits)
    ∙ at_most-within most n within

pub AreDigits-decimal : (n : ℕ) → n < 2 ^ 64 → AreDigits (decimal n)
AreDigits-decimal n small = digits_decimal own n small

-- ---- the answer of `read_decimal`

pub number_of-stopped : (bytes : List ℕ) (most place : ℕ) → Some place ≡ number_stop bytes → Err (NotANumber place) ≡ number_of bytes most
unfolding number_of
number_of-stopped bytes most place stop = ap (λ o. unless_stopped o (at_most most (value_of bytes))) stop

pub number_of-whole : (bytes : List ℕ) (most : ℕ) → None ≡ number_stop bytes → at_most most (value_of bytes) ≡ number_of bytes most
unfolding number_of
number_of-whole bytes most none = ap (λ o. unless_stopped o (at_most most (value_of bytes))) none

-- an answer that is the number has that number's spelling
pub spelled-answer : (bytes : List ℕ) (most : ℕ) (answer : Result ℕ NumberRefusal) → most < 2 ^ 64 → answer ≡ number_of bytes most → IfOk answer (λ n. bytes ≡ decimal n)
spelled-answer bytes most (Ok n) small e = spelling-number_of bytes most n small (sym e)
spelled-answer bytes most (Err refusal) small e = tt

-- the spelling of a number up to the limit has that answer
pub answer-spelled : (bytes : List ℕ) (most n : ℕ) (answer : Result ℕ NumberRefusal) → most < 2 ^ 64 → answer ≡ number_of bytes most → n ≤ most → bytes ≡ decimal n → answer ≡ Ok n
answer-spelled bytes most n answer small e within spelled = e ∙ ap (λ b. number_of b most) spelled ∙ number_of-decimal n most within small

within_limit : (stop : Option ℕ) (value most n : ℕ) → unless_stopped stop (at_most most value) ≡ Ok n → n ≤ most
within_limit (Some place) value most n e = absurd (cc e)
within_limit None value most n e = let within = within_by (nat_le value most) value most n refl e in omega (arith, within.0, within.1)

-- a number that is read is not above the limit
pub number_of-within : (bytes : List ℕ) (most n : ℕ) → number_of bytes most ≡ Ok n → n ≤ most
unfolding number_of
number_of-within bytes most n e = within_limit (number_stop bytes) (value_of bytes) most n e
