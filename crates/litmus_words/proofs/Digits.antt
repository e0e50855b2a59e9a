-- Digits, one more at a time.
use Rattle.std.proofs.Common.{◌≡◌, ℕ, ◌+◌, ◌*◌, ◌<◌, ◌≤◌, List, [], ◌∷◌, ◌++◌, length, take, drop, get_or, refl, arith}
use Rattle.std.specs.Prelude.{Bool, true, false, min, nat_le, nat_lt, fold}
use Rattle.std.proofs.Math.Nat.{min-eq_left, le-mul_of_pos_right}
use Rattle.std.specs.List.{list_all}
use Rattle.std.proofs.lemmas.Bool.Decides.{nat_tests}
use Rattle.std.proofs.lemmas.List.{drop_all, drop_more, take_more, take_all}
use Rattle.litmus_model.specs.Words.{digit_value, digits_value}

below : (a b : ℕ) → a < b → nat_lt a b ≡ true
below a b h = grind (arith, nat_tests)

not_below : (a b : ℕ) → b ≤ a → nat_lt a b ≡ false
not_below a b h = grind (arith, nat_tests)

pub all_next : (base : ℕ) (text : List ℕ) (k d : ℕ) → k < length text → digit_value (get_or text k d) < base
    → list_all (λ b. nat_lt (digit_value b) base) (drop k text) ≡ list_all (λ b. nat_lt (digit_value b) base) (drop (k + 1) text)
all_next base text k d inside small = rw (drop_more text k d inside, below (digit_value (get_or text k d)) base small) refl

pub all_failed : (base : ℕ) (text : List ℕ) (k d : ℕ) → k < length text → base ≤ digit_value (get_or text k d) → list_all (λ b. nat_lt (digit_value b) base) (drop k text) ≡ false
all_failed base text k d inside large = rw (drop_more text k d inside, not_below (digit_value (get_or text k d)) base large) refl

pub all_done : (base : ℕ) (text : List ℕ) (k : ℕ) → length text ≤ k → list_all (λ b. nat_lt (digit_value b) base) (drop k text) ≡ true
all_done base text k past = rw (drop_all k text past) refl

-- ---- values

fold-append : (f : ℕ → ℕ → ℕ) (a : ℕ) (xs ys : List ℕ) → fold f a (xs ++ ys) ≡ fold f (fold f a xs) ys
fold-append f a [] ys = refl
fold-append f a (x ∷ xs) ys = fold-append f (f a x) xs ys

few_case : (b : Bool) (n base d : ℕ) → nat_le n 4294967296 ≡ b → 1 ≤ base → min (min n 4294967296 * base + d) 4294967296 ≡ min (n * base + d) 4294967296
few_case true n base d e some = let few : n ≤ 4294967296 = grind (arith, nat_tests) in rw (min-eq_left few) refl
few_case false n base d e some =
    let many : 4294967296 ≤ n = grind (arith, nat_tests) in
    let cap : min n 4294967296 ≡ 4294967296 = omega (arith, many) in
    let p : 4294967296 ≤ 4294967296 * base = le-mul_of_pos_right 4294967296 some in
    let q : n ≤ n * base = le-mul_of_pos_right n some in
    rw cap (omega (arith, p, q, many))

capped : (n base d : ℕ) → 1 ≤ base → min (min n 4294967296 * base + d) 4294967296 ≡ min (n * base + d) 4294967296
capped n base d some = few_case (nat_le n 4294967296) n base d refl some

pub no_digit : (base : ℕ) (digits : List ℕ) → 0 ≡ min (digits_value base (take 0 digits)) 4294967296
no_digit base digits = refl

pub one_digit : (base number : ℕ) (digits : List ℕ) (k d : ℕ) → 1 ≤ base → k < length digits → number ≡ min (digits_value base (take k digits)) 4294967296
    → min (number * base + digit_value (get_or digits k d)) 4294967296 ≡ min (digits_value base (take (k + 1) digits)) 4294967296
one_digit base number digits k d some inside is =
    rw (is, take_more digits k d inside, fold-append (λ n b. n * base + digit_value b) 0 (take k digits) (get_or digits k d ∷ []))
    (capped (digits_value base (take k digits)) base (digit_value (get_or digits k d)) some)

pub all_digits : (base : ℕ) (digits : List ℕ) (k : ℕ) → length digits ≤ k → digits_value base (take k digits) ≡ digits_value base digits
all_digits base digits k past = rw (take_all k digits past) refl
