-- The decimal digits of numbers, in fours.
use Rattle.std.proofs.Common.{◌≡◌, ◌<◌, ◌≤◌, ℕ, ◌+◌, ◌/◌, ◌%◌, ◌^◌, List, [], ◌∷◌, ◌++◌, decimal, refl, ap, ap₂, ◌∙◌, arith, append_assoc}
use Rattle.std.proofs.lemmas.Fmt.{decimal_digit, decimal_step}

-- the last four digits of a number
abbrev pub last_four : ℕ → List ℕ
last_four n = (48 + n / 1000 % 10) ∷ (48 + n / 100 % 10) ∷ (48 + n / 10 % 10) ∷ (48 + n % 10) ∷ []

-- they are those of two numbers below a hundred
pub in_twos : (n : ℕ) → (48 + n % 10000 / 100 / 10) ∷ (48 + n % 10000 / 100 % 10) ∷ (48 + n % 10000 % 100 / 10) ∷ (48 + n % 10000 % 100 % 10) ∷ [] ≡ last_four n
in_twos n =
    let thousands : n % 10000 / 100 / 10 ≡ n / 1000 % 10 = omega arith in
    let hundreds : n % 10000 / 100 % 10 ≡ n / 100 % 10 = omega arith in
    let tens : n % 10000 % 100 / 10 ≡ n / 10 % 10 = omega arith in
    let ones : n % 10000 % 100 % 10 ≡ n % 10 = omega arith in
    rw (thousands, hundreds, tens, ones) refl

pub one_digit : (n : ℕ) → n < 10 → decimal n ≡ (48 + n % 10) ∷ []
one_digit n small = decimal_digit n small ∙ ap (λ d. (48 + d) ∷ []) (omega arith)

-- all but the last two, and these
by_two : (n : ℕ) → 100 ≤ n → n < 2 ^ 64 → decimal n ≡ decimal (n / 100) ++ ((48 + n / 10 % 10) ∷ (48 + n % 10) ∷ [])
by_two n big small =
    let tens : n / 10 / 10 ≡ n / 100 = omega arith in
    decimal_step n (omega arith) small
    ∙ ap (λ t. t ++ ((48 + n % 10) ∷ [])) (decimal_step (n / 10) (omega arith) (omega arith))
    ∙ append_assoc (decimal (n / 10 / 10)) ((48 + n / 10 % 10) ∷ []) ((48 + n % 10) ∷ [])
    ∙ ap (λ k. decimal k ++ ((48 + n / 10 % 10) ∷ (48 + n % 10) ∷ [])) tens

pub two_digits : (n : ℕ) → 10 ≤ n → n < 100 → decimal n ≡ (48 + n / 10 % 10) ∷ (48 + n % 10) ∷ []
two_digits n big small =
    decimal_step n big (omega arith) ∙ ap (λ t. t ++ ((48 + n % 10) ∷ [])) (one_digit (n / 10) (omega arith))

pub three_digits : (n : ℕ) → 100 ≤ n → n < 1000 → decimal n ≡ (48 + n / 100 % 10) ∷ (48 + n / 10 % 10) ∷ (48 + n % 10) ∷ []
three_digits n big small =
    by_two n big (omega arith) ∙ ap (λ t. t ++ ((48 + n / 10 % 10) ∷ (48 + n % 10) ∷ [])) (one_digit (n / 100) (omega arith))

pub four_digits : (n : ℕ) → 1000 ≤ n → n < 10000 → decimal n ≡ last_four n
four_digits n big small =
    let tens : n / 100 / 10 ≡ n / 1000 = omega arith in
    by_two n (omega arith) (omega arith)
    ∙ ap (λ t. t ++ ((48 + n / 10 % 10) ∷ (48 + n % 10) ∷ [])) (two_digits (n / 100) (omega arith) (omega arith))
    ∙ ap (λ k. (48 + k % 10) ∷ (48 + n / 100 % 10) ∷ (48 + n / 10 % 10) ∷ (48 + n % 10) ∷ []) tens

-- all but the last four, and these
pub by_four : (n : ℕ) → 10000 ≤ n → n < 2 ^ 64 → decimal n ≡ decimal (n / 10000) ++ last_four n
by_four n big small =
    let tens : n / 100 / 10 ≡ n / 1000 = omega arith in
    let most : n / 100 / 100 ≡ n / 10000 = omega arith in
    by_two n (omega arith) small
    ∙ ap (λ t. t ++ ((48 + n / 10 % 10) ∷ (48 + n % 10) ∷ [])) (by_two (n / 100) (omega arith) (omega arith))
    ∙ append_assoc (decimal (n / 100 / 100)) ((48 + n / 100 / 10 % 10) ∷ (48 + n / 100 % 10) ∷ []) ((48 + n / 10 % 10) ∷ (48 + n % 10) ∷ [])
    ∙ ap₂ (λ k j. decimal k ++ ((48 + j % 10) ∷ (48 + n / 100 % 10) ∷ (48 + n / 10 % 10) ∷ (48 + n % 10) ∷ [])) most tens
