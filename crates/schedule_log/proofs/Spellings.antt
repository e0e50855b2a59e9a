-- The one spelling of turns whose numbers have at most three digits.
use Rattle.std.proofs.Common.{◌≡◌, ℕ, ◌+◌, ◌*◌, ◌%◌, ◌<◌, List, [], ◌∷◌, ◌++◌, decimal, sym, ap, ◌∙◌, append_assoc, arith}
use Rattle.std.proofs.lemmas.Fmt.{decimal_digit, decimal_step}
use Rattle.std.proofs.lemmas.Nat.{div-mul-add, mod-mul-add}
use Rattle.std.specs.Prelude.{codes}
use Rattle.schedule_log.specs.DdmTypes.declared.turns.Turn.{Turn}
use Rattle.text_model.specs.Schedule.{turn_text}
use Rattle.text_model.proofs.TurnTexts.{IsShort, meaning_of-turn_text, Lacks-turn_text}
use Rattle.schedule_log.specs.Spelled.{Begins, BeginsWithChild, BeginsWithDigit, BeginsWithLine, BeginsWithNumber}

-- ---- one text behind another

infixl 20 ◌▷◌
pub ◌▷◌ : {text front more next rest : List ℕ} → Begins text front more → Begins more next rest → Begins text (front ++ next) rest
◌▷◌ {text} {front} {more} {next} {rest} a b = record { is = a.is ∙ ap (λ (t : List ℕ). front ++ t) b.is ∙ sym (append_assoc front next rest) }

-- ---- numbers

-- a number of one digit
pub one_digit : (text : List ℕ) (digit : ℕ) (rest : List ℕ) → BeginsWithDigit text digit rest → BeginsWithNumber text digit rest
one_digit text digit rest begins = record {
  few = omega (arith, begins.few);
  front = record { is = begins.front.is ∙ ap (λ ds. ds ++ rest) (sym (decimal_digit digit begins.few)) };
}

decimal_more : (n digit : ℕ) → 0 < n → n < 1000 → digit < 10 → decimal (n * 10 + digit) ≡ decimal n ++ (48 + digit) ∷ []
decimal_more n digit some few small =
    decimal_step (n * 10 + digit) (omega (arith, some)) (omega (arith, few, small))
    ∙ ap (λ (k : ℕ). decimal k ++ (48 + (n * 10 + digit) % 10) ∷ []) (div-mul-add n 10 digit small)
    ∙ ap (λ (k : ℕ). decimal n ++ (48 + k) ∷ []) (mod-mul-add n 10 digit small)

-- a number with one digit more
pub digit_more : (text : List ℕ) (n : ℕ) (more : List ℕ) (digit : ℕ) (rest : List ℕ) → BeginsWithNumber text n more → 0 < n → n < 100 → BeginsWithDigit more digit rest → BeginsWithNumber text (n * 10 + digit) rest
digit_more text n more digit rest number some few next = record {
  few = omega (arith, few, next.few);
  front = record { is = (number.front ▷ next.front).is ∙ ap (λ ds. ds ++ rest) (sym (decimal_more n digit some (omega (arith, few)) next.few)) };
}

-- ---- lines

-- a space, and then a letter with a child
pub with_child : (text front space kind : List ℕ) (letter child : ℕ) (rest : List ℕ) → Begins text front space → Begins space (32 ∷ []) kind → BeginsWithChild kind letter child rest → Begins text ((front ++ 32 ∷ letter ∷ 32 ∷ []) ++ decimal child) rest
with_child text front space kind letter child rest a b c = record {
  is = (a ▷ b ▷ c.front).is
      ∙ ap (λ (t : List ℕ). t ++ rest) (append_assoc front (32 ∷ []) (letter ∷ 32 ∷ decimal child) ∙ sym (append_assoc front (32 ∷ letter ∷ 32 ∷ []) (decimal child)));
}

pub spelled : (text : List ℕ) (turn : Turn) (rest : List ℕ) → IsShort turn → Begins text (turn_text turn ++ codes "\n") rest → BeginsWithLine text turn rest
spelled text turn rest short front = record { front = front; says = meaning_of-turn_text turn short; lacks = Lacks-turn_text turn short }
