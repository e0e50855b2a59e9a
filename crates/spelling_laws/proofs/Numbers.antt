-- The numbers that stand for one of several, read and spelled again.
use Rattle.std.specs.Prelude.{◌≡◌, ℕ, zero, suc, ◌-◌, Bool, true, false, nat_eq, nat_lt, nat_le, ◌||◌, [], ◌∷◌, Some, None, refl, if◌then◌else◌}
use Rattle.std.proofs.Common.{ap, arith, inl, inr}
use Rattle.std.proofs.lemmas.Bool.{eqb-true, eqb-false, leb-true, and_parts, or_cases}
use Rattle.spelling_laws.specs.TreeModel.State.Kinds.{kind_number}
use Rattle.spelling_laws.specs.StateReading.Parts.{halt_of, halt_has_number, state_of, slot_of, reserved_of, hold_of, note_of_words, kind_of, effect_size, effect_of}
use Rattle.spelling_laws.specs.StateWords.Numbers.{halt_words, state_number, slot_words, reserved_word, hold_number, note_words, flag_number, effect_words}
use Rattle.spelling_laws.proofs.Steps.{is_to, is_from_1, is_if}

pub halt-spelled : (code number : ℕ) → is_to 9 code ≡ true → is_if (halt_has_number code) number ≡ true → code ∷ number ∷ [] ≡ halt_words (halt_of code number)
halt-spelled zero number most fits = ap (λ x. 0 ∷ x ∷ []) (eqb-true number 0 fits)
halt-spelled (suc zero) number most fits = refl
halt-spelled (suc (suc zero)) number most fits = refl
halt-spelled (suc (suc (suc zero))) number most fits = ap (λ x. 3 ∷ x ∷ []) (eqb-true number 0 fits)
halt-spelled (suc (suc (suc (suc zero)))) number most fits = refl
halt-spelled (suc (suc (suc (suc (suc zero))))) number most fits = refl
halt-spelled (suc (suc (suc (suc (suc (suc zero)))))) number most fits = refl
halt-spelled (suc (suc (suc (suc (suc (suc (suc zero))))))) number most fits = refl
halt-spelled (suc (suc (suc (suc (suc (suc (suc (suc zero)))))))) number most fits = refl
halt-spelled (suc (suc (suc (suc (suc (suc (suc (suc (suc zero))))))))) number most fits = refl
halt-spelled (suc (suc (suc (suc (suc (suc (suc (suc (suc (suc code)))))))))) number most fits = absurd (omega (arith, leb-true _ _ most))

pub state-spelled : (code : ℕ) → is_from_1 5 code ≡ true → code ≡ state_number (state_of code)
state-spelled zero fits = absurd (omega (arith, leb-true 1 0 ((and_parts (nat_le 1 0) (nat_le 0 5) fits).0)))
state-spelled (suc zero) fits = refl
state-spelled (suc (suc zero)) fits = refl
state-spelled (suc (suc (suc zero))) fits = refl
state-spelled (suc (suc (suc (suc zero)))) fits = refl
state-spelled (suc (suc (suc (suc (suc zero))))) fits = refl
state-spelled (suc (suc (suc (suc (suc (suc code)))))) fits = absurd (omega (arith, leb-true _ _ ((and_parts (nat_le 1 (suc (suc (suc (suc (suc (suc code))))))) _ fits).1)))

pub slot-spelled : (n code x : ℕ) → is_to 2 code ≡ true → (if nat_eq code 0 then nat_eq x 0 else nat_lt x n) ≡ true → code ∷ x ∷ [] ≡ slot_words (slot_of code x)
slot-spelled n zero x most fits = ap (λ x. 0 ∷ x ∷ []) (eqb-true x 0 fits)
slot-spelled n (suc zero) x most fits = refl
slot-spelled n (suc (suc zero)) x most fits = refl
slot-spelled n (suc (suc (suc code))) x most fits = absurd (omega (arith, leb-true _ _ most))

pub reserved-spelled : (w : ℕ) → w ≡ reserved_word (reserved_of w)
reserved-spelled w =
    elim (nat_eq w 0) as (λ b. nat_eq w 0 ≡ b → w ≡ reserved_word (if b then None else Some (w - 1))) [
      | true ↦ λ e. eqb-true w 0 e
      | false ↦ λ e. let some : w ≡ 0 → ⊥ = eqb-false w 0 e in omega (arith, some)
    ] refl

pub hold-spelled : (code : ℕ) → nat_le code 2 ≡ true → code ≡ hold_number (hold_of code)
hold-spelled zero most = refl
hold-spelled (suc zero) most = refl
hold-spelled (suc (suc zero)) most = refl
hold-spelled (suc (suc (suc code))) most = absurd (omega (arith, leb-true _ _ most))

-- the number of a child and the set of those that joined are 0 where the note has none
pub note-spelled : (code child joined : ℕ) → is_to 3 code ≡ true → (nat_eq code 0 ≡ true → child ≡ 0) → ((nat_eq code 1 || nat_eq code 2) ≡ false → joined ≡ 0) → code ∷ child ∷ joined ∷ [] ≡ note_words (note_of_words code child joined)
note-spelled zero child joined most none alone = rw (none refl, alone refl) refl
note-spelled (suc zero) child joined most none alone = refl
note-spelled (suc (suc zero)) child joined most none alone = refl
note-spelled (suc (suc (suc zero))) child joined most none alone = ap (λ x. 3 ∷ child ∷ x ∷ []) (alone refl)
note-spelled (suc (suc (suc (suc code)))) child joined most none alone = absurd (omega (arith, leb-true _ _ most))

pub flag-spelled : (w : ℕ) → nat_le w 1 ≡ true → w ≡ flag_number (nat_eq w 1)
flag-spelled zero most = refl
flag-spelled (suc zero) most = refl
flag-spelled (suc (suc w)) most = absurd (omega (arith, leb-true _ _ most))

pub kind-spelled : (code : ℕ) → is_from_1 5 code ≡ true → code ≡ kind_number (kind_of code)
kind-spelled zero fits = absurd (omega (arith, leb-true 1 0 ((and_parts (nat_le 1 0) (nat_le 0 5) fits).0)))
kind-spelled (suc zero) fits = refl
kind-spelled (suc (suc zero)) fits = refl
kind-spelled (suc (suc (suc zero))) fits = refl
kind-spelled (suc (suc (suc (suc zero)))) fits = refl
kind-spelled (suc (suc (suc (suc (suc zero))))) fits = refl
kind-spelled (suc (suc (suc (suc (suc (suc code)))))) fits = absurd (omega (arith, leb-true _ _ ((and_parts (nat_le 1 (suc (suc (suc (suc (suc (suc code))))))) _ fits).1)))

pub asked-spelled : (code : ℕ) → (nat_eq code 1 || nat_eq code 3) ≡ true → code ≡ kind_number (kind_of code)
asked-spelled zero fits = cc
asked-spelled (suc zero) fits = refl
asked-spelled (suc (suc zero)) fits = cc
asked-spelled (suc (suc (suc zero))) fits = refl
asked-spelled (suc (suc (suc (suc code)))) fits =
    elim (or_cases (nat_eq (suc (suc (suc (suc code)))) 1) (nat_eq (suc (suc (suc (suc code)))) 3) fits) [
      | inl e ↦ absurd (omega (arith, eqb-true (suc (suc (suc (suc code)))) 1 e))
      | inr e ↦ absurd (omega (arith, eqb-true (suc (suc (suc (suc code)))) 3 e))
    ]

abbrev pub is_first_of : ℕ → ℕ → Bool
is_first_of code a = if nat_eq code 1 then nat_le a 255 else (nat_lt 0 (effect_size code) || nat_eq a 0)

pub effect-spelled : (code a b c : ℕ) → is_to 7 code ≡ true → is_first_of code a ≡ true → is_if (nat_lt 1 (effect_size code)) b ≡ true → is_if (nat_lt 2 (effect_size code)) c ≡ true
    → code ∷ a ∷ b ∷ c ∷ [] ≡ effect_words (effect_of code a b c)
effect-spelled zero a b c most first second third = rw (eqb-true a 0 first, eqb-true b 0 second, eqb-true c 0 third) refl
effect-spelled (suc zero) a b c most first second third = rw (eqb-true b 0 second, eqb-true c 0 third) refl
effect-spelled (suc (suc zero)) a b c most first second third = rw (eqb-true c 0 third) refl
effect-spelled (suc (suc (suc zero))) a b c most first second third = refl
effect-spelled (suc (suc (suc (suc zero)))) a b c most first second third = rw (eqb-true c 0 third) refl
effect-spelled (suc (suc (suc (suc (suc zero))))) a b c most first second third = refl
effect-spelled (suc (suc (suc (suc (suc (suc zero)))))) a b c most first second third = rw (eqb-true b 0 second, eqb-true c 0 third) refl
effect-spelled (suc (suc (suc (suc (suc (suc (suc zero))))))) a b c most first second third = refl
effect-spelled (suc (suc (suc (suc (suc (suc (suc (suc code)))))))) a b c most first second third = absurd (omega (arith, leb-true _ _ most))
