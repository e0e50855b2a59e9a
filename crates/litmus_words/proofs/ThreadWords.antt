-- A register of a thread, by what its words say; numbers below 0.
use Rattle.std.proofs.Common.{◌≡◌, ℕ, zero, suc, ◌-◌, ◌<◌, ◌≤◌, List, refl, arith}
use Rattle.std.specs.Prelude.{true, false, min, nat_lt, pos, neg_ℤ, Some, None, Ok, Err}
use Rattle.std.proofs.lemmas.Bool.Decides.{nat_tests}
use Rattle.litmus_model.specs.declared.parts.Target.TheVariants.{Register}
use Rattle.litmus_model.specs.declared.refusal.Fault.TheVariants.{NoThread}
use Rattle.litmus_model.specs.declared.refusal.TestRefusal.{TestRefusal}
use Rattle.litmus_model.specs.declared.refusal.TestRefusal.TheVariants.{InLine}
use Rattle.litmus_model.specs.Refusing.{and_then}
use Rattle.litmus_model.specs.Words.{are_digits, digits_value, register_at, register_target, thread_digits, word_of}
use Rattle.litmus_words.specs.Tables.{digits_in}

digits_are : (w : List ℕ) → are_digits 10 (digits_in w) ≡ true → thread_digits w ≡ Some (digits_value 10 (digits_in w))
unfolding thread_digits digits_in
digits_are w are = rw are refl

digits_are_not : (w : List ℕ) → are_digits 10 (digits_in w) ≡ false → thread_digits w ≡ None
unfolding thread_digits digits_in
digits_are_not w are = rw are refl

pub no_thread : (threads line : ℕ) (t r : List ℕ) → are_digits 10 (digits_in t) ≡ false → register_target threads line r (thread_digits t) ≡ Ok None
unfolding register_target
no_thread threads line t r none = rw (digits_are_not t none) refl

beyond : (n threads : ℕ) → threads < 4294967296 → threads ≤ min n 4294967296 → nat_lt n threads ≡ false
beyond n threads few far = let past : threads ≤ n = omega (arith, few, far) in grind (arith, nat_tests)

within : (n threads : ℕ) → threads < 4294967296 → min n 4294967296 < threads → nat_lt n threads ≡ true
within n threads few near = let inside : n < threads = omega (arith, few, near) in grind (arith, nat_tests)

pub other_thread : (threads line : ℕ) (t r : List ℕ) → threads < 4294967296 → are_digits 10 (digits_in t) ≡ true → threads ≤ min (digits_value 10 (digits_in t)) 4294967296
    → register_target threads line r (thread_digits t) ≡ Err (InLine line NoThread)
unfolding register_target
other_thread threads line t r few are far = rw (digits_are t are, beyond (digits_value 10 (digits_in t)) threads few far) refl

same_number : (n threads : ℕ) → threads < 4294967296 → min n 4294967296 < threads → min n 4294967296 ≡ n
same_number n threads few near = omega (arith, few, near)

pub register_there : (threads line register : ℕ) (t r : List ℕ) → threads < 4294967296 → are_digits 10 (digits_in t) ≡ true → min (digits_value 10 (digits_in t)) 4294967296 < threads
    → register_at line r ≡ Ok register → register_target threads line r (thread_digits t) ≡ Ok (Some (Register (min (digits_value 10 (digits_in t)) 4294967296) register))
unfolding register_target and_then
register_there threads line register t r few are near there =
    let n = digits_value 10 (digits_in t) in
    rw (digits_are t are, within n threads few near, there, same_number n threads few near) refl

pub bad_register : (threads line : ℕ) (t r : List ℕ) (refusal : TestRefusal) → threads < 4294967296 → are_digits 10 (digits_in t) ≡ true → min (digits_value 10 (digits_in t)) 4294967296 < threads
    → register_at line r ≡ Err refusal → register_target threads line r (thread_digits t) ≡ Err refusal
unfolding register_target and_then
bad_register threads line t r refusal few are near bad = rw (digits_are t are, within (digits_value 10 (digits_in t)) threads few near, bad) refl

pub word_below : (n : ℕ) → (n ≡ 0 → ⊥) → word_of (neg_ℤ (pos n)) ≡ 4294967295 - (n - 1)
word_below zero some = absurd (some refl)
word_below (suc n) some = omega arith

-- A register of a thread.
pub ruleset register_cases = (no_thread, other_thread, register_there, bad_register)
