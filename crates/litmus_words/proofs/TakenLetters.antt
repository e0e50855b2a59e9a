-- The letters of a fence's set, one more at a time.
use Rattle.std.proofs.Common.{◌≡◌, ℕ, ◌+◌, ◌<◌, ◌≤◌, List, [], ◌∷◌, length, drop, get_or, refl, ap, arith, eq-eqb}
use Rattle.std.specs.Prelude.{nat_eq, false, Option, Some, None}
use Rattle.std.specs.Option.{option_map}
use Rattle.std.proofs.lemmas.Bool.Decides.{nat_tests}
use Rattle.std.proofs.lemmas.List.{drop_all, drop_more}
use Rattle.litmus_model.specs.Operands.{Letter, fence_letters, letter_bits}
use Rattle.litmus_words.specs.declared.letters.Taken.{Taken}
use Rattle.litmus_words.specs.Letters.{bits_left}

none_left : (ls : List Letter) → letter_bits ls [] ≡ Some 0
unfolding letter_bits
none_left [] = refl
none_left (l ∷ ls) = refl

pub no_byte : (t : Taken) (l : Letter) (ls : List Letter) (word : List ℕ) → length word ≤ t.at → bits_left t (l ∷ ls) word ≡ bits_left t ls word
unfolding bits_left
no_byte t l ls word past = rw (drop_all t.at word past, none_left (l ∷ ls), none_left ls) refl

twice : (a b : ℕ) (o : Option ℕ) → option_map (λ n. a + n) (option_map (λ n. b + n) o) ≡ option_map (λ n. a + b + n) o
twice a b None = refl
twice a b (Some n) = ap (λ (m : ℕ). Some m) (omega arith)

pub same_letter : (t u : Taken) (l : Letter) (ls : List Letter) (word : List ℕ) (d : ℕ) → t.at < length word → get_or word t.at d ≡ l.byte → u.at ≡ t.at + 1 → u.bits ≡ t.bits + l.bit
    → bits_left t (l ∷ ls) word ≡ bits_left u ls word
unfolding bits_left letter_bits
same_letter t u l ls word d inside same at bits =
    rw (drop_more word t.at d inside, eq-eqb (get_or word t.at d) l.byte same, at, bits) (twice t.bits l.bit (letter_bits ls (drop (t.at + 1) word)))

differ : (a b : ℕ) → (a ≡ b → ⊥) → nat_eq a b ≡ false
differ a b h = grind (arith, nat_tests)

pub other_letter : (t : Taken) (l : Letter) (ls : List Letter) (word : List ℕ) (d : ℕ) → t.at < length word → (get_or word t.at d ≡ l.byte → ⊥) → bits_left t (l ∷ ls) word ≡ bits_left t ls word
unfolding bits_left letter_bits
other_letter t l ls word d inside other = rw (drop_more word t.at d inside, differ (get_or word t.at d) l.byte other) refl

plain : (o : Option ℕ) → option_map (λ n. 0 + n) o ≡ o
plain None = refl
plain (Some n) = ap (λ (m : ℕ). Some m) (omega arith)

pub begun : (t : Taken) (word : List ℕ) → t.bits ≡ 0 → t.at ≡ 0 → letter_bits fence_letters word ≡ bits_left t fence_letters word
unfolding bits_left
begun t word bits at = rw (bits, at, plain (letter_bits fence_letters word)) refl

pub all_taken : (t : Taken) (word : List ℕ) → t.at ≡ length word → bits_left t [] word ≡ Some t.bits
unfolding bits_left letter_bits
all_taken t word at = rw (drop_all t.at word (omega (arith, at))) (ap (λ (m : ℕ). Some m) (omega arith))

pub some_taken : (t : Taken) (word : List ℕ) (d : ℕ) → t.at < length word → bits_left t [] word ≡ None
unfolding bits_left letter_bits
some_taken t word d more = rw (drop_more word t.at d more) refl

-- The next letter of a set.
pub ruleset letter_cases = (no_byte, same_letter, other_letter)
