-- Where the first full stop of a word is, one byte more at a time.
use Rattle.std.proofs.Common.{◌≡◌, ℕ, ◌+◌, ◌<◌, ◌≤◌, List, length, drop, get_or, refl, arith}
use Rattle.std.specs.Prelude.{not, nat_eq, false}
use Rattle.std.specs.List.{prefix_len}
use Rattle.std.proofs.lemmas.Bool.Decides.{nat_tests}
use Rattle.std.proofs.lemmas.List.{drop_all, drop_more}
use Rattle.std.proofs.lemmas.List.Folds.{length-prefix_len}
use Rattle.litmus_model.specs.Mnemonics.{stem}

differ : (a b : ℕ) → (a ≡ b → ⊥) → nat_eq a b ≡ false
differ a b h = grind (arith, nat_tests)

pub stop_next : (word : List ℕ) (k d : ℕ) → k < length word → (get_or word k d ≡ 46 → ⊥)
    → prefix_len (λ b. not (nat_eq b 46)) (drop k word) ≡ 1 + prefix_len (λ b. not (nat_eq b 46)) (drop (k + 1) word)
stop_next word k d inside other = rw (drop_more word k d inside, differ (get_or word k d) 46 other) refl

pub stop_found : (word : List ℕ) (k d : ℕ) → k < length word → get_or word k d ≡ 46 → prefix_len (λ b. not (nat_eq b 46)) (drop k word) ≡ 0
stop_found word k d inside stop = rw (drop_more word k d inside, stop) refl

pub stop_done : (word : List ℕ) (k : ℕ) → length word ≤ k → prefix_len (λ b. not (nat_eq b 46)) (drop k word) ≡ 0
stop_done word k past = rw (drop_all k word past) refl

pub as_long : (word : List ℕ) → length (stem word) ≡ prefix_len (λ b. not (nat_eq b 46)) word
as_long word = length-prefix_len (λ b. not (nat_eq b 46)) word
