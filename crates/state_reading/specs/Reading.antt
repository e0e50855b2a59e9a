-- Reading of words one by one: what was read, or why the words are refused. Words are counted from the first one of a checkpoint.
-- Letters: k is the number of the next word, ws are the words from it on.
-- To be believed: it is how a checkpoint is judged.
use Rattle.std.specs.Prelude.{ℕ, zero, suc, ◌+◌, Bool, true, List, [], ◌∷◌, Result, Ok, Err, if◌then◌else◌}
use Rattle.state_reading.specs.declared.StateRefusal.{StateRefusal}
use Rattle.state_reading.specs.declared.StateRefusal.TheVariants.{Cut, BadWord}

-- what was read, the number of the word after it, and the words from that one on
pub record Read (A : Type 0) : Type 0 where
  pub value : A
  pub at : ℕ
  pub rest : List ℕ

module _ {A B : Type 0} where
  -- one after the other
  abbrev pub and_then : Result (Read A) StateRefusal → (A → ℕ → List ℕ → Result (Read B) StateRefusal) → Result (Read B) StateRefusal
  and_then (Ok r) f = f r.value r.at r.rest
  and_then (Err e) f = Err e

module _ {A : Type 0} where
  -- nothing is read
  abbrev pub given : A → ℕ → List ℕ → Result (Read A) StateRefusal
  given a k ws = Ok (record { value = a; at = k; rest = ws })

  -- the same step so many times
  unfoldable pub times : (A → ℕ → List ℕ → Result (Read A) StateRefusal) → ℕ → A → ℕ → List ℕ → Result (Read A) StateRefusal
  times step zero a k ws = given a k ws
  times step (suc n) a k ws = and_then (step a k ws) (times step n)

-- the next word, which has to pass
abbrev pub word_that : (ℕ → Bool) → ℕ → List ℕ → Result (Read ℕ) StateRefusal
word_that ok k [] = Err (Cut k)
word_that ok k (w ∷ ws) = if ok w then given w (k + 1) ws else Err (BadWord k)

abbrev pub any_word : ℕ → Bool
any_word w = true

-- so many words, each of which has to pass
unfoldable pub words_that : (ℕ → Bool) → ℕ → ℕ → List ℕ → Result (Read (List ℕ)) StateRefusal
words_that ok zero k ws = given [] k ws
words_that ok (suc n) k ws = and_then (word_that ok k ws) (λ w k ws. and_then (words_that ok n k ws) (λ more k ws. given (w ∷ more) k ws))
