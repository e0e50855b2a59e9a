-- What a call that reads answers, beside the definition of what it reads.
-- To be believed: contracts of code speak of it.
use Rattle.std.specs.Prelude.{◌≡◌, ℕ, List, drop, Result, Ok, Err}
use Rattle.state_reading.specs.declared.StateRefusal.{StateRefusal}
use Rattle.state_reading.specs.Reading.{Read}

module _ {A : Type 0} where
  -- what was read, after which `at` is the number of the next word; or the refusal
  abbrev pub Gives : Result (Read A) StateRefusal → List ℕ → ℕ → Result A StateRefusal → Type 0
  Gives read words at (Ok a) = read ≡ Ok (record { value = a; at = at; rest = drop at words })
  Gives read words at (Err e) = read ≡ Err e

  -- the number of the next word, after which the part has the value that was read; or the refusal
  abbrev pub IsRead : Result (Read A) StateRefusal → List ℕ → A → Result ℕ StateRefusal → Type 0
  IsRead read words value (Ok at) = read ≡ Ok (record { value = value; at = at; rest = drop at words })
  IsRead read words value (Err e) = read ≡ Err e
