-- A text that begins with a turn's line in its one spelling.
use Rattle.std.specs.Prelude.{◌≡◌, ℕ, ◌+◌, ◌<◌, List, [], ◌∷◌, ◌++◌, codes, decimal}
use Rattle.schedule_log.specs.DdmTypes.declared.turns.Turn.{Turn}
use Rattle.text_model.specs.Schedule.{meaning_of, turn_line_of, turn_text}
use Rattle.text_model.specs.Lines.{Lacks}

-- a text begins so, and what is behind
pub record Begins (text front rest : List ℕ) : Type 0 where
  pub is : text ≡ front ++ rest

-- with a digit
pub record BeginsWithDigit (text : List ℕ) (digit : ℕ) (rest : List ℕ) : Type 0 where
  pub few : digit < 10
  pub front : Begins text ((48 + digit) ∷ []) rest

-- with a number of at most three digits
pub record BeginsWithNumber (text : List ℕ) (n : ℕ) (rest : List ℕ) : Type 0 where
  pub few : n < 1000
  pub front : Begins text (decimal n) rest

-- with a letter, a space and such a number of a child
pub record BeginsWithChild (text : List ℕ) (letter child : ℕ) (rest : List ℕ) : Type 0 where
  pub few : child < 1000
  pub front : Begins text (letter ∷ 32 ∷ decimal child) rest

-- with the line of a turn, which says that turn
pub record BeginsWithLine (text : List ℕ) (turn : Turn) (rest : List ℕ) : Type 0 where
  pub front : Begins text (turn_text turn ++ codes "\n") rest
  pub says : meaning_of (turn_text turn) ≡ turn_line_of turn
  pub lacks : Lacks 10 (turn_text turn)
