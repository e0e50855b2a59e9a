-- Statements that are facts and tests at once: each rule of order is one of them, and both what a proof uses and what
-- computes on an example are drawn from it.
-- To be believed where a rule is relied on; the order of the witness needs no reader here.
use Rattle.std.specs.Prelude.{◌≡◌, ◌⊎◌, Bool, true, false, not, ◌&&◌, ◌||◌, List, [], ◌∷◌, Option, Some, None, if◌then◌else◌, ⊤}

pub data Statement : Type 0 where
  always : Statement
  -- the test passes; it doesn't
  is_so : Bool → Statement
  is_not : Bool → Statement
  both : Statement → Statement → Statement
  either : Statement → Statement → Statement
  -- the statement wherever the test passes; wherever it doesn't
  where_so : Bool → Statement → Statement
  where_not : Bool → Statement → Statement

-- as a fact
abbrev pub Holds : Statement → Type 0
Holds always = ⊤
Holds (is_so b) = b ≡ true
Holds (is_not b) = b ≡ false
Holds (both s t) = Holds s × Holds t
Holds (either s t) = Holds s ⊎ Holds t
Holds (where_so b s) = b ≡ true → Holds s
Holds (where_not b s) = b ≡ false → Holds s

-- as a test
abbrev pub test_of : Statement → Bool
test_of always = true
test_of (is_so b) = b
test_of (is_not b) = not b
test_of (both s t) = test_of s && test_of t
test_of (either s t) = test_of s || test_of t
test_of (where_so b s) = if b then test_of s else true
test_of (where_not b s) = if b then true else test_of s

module _ {X : Type 0} where
  -- of each element
  abbrev pub each : (X → Statement) → List X → Statement
  each s [] = always
  each s (x ∷ xs) = both (s x) (each s xs)

  -- of each element and each one behind it
  abbrev pub each_pair : (X → X → Statement) → List X → Statement
  each_pair s [] = always
  each_pair s (x ∷ xs) = both (each (s x) xs) (each_pair s xs)

  -- of what is there, if it is
  abbrev pub if_there : (X → Statement) → Option X → Statement
  if_there s None = always
  if_there s (Some x) = s x

  -- it is there, and this is so of it
  abbrev pub there_and : (X → Statement) → Option X → Statement
  there_and s None = is_so false
  there_and s (Some x) = s x
