-- A test of parts that have been read.
use Rattle.std.specs.Prelude.{ℕ, List}
use Rattle.litmus_model.specs.declared.parts.Given.{Given}
use Rattle.litmus_model.specs.Refusing.{Judged}
use Rattle.litmus_model.specs.Program.{Program}
use Rattle.litmus_model.specs.Condition.{Final}
use Rattle.litmus_model.specs.Test.{Test, distinct, judged_test, names_in, observed_targets}

abbrev pub test_with : List ℕ → Program → List Given → Final → Judged Test
test_with name p init f = judged_test name p init f (observed_targets f) (distinct (names_in init f))
