-- Answers by which a turn changed nothing.
-- Letters: a is an answer.
-- To be believed with the contracts: they speak of it.
use Rattle.std.specs.Prelude.{Bool, false, not, List, [], ◌∷◌}
use Rattle.recording_model.specs.Doing.{does_by}
use Rattle.film_runs.specs.DdmTypes.declared.answers.TurnAnswer.{TurnAnswer}

-- there is one answer, and its turn did nothing; its hart had halted before or not
abbrev pub one_rests : Bool → List TurnAnswer → Bool
one_rests halted (a ∷ []) = not (does_by a halted)
one_rests halted _ = false
