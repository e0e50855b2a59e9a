-- Worked examples: what the runs of seeds of two leaves come to, whose harts load a word of the first item and exit with it. The
-- expected values are those of an independent program.
use Rattle.std.specs.Prelude.{◌≡◌, ℕ, List, ◌++◌, codes}
use Rattle.recording_model.specs.Examples.{loads_of, shape_of, two_leaves}
use Rattle.recording_model.specs.declared.SeedKind.{SeedKind}
use Rattle.survey_model.specs.Survey.{survey_text}

-- of so many turns, from a first seed on so many seeds
abbrev pub survey_of : SeedKind → ℕ → ℕ → ℕ → List ℕ
survey_of kind turns first count = survey_text kind (shape_of two_leaves) turns (loads_of two_leaves) first count

pub record SmallSurveys : Type 0 where
  pub even :
      survey_of SeedKind.Even 5 0 4
      ≡ codes "survey 2 runs 4\noutcome 2 0 turns hart 0 exit 663 out - hart 1 running out -\n"
      ++ codes "outcome 2 1 turns hart 0 running out - hart 1 running out -\nend\n"
  pub skewed :
      survey_of SeedKind.Skewed 20 0 1
      ≡ codes "survey 1 runs 1\noutcome 1 0 halted hart 0 exit 663 out - hart 1 exit 663 out -\nend\n"
