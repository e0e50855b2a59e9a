-- The numbers of a key, level by level.
use Rattle.std.proofs.Common.{◌≡◌, ℕ, List, [], ◌++◌, take, refl, decimal, append_assoc}
use Rattle.std.specs.Prelude.{codes}
use Rattle.std.proofs.lemmas.List.{append-nil}
use Rattle.report.specs.DdmTypes.declared.keys.Key.{Key}
use Rattle.text_model.specs.Report.{level_numbers, number_stops}

-- the two numbers of a level
abbrev pub level_text : ℕ → ℕ → List ℕ
level_text stamp child = decimal stamp ++ codes "." ++ decimal child ++ codes "."

pub no_level : (key : Key) → number_stops (take 0 (level_numbers key)) ≡ []
unfolding number_stops
no_level key = refl

pub one_level : (key : Key) → number_stops (take 2 (level_numbers key)) ≡ level_text key.s0 key.c0
unfolding number_stops
one_level key = simp (append_assoc, append-nil)

pub two_levels : (key : Key) → number_stops (take 4 (level_numbers key)) ≡ level_text key.s0 key.c0 ++ level_text key.s1 key.c1
unfolding number_stops
two_levels key = simp (append_assoc, append-nil)

pub three_levels : (key : Key) → number_stops (take 6 (level_numbers key)) ≡ level_text key.s0 key.c0 ++ level_text key.s1 key.c1 ++ level_text key.s2 key.c2
unfolding number_stops
three_levels key = simp (append_assoc, append-nil)

pub four_levels : (key : Key) → number_stops (take 8 (level_numbers key)) ≡ level_text key.s0 key.c0 ++ level_text key.s1 key.c1 ++ level_text key.s2 key.c2 ++ level_text key.s3 key.c3
unfolding number_stops
four_levels key = simp (append_assoc, append-nil)
