-- The schedule of seed 42 on a tree of two leaves. The words are the check outputs that the generator's author has published.
use Rattle.std.specs.Prelude.{◌≡◌, [], ◌∷◌, codes}
use Rattle.text_model.specs.Schedule.{ShapeView, schedule_text}
use Rattle.text_model.specs.Seeded.{seeded_generator, words_of, seeded_turns}
use Rattle.worked_examples.specs.Programs.{tree_of, shape_of}

abbrev pub shape : ShapeView
shape = shape_of (tree_of ((2 ∷ []) ∷ []) 4 1 1 1)

pub record SeededSchedule : Type 0 where
  pub words : words_of (seeded_generator 42) 6 ≡ 0xa15c02b7 ∷ 0x7b47f409 ∷ 0xba1d3330 ∷ 0x83d2f293 ∷ 0xbfa4784b ∷ 0xcbed606e ∷ []
  pub text : schedule_text (seeded_turns shape 42 3) ≡ codes "g 0 r 1\nh 1 73\ng 0 q 1\nend\n"
