use Rattle.std.proofs.Common.{◌≡◌, ◌-◌, ◌++◌}
use Rattle.text_model.specs.Seeded.{words_of}
use Rattle.made_image.specs.MadeImage.{ending, made_program, program_bytes, rounds_of}
use Rattle.made_image.proofs.making.made_code.Given as goal

-- the program so far, and what is left of it
abbrev pub invariant-loop-round : goal.invariant-loop-round
invariant-loop-round l =
    l.code.items ++ program_bytes (rounds_of (words_of l.words (l.fn.rounds - l.round)) ++ ending) ≡ program_bytes (made_program l.fn.seed l.fn.rounds)
