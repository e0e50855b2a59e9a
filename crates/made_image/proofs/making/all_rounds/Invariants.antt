use Rattle.std.proofs.Common.{◌≡◌}
use Rattle.made_image.specs.Rounds.{first_rounds}
use Rattle.made_image.proofs.making.all_rounds.Given as goal

abbrev pub invariant-loop-word : goal.invariant-loop-word
invariant-loop-word l = l.rounds.items ≡ first_rounds l.word
