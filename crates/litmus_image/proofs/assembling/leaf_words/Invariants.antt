use Rattle.std.proofs.Common.{◌≡◌}
use Rattle.litmus_image.specs.Made.{leaf_words}
use Rattle.litmus_image.proofs.assembling.leaf_words.Given as goal

abbrev pub invariant-loop-leaf : goal.invariant-loop-leaf
invariant-loop-leaf l = l.code.items ≡ leaf_words l.places l.begins l.leaf
