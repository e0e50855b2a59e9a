use Rattle.std.proofs.Common.{◌≡◌, ◌+◌, ◌*◌, ◌<◌, ℕ}
use Rattle.std.specs.Prelude.{slice_index}
use Rattle.start_memory.specs.TreeModel.Start.Memory.{memory_word}
use Rattle.start_memory.proofs.words.each_word.Given as goal

abbrev pub invariant-loop-number : goal.invariant-loop-number
invariant-loop-number l = (k : ℕ) → k < l.number → slice_index l.words k ≡ memory_word l.segments (l.a + 4 * k)
