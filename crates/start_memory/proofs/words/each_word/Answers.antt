use Rattle.std.proofs.Common.{◌+◌, ◌*◌, length, arith}
use Rattle.std.proofs.lemmas.List.FromFn.{fill_by_all}
use Rattle.start_memory.specs.TreeModel.Start.Memory.{memory_word}
use Rattle.start_memory.proofs.words.each_word.Goals as goal

pub returns : goal.returns
returns c =
    fill_by_all (λ k. memory_word c.args.segments.now (c.args.a + 4 * k)) c.loop-number.words (length c.args.words.now) 0 (omega arith) (λ k below. c.loop-number.invariant k (omega arith))
