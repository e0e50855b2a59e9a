use Rattle.std.proofs.Common.{◌+◌, ◌-◌, ◌*◌, arith}
use Rattle.checkpoint.proofs.FileWords.{word-written}
use Rattle.checkpoint.proofs.file.write_words.Goals as goal

pub loop-at-preserved : goal.loop-at-preserved
loop-at-preserved c =
    let at = c.loop-at.at in
    word-written c.loop-at.words c.args.bytes.now at (4 * at + 4 - 4 * at) c.from_le_bytes.result (omega arith) (omega arith) (λ i. omega (arith, c.type_inv.bytes i)) (omega arith) c.loop-at.invariant c.from_le_bytes.ensures
