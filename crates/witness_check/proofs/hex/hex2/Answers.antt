use Rattle.std.proofs.Common.{arith}
use Rattle.witness_check.proofs.HexCounts.{hex2_is, hex2_none, hex2_other, hex2_small}
use Rattle.witness_check.proofs.hex.hex2.Goals as goal

pub returns-then-word-ne2 : goal.returns-then-word-ne2
returns-then-word-ne2 c = hex2_other c.args.word.now c.if-word-ne2.true

pub overflow_cast-result : goal.overflow_cast-result
overflow_cast-result c = omega (arith, hex2_small c.args.word.now c.two_digits-n.result c.if-word-ne2.false c.two_digits-n.ensures.value c.if-n-lt-NONE.true)

pub returns-then-n-lt-NONE : goal.returns-then-n-lt-NONE
returns-then-n-lt-NONE c = hex2_is c.args.word.now c.two_digits-n.result c.if-word-ne2.false c.two_digits-n.ensures.value c.if-n-lt-NONE.true

pub returns-else-n-lt-NONE : goal.returns-else-n-lt-NONE
returns-else-n-lt-NONE c = hex2_none c.args.word.now c.two_digits-n.result c.if-word-ne2.false c.two_digits-n.ensures.value c.if-n-lt-NONE.false
