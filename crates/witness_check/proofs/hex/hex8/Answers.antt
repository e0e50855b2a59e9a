use Rattle.std.proofs.Common.{◌≡◌, ◌+◌, ◌*◌, length}
use Rattle.witness_check.proofs.HexCounts.{eight_count, hex8_is, hex8_none, hex8_other}
use Rattle.witness_check.proofs.hex.hex8.Goals as goal

pub returns-then-word-ne8 : goal.returns-then-word-ne8
returns-then-word-ne8 c = hex8_other c.args.word.now c.if-word-ne8.true

pub returns-then-n-lt-NONE : goal.returns-then-n-lt-NONE
returns-then-n-lt-NONE c =
    let long : length c.args.word.now ≡ 8 = c.if-word-ne8.false in
    hex8_is c.args.word.now (c.four_digits-high.result * 65536 + c.four_digits-low.result) long (eight_count _ _ _ _ _ _ _ _ c.four_digits-high.result c.four_digits-low.result c.four_digits-high.ensures.value c.four_digits-low.ensures.value) c.if-n-lt-NONE.true

pub returns-else-n-lt-NONE : goal.returns-else-n-lt-NONE
returns-else-n-lt-NONE c =
    let long : length c.args.word.now ≡ 8 = c.if-word-ne8.false in
    hex8_none c.args.word.now (c.four_digits-high.result * 65536 + c.four_digits-low.result) long (eight_count _ _ _ _ _ _ _ _ c.four_digits-high.result c.four_digits-low.result c.four_digits-high.ensures.value c.four_digits-low.ensures.value) c.if-n-lt-NONE.false
