use Rattle.std.proofs.Common.{sym}
use Rattle.witness_check.proofs.ShortNumbers.{front_inside, short_end}
use Rattle.witness_check.proofs.words.number_end.Goals as goal

pub is_short-requires : goal.is_short-requires
is_short-requires c = front_inside c.args.text.now c.digits_in_front-end.result c.digits_in_front-end.ensures

pub is_stop-requires : goal.is_stop-requires
is_stop-requires c = front_inside c.args.text.now c.digits_in_front-end.result c.digits_in_front-end.ensures

pub returns-then-is_stop : goal.returns-then-is_stop
returns-then-is_stop c = short_end c.args.text.now c.digits_in_front-end.result c.digits_in_front-end.ensures (sym c.if-not-is_short.ensures) (sym c.if-is_stop.ensures)
