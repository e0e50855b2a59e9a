use Rattle.std.proofs.Common.{◌≡◌, ℕ, ◌-◌, ◌<◌, drop, length, take, ap, ◌∙◌, length-drop, arith}
use Rattle.std.proofs.lemmas.List.{take_rest}
use Rattle.schedule_log.specs.Steps.{BeginsWithTurn}
use Rattle.schedule_log.proofs.ReadLines.{read-next}
use Rattle.schedule_log.proofs.reading.read_remembered.Goals as goal

pub lines-preserved : goal.lines-preserved
lines-preserved c =
    let left = c.lines.left.now in
    let turn = c.turn.result in
    let used = c.in-Some.used in
    let one_more : c.lines.made < 1048576 = omega (arith, c.lines.invariant.few) in
    let begins : (lines : ℕ) → BeginsWithTurn c.args.seen.now lines c.lines.made left turn used = λ lines. rw c.turn.ensures (c.in-Some.ensures.turn c.args.seen.now c.places-places.ensures.seen lines c.lines.made one_more) in
    let rest : length (take (length left - used) (drop used left)) ≡ length left - used = ap length (take_rest left used) ∙ length-drop used left in
    record {
      few = omega (arith, rest, c.lines.invariant.few, c.in-Some.ensures.some, c.in-Some.ensures.within);
      room = omega (arith, rest, c.lines.invariant.room, c.in-Some.ensures.some, c.in-Some.ensures.within, c.push_reserved.ensures.len, c.push_reserved.ensures.capacity);
      read = λ lines first whole before old. read-next c.args.seen.now lines first whole before c.lines.made left c.lines.turns.items turn used _ (c.lines.invariant.read lines first whole before old) (begins _) c.push_reserved.ensures.items;
    }
