use Rattle.std.proofs.Common.{length, ap, arith}
use Rattle.ddm_cli.proofs.Listed.{line_more, line_some}
use Rattle.ddm_cli.proofs.listing.put_lines.Goals as goal

pub lines-preserved : goal.lines-preserved
lines-preserved c =
    let t = c.next_turn.result in
    record {
      fewer = omega (arith, c.lines.invariant.fewer);
      counted = omega (arith, ap length c.next_turn.ensures.turn, c.lines.invariant.counted);
      lines = line_more _ c.lines.line c.put_turn.new.line t c.lines.turns.left c.next_turn.new.self.left c.next_turn.ensures.turn c.lines.invariant.lines c.put_turn.ensures.text;
      some = λ _. line_some c.lines.line c.put_turn.new.line t c.put_turn.ensures.text;
    }
