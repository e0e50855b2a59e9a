use Rattle.std.proofs.Common.{◌+◌, ◌-◌, drop, length, take, subst, ◌∙◌}
use Rattle.schedule_log.specs.Reader.{ReadUpTo}
use Rattle.schedule_log.proofs.ReadLines.{read-next}
use Rattle.schedule_log.proofs.reading.read_lines.Goals as goal

pub lines-preserved : goal.lines-preserved
lines-preserved c =
    let before = c.args.turns.now.items in
    let made = c.read_remembered.result.0 in
    let left = c.read_remembered.result.1.now in
    let used = c.in-Turn.used in
    let old : ReadUpTo c.lines.seen c.args.first_lines c.args.first c.args.text.now before c.lines.made c.lines.left.now c.reserve.new.self.items = rw c.lines.invariant.seen (rw c.reserve.ensures.items c.lines.invariant.read) in
    let read = c.read_remembered.ensures.lines c.args.first_lines c.args.first c.args.text.now before old in
    let next = read-next c.lines.seen c.args.first_lines c.args.first c.args.text.now before made left c.read_remembered.new.turns.items c.in-Turn.turn used c.push_reserved.new.self.items read c.in-Turn.ensures.step c.push_reserved.ensures.items in
    record {
      read = subst (λ s. ReadUpTo s c.args.first_lines c.args.first c.args.text.now before (made + 1) (take (length left - used) (drop used left)) c.push_reserved.new.self.items) c.lines.invariant.seen next;
      seen = c.in-Turn.ensures.same ∙ c.lines.invariant.seen;
    }
