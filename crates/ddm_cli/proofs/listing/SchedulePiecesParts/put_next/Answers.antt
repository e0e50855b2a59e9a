use Rattle.std.proofs.Common.{sym, ◌∙◌}
use Rattle.ddm_cli.proofs.Listed.{end_left, lines_put}
use Rattle.ddm_cli.proofs.listing.SchedulePiecesParts.put_next.Goals as goal

pub returns-then-self-eq0-clause-part : goal.returns-then-self-eq0-clause-part
returns-then-self-eq0-clause-part c =
    sym c.self.view_is ∙ end_left c.self.inside.turns.left c.self.inside.is_ended c.args.line.now c.push.new.self (c.self.invariant ∙ c.if-self-eq0.true) c.if-self.false c.requires c.push.ensures

pub returns-else-self-eq0-clause-part : goal.returns-else-self-eq0-clause-part
returns-else-self-eq0-clause-part c =
    let put = c.put_lines-self-inside in
    sym c.self.view_is ∙ lines_put c.self.inside.turns.left put.new.turns.left c.self.inside.is_ended put.new.line c.if-self.false put.ensures.lines
