use Rattle.ddm_tree.proofs.QuietTable.{hart-noted, hart-past}
use Rattle.ddm_tree.proofs.quiet.note_hart.Goals as goal

pub returns-then-hart-known : goal.returns-then-hart-known
returns-then-hart-known c = hart-noted c.args.hart c.args.known.now c.args.busy c.hart_known.result c.if-hart-known.true c.hart_known.ensures

pub returns-else-hart-known : goal.returns-else-hart-known
returns-else-hart-known c = hart-past c.args.hart c.args.busy c.args.known.now c.if-hart-known.false
