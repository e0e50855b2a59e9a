use Rattle.std.proofs.Common.{sym, subst, arith}
use Rattle.ddm_tree.specs.Quiet.{HartsAgree}
use Rattle.ddm_tree.proofs.QuietTable.{harts-noted}
use Rattle.ddm_tree.proofs.idle.put_idle.Goals as goal

pub returns-then-place-len-clause-harts : goal.returns-then-place-len-clause-harts
returns-then-place-len-clause-harts c agree =
    let known = c.idle.inside.known.items in
    harts-noted c.args.place c.args.known c.idle_as-busy.result known c.args.quiet.now c.note_hart.new.known (omega (arith, c.if-place-len.true, c.len.ensures)) c.idle_as-busy.ensures c.note_hart.ensures (subst (HartsAgree c.args.quiet.now) (sym c.idle.view_is) agree)
