use Rattle.std.proofs.Common.{subst, sym}
use Rattle.std.proofs.lemmas.Result.{IfErr-weaker}
use Rattle.ddm_cli.specs.TextModel.declared.RunCounts.{RunCounts}
use Rattle.ddm_cli.specs.AnyMachine.Any.{machine_state}
use Rattle.ddm_cli.specs.Made.{CanGoOn}
use Rattle.ddm_words.specs.Kept.{is_summary, is_trace}
use Rattle.ddm_cli.proofs.RunsInPieces.{file_made}
use Rattle.ddm_cli.proofs.Taken.{file_caused}
use Rattle.ddm_cli.proofs.making.turns_made.Goals as goal

pub schedule_made-requires-clause-start : goal.schedule_made-requires-clause-start
schedule_made-requires-clause-start g c = subst (λ (first : RunCounts). CanGoOn c.args.tree.now.levels first (machine_state c.args.machine.now)) (sym c.nothing_counted.ensures) c.requires.start

pub returns-in-File-clause-all : goal.returns-in-File-clause-all
returns-in-File-clause-all g c =
    let made = rw (c.nothing_counted.ensures, c.is_trace.ensures) at c.schedule_made.ensures.all in
    rw c.in-File.is (file_made c.args.tree.now.levels (g.F.Shelf.told c.args.files.now c.in-File.name.now) (is_trace c.args.prints) (is_summary c.args.prints) (machine_state c.args.machine.now) (machine_state c.schedule_made.new.machine) c.schedule_made.result made)

pub returns-in-File-clause-cause : goal.returns-in-File-clause-cause
returns-in-File-clause-cause g c =
    let cause = rw c.nothing_counted.ensures at c.schedule_made.ensures.cause in
    rw c.in-File.is (IfErr-weaker c.schedule_made.result _ _ (file_caused c.args.tree.now.levels (g.F.Shelf.told c.args.files.now c.in-File.name.now) (g.F.Shelf.faults c.args.files.now c.in-File.name.now) (g.F.Shelf.faults c.schedule_made.new.files c.in-File.name.now)) cause)
