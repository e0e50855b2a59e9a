use Rattle.ddm_cli.specs.AnyMachine.Any.{machine_state}
use Rattle.ddm_cli.proofs.RunsInPieces.{rest_written}
use Rattle.ddm_cli.proofs.resuming.write_rest.Goals as goal

pub returns-clause-ran : goal.returns-clause-ran
returns-clause-ran g c =
    rest_written c.args.tree.now.levels (g.F.Shelf.told c.args.files.now c.args.name.now) c.args.first (machine_state c.args.machine.now) (machine_state c.schedule_made.new.machine) c.in_ok-made.made (g.K.Sink.held c.args.out.now) (g.K.Sink.held c.write_report.new.out) c.in_ok-write_report.field-0 c.in_ok-made.ensures.all c.in_ok-write_report.ensures.written
