use Rattle.std.proofs.Common.{◌++◌, ap, subst}
use Rattle.ddm_cli.specs.Printed.{Writes}
use Rattle.ddm_cli.proofs.Telling.{writes_more, writes_of}
use Rattle.ddm_cli.proofs.printing.write_run.Goals as goal

pub returns-clause-written : goal.returns-clause-written
returns-clause-written g c =
    let old = g.K.Sink.held c.args.out.now in
    let new = g.K.Sink.held c.write_pieces.new.sink in
    let w = c.write_pieces.result in
    let trace = c.deref.result.now in
    let report = c.args.report.now in
    let both = ap (λ t. t ++ report) c.deref.ensures.value in
    subst (λ t. Writes old new t w) both (writes_more old _ new trace report w c.in_ok-write_all.ensures.ok (writes_of _ new report w c.write_pieces.ensures.ok c.write_pieces.ensures.err))
