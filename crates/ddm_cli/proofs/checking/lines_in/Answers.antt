use Rattle.std.proofs.Common.{Ok, Err}
use Rattle.ddm_cli.proofs.Verdicts.{comes_to}
use Rattle.ddm_cli.proofs.checking.lines_in.Goals as goal

pub returns-in-Ok-clause-comes : goal.returns-in-Ok-clause-comes
returns-in-Ok-clause-comes g c = comes_to (g.F.Shelf.told c.args.files.now c.args.name.now) c.args.reader c.feed_file.new.reader (Ok c.in-Ok.lines) c.in_ok-feed_file.ensures.read c.in-Ok.ensures

pub returns-in-Err-clause-cause : goal.returns-in-Err-clause-cause
returns-in-Err-clause-cause g c = comes_to (g.F.Shelf.told c.args.files.now c.args.name.now) c.args.reader c.feed_file.new.reader (Err c.in-Err.refusal) c.in_ok-feed_file.ensures.read c.in-Err.ensures
