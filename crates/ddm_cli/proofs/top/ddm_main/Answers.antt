use Rattle.std.proofs.Common.{map}
use Rattle.std.specs.String.{string_bytes}
use Rattle.ddm_cli.proofs.Completeness.{completes}
use Rattle.ddm_cli.proofs.InOrder.{in_order}
use Rattle.ddm_cli.proofs.top.ddm_main.Goals as goal

pub returns-clause-complete : goal.returns-clause-complete
returns-clause-complete g c = completes g.F.Shelf.told g.F.Shelf.faults g.K.Sink.held g.K.Sink.faults (map string_bytes c.args.words.now) _ _ _ _ _ c.answer-status.ensures

pub returns-clause-order : goal.returns-clause-order
returns-clause-order g c = in_order g.F.Shelf.told (map string_bytes c.args.words.now) _
