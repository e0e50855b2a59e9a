use Rattle.ddm_cli.proofs.Images.{begins_for}
use Rattle.ddm_cli.proofs.files.setting_file.Goals as goal

pub returns-clause-found : goal.returns-clause-found
returns-clause-found g c = begins_for c.args.tree.now (g.F.Shelf.told c.args.files.now c.args.name.now) c.in_ok-image.image c.begun.result c.in_ok-image.ensures.found c.begun.ensures.begun c.begun.ensures.accepted
