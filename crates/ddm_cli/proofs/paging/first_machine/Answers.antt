use Rattle.ddm_cli.specs.AnyMachine.Any.{machine_state}
use Rattle.ddm_cli.proofs.Pages.{first_found}
use Rattle.ddm_cli.proofs.paging.first_machine.Goals as goal

pub returns-clause-found : goal.returns-clause-found
returns-clause-found g c =
    first_found machine_state c.args.tree.now c.in_ok-image.image (g.F.Shelf.told c.args.files.now c.args.name.now) c.built.result c.built.ensures.built c.built.ensures.accepted c.see_image.ensures c.in_ok-image.ensures.found
