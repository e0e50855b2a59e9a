use Rattle.std.proofs.lemmas.Result.{IfOk-weaker}
use Rattle.ddm_cli.proofs.Images.{takes_image}
use Rattle.ddm_cli.proofs.files.image_file.Goals as goal

pub returns-clause-taken : goal.returns-clause-taken
returns-clause-taken g c =
    IfOk-weaker c.built.result _ _ (λ m accepted. takes_image c.args.tree.now (g.F.Shelf.told c.args.files.now c.args.name.now) c.in_ok-image.image c.in_ok-image.ensures.found accepted) c.built.ensures.accepted
