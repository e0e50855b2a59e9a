use Rattle.std.proofs.Common.{◌≡◌, ◌∙◌, Ok, subst}
use Rattle.std.proofs.lemmas.Result.{IfOk-weaker}
use Rattle.ddm_cli.specs.ElfLoad.ElfFile.{image_of}
use Rattle.ddm_cli.specs.MadeImage.MadeImage.{made_image}
use Rattle.ddm_cli.proofs.Judged.{some_parts}
use Rattle.ddm_cli.proofs.files.made_machine.Goals as goal

pub returns-clause-taken : goal.returns-clause-taken
returns-clause-taken c =
    let loaded = subst (λ file. image_of c.args.tree.now.item_bytes file ≡ Ok c.in_ok-image.image) (c.deref.ensures.value ∙ c.in_ok-bytes.ensures) c.in_ok-image.ensures.image in
    IfOk-weaker c.built.result _ _ (λ m accepted. some_parts (made_image c.args.seed c.args.rounds) c.args.tree.now c.in_ok-image.image loaded accepted) c.built.ensures.accepted
