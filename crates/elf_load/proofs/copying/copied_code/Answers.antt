use Rattle.std.proofs.Common.{List, ap, ◌∙◌}
use Rattle.std.proofs.lemmas.Result.{IfOk-weaker}
use Rattle.tree_model.specs.Start.Sources.{ImageValue, SegmentValue}
use Rattle.tree_model.specs.Start.Memory.{start_code}
use Rattle.elf_load.specs.ImageRule.{image_value}
use Rattle.elf_load.proofs.copying.copied_code.Goals as goal

pub returns : goal.returns
returns c =
    let image = c.args.image.now in
    let same = c.deref.ensures.value ∙ ap (λ (i : ImageValue). i.segments) c.image.view_is in
    IfOk-weaker c.code_of.result _ _ (λ code is. is image.entry ∙ ap (λ (segments : List SegmentValue). start_code (image_value image.entry segments)) same) c.code_of.ensures
