use Rattle.std.proofs.Common.{◌≡◌, ℕ, ap, ◌∙◌, List}
use Rattle.std.specs.List.{flat_map}
use Rattle.std.proofs.lemmas.Result.{IfOk-weaker}
use Rattle.elf_load.specs.DdmTypes.CodeMap.{CodeWord, code_of, part_words}
use Rattle.tree_model.specs.Start.Sources.{ImageValue, SegmentValue}
use Rattle.tree_model.specs.Start.Memory.{start_code}
use Rattle.elf_load.proofs.CodeParts.{parts_disjoint, parts_words}
use Rattle.elf_load.proofs.CodeOrder.{segments_code}
use Rattle.elf_load.proofs.code.code_of.Goals as goal

pub from_parts-requires-clause-disjoint : goal.from_parts-requires-clause-disjoint
from_parts-requires-clause-disjoint c = parts_disjoint c.args.segments.now _ c.in_ok-parts_of.ensures c.requires.apart

abbrev image : ℕ → List SegmentValue → ImageValue
image entry segments = record { entry = entry; segments = segments }

pub returns : goal.returns
returns c =
    let parts = c.in_ok-parts_of.field-0.items in
    let segments = c.args.segments.now in
    IfOk-weaker c.from_parts.result
    (λ (code : List CodeWord). code ≡ code_of (flat_map part_words parts))
    (λ (code : List CodeWord). (entry : ℕ) → code ≡ start_code (image entry segments))
    (λ code is entry.
    is ∙
    ap code_of (parts_words segments parts c.in_ok-parts_of.ensures) ∙
    segments_code (image entry segments) c.requires.full c.requires.apart)
    c.from_parts.ensures.code
