use Rattle.std.proofs.Common.{List, ◌∙◌, ap}
use Rattle.run_engine.specs.DdmTypes.declared.sizes.Start.{Start}
use Rattle.run_engine.specs.TreeModel.Start.Sources.{ImageValue, SegmentValue, start_of_harts}
use Rattle.start_memory.specs.Memory.{memory_spans}
use Rattle.run_engine.proofs.Built.{few_from}
use Rattle.run_engine.proofs.contents.items.Goals as goal

pub from_spans-requires-clause-few : goal.from_spans-requires-clause-few
from_spans-requires-clause-few c =
    let same = c.deref.ensures.value ∙ ap (λ (i : ImageValue). i.segments) c.image.view_is in
    let few = few_from c.args.tree.now c.args.image.now c.item_bytes-2.result c.in_ok-spans.spans.items c.in_ok-judge.ensures.none c.item_bytes-2.ensures.bytes
    (c.in_ok-spans.ensures.spans ∙ ap (λ (s : Start). memory_spans s c.deref.result.now) c.start_of_harts.ensures.start ∙ ap (λ (segments : List SegmentValue). memory_spans (start_of_harts c.args.tree.now c.args.image.now) segments) same) in
    rw (c.deref-3.ensures.value, c.keep_filled.ensures.items c.item_bytes-2.result) few
