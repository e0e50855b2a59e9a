use Rattle.std.proofs.Common.{◌<◌, Some, length, sym, ap, ◌∙◌, arith}
use Rattle.report.proofs.InspectorCrate.OneMore.{got-some, more-of}
use Rattle.report.specs.DdmText.Adds.{◌▸◌}
use Rattle.text_model.specs.Report.{put_text_by, put_texts}
use Rattle.report.proofs.harts.push_puts.Goals as goal

pub loop-place-preserved : goal.loop-place-preserved
unfolding put_texts
loop-place-preserved g c =
    let ops = c.args.ops.now.items in
    let op = c.get.result in
    let inside : c.loop-place.place < length ops = omega (arith, c.loop-place-test.true, c.len-place-end.ensures) in
    let here = got-some ops c.loop-place.place op inside ∙ ap Some (sym (c.get.ensures op)) in
    rw (more-of (put_text_by c.args.hart) ops c.loop-place.place op here) (c.loop-place.invariant ▸ c.in_ok-push_put_by.ensures.text)
