use Rattle.std.proofs.Common.{take}
use Rattle.report.specs.DdmText.Adds.{Adds}
use Rattle.text_model.specs.Report.{put_texts}
use Rattle.report.proofs.harts.push_puts.Given as goal

abbrev pub invariant-loop-place : goal.invariant-loop-place
invariant-loop-place g l = Adds (g.W.TextBuffer.text l.initial.out) (g.W.TextBuffer.text l.out) (put_texts l.hart (take l.place l.ops.items))
