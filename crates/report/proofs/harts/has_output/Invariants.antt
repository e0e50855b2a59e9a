use Rattle.std.proofs.Common.{◌≡◌, drop, take}
use Rattle.text_model.specs.Report.{put_texts}
use Rattle.report.specs.LineParts.{any_byte}
use Rattle.report.proofs.harts.has_output.Given as goal

abbrev pub invariant-loop-place : goal.invariant-loop-place
invariant-loop-place l = let ops = take l.end l.ops.items in any_byte (put_texts l.hart (drop l.place ops)) ≡ any_byte (put_texts l.hart ops)
