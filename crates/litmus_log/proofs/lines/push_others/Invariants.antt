use Rattle.std.proofs.Common.{◌≡◌, ◌++◌, drop}
use Rattle.litmus_model.specs.Kept.{test_from}
use Rattle.litmus_model.specs.StatesText.{others_text}
use Rattle.litmus_log.proofs.lines.push_others.Given as goal

abbrev pub invariant-loop-place : goal.invariant-loop-place
invariant-loop-place l =
    l.initial.out.items ++ others_text (test_from l.fn.test) l.fn.item_bytes l.fn.targets l.fn.words ≡ l.out.items ++ others_text (test_from l.fn.test) l.fn.item_bytes (drop l.place l.fn.targets) (drop l.place l.fn.words)
