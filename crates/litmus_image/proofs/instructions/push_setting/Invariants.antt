use Rattle.std.proofs.Common.{◌≡◌, ◌++◌}
use Rattle.litmus_model.specs.Kept.{test_from}
use Rattle.litmus_image.proofs.Pushed.{set_first}
use Rattle.litmus_image.proofs.instructions.push_setting.Given as goal

abbrev pub invariant-loop-number : goal.invariant-loop-number
invariant-loop-number l = l.code.items ≡ l.fn.code.items ++ set_first (test_from l.test) l.item_bytes l.thread l.number
