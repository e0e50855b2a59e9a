use Rattle.std.proofs.Common.{take}
use Rattle.std.specs.List.{flat_map}
use Rattle.ddm_text.specs.Adds.{Adds}
use Rattle.litmus_model.specs.Kept.{test_from}
use Rattle.litmus_model.specs.StatesText.{histogram_line}
use Rattle.litmus_log.proofs.lines.push_histogram.Given as goal

abbrev pub invariant-loop-state : goal.invariant-loop-state
invariant-loop-state l = Adds l.initial.out.items l.out.items (flat_map (histogram_line (test_from l.fn.test) l.fn.item_bytes) (take l.state-index l.states))
