use Rattle.std.proofs.Common.{◌≡◌, ◌+◌, ◌++◌, ◌≤◌, drop}
use Rattle.litmus_model.specs.Image.{own_code, resolved_from}
use Rattle.litmus_model.specs.Sound.{instruction_count}
use Rattle.litmus_image.proofs.own_code.push_own.Given as goal

abbrev pub invariant-loop-step : goal.invariant-loop-step
invariant-loop-step l = record {
  whole : l.fn.code.items ++ own_code l.steps ≡ l.code.items ++ resolved_from l.steps l.at (drop l.step-index l.steps);
  near : l.at + instruction_count (drop l.step-index l.steps) ≤ 512;
}
