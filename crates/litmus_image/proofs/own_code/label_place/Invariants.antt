use Rattle.std.proofs.Common.{◌≡◌, ◌+◌, ◌≤◌, drop}
use Rattle.litmus_model.specs.Image.{label_place}
use Rattle.litmus_model.specs.Sound.{instruction_count}
use Rattle.litmus_image.proofs.own_code.label_place.Given as goal

abbrev pub invariant-loop-step : goal.invariant-loop-step
invariant-loop-step l = record {
  whole : label_place l.name l.steps ≡ l.place + label_place l.name (drop l.step-index l.steps);
  near : l.place + instruction_count (drop l.step-index l.steps) ≤ 512;
}
