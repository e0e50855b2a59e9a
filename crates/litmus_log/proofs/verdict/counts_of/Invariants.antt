use Rattle.std.proofs.Common.{◌≡◌, ◌+◌, drop}
use Rattle.std.specs.Prelude.{true, false}
use Rattle.litmus_model.specs.Kept.{test_from}
use Rattle.litmus_model.specs.StatesText.{runs_that}
use Rattle.litmus_log.specs.Kept.{times_in}
use Rattle.litmus_log.proofs.verdict.counts_of.Given as goal

abbrev pub invariant-loop-state : goal.invariant-loop-state
invariant-loop-state l = record {
  satisfying : l.counts.satisfying + runs_that true (test_from l.test) l.item_bytes (drop l.state-index l.states) ≡ runs_that true (test_from l.test) l.item_bytes l.states;
  others : l.counts.others + runs_that false (test_from l.test) l.item_bytes (drop l.state-index l.states) ≡ runs_that false (test_from l.test) l.item_bytes l.states;
  times : l.counts.satisfying + l.counts.others + times_in (drop l.state-index l.states) ≡ times_in l.states;
}
