use Rattle.std.proofs.Common.{◌≡◌, ◌*◌, ◌≤◌, length}
use Rattle.litmus_model.specs.Kept.{test_from}
use Rattle.litmus_model.specs.Image.{begins_from}
use Rattle.litmus_image.specs.Made.{all_of}
use Rattle.litmus_image.proofs.Blocks.{first_blocks}
use Rattle.litmus_image.proofs.assembling.blocks_of.Given as goal

abbrev pub invariant-loop-thread : goal.invariant-loop-thread
invariant-loop-thread l = record {
  code : l.code.items ≡ all_of (first_blocks l.runs (test_from l.test) l.item_bytes l.thread);
  begins : l.begins.items ≡ begins_from l.first (first_blocks l.runs (test_from l.test) l.item_bytes l.thread);
  short : length l.code.items ≤ 708 * l.thread;
}
