use Rattle.std.proofs.Common.{take}
use Rattle.std.specs.List.{flat_map}
use Rattle.ddm_text.specs.Adds.{Adds}
use Rattle.litmus_model.specs.Kept.{test_from}
use Rattle.litmus_model.specs.StatesText.{chunk_text}
use Rattle.litmus_log.proofs.chunks.push_chunks.Given as goal

abbrev pub invariant-loop-chunk : goal.invariant-loop-chunk
invariant-loop-chunk l = Adds l.initial.out.items l.out.items (flat_map (chunk_text (test_from l.fn.test) l.fn.item_bytes) (take l.chunk-index l.fn.test.chunks.items))
