use Rattle.std.proofs.Common.{◌≡◌, drop}
use Rattle.std.specs.Prelude.{fold}
use Rattle.std.specs.List.{flat_map}
use Rattle.litmus_model.specs.Test.{chunk_targets, with_target}
use Rattle.litmus_test.proofs.observed.push_chunks.Given as goal

abbrev pub invariant-loop-chunk : goal.invariant-loop-chunk
invariant-loop-chunk l =
    fold with_target l.fn.targets.items (flat_map chunk_targets l.chunks) ≡ fold with_target l.targets.items (flat_map chunk_targets (drop l.chunk-index l.chunks))
