use Rattle.std.proofs.Common.{◌≡◌, drop}
use Rattle.std.specs.Prelude.{fold}
use Rattle.std.specs.List.{flat_map}
use Rattle.litmus_model.specs.Test.{chunk_names, with_name}
use Rattle.litmus_test.proofs.locations.push_chunks.Given as goal

abbrev pub invariant-loop-chunk : goal.invariant-loop-chunk
invariant-loop-chunk l = fold with_name l.fn.names.items (flat_map chunk_names l.chunks) ≡ fold with_name l.names.items (flat_map chunk_names (drop l.chunk-index l.chunks))
