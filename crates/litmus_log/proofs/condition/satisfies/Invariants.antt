use Rattle.std.proofs.Common.{◌≡◌, [], ◌∷◌, drop}
use Rattle.std.specs.Prelude.{fold}
use Rattle.litmus_model.specs.Kept.{test_from}
use Rattle.litmus_model.specs.Satisfies.{level_begun, with_chunk}
use Rattle.litmus_log.specs.Levels.{levels_in}
use Rattle.litmus_log.proofs.condition.satisfies.Given as goal

abbrev pub invariant-loop-chunk : goal.invariant-loop-chunk
invariant-loop-chunk l =
    fold (with_chunk (test_from l.test) l.item_bytes l.words) (level_begun ∷ []) l.test.chunks.items ≡ fold (with_chunk (test_from l.test) l.item_bytes l.words) (levels_in l.levels.items) (drop l.chunk-index l.test.chunks.items)
