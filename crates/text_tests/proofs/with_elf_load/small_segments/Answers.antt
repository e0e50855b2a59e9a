use Rattle.std.proofs.Common.{◌≡◌, List, [], ◌∷◌, ◌++◌, length, ap, ◌∙◌}
use Rattle.std.proofs.lemmas.List.{append-nil}
use Rattle.text_tests.specs.TreeModel.Start.Sources.{SegmentValue}
use Rattle.elf_load.specs.Written.{segment_bytes}
use Rattle.text_tests.proofs.with_elf_load.small_segments.Goals as goal

-- the code's bytes, and none of the data
two : (before one both : List SegmentValue) (code blank : SegmentValue) → before ≡ [] → one ≡ before ++ code ∷ [] → both ≡ one ++ blank ∷ [] → length code.bytes ≡ 28 → blank.bytes ≡ [] → length (segment_bytes both) ≡ 28
unfolding segment_bytes
two before one both code blank none first second count empty = rw (second, first, none, empty) (ap length (append-nil code.bytes) ∙ count)

pub returns-clause-short : goal.returns-clause-short
returns-clause-short c =
    two _ _ _ _ _ c.new-segments.ensures.items c.in_ok-push.ensures.items c.in_ok-push-2.ensures.items c.in_ok-code_segment.ensures.short c.new.ensures.items
