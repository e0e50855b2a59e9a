-- Images of at most 64 short segments are short.
use Rattle.std.proofs.Common.{◌≡◌, ℕ, ◌+◌, ◌*◌, ◌≤◌, List, [], ◌∷◌, length, arith}
use Rattle.std.specs.Prelude.{All}
use Rattle.std.proofs.lemmas.List.{length-append}
use Rattle.std.proofs.lemmas.List.Elements.{All-head, All-tail}
use Rattle.asked_commands.specs.TreeModel.Start.Sources.{SegmentValue}
use Rattle.asked_commands.specs.ElfLoad.Written.{segment_bytes, written_image}
use Rattle.asked_commands.proofs.ElfLoad.Pushes.{room_for_bytes}
use Rattle.asked_commands.specs.Short.{IsShort}

bytes_fit : (ss : List SegmentValue) → All IsShort ss → length (segment_bytes ss) ≤ 4096 * length ss
unfolding segment_bytes
bytes_fit [] short = omega arith
bytes_fit (s ∷ ss) short =
    let here : length s.bytes ≤ 4096 = All-head IsShort s ss short in
    let rest = bytes_fit ss (All-tail IsShort s ss short) in
    rw (length-append s.bytes (segment_bytes ss)) (omega arith)

pub short_images : (entry : ℕ) (ss : List SegmentValue) → length ss ≤ 64 → All IsShort ss → length (written_image entry ss) ≤ 4194304
short_images entry ss few short =
    let bytes = bytes_fit ss short in
    rw (room_for_bytes entry ss) (omega arith)
