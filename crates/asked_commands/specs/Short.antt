-- Segments of which the file has so few bytes that images of up to 64 of them are short.
use Rattle.std.specs.Prelude.{◌≤◌, length}
use Rattle.asked_commands.specs.TreeModel.Start.Sources.{SegmentValue}

abbrev pub IsShort : SegmentValue → Type 0
IsShort s = length s.bytes ≤ 4096
