-- Lines, each ended by a line feed.
use Rattle.std.specs.Prelude.{ℕ, ◌+◌, Bool, nat_eq, nat_le, List, Option, Some, None, length, take, position, if◌then◌else◌}
use Rattle.ddm_text.specs.declared.lines.LineCut.{LineCut}
use Rattle.ddm_text.specs.declared.lines.LineCut.TheVariants.{Line, LineTooLong, NoEndOfLine}

-- the byte that ends a line
abbrev pub is_line_feed : ℕ → Bool
is_line_feed byte = nat_eq byte 10

-- the first line of a text, if it has at most this many bytes: the place of its end among the bytes that are looked at
abbrev pub cut_at : List ℕ → ℕ → Option ℕ → LineCut
cut_at text most (Some place) = Line place
cut_at text most None = if nat_le (length text) most then NoEndOfLine else LineTooLong

-- The first line of a text: its number of bytes, or why there is none. One byte more than the limit is looked at.
unfoldable pub first_line : List ℕ → ℕ → LineCut
first_line text most = cut_at text most (position is_line_feed (take (most + 1) text))
