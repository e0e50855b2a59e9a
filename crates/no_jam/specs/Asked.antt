-- The turns of one child of a bus.
use Rattle.std.specs.Prelude.{ℕ}
use Rattle.no_jam.specs.DdmTypes.declared.turns.Turn.{Turn}
use Rattle.no_jam.specs.declared.search.Asked.{Asked}

-- its reply, or its request
abbrev pub child_turn : Asked → ℕ → ℕ → Turn
child_turn Asked.Reply bus = Turn.Reply bus
child_turn Asked.Request bus = Turn.Request bus
