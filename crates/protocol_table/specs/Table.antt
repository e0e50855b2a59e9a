-- The table of the protocol: all rows of a bus, in the order in which they are tried. The first row that applies says
-- what the turn does.
-- Letters: p is the parent of the bus, ns are its children, t is a turn.
use Rattle.std.specs.Prelude.{List, [], ◌∷◌, Option, Some, None}
use Rattle.protocol_table.specs.DdmTypes.declared.keys.Stamp.{Stamp}
use Rattle.tree_model.specs.declared.BusTurn.{BusTurn}
use Rattle.tree_model.specs.State.Values.{DirValue, Node}
use Rattle.tree_model.specs.Turns.Grant.{Judged, nothing_there}
use Rattle.protocol_table.specs.Situation.{Situation, situation_of}
use Rattle.protocol_table.specs.Row.{Row, says}
use Rattle.protocol_table.specs.Requests.{read_joins, read_pending, read_from_child, read_from_parking, read_sent_up}
use Rattle.protocol_table.specs.Requests.{erase_pending, erase_granted, erase_sent_up}
use Rattle.protocol_table.specs.Replies.{reply_for_readers, reply_sent_up}
use Rattle.protocol_table.specs.Entries.{entry_waits, exclusive_arrives, erase_arrives, read_answered_by_child}
use Rattle.protocol_table.specs.Entries.{read_answered_by_parking, data_arrives, inject_for_reader, inject_for_readers}
use Rattle.protocol_table.specs.Entries.{inject_for_child, inject_for_parking}
use Rattle.protocol_table.specs.Leaves.{leave_pending, leave_pending_below, leave_dropped, leave_to_parking}
use Rattle.protocol_table.specs.Leaves.{leave_to_child, leave_has_no_room, inject_to_own_parking}

abbrev pub table : List Row
table =
    read_joins ∷ read_pending ∷ read_from_child ∷ read_from_parking ∷ read_sent_up
    ∷ erase_pending ∷ erase_granted ∷ erase_sent_up
    ∷ reply_for_readers ∷ reply_sent_up
    ∷ entry_waits ∷ exclusive_arrives ∷ erase_arrives ∷ read_answered_by_child ∷ read_answered_by_parking
    ∷ data_arrives ∷ inject_for_reader ∷ inject_for_readers ∷ inject_for_child ∷ inject_for_parking
    ∷ leave_pending ∷ leave_pending_below ∷ leave_dropped ∷ leave_to_parking ∷ leave_to_child
    ∷ leave_has_no_room ∷ inject_to_own_parking ∷ []

abbrev pub said_of : Option Situation → Judged
said_of None = nothing_there
said_of (Some s) = says table s

-- what the table says of a turn; `above` is the present stamp of the bus above
abbrev pub table_says : Stamp → DirValue → List Node → BusTurn → Judged
table_says above p ns t = said_of (situation_of above p ns t)
