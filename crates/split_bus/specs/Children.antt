-- What a turn seeks among the children, and whose lists it needs.
-- To be believed: contracts of code speak of it.
use Rattle.std.specs.Prelude.{ℕ, Bool, true, Option}
use Rattle.split_bus.specs.DdmTypes.declared.answers.QueueName.{QueueName}
use Rattle.split_bus.specs.TreeModel.State.Values.{Note, no_note, local, up_read, up_erase, Node}
use Rattle.split_bus.specs.TreeModel.Turns.Children.{holds_item, other_holds, waits_with_room, has_room, other_waits}
use Rattle.split_bus.specs.TreeModel.Turns.Children.{room_after, room_before, other_full, full_to_lose, reader_full}
use Rattle.split_bus.specs.declared.sought.Sought.{Sought}
use Rattle.split_bus.specs.declared.readers.Readers.{Readers}
use Rattle.split_bus.specs.declared.readers.Noted.{Noted}
use Rattle.split_bus.specs.declared.hearers.Hearers.{Hearers}

-- the note of a read that was sent up, with these readers; a note Local has the same readers
abbrev pub note_of_readers : Readers → Note
note_of_readers r = up_read r.first r.joined

-- the note of an item
abbrev pub note_of : Noted → Note
note_of Noted.Nothing = no_note
note_of (Noted.Local r) = local r.first r.joined
note_of (Noted.UpRead r) = up_read r.first r.joined
note_of (Noted.UpErase c) = up_erase c

-- child i is one that is sought
abbrev pub is_sought : Sought → ℕ → ℕ → Node → Bool
is_sought Sought.Holder x i n = holds_item x i n
is_sought (Sought.OtherHolder c) x i n = other_holds c x i n
is_sought Sought.WaiterWithRoom x i n = waits_with_room x i n
is_sought (Sought.OtherWaiterWithRoom c) x i n = other_waits c x i n
is_sought Sought.Room x i n = has_room x i n
is_sought (Sought.RoomBehind c) x i n = room_after c x i n
is_sought (Sought.RoomBefore c) x i n = room_before true c x i n

-- the list that child i needs to hear what it is told, where that list is full
abbrev pub full_to_hear : Hearers → ℕ → ℕ → Node → Option QueueName
full_to_hear Hearers.LoseAll x i n = full_to_lose x i n
full_to_hear (Hearers.LoseOthers c) x i n = other_full c x i n
full_to_hear (Hearers.TakeData r) x i n = reader_full (note_of_readers r) x i n
