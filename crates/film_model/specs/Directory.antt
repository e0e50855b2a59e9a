-- The parts of a directory: the time of the bus below it, what it keeps of each item, and what waits in its lists.
-- Letters: d is a directory, x an item, e an entry.
-- To be believed: it is the written format.
use Rattle.std.specs.Prelude.{ℕ, Bool, List, [], ◌∷◌, ◌++◌, codes, filter, take, nat_eq, flat_map, if◌then◌else◌}
use Rattle.std.specs.List.{range_with_len}
use Rattle.film_model.specs.DdmTypes.declared.answers.TxKind.{TxKind}
use Rattle.film_model.specs.DdmTypes.declared.sizes.Hold.{Hold}
use Rattle.film_model.specs.DdmTypes.declared.keys.Stamp.{Stamp}
use Rattle.film_model.specs.DdmTypes.Keys.{stamp_numbers}
use Rattle.film_model.specs.TreeModel.State.Kinds.{brings_copy}
use Rattle.film_model.specs.TreeModel.State.Values.{DownValue, Note, no_note, local, up_read, up_erase, DirItem, DirValue}
use Rattle.film_model.specs.TreeModel.State.Directory.{in_set, stamp_of}
use Rattle.text_model.specs.Words.{kind_text}
use Rattle.text_model.specs.Report.{word_texts}
use Rattle.film_model.specs.Part.{Part, key_of, item_key_of, number_text, stamp_text, listed, numbered}
use Rattle.film_model.specs.Leaf.{request_text, copy_text}

-- ---- values

unfoldable pub hold_text : Hold → List ℕ
hold_text Hold.Invalid = []
hold_text Hold.Shared = codes " S"
hold_text Hold.Exclusive = codes " E"

-- the children of a set, of so many, ascending
unfoldable pub set_text : ℕ → ℕ → List ℕ
set_text count set = flat_map number_text (filter (λ c. in_set c set) (range_with_len 0 count))

-- the child whose request was granted first, and those that joined it
unfoldable pub note_text : ℕ → Note → List ℕ
note_text count no_note = []
note_text count (local first joined) = codes " local" ++ number_text first ++ set_text count joined
note_text count (up_read first joined) = codes " upread" ++ number_text first ++ set_text count joined
note_text count (up_erase child) = codes " uperase" ++ number_text child

unfoldable pub answering_text : Bool → List ℕ
answering_text answering = if answering then codes " answering" else []

unfoldable pub dir_item_text : ℕ → DirItem → List ℕ
dir_item_text count i = hold_text i.hold ++ note_text count i.note ++ answering_text i.answering

-- the numbers of a stamp of which the first are of so many buses
unfoldable pub told_stamp : ℕ → Stamp → List ℕ
told_stamp buses stamp = stamp_text (take buses (stamp_numbers 3 stamp))

-- the words that come down with an entry, if some do
unfoldable pub down_words : TxKind → List ℕ → List ℕ
down_words kind words = if brings_copy kind then word_texts words else []

-- kind, item, the time at which it was granted on the bus above, words
unfoldable pub down_text : ℕ → DownValue → List ℕ
down_text level e = codes " " ++ kind_text e.kind ++ number_text e.item ++ told_stamp level e.stamp ++ down_words e.kind e.words

-- nothing for 0
unfoldable pub count_text : ℕ → List ℕ
count_text n = if nat_eq n 0 then [] else number_text n

-- ---- parts

abbrev pub dir_part : ℕ → ℕ → ℕ → DirItem → Part
dir_part bus count x i = record { key = item_key_of (codes "dir") bus x; value = dir_item_text count i }

-- of the time, and of every item, with so many children
abbrev pub kept_parts : ℕ → DirValue → List Part
kept_parts count d =
    record { key = key_of (codes "time") d.bus; value = stamp_text (stamp_numbers d.level (stamp_of d)) }
    ∷ numbered (dir_part d.bus count) 0 d.items

-- of what waits in its lists
abbrev pub dir_list_parts : DirValue → List Part
dir_list_parts d =
    record { key = key_of (codes "down") d.bus; value = listed (down_text d.level) d.down }
    ∷ record { key = key_of (codes "requests") d.bus; value = listed request_text d.requests }
    ∷ record { key = key_of (codes "replies") d.bus; value = listed copy_text d.replies }
    ∷ record { key = key_of (codes "parked") d.bus; value = listed copy_text d.parked }
    ∷ record { key = key_of (codes "kept") d.bus; value = count_text d.reserved }
    ∷ []

unfoldable pub dir_parts : ℕ → DirValue → List Part
dir_parts count d = kept_parts count d ++ dir_list_parts d
