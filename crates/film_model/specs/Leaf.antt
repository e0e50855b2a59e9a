-- The parts of a leaf: its hart, what it has of each item, and what waits in it.
-- Letters: v is a leaf, x an item, e an entry.
-- To be believed: it is the written format.
use Rattle.std.specs.Prelude.{ℕ, List, [], ◌∷◌, ◌++◌, Option, Some, None, codes, drop, nat_eq, if◌then◌else◌}
use Rattle.film_model.specs.DdmText.Hex.{hex8}
use Rattle.film_model.specs.DdmTypes.declared.operations.HaltCause.{HaltCause}
use Rattle.film_model.specs.DdmTypes.declared.sizes.LeafState.{LeafState}
use Rattle.film_model.specs.TreeModel.State.Values.{RequestValue, CopyValue, WayValue, BufferValue, LeafValue}
use Rattle.text_model.specs.Words.{halt_text, kind_text}
use Rattle.text_model.specs.Report.{word_texts, letter_text}
use Rattle.film_model.specs.Part.{Part, key_of, item_key_of, number_text, listed, numbered}

-- ---- values

-- nothing while the hart runs
unfoldable pub stopped_text : Option HaltCause → List ℕ
stopped_text None = []
stopped_text (Some cause) = codes " " ++ halt_text cause

-- nothing for 0
unfoldable pub register_text : ℕ → List ℕ
register_text word = if nat_eq word 0 then [] else codes " " ++ hex8 word

-- the words of an entry, which one that waits to read hasn't
unfoldable pub entry_words : LeafState → List ℕ → List ℕ
entry_words LeafState.Shared words = word_texts words
entry_words LeafState.Exclusive words = word_texts words
entry_words LeafState.Waiting words = word_texts words
entry_words LeafState.Reading words = []
entry_words LeafState.ReadingWaiting words = []

-- state, way, words
unfoldable pub way_text : Option WayValue → List ℕ
way_text None = []
way_text (Some e) = codes " " ++ letter_text (Some e.state) ++ number_text e.way ++ entry_words e.state e.words

-- item, state, words
unfoldable pub buffer_text : BufferValue → List ℕ
buffer_text e = number_text e.item ++ codes " " ++ letter_text (Some e.state) ++ entry_words e.state e.words

-- kind, item
unfoldable pub request_text : RequestValue → List ℕ
request_text r = codes " " ++ kind_text r.kind ++ number_text r.item

unfoldable pub slot_text : Option RequestValue → List ℕ
slot_text None = []
slot_text (Some r) = request_text r

-- item, words
unfoldable pub copy_text : CopyValue → List ℕ
copy_text c = number_text c.item ++ word_texts c.words

unfoldable pub reservation_text : Option ℕ → List ℕ
reservation_text None = []
reservation_text (Some x) = number_text x

-- ---- parts

abbrev pub register_part : ℕ → ℕ → ℕ → Part
register_part leaf number word = record { key = item_key_of (codes "reg") leaf number; value = register_text word }

abbrev pub entry_part : ℕ → ℕ → Option WayValue → Part
entry_part leaf x way = record { key = item_key_of (codes "entry") leaf x; value = way_text way }

-- of its hart, with registers 1 to 31
abbrev pub hart_parts : LeafValue → List Part
hart_parts v =
    record { key = key_of (codes "pc") v.number; value = codes " " ++ hex8 v.hart.pc }
    ∷ record { key = key_of (codes "halt") v.number; value = stopped_text v.hart.halt }
    ∷ numbered (register_part v.number) 1 (drop 1 v.hart.registers)

-- of every item
abbrev pub entry_parts : LeafValue → List Part
entry_parts v = numbered (entry_part v.number) 0 v.ways

-- of what waits in it, and of its hart's reservation
abbrev pub leaf_list_parts : LeafValue → List Part
leaf_list_parts v =
    record { key = key_of (codes "buffer") v.number; value = listed buffer_text v.buffer }
    ∷ record { key = key_of (codes "slot") v.number; value = slot_text v.slot }
    ∷ record { key = key_of (codes "leafreplies") v.number; value = listed copy_text v.replies }
    ∷ record { key = key_of (codes "reserved") v.number; value = reservation_text v.reservation }
    ∷ []

unfoldable pub leaf_parts : LeafValue → List Part
leaf_parts v = hart_parts v ++ entry_parts v ++ leaf_list_parts v
