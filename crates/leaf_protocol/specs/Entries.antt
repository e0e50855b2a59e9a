-- The entries of a leaf as its parts have them: a map from item to entry for those in ways, the buffer, and the item that waits.
-- Letters: m is a memory, e an entry, x an item, w the item that waits.
-- Proofs alone need it.
use Rattle.std.specs.Prelude.{◌≡◌, ℕ, ◌+◌, ◌*◌, ◌%◌, ◌<◌, ◌^◌, Bool, true, false, not, ◌||◌, List, ◌++◌, map, find}
use Rattle.std.specs.Prelude.{slice_set, Option, Some, None, option_map, is_none, if◌then◌else◌}
use Rattle.std.specs.List.{range_with_len}
use Rattle.leaf_protocol.specs.DdmTypes.declared.sizes.LeafState.{LeafState}
use Rattle.leaf_protocol.specs.FlatModel.Flat.{has_reserved}
use Rattle.leaf_protocol.specs.TreeModel.State.States.{is_waiting}
use Rattle.leaf_protocol.specs.TreeModel.State.Shape.{are_distinct}
use Rattle.leaf_protocol.specs.TreeModel.State.Values.{WayValue, BufferValue}
use Rattle.leaf_protocol.specs.TreeModel.State.Leaf.{LeafEntry, Fate, way_at, ways_after, buffer_after, buffer_item}
use Rattle.leaf_protocol.specs.TreeModel.State.Leaf.{buffered, words_in, item_in_way}
use Rattle.leaf_protocol.specs.TreeModel.Turns.HartTurn.{ways_without, moved_to_buffer}
use Rattle.attraction_mem.specs.Memory.{EntryValue, MemoryValue, entry_of}

-- ---- what they are seen as

-- for each item its entry in a way of its set, and the buffer; how many sets and how many places of the buffer there are
pub record EntriesValue : Type 0 where
  pub sets : ℕ
  pub ways : List (Option WayValue)
  pub buffer : List BufferValue
  pub room : ℕ

abbrev pub way_value : EntryValue → WayValue
way_value e = record { way = e.way; state = e.state; words = e.words }

-- the entry that a memory has of an item
abbrev pub way_of : MemoryValue → ℕ → Option WayValue
way_of m x = option_map way_value (entry_of m x)

-- the same for each of n items
unfoldable pub ways_of : ℕ → MemoryValue → List (Option WayValue)
ways_of n m = map (way_of m) (range_with_len 0 n)

-- ---- what they keep

-- An entry is of one of n items. Its item is the one that waits exactly where the entry waits, and the words of one that waits
-- for data are 0.
pub record EntryFits (n width : ℕ) (w : Option ℕ) (x : ℕ) (state : LeafState) (words : List ℕ) : Type 0 where
  pub inside : x < n
  pub named : has_reserved w x ≡ is_waiting state
  pub blank_words : words ≡ words_in state width words

-- an item has an entry in a way, or in the buffer, or none; the item that waits has one
abbrev pub ItemFits : ℕ → ℕ → Option ℕ → ℕ → Option WayValue → Option BufferValue → Type 0
ItemFits n width w x None None = has_reserved w x ≡ false
ItemFits n width w x None (Some e) = EntryFits n width w x e.state e.words
ItemFits n width w x (Some e) None = EntryFits n width w x e.state e.words
ItemFits n width w x (Some e) (Some f) = ⊥

pub record AreEntries (ways width n : ℕ) (m : MemoryValue) (buffer : List BufferValue) (w : Option ℕ) : Type 0 where
  pub some_ways : 0 < ways
  pub words_fit : width < 2 ^ 32
  -- no item stands in the buffer twice
  pub once : are_distinct (map buffer_item buffer) ≡ true
  pub each : (x : ℕ) → ItemFits n width w x (way_of m x) (buffered x buffer)

-- ---- what becomes of them

-- the item that waits, where the entry of item x waits from now on or doesn't
abbrev pub waiting_after : ℕ → Bool → Option ℕ → Option ℕ
waiting_after x waits w = if waits then Some x else (if has_reserved w x then None else w)

abbrev pub waits_now : Option LeafEntry → Bool
waits_now None = false
waits_now (Some e) = is_waiting e.state

-- an entry may be put into this state: it doesn't wait then, or waited before, or no item waits
abbrev pub may_be : LeafState → Option LeafEntry → Option ℕ → Bool
may_be state before w = not (is_waiting state) || (waits_now before || is_none w)

-- the place in the memory of an item's entry that stands in a way: the ways of a set stand behind those of the sets before it
abbrev pub standing_place : ℕ → ℕ → ℕ → List (Option WayValue) → Option ℕ
standing_place sets way_count x ways = option_map (λ e. x % sets * way_count + e.way) (way_at x ways)

-- what becomes of an item's entry
abbrev pub with_fate : ℕ → Fate → EntriesValue → EntriesValue
with_fate x f v = record v { ways = ways_after x f v.ways; buffer = buffer_after x f v.ways v.buffer }

-- the lowest free way of x's set
abbrev pub lowest_way : ℕ → ℕ → ℕ → List (Option WayValue) → Option ℕ
lowest_way sets way_count x ways = find (λ way. is_none (item_in_way sets x way ways)) (range_with_len 0 way_count)

-- the lowest free way, or else this one where the buffer isn't full
abbrev pub way_to_take : ℕ → Bool → Option ℕ → Option ℕ
way_to_take way full (Some free) = Some free
way_to_take way true None = None
way_to_take way false None = Some way

-- the item that stands in this way of x's set moves to the end of the buffer
abbrev pub cleared : ℕ → ℕ → EntriesValue → EntriesValue
cleared x way v =
    record v {
      ways = ways_without (item_in_way v.sets x way v.ways) v.ways;
      buffer = v.buffer ++ moved_to_buffer (item_in_way v.sets x way v.ways) v.ways;
    }

abbrev pub cleared_if : ℕ → Option ℕ → EntriesValue → EntriesValue
cleared_if x None v = v
cleared_if x (Some way) v = cleared x way v

-- the item of a tag is marked in a list of all items, where it has a place there
abbrev pub with_mark : Option (ℕ × LeafState) → List Bool → List Bool
with_mark None held = held
with_mark (Some t) held = slice_set held t.0 true
