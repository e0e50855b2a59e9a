-- How the entries of a leaf are read back: one by one, and whether they can be together.
-- Letters: n is how many items there are, k the number of the next word, ws are the words from it on; s is an entry in a way, b one
-- in the buffer.
-- Proofs alone need it.
use Rattle.std.specs.Prelude.{◌≡◌, ℕ, ◌<◌, Bool, true, not, ◌&&◌, nat_le, nat_lt, List, [], ◌∷◌, ◌++◌, drop, map}
use Rattle.std.specs.Prelude.{replicate, length, Option, None, is_some, is_none, Result, Ok}
use Rattle.leaf_protocol.specs.DdmTypes.declared.sizes.LeafState.{LeafState}
use Rattle.leaf_protocol.specs.TreeModel.State.States.{is_reading}
use Rattle.leaf_protocol.specs.TreeModel.State.Shape.{are_distinct}
use Rattle.leaf_protocol.specs.TreeModel.State.Values.{BufferValue, LeafValue}
use Rattle.leaf_protocol.specs.TreeModel.State.Leaf.{entry_at, item_in_way, waiting_item}
use Rattle.leaf_protocol.specs.StateWords.Parts.{StandingValue}
use Rattle.leaf_protocol.specs.StateReading.declared.StateRefusal.{StateRefusal}
use Rattle.leaf_protocol.specs.StateReading.Reading.{Read, and_then, given, times, word_that, any_word}
use Rattle.leaf_protocol.specs.StateReading.Parts.{not_before, way_not_before, word_to, word_below, word_from_1}
use Rattle.leaf_protocol.specs.StateReading.Parts.{item_words, state_of, read_standing, read_buffered, ways_with}
use Rattle.leaf_protocol.specs.StateReading.Parts.{standing_item, item_of_buffer, places_differ, waiting_states}
use Rattle.leaf_protocol.specs.StateReading.Parts.{standing_state, buffer_state}
use Rattle.leaf_protocol.specs.Entries.{EntriesValue, may_be}
use Rattle.leaf_protocol.specs.Leaf.{leaf_of}

-- a leaf with these sizes and nothing else
abbrev pub bare : ℕ → ℕ → ℕ → LeafValue
bare way_count width sets =
    leaf_of way_count width 0 (record { sets = sets; ways = []; buffer = []; room = 0 }) None
    (record { list = []; capacity = 0; items = 0 }) None
    (record { hart = record { registers = []; pc = 0; halt = None }; done = 0 })

-- ---- one entry

-- in a way, behind the last one
abbrev pub entry_read : ℕ → ℕ → ℕ → ℕ → Option StandingValue → ℕ → List ℕ → Result (Read StandingValue) StateRefusal
entry_read n sets way_count width last k ws =
    and_then (word_that (λ x. nat_lt x n && not_before sets x last) k ws) (λ x k ws.
    and_then (word_that (λ way. nat_lt way way_count && way_not_before sets x way last) k ws) (λ way k ws.
    and_then (word_from_1 5 k ws) (λ code k ws.
    and_then (item_words (not (is_reading (state_of code))) width k ws) (λ words k ws.
    given (record { item = x; entry = record { way = way; state = state_of code; words = words } }) k ws))))

-- in the buffer
abbrev pub buffered_read : ℕ → ℕ → ℕ → List ℕ → Result (Read BufferValue) StateRefusal
buffered_read n width k ws =
    and_then (word_below n k ws) (λ x k ws.
    and_then (word_from_1 5 k ws) (λ code k ws.
    and_then (item_words (not (is_reading (state_of code))) width k ws) (λ words k ws.
    given (record { item = x; state = state_of code; words = words }) k ws)))

-- all in ways and all in the buffer
abbrev pub entries_read : ℕ → ℕ → ℕ → ℕ → ℕ → ℕ → List ℕ → Result (Read (List StandingValue × List BufferValue)) StateRefusal
entries_read n way_count width sets room k ws =
    and_then (word_that any_word k ws) (λ standing k ws.
    and_then (times (read_standing n (bare way_count width sets)) standing [] k ws) (λ ss k ws.
    and_then (word_to room k ws) (λ buffered k ws.
    and_then (times (read_buffered n (bare way_count width sets)) buffered [] k ws) (λ bs k ws.
    given (ss, bs) k ws))))

-- ---- beside others

-- an entry in this state, of an item that has none, where no other waits or it doesn't
abbrev pub may_come : ℕ → LeafState → EntriesValue → Bool
may_come x state e = is_none (entry_at x e.ways e.buffer) && may_be state None (waiting_item e.ways e.buffer)

abbrev pub may_stand : StandingValue → EntriesValue → Bool
may_stand s e = not (is_some (item_in_way e.sets s.item s.entry.way e.ways)) && may_come s.item s.entry.state e

-- no item is there twice and no way is taken twice, and at most one entry waits
abbrev pub are_together : ℕ → List StandingValue → List BufferValue → Bool
are_together sets ss bs =
    are_distinct (map standing_item ss ++ map item_of_buffer bs)
    && (places_differ sets ss && nat_le (waiting_states (map standing_state ss ++ map buffer_state bs)) 1)

-- the sets, the places of the buffer and the items are as many as before
pub record IsSized (e f : EntriesValue) : Type 0 where
  pub sets : f.sets ≡ e.sets
  pub room : f.room ≡ e.room
  pub items : length f.ways ≡ length e.ways

abbrev pub AllInside : ℕ → List StandingValue → Type 0
AllInside n [] = Unit {0}
AllInside n (s ∷ ss) = (s.item < n) × AllInside n ss

-- these entries were read, the last one in a way first; where they can be together they are there
pub record AreThere (n : ℕ) (ss : List StandingValue) (bs : List BufferValue) (e : EntriesValue) (whole : Bool) : Type 0 where
  pub judged : whole ≡ are_together e.sets ss bs
  pub inside : AllInside n ss
  pub ways : whole ≡ true → e.ways ≡ ways_with ss (replicate n None)
  pub buffer : whole ≡ true → e.buffer ≡ bs

-- what was read of the entries in ways
pub record StandingRead (n : ℕ) (read : Result (Read (List StandingValue)) StateRefusal) (words : List ℕ)
    (at : ℕ) (e : EntriesValue) (whole : Bool) : Type 0 where
  pub entries : List StandingValue
  pub is : read ≡ Ok (record { value = entries; at = at; rest = drop at words })
  pub there : AreThere n entries [] e whole

-- what was read of the entries in the buffer, behind those in ways
pub record BufferRead (n : ℕ) (ss : List StandingValue) (read : Result (Read (List BufferValue)) StateRefusal)
    (words : List ℕ) (at : ℕ) (e : EntriesValue) (whole : Bool) : Type 0 where
  pub entries : List BufferValue
  pub is : read ≡ Ok (record { value = entries; at = at; rest = drop at words })
  pub there : AreThere n ss entries e whole

-- what was read of both
pub record EntriesRead (n : ℕ) (read : Result (Read (List StandingValue × List BufferValue)) StateRefusal)
    (words : List ℕ) (at : ℕ) (e : EntriesValue) (whole : Bool) : Type 0 where
  pub standing : List StandingValue
  pub buffered : List BufferValue
  pub is : read ≡ Ok (record { value = (standing, buffered); at = at; rest = drop at words })
  pub there : AreThere n standing buffered e whole
