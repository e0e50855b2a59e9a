-- The reading of each part of a checkpoint, in the order of its words. A part keeps its number and its sizes, and what the words
-- don't say of it.
-- Letters: n is how many items there are, k the number of the next word, ws are the words from it on.
-- To be believed: it is how a checkpoint is judged.
use Rattle.std.specs.Prelude.{ℕ, ◌+◌, ◌-◌, ◌%◌, ◌^◌, Bool, true, false, not, ◌&&◌, ◌||◌, nat_eq, nat_lt, nat_le, List}
use Rattle.std.specs.Prelude.{[], ◌∷◌, ◌++◌, length, map, replicate, slice_set, slice_index_or, Option, Some, None}
use Rattle.std.specs.Prelude.{Result, Err, if◌then◌else◌}
use Rattle.std.specs.List.{list_any}
use Rattle.state_reading.specs.DdmTypes.declared.answers.TxKind.{TxKind}
use Rattle.state_reading.specs.DdmTypes.declared.sizes.Hold.{Hold}
use Rattle.state_reading.specs.DdmTypes.declared.sizes.LeafState.{LeafState}
use Rattle.state_reading.specs.DdmTypes.declared.operations.HaltCause.{HaltCause}
use Rattle.state_reading.specs.DdmTypes.declared.operations.Effect.{Effect}
use Rattle.state_reading.specs.DdmTypes.declared.operations.Op.{Op}
use Rattle.state_reading.specs.DdmTypes.declared.keys.Stamp.{Stamp}
use Rattle.state_reading.specs.DdmTypes.declared.keys.Key.{Key}
use Rattle.state_reading.specs.TreeModel.declared.Traffic.{Traffic}
use Rattle.state_reading.specs.TreeModel.State.Kinds.{brings_copy}
use Rattle.state_reading.specs.TreeModel.State.States.{is_reading, is_waiting, is_upgrading}
use Rattle.state_reading.specs.TreeModel.State.Shape.{are_distinct}
use Rattle.state_reading.specs.TreeModel.State.Values.{RequestValue, CopyValue, DownValue, WayValue, BufferValue}
use Rattle.state_reading.specs.TreeModel.State.Values.{LeafValue, Note, no_note, local, up_read, up_erase, DirItem}
use Rattle.state_reading.specs.TreeModel.State.Values.{DirValue, absent_item}
use Rattle.state_reading.specs.TreeModel.State.Leaf.{state_at, is_copy}
use Rattle.state_reading.specs.TreeModel.State.Directory.{is_top, in_set}
use Rattle.state_reading.specs.TreeModel.Start.Nodes.{held_exclusive}
use Rattle.state_reading.specs.declared.StateRefusal.{StateRefusal}
use Rattle.state_reading.specs.declared.StateRefusal.TheVariants.{BrokenLeaf}
use Rattle.state_words.specs.Parts.{StandingValue, is_recorded}
use Rattle.state_reading.specs.Reading.{Read, and_then, given, times, word_that, any_word, words_that}

-- no count is above this
abbrev pub most_counted : ℕ
most_counted = 1048576

-- ---- words of a kind

abbrev pub count_word : ℕ → List ℕ → Result (Read ℕ) StateRefusal
count_word k ws = word_that (λ w. nat_le w most_counted) k ws

-- a number up to this
abbrev pub word_to : ℕ → ℕ → List ℕ → Result (Read ℕ) StateRefusal
word_to most k ws = word_that (λ w. nat_le w most) k ws

module _ {A : Type 0} where
  -- a list: how many entries it has, up to its room, and then each
  abbrev pub listed : ℕ → (List A → ℕ → List ℕ → Result (Read (List A)) StateRefusal) → ℕ → List ℕ → Result (Read (List A)) StateRefusal
  listed room step k ws = and_then (word_to room k ws) (λ count k ws. times step count [] k ws)

-- a number below this: of an item, a leaf, a way, a child
abbrev pub word_below : ℕ → ℕ → List ℕ → Result (Read ℕ) StateRefusal
word_below bound k ws = word_that (λ w. nat_lt w bound) k ws

-- a number from 1 to this
abbrev pub word_from_1 : ℕ → ℕ → List ℕ → Result (Read ℕ) StateRefusal
word_from_1 most k ws = word_that (λ w. nat_le 1 w && nat_le w most) k ws

-- a word that is 0 unless it means something
abbrev pub word_if : Bool → ℕ → List ℕ → Result (Read ℕ) StateRefusal
word_if means k ws = word_that (λ w. means || nat_eq w 0) k ws

-- the words of an item, which are 0 where it has none
abbrev pub item_words : Bool → ℕ → ℕ → List ℕ → Result (Read (List ℕ)) StateRefusal
item_words has width k ws = words_that (λ w. has || nat_eq w 0) width k ws

-- a stamp in which the numbers from this level on are 0
abbrev pub stamp_words : ℕ → ℕ → List ℕ → Result (Read Stamp) StateRefusal
stamp_words level k ws =
    and_then (word_if (nat_lt 0 level) k ws) (λ s0 k ws.
    and_then (word_if (nat_lt 1 level) k ws) (λ s1 k ws.
    and_then (word_if (nat_lt 2 level) k ws) (λ s2 k ws.
    and_then (word_if (nat_lt 3 level) k ws) (λ s3 k ws.
    given (record { s0 = s0; s1 = s1; s2 = s2; s3 = s3 }) k ws))))

-- ---- a hart

abbrev pub halt_has_number : ℕ → Bool
halt_has_number code = not (nat_eq code 0 || nat_eq code 3)

-- by its number: it runs, and nine reasons to stop
abbrev pub halt_of : ℕ → ℕ → Option HaltCause
halt_of code n =
    slice_index_or
    (None ∷ Some (HaltCause.Exit n) ∷ Some (HaltCause.Illegal n) ∷ Some HaltCause.Breakpoint ∷ Some (HaltCause.UnknownCall n)
    ∷ Some (HaltCause.MisalignedTarget n) ∷ Some (HaltCause.FetchOutside n) ∷ Some (HaltCause.MisalignedAccess n)
    ∷ Some (HaltCause.LoadOutside n) ∷ Some (HaltCause.StoreOutside n) ∷ []) code None

unfoldable pub read_hart : LeafValue → ℕ → List ℕ → Result (Read LeafValue) StateRefusal
read_hart v k ws =
    and_then (words_that any_word 31 k ws) (λ registers k ws.
    and_then (word_that any_word k ws) (λ pc k ws.
    and_then (count_word k ws) (λ done k ws.
    and_then (word_to 9 k ws) (λ code k ws.
    and_then (word_if (halt_has_number code) k ws) (λ number k ws.
    given (record v { hart = record { registers = 0 ∷ registers; pc = pc; halt = halt_of code number }; done = done }) k ws)))))

-- ---- a leaf

abbrev pub state_of : ℕ → LeafState
state_of code =
    slice_index_or
    (LeafState.Shared ∷ LeafState.Exclusive ∷ LeafState.Waiting ∷ LeafState.Reading ∷ LeafState.ReadingWaiting
    ∷ []) (code - 1) LeafState.Shared

abbrev pub slot_of : ℕ → ℕ → Option RequestValue
slot_of code x =
    slice_index_or
    (None ∷ Some (record { kind = TxKind.ReadTx; item = x }) ∷ Some (record { kind = TxKind.EraseTx; item = x })
    ∷ []) code None

abbrev pub reserved_of : ℕ → Option ℕ
reserved_of w = if nat_eq w 0 then None else Some (w - 1)

-- the set of the last entry is no later one
abbrev pub not_before : ℕ → ℕ → Option StandingValue → Bool
not_before sets x None = true
not_before sets x (Some s) = nat_le (s.item % sets) (x % sets)

-- and in the same set its way is none either
abbrev pub way_not_before : ℕ → ℕ → ℕ → Option StandingValue → Bool
way_not_before sets x way None = true
way_not_before sets x way (Some s) = nat_lt (s.item % sets) (x % sets) || nat_le s.entry.way way

abbrev pub last_of : List StandingValue → Option StandingValue
last_of [] = None
last_of (s ∷ ss) = Some s

module _ (n : ℕ) (v : LeafValue) where
  -- one entry more in a way; the last one is the first of those that were read
  abbrev pub read_standing : List StandingValue → ℕ → List ℕ → Result (Read (List StandingValue)) StateRefusal
  read_standing ss k ws =
      and_then (word_that (λ x. nat_lt x n && not_before v.sizes.sets x (last_of ss)) k ws) (λ x k ws.
      and_then (word_that (λ way. nat_lt way v.sizes.way_count && way_not_before v.sizes.sets x way (last_of ss)) k ws) (λ way k ws.
      and_then (word_from_1 5 k ws) (λ code k ws.
      and_then (item_words (not (is_reading (state_of code))) v.sizes.width k ws) (λ words k ws.
      given (record { item = x; entry = record { way = way; state = state_of code; words = words } } ∷ ss) k ws))))

  abbrev pub read_buffered : List BufferValue → ℕ → List ℕ → Result (Read (List BufferValue)) StateRefusal
  read_buffered es k ws =
      and_then (word_below n k ws) (λ x k ws.
      and_then (word_from_1 5 k ws) (λ code k ws.
      and_then (item_words (not (is_reading (state_of code))) v.sizes.width k ws) (λ words k ws.
      given (es ++ record { item = x; state = state_of code; words = words } ∷ []) k ws)))

-- a copy of an item that passes
abbrev pub read_copy : ℕ → (ℕ → List CopyValue → Bool) → List CopyValue → ℕ → List ℕ → Result (Read (List CopyValue)) StateRefusal
read_copy width ok cs k ws =
    and_then (word_that (λ x. ok x cs) k ws) (λ x k ws.
    and_then (item_words true width k ws) (λ words k ws.
    given (cs ++ record { item = x; words = words } ∷ []) k ws))

abbrev pub with_standing : StandingValue → List (Option WayValue) → List (Option WayValue)
with_standing s ways = slice_set ways s.item (Some s.entry)

abbrev pub ways_with : List StandingValue → List (Option WayValue) → List (Option WayValue)
ways_with [] ways = ways
ways_with (s ∷ ss) ways = with_standing s (ways_with ss ways)

abbrev pub standing_item : StandingValue → ℕ
standing_item s = s.item

abbrev pub item_of_buffer : BufferValue → ℕ
item_of_buffer e = e.item

abbrev pub same_place : ℕ → StandingValue → StandingValue → Bool
same_place sets s t = nat_eq (s.item % sets) (t.item % sets) && nat_eq s.entry.way t.entry.way

abbrev pub places_differ : ℕ → List StandingValue → Bool
places_differ sets [] = true
places_differ sets (s ∷ ss) = not (list_any (same_place sets s) ss) && places_differ sets ss

abbrev pub waiting_states : List LeafState → ℕ
waiting_states [] = 0
waiting_states (s ∷ ss) = (if is_waiting s then 1 else 0) + waiting_states ss

abbrev pub standing_state : StandingValue → LeafState
standing_state s = s.entry.state

abbrev pub buffer_state : BufferValue → LeafState
buffer_state e = e.state

abbrev pub slot_state_fits : TxKind → Option LeafState → Bool
slot_state_fits TxKind.ReadTx (Some s) = is_reading s
slot_state_fits TxKind.EraseTx (Some s) = is_upgrading s
slot_state_fits _ _ = false

abbrev pub slot_fits : LeafValue → Option RequestValue → Bool
slot_fits v None = true
slot_fits v (Some r) = slot_state_fits r.kind (state_at r.item v)

-- no item stands twice and no way is taken twice, at most one entry waits, and the slot asks for what its item's entry waits for
abbrev pub is_whole_leaf : List StandingValue → LeafValue → Bool
is_whole_leaf ss v =
    are_distinct (map standing_item ss ++ map item_of_buffer v.buffer) && (places_differ v.sizes.sets ss
    && (nat_le (waiting_states (map standing_state ss ++ map buffer_state v.buffer)) 1 && slot_fits v v.slot))

abbrev pub unless_broken : List StandingValue → LeafValue → ℕ → List ℕ → Result (Read LeafValue) StateRefusal
unless_broken ss v k ws = if is_whole_leaf ss v then given v k ws else Err (BrokenLeaf v.number)

unfoldable pub read_leaf : ℕ → LeafValue → ℕ → List ℕ → Result (Read LeafValue) StateRefusal
read_leaf n v k ws =
    and_then (word_to n k ws) (λ reserved k ws.
    and_then (word_to 2 k ws) (λ code k ws.
    and_then (word_that (λ x. if nat_eq code 0 then nat_eq x 0 else nat_lt x n) k ws) (λ asked k ws.
    and_then (word_that any_word k ws) (λ standing k ws.
    and_then (times (read_standing n v) standing [] k ws) (λ ss k ws.
    and_then (word_to v.sizes.buffer_room k ws) (λ buffered k ws.
    and_then (times (read_buffered n v) buffered [] k ws) (λ buffer k ws.
    and_then (word_to v.sizes.reply_room k ws) (λ replied k ws.
    and_then (times (read_copy v.sizes.width (λ x cs. nat_lt x n)) replied [] k ws) (λ replies k ws.
    unless_broken ss
    (record v {
      ways = ways_with ss (replicate n None);
      buffer = buffer;
      slot = slot_of code asked;
      replies = replies;
      reservation = reserved_of reserved;
    }) k ws)))))))))

-- ---- a directory

abbrev pub hold_of : ℕ → Hold
hold_of code = slice_index_or (Hold.Invalid ∷ Hold.Shared ∷ Hold.Exclusive ∷ []) code Hold.Invalid

abbrev pub note_of_words : ℕ → ℕ → ℕ → Note
note_of_words code child joined = slice_index_or (no_note ∷ local child joined ∷ up_read child joined ∷ up_erase child ∷ []) code no_note

-- children of the bus alone, and not the one whose note it is
abbrev pub joins_fit : ℕ → ℕ → ℕ → Bool
joins_fit kids child set = nat_lt set (2 ^ kids) && not (in_set child set)

-- the numbers of items that have a record, the last one first, with what is kept of all items
pub record Recorded : Type 0 where
  pub last : Option ℕ
  pub items : List DirItem

abbrev pub comes_after : ℕ → Option ℕ → Bool
comes_after x None = true
comes_after x (Some y) = nat_lt y x

module _ (n kids : ℕ) (top : Bool) where
  abbrev pub read_record : Recorded → ℕ → List ℕ → Result (Read Recorded) StateRefusal
  read_record r k ws =
      and_then (word_that (λ x. nat_lt x n && comes_after x r.last) k ws) (λ x k ws.
      and_then (word_that (λ w. if top then nat_eq w 2 else nat_le w 2) k ws) (λ hold k ws.
      and_then (word_to 3 k ws) (λ note k ws.
      and_then (word_that (λ w. if nat_eq note 0 then nat_eq w 0 else nat_lt w kids) k ws) (λ child k ws.
      and_then (word_that (λ w. if nat_eq note 1 || nat_eq note 2 then joins_fit kids child w else nat_eq w 0) k ws) (λ joined k ws.
      and_then
      (word_that
      (λ w. nat_le w 1 && (not top || nat_eq w 0)
      && is_recorded top (record {
        hold = hold_of hold;
        note = note_of_words note child joined;
        answering = nat_eq w 1;
      })) k ws) (λ answering k ws.
      given
      (record {
        last = Some x;
        items = slice_set r.items x
            (record {
              hold = hold_of hold;
              note = note_of_words note child joined;
              answering = nat_eq answering 1;
            });
      }) k ws))))))

abbrev pub kind_of : ℕ → TxKind
kind_of code =
    slice_index_or (TxKind.ReadTx ∷ TxKind.DataTx ∷ TxKind.EraseTx ∷ TxKind.ExclusiveTx ∷ TxKind.InjectTx ∷ [])
    (code - 1) TxKind.ReadTx

module _ (n level width : ℕ) where
  abbrev pub read_down : List DownValue → ℕ → List ℕ → Result (Read (List DownValue)) StateRefusal
  read_down es k ws =
      and_then (word_from_1 5 k ws) (λ code k ws.
      and_then (word_below n k ws) (λ x k ws.
      and_then (stamp_words level k ws) (λ stamp k ws.
      and_then (item_words (brings_copy (kind_of code)) width k ws) (λ words k ws.
      given (es ++ record { kind = kind_of code; item = x; words = words; stamp = stamp } ∷ []) k ws))))

abbrev pub read_request : ℕ → List RequestValue → ℕ → List ℕ → Result (Read (List RequestValue)) StateRefusal
read_request n rs k ws =
    and_then (word_that (λ w. nat_eq w 1 || nat_eq w 3) k ws) (λ code k ws.
    and_then (word_below n k ws) (λ x k ws.
    given (rs ++ record { kind = kind_of code; item = x } ∷ []) k ws))

abbrev pub at_rest : Bool → DirItem
at_rest top = if top then held_exclusive else absent_item

-- the records of a directory, or of the top, over so many children: how many there are, and then each; other items are at rest
abbrev pub read_records : ℕ → ℕ → Bool → ℕ → List ℕ → Result (Read Recorded) StateRefusal
read_records n kids top k ws =
    and_then (word_that any_word k ws) (λ count k ws.
    times (read_record n kids top) count (record { last = None; items = replicate n (at_rest top) }) k ws)

-- a directory, or the top, over so many children
unfoldable pub read_dir : ℕ → ℕ → DirValue → ℕ → List ℕ → Result (Read DirValue) StateRefusal
read_dir n kids d k ws =
    and_then (count_word k ws) (λ count k ws.
    and_then (stamp_words d.level k ws) (λ epoch k ws.
    and_then (read_records n kids (is_top d) k ws) (λ items k ws.
    and_then (listed d.sizes.down_room (read_down n d.level d.sizes.width) k ws) (λ down k ws.
    and_then (listed d.sizes.request_room (read_request n) k ws) (λ requests k ws.
    and_then (listed d.sizes.reply_room (read_copy d.sizes.width (λ x cs. nat_lt x n)) k ws) (λ replies k ws.
    and_then
    (listed d.sizes.parking_room
    (read_copy d.sizes.width (λ x cs. nat_lt x n && not (list_any (is_copy x) cs))) k ws) (λ parked k ws.
    and_then (word_to (d.sizes.parking_room - length parked) k ws) (λ reserved k ws.
    given
    (record d {
      items = items.items;
      down = down;
      requests = requests;
      replies = replies;
      parked = parked;
      reserved = reserved;
      count = count;
      epoch = epoch;
    }) k ws))))))))

-- ---- traffic and operations

unfoldable pub read_traffic : ℕ → List ℕ → Result (Read Traffic) StateRefusal
read_traffic k ws =
    and_then (count_word k ws) (λ reads k ws.
    and_then (count_word k ws) (λ copies k ws.
    and_then (count_word k ws) (λ erases k ws.
    and_then (count_word k ws) (λ exclusives k ws.
    and_then (count_word k ws) (λ outs k ws.
    and_then (count_word k ws) (λ injects k ws.
    given (record { reads = reads; copies = copies; erases = erases; exclusives = exclusives; outs = outs; injects = injects }) k ws))))))

-- how many numbers an effect has
abbrev pub effect_size : ℕ → ℕ
effect_size code = slice_index_or (0 ∷ 1 ∷ 2 ∷ 3 ∷ 2 ∷ 3 ∷ 1 ∷ 3 ∷ []) code 0

abbrev pub effect_of : ℕ → ℕ → ℕ → ℕ → Effect
effect_of code a b c =
    slice_index_or
    (Effect.Plain ∷ Effect.Put a ∷ Effect.Load a b ∷ Effect.Store a b c ∷ Effect.Lr a b ∷ Effect.ScOk a b c
    ∷ Effect.ScFail a ∷ Effect.Amo a b c ∷ [])
    code Effect.Plain

-- the numbers of a key, in a tree of so many levels of buses
abbrev pub read_key : ℕ → ℕ → List ℕ → Result (Read Key) StateRefusal
read_key depth k ws =
    and_then (word_if (nat_lt 0 depth) k ws) (λ s0 k ws.
    and_then (word_if (nat_lt 0 depth) k ws) (λ c0 k ws.
    and_then (word_if (nat_lt 1 depth) k ws) (λ s1 k ws.
    and_then (word_if (nat_lt 1 depth) k ws) (λ c1 k ws.
    and_then (word_if (nat_lt 2 depth) k ws) (λ s2 k ws.
    and_then (word_if (nat_lt 2 depth) k ws) (λ c2 k ws.
    and_then (word_if (nat_lt 3 depth) k ws) (λ s3 k ws.
    and_then (word_if (nat_lt 3 depth) k ws) (λ c3 k ws.
    and_then (word_that any_word k ws) (λ i k ws.
    given (record { s0 = s0; c0 = c0; s1 = s1; c1 = c1; s2 = s2; c2 = c2; s3 = s3; c3 = c3; i = i }) k ws)))))))))

abbrev pub read_op : ℕ → ℕ → List Op → ℕ → List ℕ → Result (Read (List Op)) StateRefusal
read_op depth leaves ops k ws =
    and_then (read_key depth k ws) (λ key k ws.
    and_then (word_below leaves k ws) (λ hart k ws.
    and_then (word_that any_word k ws) (λ pc k ws.
    and_then (word_to 7 k ws) (λ code k ws.
    and_then (word_that (λ w. if nat_eq code 1 then nat_le w 255 else (nat_lt 0 (effect_size code) || nat_eq w 0)) k ws) (λ a k ws.
    and_then (word_if (nat_lt 1 (effect_size code)) k ws) (λ b k ws.
    and_then (word_if (nat_lt 2 (effect_size code)) k ws) (λ c k ws.
    given (ops ++ record { key = key; hart = hart; pc = pc; effect = effect_of code a b c } ∷ []) k ws)))))))
