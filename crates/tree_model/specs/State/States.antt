-- The item states, as tables: what a leaf holds of an item by its entry, and what becomes of the entry when its bus tells it
-- something. Source: the state tables of the DDM protocol. W is Waiting, R is Reading, B is ReadingWaiting.
-- To be believed: it is what the machine is.
use Rattle.std.specs.Prelude.{Bool, true, false, Option, Some, None}
use Rattle.tree_model.specs.DdmTypes.declared.answers.TxKind.{TxKind}
use Rattle.tree_model.specs.DdmTypes.declared.sizes.Hold.{Hold}
use Rattle.tree_model.specs.DdmTypes.declared.sizes.LeafState.{LeafState}

-- what a leaf holds of an item, by its entry
abbrev pub entry_hold : Option LeafState → Hold
entry_hold None = Hold.Invalid
entry_hold (Some LeafState.Shared) = Hold.Shared
entry_hold (Some LeafState.Exclusive) = Hold.Exclusive
entry_hold (Some LeafState.Waiting) = Hold.Shared
entry_hold (Some LeafState.Reading) = Hold.Invalid
entry_hold (Some LeafState.ReadingWaiting) = Hold.Invalid

-- ---- told to lose the item: the state after it, if an entry is left, and what the leaf then asks for
abbrev pub state_lost : LeafState → Option LeafState
state_lost LeafState.Shared = None
state_lost LeafState.Exclusive = None
state_lost LeafState.Waiting = Some LeafState.ReadingWaiting
state_lost LeafState.Reading = Some LeafState.Reading
state_lost LeafState.ReadingWaiting = Some LeafState.ReadingWaiting

abbrev pub asked_when_lost : LeafState → Option TxKind
asked_when_lost LeafState.Shared = None
asked_when_lost LeafState.Exclusive = None
asked_when_lost LeafState.Waiting = Some TxKind.ReadTx
asked_when_lost LeafState.Reading = None
asked_when_lost LeafState.ReadingWaiting = None

-- ---- told data: a row for each state that waits for it, and what the leaf then asks for
abbrev pub state_with_data : LeafState → Option LeafState
state_with_data LeafState.Shared = None
state_with_data LeafState.Exclusive = None
state_with_data LeafState.Waiting = None
state_with_data LeafState.Reading = Some LeafState.Shared
state_with_data LeafState.ReadingWaiting = Some LeafState.Waiting

abbrev pub asked_with_data : LeafState → Option TxKind
asked_with_data LeafState.Shared = None
asked_with_data LeafState.Exclusive = None
asked_with_data LeafState.Waiting = None
asked_with_data LeafState.Reading = None
asked_with_data LeafState.ReadingWaiting = Some TxKind.EraseTx

-- told exclusive: a row for the state that waits for it
abbrev pub state_with_exclusive : LeafState → Option LeafState
state_with_exclusive LeafState.Shared = None
state_with_exclusive LeafState.Exclusive = None
state_with_exclusive LeafState.Waiting = Some LeafState.Exclusive
state_with_exclusive LeafState.Reading = None
state_with_exclusive LeafState.ReadingWaiting = None

-- told inject: a row for each state that waits for data
abbrev pub state_with_inject : LeafState → Option LeafState
state_with_inject LeafState.Shared = None
state_with_inject LeafState.Exclusive = None
state_with_inject LeafState.Waiting = None
state_with_inject LeafState.Reading = Some LeafState.Exclusive
state_with_inject LeafState.ReadingWaiting = Some LeafState.Exclusive

-- told to answer a read: a row for each state that has words
abbrev pub state_answered : LeafState → Option LeafState
state_answered LeafState.Shared = Some LeafState.Shared
state_answered LeafState.Exclusive = Some LeafState.Shared
state_answered LeafState.Waiting = Some LeafState.Waiting
state_answered LeafState.Reading = None
state_answered LeafState.ReadingWaiting = None

-- ---- tests of a state

-- the entry waits for a transaction of its own
abbrev pub is_waiting : LeafState → Bool
is_waiting LeafState.Shared = false
is_waiting LeafState.Exclusive = false
is_waiting LeafState.Waiting = true
is_waiting LeafState.Reading = true
is_waiting LeafState.ReadingWaiting = true

-- the entry waits for data
abbrev pub is_reading : LeafState → Bool
is_reading LeafState.Shared = false
is_reading LeafState.Exclusive = false
is_reading LeafState.Waiting = false
is_reading LeafState.Reading = true
is_reading LeafState.ReadingWaiting = true

-- the entry waits to be exclusive, and has words
abbrev pub is_upgrading : LeafState → Bool
is_upgrading LeafState.Shared = false
is_upgrading LeafState.Exclusive = false
is_upgrading LeafState.Waiting = true
is_upgrading LeafState.Reading = false
is_upgrading LeafState.ReadingWaiting = false

-- the entry may leave the buffer
abbrev pub may_leave : LeafState → Bool
may_leave LeafState.Shared = true
may_leave LeafState.Exclusive = true
may_leave LeafState.Waiting = false
may_leave LeafState.Reading = false
may_leave LeafState.ReadingWaiting = false

-- ---- tests of what is held

abbrev pub is_held : Hold → Bool
is_held Hold.Invalid = false
is_held Hold.Shared = true
is_held Hold.Exclusive = true

abbrev pub is_exclusive : Hold → Bool
is_exclusive Hold.Invalid = false
is_exclusive Hold.Shared = false
is_exclusive Hold.Exclusive = true

abbrev pub is_shared : Hold → Bool
is_shared Hold.Invalid = false
is_shared Hold.Shared = true
is_shared Hold.Exclusive = false
