-- The grid has the entries of the tables of states.
use Rattle.std.proofs.Common.{◌≡◌, Some, refl}
use Rattle.protocol_table.specs.DdmTypes.declared.sizes.LeafState.{LeafState}
use Rattle.protocol_table.specs.DdmTypes.declared.sizes.LeafState.TheVariants.{Shared, Exclusive, Waiting, Reading}
use Rattle.protocol_table.specs.DdmTypes.declared.sizes.LeafState.TheVariants.{ReadingWaiting}
use Rattle.tree_model.specs.State.States.{entry_hold, state_lost, asked_when_lost, state_with_data, asked_with_data}
use Rattle.tree_model.specs.State.States.{state_with_exclusive, state_with_inject, state_answered, is_waiting}
use Rattle.tree_model.specs.State.States.{may_leave}
use Rattle.protocol_table.specs.Grid.{row_of}

pub grid-holds : (t : LeafState) → entry_hold (Some t) ≡ (row_of t).holds
grid-holds Shared = refl
grid-holds Exclusive = refl
grid-holds Waiting = refl
grid-holds Reading = refl
grid-holds ReadingWaiting = refl

pub grid-lost : (t : LeafState) → state_lost t ≡ (row_of t).lost.state
grid-lost Shared = refl
grid-lost Exclusive = refl
grid-lost Waiting = refl
grid-lost Reading = refl
grid-lost ReadingWaiting = refl

pub grid-asks_when_lost : (t : LeafState) → asked_when_lost t ≡ (row_of t).lost.asks
grid-asks_when_lost Shared = refl
grid-asks_when_lost Exclusive = refl
grid-asks_when_lost Waiting = refl
grid-asks_when_lost Reading = refl
grid-asks_when_lost ReadingWaiting = refl

pub grid-data : (t : LeafState) → state_with_data t ≡ (row_of t).data_comes.state
grid-data Shared = refl
grid-data Exclusive = refl
grid-data Waiting = refl
grid-data Reading = refl
grid-data ReadingWaiting = refl

pub grid-asks_with_data : (t : LeafState) → asked_with_data t ≡ (row_of t).data_comes.asks
grid-asks_with_data Shared = refl
grid-asks_with_data Exclusive = refl
grid-asks_with_data Waiting = refl
grid-asks_with_data Reading = refl
grid-asks_with_data ReadingWaiting = refl

pub grid-exclusive : (t : LeafState) → state_with_exclusive t ≡ (row_of t).exclusive_comes.state
grid-exclusive Shared = refl
grid-exclusive Exclusive = refl
grid-exclusive Waiting = refl
grid-exclusive Reading = refl
grid-exclusive ReadingWaiting = refl

pub grid-inject : (t : LeafState) → state_with_inject t ≡ (row_of t).inject_comes.state
grid-inject Shared = refl
grid-inject Exclusive = refl
grid-inject Waiting = refl
grid-inject Reading = refl
grid-inject ReadingWaiting = refl

pub grid-answers : (t : LeafState) → state_answered t ≡ (row_of t).answers.state
grid-answers Shared = refl
grid-answers Exclusive = refl
grid-answers Waiting = refl
grid-answers Reading = refl
grid-answers ReadingWaiting = refl

pub grid-waits : (t : LeafState) → is_waiting t ≡ (row_of t).waits
grid-waits Shared = refl
grid-waits Exclusive = refl
grid-waits Waiting = refl
grid-waits Reading = refl
grid-waits ReadingWaiting = refl

pub grid-leaves : (t : LeafState) → may_leave t ≡ (row_of t).may_leave
grid-leaves Shared = refl
grid-leaves Exclusive = refl
grid-leaves Waiting = refl
grid-leaves Reading = refl
grid-leaves ReadingWaiting = refl
