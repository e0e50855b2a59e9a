-- The words of a checkpoint for what is one of several: what a directory holds, notes, states of entries, requests, why a hart
-- stopped, what an instruction did. Kinds of transactions have the numbers of `kind_number`.
-- To be believed: it is the written format.
use Rattle.std.specs.Prelude.{ℕ, ◌+◌, Bool, List, [], ◌∷◌, Option, Some, None, if◌then◌else◌}
use Rattle.state_words.specs.DdmTypes.declared.answers.TxKind.{TxKind}
use Rattle.state_words.specs.DdmTypes.declared.sizes.Hold.{Hold}
use Rattle.state_words.specs.DdmTypes.declared.sizes.LeafState.{LeafState}
use Rattle.state_words.specs.DdmTypes.declared.operations.HaltCause.{HaltCause}
use Rattle.state_words.specs.DdmTypes.declared.operations.Effect.{Effect}
use Rattle.state_words.specs.DdmTypes.declared.keys.Stamp.{Stamp}
use Rattle.state_words.specs.DdmTypes.declared.keys.Key.{Key}
use Rattle.state_words.specs.TreeModel.State.Values.{RequestValue, Note, no_note, local, up_read, up_erase}

abbrev pub hold_number : Hold → ℕ
hold_number Hold.Invalid = 0
hold_number Hold.Shared = 1
hold_number Hold.Exclusive = 2

-- its kind, its child, and the set of those that joined it
abbrev pub note_words : Note → List ℕ
note_words no_note = 0 ∷ 0 ∷ 0 ∷ []
note_words (local first joined) = 1 ∷ first ∷ joined ∷ []
note_words (up_read first joined) = 2 ∷ first ∷ joined ∷ []
note_words (up_erase child) = 3 ∷ child ∷ 0 ∷ []

abbrev pub flag_number : Bool → ℕ
flag_number b = if b then 1 else 0

abbrev pub state_number : LeafState → ℕ
state_number LeafState.Shared = 1
state_number LeafState.Exclusive = 2
state_number LeafState.Waiting = 3
state_number LeafState.Reading = 4
state_number LeafState.ReadingWaiting = 5

-- a slot has a read or an erase
abbrev pub slot_number : TxKind → ℕ
slot_number TxKind.ReadTx = 1
slot_number TxKind.DataTx = 0
slot_number TxKind.EraseTx = 2
slot_number TxKind.ExclusiveTx = 0
slot_number TxKind.InjectTx = 0
slot_number TxKind.OutTx = 0

-- what a leaf's slot asks for, and the item
abbrev pub slot_words : Option RequestValue → List ℕ
slot_words None = 0 ∷ 0 ∷ []
slot_words (Some r) = slot_number r.kind ∷ r.item ∷ []

-- an item that is reserved, so that 0 says that there is none
abbrev pub reserved_word : Option ℕ → ℕ
reserved_word None = 0
reserved_word (Some x) = x + 1

-- why a hart stopped, and the number that belongs to it
abbrev pub halt_words : Option HaltCause → List ℕ
halt_words None = 0 ∷ 0 ∷ []
halt_words (Some (HaltCause.Exit value)) = 1 ∷ value ∷ []
halt_words (Some (HaltCause.Illegal word)) = 2 ∷ word ∷ []
halt_words (Some HaltCause.Breakpoint) = 3 ∷ 0 ∷ []
halt_words (Some (HaltCause.UnknownCall number)) = 4 ∷ number ∷ []
halt_words (Some (HaltCause.MisalignedTarget address)) = 5 ∷ address ∷ []
halt_words (Some (HaltCause.FetchOutside address)) = 6 ∷ address ∷ []
halt_words (Some (HaltCause.MisalignedAccess address)) = 7 ∷ address ∷ []
halt_words (Some (HaltCause.LoadOutside address)) = 8 ∷ address ∷ []
halt_words (Some (HaltCause.StoreOutside address)) = 9 ∷ address ∷ []

-- what an instruction did, and three numbers: those that belong to it, in order, and 0 for the rest
abbrev pub effect_words : Effect → List ℕ
effect_words Effect.Plain = 0 ∷ 0 ∷ 0 ∷ 0 ∷ []
effect_words (Effect.Put byte) = 1 ∷ byte ∷ 0 ∷ 0 ∷ []
effect_words (Effect.Load address word) = 2 ∷ address ∷ word ∷ 0 ∷ []
effect_words (Effect.Store address before after) = 3 ∷ address ∷ before ∷ after ∷ []
effect_words (Effect.Lr address word) = 4 ∷ address ∷ word ∷ 0 ∷ []
effect_words (Effect.ScOk address before after) = 5 ∷ address ∷ before ∷ after ∷ []
effect_words (Effect.ScFail address) = 6 ∷ address ∷ 0 ∷ 0 ∷ []
effect_words (Effect.Amo address before after) = 7 ∷ address ∷ before ∷ after ∷ []

abbrev pub stamp_words : Stamp → List ℕ
stamp_words s = s.s0 ∷ s.s1 ∷ s.s2 ∷ s.s3 ∷ []

abbrev pub key_words : Key → List ℕ
key_words k = k.s0 ∷ k.c0 ∷ k.s1 ∷ k.c1 ∷ k.s2 ∷ k.c2 ∷ k.s3 ∷ k.c3 ∷ k.i ∷ []
