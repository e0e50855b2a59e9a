-- An SC fails exactly where its item isn't the leaf's reservation.
-- Letters: t is a turn, m a machine, n a node, v a leaf, d a directory, x an item.
-- To be believed: it is what is claimed of every turn of a hart.
use Rattle.std.specs.Prelude.{◌≡◌, ℕ, Bool, true, false, not, ◌||◌, List, Option, is_some, unwrap_or, if◌then◌else◌}
use Rattle.lr_sc_laws.specs.DdmTypes.declared.answers.TurnAnswer.{TurnAnswer}
use Rattle.lr_sc_laws.specs.DdmTypes.declared.keys.Key.{Key}
use Rattle.lr_sc_laws.specs.DdmTypes.declared.operations.Effect.{Effect}
use Rattle.lr_sc_laws.specs.DdmTypes.declared.operations.Effect.TheVariants.{Plain, Put, Load, Store, Lr, ScOk, ScFail, Amo}
use Rattle.lr_sc_laws.specs.DdmTypes.declared.turns.Turn.{Turn}
use Rattle.lr_sc_laws.specs.DdmTypes.CodeMap.{CodeWord}
use Rattle.lr_sc_laws.specs.DdmTypes.ItemTable.{ItemTable}
use Rattle.lr_sc_laws.specs.FlatModel.declared.Ask.{Ask}
use Rattle.lr_sc_laws.specs.FlatModel.Flat.{has_reserved}
use Rattle.lr_sc_laws.specs.FlatModel.Hart.{ask_of}
use Rattle.tree_model.specs.State.Values.{LeafValue, Node, leaf_node, dir_node, MachineValue, root_of}
use Rattle.tree_model.specs.State.Leaf.{waiting_item}
use Rattle.tree_model.specs.State.Place.{Where, at_top}
use Rattle.tree_model.specs.Turns.HartTurn.{leaf_step}
use Rattle.tree_model.specs.Turns.Tree.{read_in}
use Rattle.tree_model.specs.Turns.Machine.{named_by, turn_of}

abbrev pub is_sc_fail : Effect → Bool
is_sc_fail Plain = false
is_sc_fail (Put byte) = false
is_sc_fail (Load address word) = false
is_sc_fail (Store address before after) = false
is_sc_fail (Lr address word) = false
is_sc_fail (ScOk address before after) = false
is_sc_fail (ScFail address) = true
is_sc_fail (Amo address before after) = false

-- an SC completed as failed
abbrev pub sc_failed : TurnAnswer → Bool
sc_failed (TurnAnswer.Retired op) = is_sc_fail op.effect
sc_failed (TurnAnswer.Issued kind x) = false
sc_failed (TurnAnswer.Waiting x) = false
sc_failed (TurnAnswer.Halted cause) = false
sc_failed (TurnAnswer.Granted e) = false
sc_failed TurnAnswer.Empty = false
sc_failed (TurnAnswer.Busy cause) = false

-- an instruction that is an SC on an item other than the one that is reserved, where one is
abbrev pub is_unreserved : Ask → Option ℕ → Bool
is_unreserved Ask.Plain reserved = false
is_unreserved (Ask.Put byte) reserved = false
is_unreserved (Ask.NeedsShared x lr) reserved = false
is_unreserved (Ask.NeedsExclusive x) reserved = false
is_unreserved (Ask.Conditional x) reserved = not (has_reserved reserved x)
is_unreserved (Ask.Halt cause) reserved = false

-- the leaf's hart hasn't halted, no entry of its leaf waits for a transaction, and it comes to such an SC
abbrev pub leaf_fails : List CodeWord → ItemTable → LeafValue → Bool
leaf_fails code items v =
    if is_some v.hart.halt || is_some (waiting_item v.ways v.buffer) then false
    else is_unreserved (ask_of code items v.hart) v.reservation

abbrev pub fails_here : List CodeWord → ItemTable → Where → Node → Bool
fails_here code items w (leaf_node v) = leaf_fails code items v
fails_here code items w (dir_node d ns) = false

-- so it is at the leaf that a turn names
abbrev pub fails_unreserved : Turn → MachineValue → Bool
fails_unreserved t m = unwrap_or (read_in (named_by t) (fails_here m.code m.items) at_top (root_of m)) false

-- an SC completes as failed exactly there: one that completes with its reservation has stored
abbrev pub LeafFailsUnreserved : Type 0
LeafFailsUnreserved =
    (code : List CodeWord) (items : ItemTable) (now : Key) (victim : ℕ) (v : LeafValue) →
    sc_failed (leaf_step code items now victim v).answer ≡ leaf_fails code items v

abbrev pub TurnFailsUnreserved : Type 0
TurnFailsUnreserved = (t : Turn) (m : MachineValue) → sc_failed (turn_of t m).answer ≡ fails_unreserved t m
