-- A list of operations served: the schedule on which a machine completes them in their order, one instruction at a
-- time.
-- Letters: m is a machine, h a hart and its leaf, r a request.
-- To be believed: it is what is printed.
use Rattle.std.specs.Prelude.{ℕ, ◌+◌, Bool, false, ◌&&◌, nat_eq, nat_lt, List, [], ◌∷◌, ◌++◌, length, Option, None}
use Rattle.std.specs.Prelude.{Some, option_and_then, Result, Ok, Err, if◌then◌else◌}
use Rattle.serving_model.specs.DdmTypes.declared.answers.TurnAnswer.{TurnAnswer}
use Rattle.serving_model.specs.DdmTypes.declared.answers.TxKind.{TxKind}
use Rattle.serving_model.specs.DdmTypes.declared.operations.Op.{Op}
use Rattle.serving_model.specs.DdmTypes.declared.turns.Turn.{Turn}
use Rattle.serving_model.specs.FlatModel.Legal.{same_effect}
use Rattle.serving_model.specs.TreeModel.State.Values.{RequestValue, Node, MachineValue, root_of}
use Rattle.serving_model.specs.TreeModel.Turns.Machine.{turn_of, run_of, ask_leaf}
use Rattle.serving_model.specs.Rest.{has_room}
use Rattle.serving_model.specs.Walk.{read_turns, erase_turns}

-- ---- one instruction

-- what the leaf asks for
abbrev pub asked_of : ℕ → MachineValue → Option RequestValue
asked_of h m = option_and_then (λ slot. slot) (ask_leaf h (λ w v. v.slot) None m)

abbrev pub walk_by_kind : TxKind → ℕ → ℕ → Node → List Turn
walk_by_kind TxKind.ReadTx h x n = read_turns h x n
walk_by_kind TxKind.EraseTx h x n = erase_turns h x n
walk_by_kind _ h x n = []

abbrev pub walk_for : ℕ → Option RequestValue → Node → List Turn
walk_for h None n = []
walk_for h (Some r) n = walk_by_kind r.kind h r.item n

-- the walk for what the leaf asks for, which is nothing where it has all that it needs
unfoldable pub walk_of : ℕ → MachineValue → List Turn
walk_of h m = walk_for h (asked_of h m) (root_of m)

-- and then for what it asks for when that has come: a leaf that reads to write erases next
unfoldable pub walks_of : ℕ → MachineValue → List Turn
walks_of h m = walk_of h m ++ walk_of h (run_of (walk_of h m) m).machine

-- a hart's turn that answered so: where it issued a request, the walks follow, and one more turn of the hart
abbrev pub turns_behind : ℕ → TurnAnswer → MachineValue → List Turn
turns_behind h (TurnAnswer.Issued kind x) m = walks_of h m ++ Turn.Hart h 0 ∷ []
turns_behind h _ m = []

-- the turns by which a hart of a machine at rest completes its next instruction
unfoldable pub turns_to_complete : ℕ → MachineValue → List Turn
turns_to_complete h m = Turn.Hart h 0 ∷ turns_behind h (turn_of (Turn.Hart h 0) m).answer (turn_of (Turn.Hart h 0) m).machine

-- ---- operations

-- the same hart, place in its code and effect; keys aren't looked at
abbrev pub same_operation : Op → Op → Bool
same_operation a b = nat_eq a.hart b.hart && (nat_eq a.pc b.pc && same_effect a.effect b.effect)

-- some turn completed this operation
abbrev pub completes_op : Op → List TurnAnswer → Bool
completes_op op [] = false
completes_op op (TurnAnswer.Retired o ∷ answers) = same_operation op o
completes_op op (answer ∷ answers) = completes_op op answers

pub data ServingRefusal : Type 0 where
  -- some set of a leaf would need a victim, or some list has no place
  no_room : ServingRefusal
  -- the operation of this line isn't what its hart does next
  not_served : ℕ → ServingRefusal
  -- with the turns of this line there are more than a schedule has
  too_many_turns : ℕ → ServingRefusal

-- so many turns a schedule has at most
abbrev pub turn_limit : ℕ
turn_limit = 1048576

abbrev pub with_turns : List Turn → Result (List Turn) ServingRefusal → Result (List Turn) ServingRefusal
with_turns ts (Ok rest) = Ok (ts ++ rest)
with_turns ts (Err refusal) = Err refusal

-- the operations from this line on, behind so many turns
unfoldable pub serve_from : ℕ → ℕ → List Op → MachineValue → Result (List Turn) ServingRefusal
serve_from line made [] m = Ok []
serve_from line made (op ∷ ops) m =
    let ts = turns_to_complete op.hart m in
    let r = run_of ts m in
    if nat_lt turn_limit (made + length ts) then Err (too_many_turns line)
    else if completes_op op r.answers then with_turns ts (serve_from (line + 1) (made + length ts) ops r.machine)
    else Err (not_served line)

-- lines of a witness are counted from 1
unfoldable pub serve_of : List Op → MachineValue → Result (List Turn) ServingRefusal
serve_of ops m = if has_room m then serve_from 1 0 ops m else Err no_room
