-- Answers told by hand that aren't those of the run in order. A run's answers are computed from its turns, so what is refused
-- here is what a run's witness says of them.
use Rattle.std.specs.Prelude.{◌≡◌, ℕ, List, [], ◌∷◌, ◌++◌, filter}
use Rattle.broken_runs.specs.DdmTypes.declared.answers.BusyCause.{BusyCause}
use Rattle.broken_runs.specs.DdmTypes.declared.answers.PendingWhy.{PendingWhy}
use Rattle.broken_runs.specs.DdmTypes.declared.answers.QueueName.{QueueName}
use Rattle.broken_runs.specs.DdmTypes.declared.answers.TurnAnswer.{TurnAnswer}
use Rattle.broken_runs.specs.DdmTypes.declared.operations.Effect.{Effect}
use Rattle.broken_runs.specs.DdmTypes.declared.operations.HaltCause.{HaltCause}
use Rattle.broken_runs.specs.DdmTypes.declared.turns.Turn.{Turn}
use Rattle.tree_rules.specs.Witness.{busy_has_cause, ops_of_answers, IsHaltedByTurn}
use Rattle.broken_runs.specs.Run.{start, after, store, answers_with, ended_0, ended_ops}

-- ---- operations

-- the operations at the end are those of these answers, but for the turn of the store
abbrev pub AreAnswered : TurnAnswer → Type 0
AreAnswered a = ended_ops ≡ start.ops ++ ops_of_answers (answers_with a)

pub record OtherOperations : Type 0 where
  pub kept : AreAnswered (TurnAnswer.Retired store)
  -- it answers another operation
  pub other : ¬ AreAnswered (TurnAnswer.Retired (record store { effect = Effect.Store 0x20000 5 8 }))
  -- it answers none, and one was completed
  pub waiting : ¬ AreAnswered (TurnAnswer.Waiting 0)
  pub busy : ¬ AreAnswered (TurnAnswer.Busy (BusyCause.ItemPending 0 0 PendingWhy.InDown))

-- ---- halts

-- a turn of hart 0 answers that it has halted, and it goes on
abbrev pub HaltsHart0 : Type 0
HaltsHart0 =
    IsHaltedByTurn ((Turn.Down 0) ∷ (Turn.Hart 0 0) ∷ [])
    (TurnAnswer.Empty ∷ TurnAnswer.Halted (HaltCause.FetchOutside 0x1000c) ∷ []) ended_0

-- ---- causes: every kind of them, of bus 0 and its leaves

-- the item is pending on bus 0
abbrev pub noted : PendingWhy → BusyCause
noted why = BusyCause.ItemPending 0 0 why

abbrev pub replies_full : BusyCause
replies_full = BusyCause.QueueFull (QueueName.LeafReplies 1)

abbrev pub all_causes : List BusyCause
all_causes =
    noted (PendingWhy.Local 0) ∷ noted (PendingWhy.Local 1)
    ∷ noted (PendingWhy.UpRead 0) ∷ noted (PendingWhy.UpErase 0)
    ∷ noted (PendingWhy.UpErase 1) ∷ noted PendingWhy.Answering
    ∷ noted PendingWhy.InDown ∷ BusyCause.ItemPending 0 1 (PendingWhy.Local 0)
    ∷ BusyCause.ItemPending 1 0 (PendingWhy.Local 0) ∷ BusyCause.QueueFull (QueueName.Down 0)
    ∷ BusyCause.QueueFull (QueueName.Requests 0) ∷ BusyCause.QueueFull (QueueName.Replies 0)
    ∷ BusyCause.QueueFull (QueueName.LeafReplies 0) ∷ replies_full
    ∷ BusyCause.BufferFull 0 ∷ BusyCause.ParkingFull 0 ∷ BusyCause.NoRoom 0 ∷ []

-- which of them a busy turn may name after so many turns of the run
abbrev pub causes_after : ℕ → Turn → List BusyCause
causes_after count t = filter (λ cause. busy_has_cause t (after count) (TurnAnswer.Busy cause)) all_causes

pub record OtherCauses : Type 0 where
  -- at the start none
  pub at_start : causes_after 0 (Turn.Leave 0 1 0) ≡ []
  -- leaf 0 reads, and leaf 1 has a reply for it
  pub read_under_way : causes_after 3 (Turn.Request 0 1) ≡ noted (PendingWhy.Local 0) ∷ replies_full ∷ []
  -- and where a copy of leaf 1 was to leave, no other leaf has room
  pub no_room : causes_after 3 (Turn.Leave 0 1 0) ≡ noted (PendingWhy.Local 0) ∷ replies_full ∷ BusyCause.NoRoom 0 ∷ []
  -- leaf 1 erases, and that comes down in a list of one place
  pub erase_under_way :
      causes_after 7 (Turn.Request 0 0)
      ≡ noted (PendingWhy.UpErase 1) ∷ noted PendingWhy.InDown ∷ BusyCause.QueueFull (QueueName.Down 0) ∷ []
