-- What a recorded run is measured by: counts of what its turns answered.
-- Letters: t is a turn, a its answer, m a machine, h a hart's number, b a bus's, x an item, r a recorded run.
-- To be believed: it is what is printed of a run.
use Rattle.std.specs.Prelude.{ℕ, Bool, true, false, ◌&&◌, nat_eq, List, [], ◌∷◌, filter, length}
use Rattle.recording_model.specs.DdmTypes.declared.answers.TurnAnswer.{TurnAnswer}
use Rattle.recording_model.specs.DdmTypes.declared.answers.TxKind.{TxKind}
use Rattle.recording_model.specs.DdmTypes.declared.operations.Effect.{Effect}
use Rattle.recording_model.specs.DdmTypes.declared.turns.Turn.{Turn}
use Rattle.recording_model.specs.TreeModel.State.Values.{MachineValue}
use Rattle.recording_model.specs.TreeModel.Turns.Machine.{turn_of}
use Rattle.recording_model.specs.Recording.{Recording, made_turns}
use Rattle.measure_model.specs.declared.HartCounts.{HartCounts}
use Rattle.measure_model.specs.declared.ItemCounts.{ItemCounts}
use Rattle.measure_model.specs.declared.RunTotals.{RunTotals}

-- a turn that was made, and what it answered
pub record Made : Type 0 where
  pub turn : Turn
  pub answer : TurnAnswer

-- those of a run
unfoldable pub made_of : List Turn → MachineValue → List Made
made_of [] m = []
made_of (t ∷ ts) m = let now = turn_of t m in record { turn = t; answer = now.answer } ∷ made_of ts now.machine

abbrev pub how_many : (Made → Bool) → List Made → ℕ
how_many test made = length (filter test made)

-- ---- answers

abbrev pub is_retired : TurnAnswer → Bool
is_retired (TurnAnswer.Retired op) = true
is_retired a = false

abbrev pub is_issued : TurnAnswer → Bool
is_issued (TurnAnswer.Issued kind x) = true
is_issued a = false

abbrev pub is_granted : TurnAnswer → Bool
is_granted (TurnAnswer.Granted entry) = true
is_granted a = false

abbrev pub is_halted : TurnAnswer → Bool
is_halted (TurnAnswer.Halted cause) = true
is_halted a = false

abbrev pub is_busy : TurnAnswer → Bool
is_busy (TurnAnswer.Busy cause) = true
is_busy a = false

-- an instruction completed whose effect is one of these
abbrev pub has_effect : (Effect → Bool) → TurnAnswer → Bool
has_effect test (TurnAnswer.Retired op) = test op.effect
has_effect test a = false

abbrev pub is_load : Effect → Bool
is_load (Effect.Load address word) = true
is_load (Effect.Lr address word) = true
is_load e = false

abbrev pub is_store : Effect → Bool
is_store (Effect.Store address before after) = true
is_store (Effect.ScOk address before after) = true
is_store e = false

abbrev pub is_amo : Effect → Bool
is_amo (Effect.Amo address before after) = true
is_amo e = false

abbrev pub is_failed : Effect → Bool
is_failed (Effect.ScFail address) = true
is_failed e = false

abbrev pub is_read : TxKind → Bool
is_read TxKind.ReadTx = true
is_read kind = false

abbrev pub is_erase : TxKind → Bool
is_erase TxKind.EraseTx = true
is_erase kind = false

abbrev pub is_inject : TxKind → Bool
is_inject TxKind.InjectTx = true
is_inject kind = false

-- a transaction of such a kind was asked for
abbrev pub asks : (TxKind → Bool) → TurnAnswer → Bool
asks test (TurnAnswer.Issued kind x) = test kind
asks test a = false

-- and of this item
abbrev pub asks_for : (TxKind → Bool) → ℕ → TurnAnswer → Bool
asks_for test x (TurnAnswer.Issued kind y) = test kind && nat_eq y x
asks_for test x a = false

-- an inject of this item was granted
abbrev pub injects : ℕ → TurnAnswer → Bool
injects x (TurnAnswer.Granted entry) = is_inject entry.kind && nat_eq entry.item x
injects x a = false

-- ---- whose turn it is

abbrev pub is_of_hart : ℕ → Turn → Bool
is_of_hart h (Turn.Hart hart victim) = nat_eq hart h
is_of_hart h t = false

abbrev pub is_of_bus : ℕ → Turn → Bool
is_of_bus b (Turn.Hart hart victim) = false
is_of_bus b (Turn.Down bus) = nat_eq bus b
is_of_bus b (Turn.Request bus child) = nat_eq bus b
is_of_bus b (Turn.Reply bus child) = nat_eq bus b
is_of_bus b (Turn.Leave bus child choice) = nat_eq bus b

-- ---- counts

-- the turns that answered so, those of a hart among them, and those of a bus
abbrev pub of_all : (TurnAnswer → Bool) → List Made → ℕ
of_all test made = how_many (λ (k : Made). test k.answer) made

abbrev pub of_hart : ℕ → (TurnAnswer → Bool) → List Made → ℕ
of_hart h test made = how_many (λ (k : Made). is_of_hart h k.turn && test k.answer) made

abbrev pub of_bus : ℕ → (TurnAnswer → Bool) → List Made → ℕ
of_bus b test made = how_many (λ (k : Made). is_of_bus b k.turn && test k.answer) made

unfoldable pub hart_counts : List Made → ℕ → HartCounts
hart_counts made h = record {
  loads = of_hart h (has_effect is_load) made;
  stores = of_hart h (has_effect is_store) made;
  amos = of_hart h (has_effect is_amo) made;
  failed = of_hart h (has_effect is_failed) made;
  reads = of_hart h (asks is_read) made;
  erases = of_hart h (asks is_erase) made;
  busy = of_hart h is_busy made;
}

unfoldable pub bus_busy : List Made → ℕ → ℕ
bus_busy made b = of_bus b is_busy made

unfoldable pub item_counts : List Made → ℕ → ItemCounts
item_counts made x =
    record {
      reads = of_all (asks_for is_read x) made;
      erases = of_all (asks_for is_erase x) made;
      injects = of_all (injects x) made;
    }

-- Of the recorded turns is counted what they answered; busy turns are among those that were made.
unfoldable pub totals_of : Recording → MachineValue → RunTotals
totals_of r m =
    let recorded = made_of r.turns m in
    record {
      turns = length r.turns;
      drawn = length r.drawn;
      retired = of_all is_retired recorded;
      issued = of_all is_issued recorded;
      granted = of_all is_granted recorded;
      halted = of_all is_halted recorded;
      busy = of_all is_busy (made_of (made_turns r.drawn) m);
    }
