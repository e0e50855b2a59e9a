-- Conditional stores: an SC stores just where its hart's reservation holds, and where it stores the flat machine's holds.
-- To be believed: it is what is claimed of every turn.
use Rattle.std.specs.Prelude.{◌≡◌, ℕ, false, filter, Option, Some, None, ⊤}
use Rattle.headline.specs.DdmTypes.declared.answers.TurnAnswer.{TurnAnswer}
use Rattle.headline.specs.DdmTypes.declared.operations.Effect.{Effect}
use Rattle.headline.specs.DdmTypes.declared.operations.Effect.TheVariants.{Plain, Put, Load, Store, Lr, ScOk, ScFail, Amo}
use Rattle.headline.specs.DdmTypes.declared.operations.Op.{Op}
use Rattle.headline.specs.DdmTypes.declared.turns.Turn.{Turn}
use Rattle.headline.specs.DdmTypes.Keys.{key_less}
use Rattle.headline.specs.DdmTypes.ItemTable.{item_at}
use Rattle.headline.specs.FlatModel.Flat.{FlatMachine, flat_hart, has_reserved}
use Rattle.headline.specs.FlatModel.Legal.{legal_run}
use Rattle.headline.specs.TreeModel.State.Values.{MachineValue}
use Rattle.headline.specs.TreeModel.State.Shape.{IsShaped}
use Rattle.headline.specs.TreeModel.Turns.Machine.{turn_of, ask_leaf}
use Rattle.headline.specs.TreeModel.Turns.Witness.{sorted_ops}
use Rattle.headline.specs.TreeRules.Bus.Rules.{IsMachineOk}
use Rattle.headline.specs.TreeRules.Order.Rules.{IsTimed, IsCore}

-- the item that the hart of a leaf has reserved; None where there is no such leaf
abbrev pub reservation_of : ℕ → MachineValue → Option (Option ℕ)
reservation_of leaf m = ask_leaf leaf (λ w v. v.reservation) None m

-- an SC that stores, before its turn: the leaf has its item reserved, and so has the flat machine's hart after the operations
-- with lesser keys
pub record StoresReserved (s : FlatMachine) (m : MachineValue) (o : Op) (address : ℕ) : Type 0 where
  pub item : ℕ
  pub at : item_at m.items address ≡ Some item
  pub leaf : reservation_of o.hart m ≡ Some (Some item)
  pub before : FlatMachine
  pub run : legal_run m.code m.items s (filter (λ p. key_less p.key o.key) (sorted_ops m.ops)) ≡ Some before
  pub flat : (flat_hart before o.hart).reserved ≡ Some item

-- one that fails: the leaf hasn't reserved its item
pub record FailsUnreserved (m : MachineValue) (o : Op) (address : ℕ) : Type 0 where
  pub item : ℕ
  pub at : item_at m.items address ≡ Some item
  pub reserved : Option ℕ
  pub leaf : reservation_of o.hart m ≡ Some reserved
  pub other : has_reserved reserved item ≡ false

abbrev pub IsJudged : FlatMachine → MachineValue → Op → Effect → Type 0
IsJudged s m o Plain = ⊤
IsJudged s m o (Put byte) = ⊤
IsJudged s m o (Load address word) = ⊤
IsJudged s m o (Store address before after) = ⊤
IsJudged s m o (Lr address word) = ⊤
IsJudged s m o (ScOk address before after) = StoresReserved s m o address
IsJudged s m o (ScFail address) = FailsUnreserved m o address
IsJudged s m o (Amo address before after) = ⊤

-- of a turn that completes an instruction
abbrev pub ConditionalStoresJudged : Type 0
ConditionalStoresJudged =
    (s : FlatMachine) (m : MachineValue) (hart victim : ℕ) (o : Op) → IsShaped m → IsMachineOk m → IsTimed m →
    IsCore s m → (turn_of (Turn.Hart hart victim) m).answer ≡ TurnAnswer.Retired o → IsJudged s m o o.effect
