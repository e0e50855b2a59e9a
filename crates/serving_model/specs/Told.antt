-- The walks for an instruction, by what its turn answered and by the state of its leaf's entry after the first walk: what
-- can be seen of a machine.
-- Letters: m is the machine after the turn that issued a request, h the leaf, x the item.
-- To be believed with the laws: it is what they speak of, and what code goes by.
use Rattle.std.specs.Prelude.{◌≡◌, ◌<◌, ℕ, true, List, [], Option, Some, None}
use Rattle.std.specs.List.{list_all}
use Rattle.serving_model.specs.DdmTypes.declared.answers.TurnAnswer.{TurnAnswer}
use Rattle.serving_model.specs.DdmTypes.declared.answers.TxKind.{TxKind}
use Rattle.serving_model.specs.DdmTypes.declared.sizes.LeafState.{LeafState}
use Rattle.serving_model.specs.DdmTypes.declared.turns.Turn.{Turn}
use Rattle.serving_model.specs.TreeModel.State.Leaf.{state_at}
use Rattle.serving_model.specs.TreeModel.State.Shape.{IsShaped}
use Rattle.serving_model.specs.TreeModel.State.Values.{Node, MachineValue, root_of}
use Rattle.serving_model.specs.TreeModel.Turns.Machine.{ask_leaf, turn_of, run_of}
use Rattle.serving_model.specs.TreeRules.Bus.Rules.{IsMachineOk, items_of_machine}
use Rattle.serving_model.specs.Rest.{is_at_rest, has_room}
use Rattle.serving_model.specs.Walk.{erase_turns}
use Rattle.serving_model.specs.Serving.{walk_by_kind, walk_of}
use Rattle.serving_model.specs.Parts.{is_granted, FlatView, AllHave}
use Rattle.serving_model.specs.OneLeaf.{MayEndFor}

-- the state of the leaf's entry of an item
abbrev pub entry_state_at : ℕ → ℕ → MachineValue → Option (Option LeafState)
entry_state_at h x m = ask_leaf h (λ w v. state_at x v) None m

-- an entry that waits to be written asks to erase all other copies
abbrev pub walk_by_state : Option (Option LeafState) → ℕ → ℕ → Node → List Turn
walk_by_state (Some (Some LeafState.Waiting)) h x n = erase_turns h x n
walk_by_state _ h x n = []

-- the machine after the first walk
abbrev pub walked : ℕ → MachineValue → MachineValue
walked h m = (run_of (walk_of h m) m).machine

-- the first walk is that of the request that was issued, and the other one goes by the state; the turns of both are granted
pub record AreTold (m : MachineValue) (kind : TxKind) (h x : ℕ) : Type 0 where
  pub inside : x < items_of_machine m
  pub first : walk_of h m ≡ walk_by_kind kind h x (root_of m)
  pub first_granted : list_all is_granted (run_of (walk_of h m) m).answers ≡ true
  pub later : walk_of h (walked h m) ≡ walk_by_state (entry_state_at h x (walked h m)) h x (root_of (walked h m))
  pub later_granted : list_all is_granted (run_of (walk_of h (walked h m)) (walked h m)).answers ≡ true

-- Where a hart's turn in a machine at rest, with room, issues a request.
abbrev pub WalksAreTold : Type 0
WalksAreTold =
    (m : MachineValue) (flat : FlatView) (h victim : ℕ) (kind : TxKind) (x : ℕ) → IsShaped m → IsMachineOk m →
    is_at_rest m ≡ true → has_room m ≡ true → AllHave flat m.kids → MayEndFor flat h m
    → (turn_of (Turn.Hart h victim) m).answer ≡ TurnAnswer.Issued kind x → AreTold (turn_of (Turn.Hart h victim) m).machine kind h x
