-- What the step of a hart's next instruction tells: what the instruction asks for, that it goes on where that is no halt, and what it
-- leaves.
use Rattle.std.proofs.Common.{◌≡◌, ◌*◌, ℕ, Bool, List, sym, ap, ◌∙◌}
use Rattle.leaf_protocol.specs.DdmTypes.CodeMap.{CodeWord}
use Rattle.leaf_protocol.specs.DdmTypes.ItemTable.{ItemTable}
use Rattle.leaf_protocol.specs.FlatModel.declared.Ask.{Ask}
use Rattle.leaf_protocol.specs.FlatModel.Hart.{HartValue, Action, Halts, Computes, Puts, Loads, Stores, Reserves, StoresIfReserved, Changes, action_of, ask_by, ask_of, finish_by, finish_of}
use Rattle.rv_hart.specs.declared.steps.Step.{Step}
use Rattle.rv_hart.specs.Steps.{GoesOn, IsInside, IsReady, action_by}
use Rattle.leaf_protocol.specs.Leaf.{IsStep}

pub step_is : (width : ℕ) (code : List CodeWord) (items : ItemTable) (h : HartValue) (step : Step) → items.size ≡ 4 * width → action_by h step ≡ action_of code items h → IsInside items.size step → IsStep width code items h step
step_is width code items h step size action inside = record { action = action; inside = rw size at inside }

pub step_asks : (width : ℕ) (code : List CodeWord) (items : ItemTable) (h : HartValue) (step : Step) (ask : Ask) → IsStep width code items h step → ask ≡ ask_by (action_by h step) → ask_of code items h ≡ ask
unfolding ask_of
step_asks width code items h step ask is asks = ap ask_by (sym is.action) ∙ sym asks

goes-unless-halt : (a : Action) → IsReady (ask_by a) → GoesOn a
goes-unless-halt (Halts cause) ready = ready
goes-unless-halt (Computes after) ready = tt
goes-unless-halt (Puts byte after) ready = tt
goes-unless-halt (Loads op rd a) ready = tt
goes-unless-halt (Stores op v a) ready = tt
goes-unless-halt (Reserves rd a) ready = tt
goes-unless-halt (StoresIfReserved rd v a) ready = tt
goes-unless-halt (Changes op rd v a) ready = tt

pub step_goes : (width : ℕ) (code : List CodeWord) (items : ItemTable) (h : HartValue) (step : Step) → IsStep width code items h step → IsReady (ask_of code items h) → GoesOn (action_by h step)
unfolding ask_of
step_goes width code items h step is ready = goes-unless-halt (action_by h step) (rw is.action ready)

pub step_finishes : (width : ℕ) (code : List CodeWord) (items : ItemTable) (h : HartValue) (step : Step) (words : List ℕ) (stores : Bool) → IsStep width code items h step → finish_by (action_by h step) h words stores ≡ finish_of code items h words stores
unfolding finish_of
step_finishes width code items h step words stores is = ap (λ a. finish_by a h words stores) is.action
