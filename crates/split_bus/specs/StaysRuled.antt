-- What a turn keeps of the rules of its bus.
-- Letters: p is the parent before the turn, ns are its children, q and ms the same after it.
-- To be believed where a rule is relied on; the order of the witness needs no reader here.
use Rattle.std.specs.Prelude.{ℕ, List}
use Rattle.std.specs.List.{AllByRecursion}
use Rattle.split_bus.specs.DdmTypes.declared.answers.TurnAnswer.{TurnAnswer}
use Rattle.split_bus.specs.DdmTypes.declared.keys.Stamp.{Stamp}
use Rattle.split_bus.specs.TreeModel.State.Values.{DirValue, Node}
use Rattle.bus_laws.specs.TreeRules.Bus.Rules.{IsBusOk, IsChildOk}
use Rattle.bus_laws.specs.KeepsBus.{KeepsBus}

-- Where the rules of the bus hold before, and those of each child, they hold after, whatever it answers; the bus above, of which
-- this is the present stamp, sees the same of the parent, or that it has answered.
unfoldable pub StaysRuled : Stamp → DirValue → List Node → TurnAnswer → DirValue → List Node → Type 0
StaysRuled above p ns answer q ms =
    (n : ℕ) → IsBusOk n p ns → AllByRecursion (IsChildOk n) ns →
    KeepsBus n above p ns (record { answer = answer; parent = q; kids = ms })
