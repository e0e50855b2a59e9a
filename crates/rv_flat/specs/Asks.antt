-- What a hart's next instruction asks for.
use Rattle.std.specs.Prelude.{◌≡◌, ℕ, List, Option, Some, None}
use Rattle.rv_flat.specs.DdmTypes.declared.operations.HaltCause.{HaltCause}
use Rattle.rv_flat.specs.DdmTypes.CodeMap.{CodeWord}
use Rattle.rv_flat.specs.DdmTypes.ItemTable.{ItemTable}
use Rattle.rv_flat.specs.FlatModel.declared.Ask.{Ask}
use Rattle.rv_flat.specs.FlatModel.declared.Ask.TheVariants.{Plain, Put, NeedsShared, NeedsExclusive, Conditional, Halt}
use Rattle.rv_flat.specs.FlatModel.Hart.{ask_of}
use Rattle.rv_flat.specs.FlatModel.Flat.{FlatHart}

abbrev pub ask_unless_halted : Option HaltCause → Ask → Ask
ask_unless_halted None ask = ask
ask_unless_halted (Some cause) ask = Halt cause

-- what the hart's next instruction asks for, and its halt where it is halted
abbrev pub next_ask : List CodeWord → ItemTable → FlatHart → Ask
next_ask code items g = ask_unless_halted g.hart.halt (ask_of code items g.hart)

-- the instruction completes without an item
abbrev pub IsOfNoItem : Ask → Type 0
IsOfNoItem Plain = Unit {0}
IsOfNoItem (Put byte) = Unit {0}
IsOfNoItem (NeedsShared x lr) = ⊥
IsOfNoItem (NeedsExclusive x) = ⊥
IsOfNoItem (Conditional x) = ⊥
IsOfNoItem (Halt cause) = ⊥

-- the instruction needs the words of this item
abbrev pub IsOfItem : ℕ → Ask → Type 0
IsOfItem x Plain = ⊥
IsOfItem x (Put byte) = ⊥
IsOfItem x (NeedsShared y lr) = x ≡ y
IsOfItem x (NeedsExclusive y) = x ≡ y
IsOfItem x (Conditional y) = x ≡ y
IsOfItem x (Halt cause) = ⊥
