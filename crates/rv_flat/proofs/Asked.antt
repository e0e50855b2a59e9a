-- What an instruction asks for, and what one without an item reads.
use Rattle.std.proofs.Common.{◌≡◌, ℕ, ◌<◌, false, List, [], Some, None, refl, sym, ap}
use Rattle.rv_flat.specs.DdmTypes.CodeMap.{CodeWord}
use Rattle.rv_flat.specs.DdmTypes.ItemTable.{ItemTable, item_count}
use Rattle.rv_flat.specs.FlatModel.declared.Ask.{Ask}
use Rattle.rv_flat.specs.FlatModel.declared.Ask.TheVariants.{Plain, Put, NeedsShared, NeedsExclusive, Conditional, Halt}
use Rattle.rv_flat.specs.FlatModel.Hart.{HartValue, ask_of, finish_of}
use Rattle.rv_flat.specs.FlatModel.Flat.{asked_item}
use Rattle.rv_flat.proofs.FlatModel.Steps.{finish_plain}
use Rattle.rv_flat.proofs.FlatModel.Items.{asks_inside}
use Rattle.rv_flat.specs.Asks.{IsOfItem, IsOfNoItem}

asked_of_item : (ask : Ask) (x : ℕ) → IsOfItem x ask → asked_item ask ≡ Some x
asked_of_item Plain x of = absurd of
asked_of_item (Put byte) x of = absurd of
asked_of_item (NeedsShared y lr) x of = ap Some (sym of)
asked_of_item (NeedsExclusive y) x of = ap Some (sym of)
asked_of_item (Conditional y) x of = ap Some (sym of)
asked_of_item (Halt cause) x of = absurd of

asked_of_none : (ask : Ask) → IsOfNoItem ask → asked_item ask ≡ None
asked_of_none Plain of = refl
asked_of_none (Put byte) of = refl
asked_of_none (NeedsShared x lr) of = absurd of
asked_of_none (NeedsExclusive x) of = absurd of
asked_of_none (Conditional x) of = absurd of
asked_of_none (Halt cause) of = absurd of

-- the item that is asked for is one of the table
pub asked_inside : (code : List CodeWord) (items : ItemTable) (h : HartValue) (x : ℕ) → IsOfItem x (ask_of code items h) → x < item_count items
asked_inside code items h x of = asks_inside code items h x (asked_of_item (ask_of code items h) x of)

-- an instruction without an item reads no words
pub plain_effect : (code : List CodeWord) (items : ItemTable) (h : HartValue) (words : List ℕ) → IsOfNoItem (ask_of code items h) → (finish_of code items h words false).effect ≡ (finish_of code items h [] false).effect
plain_effect code items h words of = (finish_plain code items h words [] false (asked_of_none (ask_of code items h) of)).0

pub plain_hart : (code : List CodeWord) (items : ItemTable) (h : HartValue) (words : List ℕ) → IsOfNoItem (ask_of code items h) → (finish_of code items h words false).hart ≡ (finish_of code items h [] false).hart
plain_hart code items h words of = (finish_plain code items h words [] false (asked_of_none (ask_of code items h) of)).1
