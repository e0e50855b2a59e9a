-- What an instruction that asks for its item wants of it.
-- Letters: x is the item, g the hart.
use Rattle.std.proofs.Common.{◌≡◌, ℕ, Bool, true, List, Option, Some, None, refl}
use Rattle.serving_model.specs.DdmTypes.CodeMap.{CodeWord}
use Rattle.serving_model.specs.DdmTypes.ItemTable.{ItemTable}
use Rattle.serving_model.specs.DdmTypes.declared.sizes.LeafState.{LeafState}
use Rattle.bus_laws.specs.FlatModel.declared.Ask.{Ask}
use Rattle.bus_laws.specs.FlatModel.Hart.{ask_of}
use Rattle.bus_laws.specs.FlatModel.Flat.{has_reserved, FlatHart}
use Rattle.serving_model.specs.OneLeaf.{written_item}

-- with its entry in this state it completes
pub data WantsTo (x : ℕ) (reserved : Option ℕ) (ask : Ask) : LeafState → Type 0 where
  to_read : (lr : Bool) → ask ≡ Ask.NeedsShared x lr → WantsTo x reserved ask LeafState.Shared
  to_write : ask ≡ Ask.NeedsExclusive x → WantsTo x reserved ask LeafState.Exclusive
  to_write_reserved : ask ≡ Ask.Conditional x → has_reserved reserved x ≡ true → WantsTo x reserved ask LeafState.Exclusive

pub record Wants (code : List CodeWord) (items : ItemTable) (g : FlatHart) (x : ℕ) (state : LeafState) : Type 0 where
  pub running : g.hart.halt ≡ None
  pub asks : WantsTo x g.reserved (ask_of code items g.hart) state

-- what an entry that is read will be when its leaf asks for nothing more
abbrev pub finally : LeafState → LeafState
finally LeafState.Shared = LeafState.Shared
finally LeafState.Exclusive = LeafState.Exclusive
finally LeafState.Waiting = LeafState.Exclusive
finally LeafState.Reading = LeafState.Shared
finally LeafState.ReadingWaiting = LeafState.Exclusive

-- what is wanted Exclusive is stored to
wants-so : (x : ℕ) (reserved : Option ℕ) (ask : Ask) (state : LeafState) → WantsTo x reserved ask state → state ≡ LeafState.Exclusive → written_item ask ≡ Some x
wants-so x reserved ask s (to_read lr is) e = cc
wants-so x reserved ask s (to_write is) e = rw is refl
wants-so x reserved ask s (to_write_reserved is has) e = rw is refl

pub wants-store : (code : List CodeWord) (items : ItemTable) (g : FlatHart) (x : ℕ) → Wants code items g x LeafState.Exclusive → written_item (ask_of code items g.hart) ≡ Some x
wants-store code items g x wants = wants-so x g.reserved (ask_of code items g.hart) LeafState.Exclusive wants.asks refl
