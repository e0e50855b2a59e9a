-- Between an LR and the SC of its hart that succeeds on it, no other hart stores to the item.
-- Letters: s is an SC, o an operation, h a hart, x an item.
-- To be believed: it is what is claimed of every legal list of operations.
use Rattle.std.specs.Prelude.{◌≡◌, ℕ, Bool, true, false, List, ◌∷◌, ◌++◌, Some}
use Rattle.std.specs.List.{AllByRecursion}
use Rattle.lr_sc_laws.specs.DdmTypes.declared.operations.Effect.{Effect}
use Rattle.lr_sc_laws.specs.DdmTypes.declared.operations.Effect.TheVariants.{Plain, Put, Load, Store, Lr, ScOk, ScFail, Amo}
use Rattle.lr_sc_laws.specs.DdmTypes.declared.operations.Op.{Op}
use Rattle.lr_sc_laws.specs.DdmTypes.declared.sizes.Start.{Start}
use Rattle.lr_sc_laws.specs.DdmTypes.CodeMap.{CodeWord}
use Rattle.lr_sc_laws.specs.DdmTypes.ItemTable.{ItemTable, item_at}
use Rattle.lr_sc_laws.specs.FlatModel.Flat.{flat_start}
use Rattle.lr_sc_laws.specs.FlatModel.Legal.{is_of, changes_item, HasWholeWords, Legal}

-- an LR, or an SC of either outcome
abbrev pub is_lr_or_sc : Effect → Bool
is_lr_or_sc Plain = false
is_lr_or_sc (Put byte) = false
is_lr_or_sc (Load address word) = false
is_lr_or_sc (Store address before after) = false
is_lr_or_sc (Lr address word) = true
is_lr_or_sc (ScOk address before after) = true
is_lr_or_sc (ScFail address) = true
is_lr_or_sc (Amo address before after) = false

-- an operation that is no LR or SC of this hart
abbrev pub IsNoOwnPair : ℕ → Op → Type 0
IsNoOwnPair h o = is_of h o ≡ true → is_lr_or_sc o.effect ≡ false

-- and none of another hart that stores to the item
abbrev pub IsNoOtherStore : ItemTable → ℕ → ℕ → Op → Type 0
IsNoOtherStore items h x o = is_of h o ≡ false → changes_item items x o.effect ≡ false

-- Before an SC of hart h at this address stands an LR of the hart on the same item. Between them stands no other LR or SC of the
-- hart, and no store of another hart to the item.
pub record HasItsLr (items : ItemTable) (earlier : List Op) (h address : ℕ) : Type 0 where
  pub before : List Op
  pub lr : Op
  pub between : List Op
  pub are : earlier ≡ before ++ lr ∷ between
  pub hart : lr.hart ≡ h
  pub at : ℕ
  pub word : ℕ
  pub effect : lr.effect ≡ Lr at word
  pub item : ℕ
  pub reserved : item_at items at ≡ Some item
  pub stored : item_at items address ≡ Some item
  pub own : AllByRecursion (IsNoOwnPair h) between
  pub others : AllByRecursion (IsNoOtherStore items h item) between

-- so it is of each SC that stores
abbrev pub EachScHasItsLr : ItemTable → List Op → Type 0
EachScHasItsLr items ops =
    (earlier later : List Op) (s : Op) (address was word : ℕ) → ops ≡ earlier ++ s ∷ later →
    s.effect ≡ ScOk address was word → HasItsLr items earlier s.hart address

-- in each legal list from a start
abbrev pub LegalScsHaveTheirLr : Type 0
LegalScsHaveTheirLr =
    (code : List CodeWord) (items : ItemTable) (start : Start) (words : List (List ℕ)) → HasWholeWords items →
    (ops : List Op) → Legal code items (flat_start start words) ops → EachScHasItsLr items ops
