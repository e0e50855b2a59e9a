-- A hart's instruction on the words of its item, as the flat machine's step.
use Rattle.std.specs.Prelude.{◌≡◌, ℕ, Bool, ◌&&◌, List, Option, Some, None, Err, IfSome}
use Rattle.std.specs.Result.{IsOkAnd}
use Rattle.rv_hart.specs.DdmTypes.declared.operations.HaltCause.{HaltCause}
use Rattle.rv_hart.specs.DdmTypes.CodeMap.{CodeWord}
use Rattle.rv_hart.specs.DdmTypes.ItemTable.{ItemTable}
use Rattle.flat_model.specs.declared.Ask.{Ask}
use Rattle.flat_model.specs.declared.Ask.TheVariants.{Conditional, Halt}
use Rattle.flat_model.specs.Hart.{Finished, ask_of, finish_of}
use Rattle.flat_model.specs.Flat.{FlatHart, Stored, Change, has_reserved, asked_item, reserved_by_ask, hart_step}
use Rattle.rv_hart.specs.Steps.{IsReady}

-- the words are those of the item that is asked for, if one is
abbrev pub AreWordsOf : Ask → (ℕ → List ℕ) → List ℕ → Type 0
AreWordsOf ask item_words words = (x : ℕ) → asked_item ask ≡ Some x → words ≡ item_words x

-- an SC stores where the step lets it and its hart has its item reserved
abbrev pub may_store : Ask → Option ℕ → Bool → Bool
may_store (Conditional x) reserved sc_ok = sc_ok && has_reserved reserved x
may_store _ reserved sc_ok = sc_ok

-- the words of the item after a step
abbrev pub words_left : Option Stored → List ℕ → List ℕ
words_left None words = words
words_left (Some stored) words = stored.words

-- a step of the flat machine does what the instruction does on these words, and stores to no other item
pub record IsChangeBy (ask : Ask) (reserved : Option ℕ) (f : Finished) (before : List ℕ) (c : Change) : Type 0 where
  pub effect : c.effect ≡ f.effect
  pub hart : c.after.hart ≡ f.hart
  pub reserves : c.after.reserved ≡ reserved_by_ask ask reserved
  pub words : words_left c.stored before ≡ f.words
  pub item : IfSome c.stored (λ stored. asked_item ask ≡ Some stored.item)

-- an instruction that is ready, finished on the words of its item, is the flat machine's step of its hart
abbrev pub FinishesAsFlat : Type 0
FinishesAsFlat =
    (code : List CodeWord) (items : ItemTable) (g : FlatHart) (item_words : ℕ → List ℕ) (words : List ℕ)
    (sc_ok : Bool) → g.hart.halt ≡ None → IsReady (ask_of code items g.hart) →
    AreWordsOf (ask_of code items g.hart) item_words words →
    IsOkAnd (hart_step code items g item_words sc_ok)
    (IsChangeBy (ask_of code items g.hart) g.reserved
    (finish_of code items g.hart words (may_store (ask_of code items g.hart) g.reserved sc_ok)) words)

-- where a halt is asked for, the flat machine's step halts for the same cause
abbrev pub HaltsAsFlat : Type 0
HaltsAsFlat =
    (code : List CodeWord) (items : ItemTable) (g : FlatHart) (item_words : ℕ → List ℕ) (sc_ok : Bool)
    (cause : HaltCause) → g.hart.halt ≡ None → ask_of code items g.hart ≡ Halt cause →
    hart_step code items g item_words sc_ok ≡ Err cause
