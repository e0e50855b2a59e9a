-- What a hart's step reads: the hart, its reservation where an SC is to store, and the words of the item that its instruction asks for. What it leaves of these.
use Rattle.std.proofs.Common.{◌≡◌, ℕ, Bool, true, false, ◌&&◌, List, Option, Some, None, Ok, Err, refl, ap, arith}
use Rattle.std.specs.Prelude.{Result}
use Rattle.ddm_types.specs.declared.operations.HaltCause.{HaltCause}
use Rattle.ddm_types.specs.declared.operations.Effect.{Effect}
use Rattle.ddm_types.specs.CodeMap.{CodeWord}
use Rattle.ddm_types.specs.ItemTable.{ItemTable}
use Rattle.flat_model.specs.declared.Ask.{Ask}
use Rattle.flat_model.specs.declared.Ask.TheVariants.{Plain, Put, NeedsShared, NeedsExclusive, Conditional, Halt}
use Rattle.flat_model.specs.Hart.{HartValue, Finished, Action, Halts, Computes, Puts, Loads, Stores, Reserves, StoresIfReserved, Changes, action_of, ask_by, ask_of, finish_by, finish_of}
use Rattle.flat_model.specs.Flat.{FlatHart, Stored, Change, has_reserved, conditional, change_by, unless_halted, asked_item, reserved_by_ask, hart_step}

-- an answer has one change
pub same_change : (known c : Change) → (let r : Result Change HaltCause = Ok known in r ≡ Ok c) → known ≡ c
same_change known c e = grind arith

change_reads : (ask : Ask) (reserved : Option ℕ) (finish : List ℕ → Bool → Finished) (words words' : ℕ → List ℕ) (sc_ok : Bool) → ((x : ℕ) → asked_item ask ≡ Some x → words x ≡ words' x) → change_by ask reserved finish words sc_ok ≡ change_by ask reserved finish words' sc_ok
change_reads Plain reserved finish words words' sc_ok same = refl
change_reads (Put byte) reserved finish words words' sc_ok same = refl
change_reads (NeedsShared x lr) reserved finish words words' sc_ok same = ap (λ l. change_by (NeedsShared x lr) reserved finish (λ y. l) sc_ok) (same x refl)
change_reads (NeedsExclusive x) reserved finish words words' sc_ok same = ap (λ l. change_by (NeedsExclusive x) reserved finish (λ y. l) sc_ok) (same x refl)
change_reads (Conditional x) reserved finish words words' sc_ok same = ap (λ l. change_by (Conditional x) reserved finish (λ y. l) sc_ok) (same x refl)
change_reads (Halt cause) reserved finish words words' sc_ok same = refl

-- words of other items than the one that is asked for aren't read
pub step_reads : (code : List CodeWord) (items : ItemTable) (g : FlatHart) (words words' : ℕ → List ℕ) (sc_ok : Bool) → ((x : ℕ) → asked_item (ask_of code items g.hart) ≡ Some x → words x ≡ words' x) → hart_step code items g words sc_ok ≡ hart_step code items g words' sc_ok
unfolding hart_step
step_reads code items g words words' sc_ok same = ap (unless_halted g.hart.halt) (change_reads (ask_of code items g.hart) g.reserved (finish_of code items g.hart) words words' sc_ok same)

-- an SC that fails reads no word
failing_reads : (a : Action) (x : ℕ) → ask_by a ≡ Conditional x → (h : HartValue) (words words' : List ℕ) → ((finish_by a h words false).effect ≡ (finish_by a h words' false).effect) × ((finish_by a h words false).hart ≡ (finish_by a h words' false).hart)
failing_reads (Halts cause) x e h words words' = grind arith
failing_reads (Computes after) x e h words words' = grind arith
failing_reads (Puts byte after) x e h words words' = grind arith
failing_reads (Loads op rd a) x e h words words' = grind arith
failing_reads (Stores op v a) x e h words words' = grind arith
failing_reads (Reserves rd a) x e h words words' = grind arith
failing_reads (StoresIfReserved rd v a) x e h words words' = (refl, refl)
failing_reads (Changes op rd v a) x e h words words' = grind arith

pub finish_failing : (code : List CodeWord) (items : ItemTable) (h : HartValue) (x : ℕ) → ask_of code items h ≡ Conditional x → (words words' : List ℕ) → ((finish_of code items h words false).effect ≡ (finish_of code items h words' false).effect) × ((finish_of code items h words false).hart ≡ (finish_of code items h words' false).hart)
unfolding ask_of finish_of
finish_failing code items h x e words words' = failing_reads (action_of code items h) x e h words words'

-- an instruction that asks for no item reads no word
plain_reads : (act : Action) (h : HartValue) (words words' : List ℕ) (sc_ok : Bool) → asked_item (ask_by act) ≡ None → ((finish_by act h words sc_ok).effect ≡ (finish_by act h words' sc_ok).effect) × ((finish_by act h words sc_ok).hart ≡ (finish_by act h words' sc_ok).hart)
plain_reads (Halts cause) h words words' sc_ok e = (refl, refl)
plain_reads (Computes after) h words words' sc_ok e = (refl, refl)
plain_reads (Puts byte after) h words words' sc_ok e = (refl, refl)
plain_reads (Loads op rd a) h words words' sc_ok e = grind arith
plain_reads (Stores op v a) h words words' sc_ok e = grind arith
plain_reads (Reserves rd a) h words words' sc_ok e = grind arith
plain_reads (StoresIfReserved rd v a) h words words' sc_ok e = grind arith
plain_reads (Changes op rd v a) h words words' sc_ok e = grind arith

pub finish_plain : (code : List CodeWord) (items : ItemTable) (h : HartValue) (words words' : List ℕ) (sc_ok : Bool) → asked_item (ask_of code items h) ≡ None → ((finish_of code items h words sc_ok).effect ≡ (finish_of code items h words' sc_ok).effect) × ((finish_of code items h words sc_ok).hart ≡ (finish_of code items h words' sc_ok).hart)
unfolding ask_of finish_of
finish_plain code items h words words' sc_ok e = plain_reads (action_of code items h) h words words' sc_ok e

-- what a step does but for the reservation
abbrev pub Unreserved : Type 0
Unreserved = Result (Effect × HartValue × Option Stored) HaltCause

abbrev pub unreserved : Result Change HaltCause → Unreserved
unreserved (Ok c) = Ok (c.effect, c.after.hart, c.stored)
unreserved (Err cause) = Err cause

-- the reservation is read by an SC alone
change_reserved : (ask : Ask) (reserved reserved' : Option ℕ) (finish : List ℕ → Bool → Finished) (words : ℕ → List ℕ) (sc_ok : Bool) → ((x : ℕ) → ask ≡ Conditional x → (sc_ok && has_reserved reserved x) ≡ (sc_ok && has_reserved reserved' x)) → unreserved (change_by ask reserved finish words sc_ok) ≡ unreserved (change_by ask reserved' finish words sc_ok)
change_reserved Plain reserved reserved' finish words sc_ok same = refl
change_reserved (Put byte) reserved reserved' finish words sc_ok same = refl
change_reserved (NeedsShared x lr) reserved reserved' finish words sc_ok same = refl
change_reserved (NeedsExclusive x) reserved reserved' finish words sc_ok same = refl
change_reserved (Conditional x) reserved reserved' finish words sc_ok same = ap (λ b. unreserved (Ok (conditional b x (finish (words x))))) (same x refl)
change_reserved (Halt cause) reserved reserved' finish words sc_ok same = refl

-- the reservation that a step leaves, and the item that it stores to
change_leaves : (ask : Ask) (reserved : Option ℕ) (finish : List ℕ → Bool → Finished) (words : ℕ → List ℕ) (sc_ok : Bool) (c : Change) → change_by ask reserved finish words sc_ok ≡ Ok c → (c.after.reserved ≡ reserved_by_ask ask reserved) × ((s : Stored) → c.stored ≡ Some s → asked_item ask ≡ Some s.item)
change_leaves Plain reserved finish words sc_ok c e = grind arith
change_leaves (Put byte) reserved finish words sc_ok c e = grind arith
change_leaves (NeedsShared x lr) reserved finish words sc_ok c e = grind arith
change_leaves (NeedsExclusive x) reserved finish words sc_ok c e = grind arith
change_leaves (Conditional x) reserved finish words sc_ok c e = go (sc_ok && has_reserved reserved x) e where
  go : (b : Bool) → (let r : Result Change HaltCause = Ok (conditional b x (finish (words x))) in r ≡ Ok c) → (c.after.reserved ≡ None) × ((s : Stored) → c.stored ≡ Some s → Some x ≡ Some s.item)
  go true e = grind arith
  go false e = grind arith
change_leaves (Halt cause) reserved finish words sc_ok c e = grind arith

pub step_reserved : (code : List CodeWord) (items : ItemTable) (h : HartValue) (reserved reserved' : Option ℕ) (words : ℕ → List ℕ) (sc_ok : Bool) → ((x : ℕ) → ask_of code items h ≡ Conditional x → (sc_ok && has_reserved reserved x) ≡ (sc_ok && has_reserved reserved' x)) → unreserved (hart_step code items (record { hart = h; reserved = reserved }) words sc_ok) ≡ unreserved (hart_step code items (record { hart = h; reserved = reserved' }) words sc_ok)
unfolding hart_step
step_reserved code items h reserved reserved' words sc_ok same = go h.halt where
  go : (halt : Option HaltCause) → unreserved (unless_halted halt (change_by (ask_of code items h) reserved (finish_of code items h) words sc_ok)) ≡ unreserved (unless_halted halt (change_by (ask_of code items h) reserved' (finish_of code items h) words sc_ok))
  go None = change_reserved (ask_of code items h) reserved reserved' (finish_of code items h) words sc_ok same
  go (Some cause) = refl

pub step_leaves : (code : List CodeWord) (items : ItemTable) (g : FlatHart) (words : ℕ → List ℕ) (sc_ok : Bool) (c : Change) → hart_step code items g words sc_ok ≡ Ok c → (c.after.reserved ≡ reserved_by_ask (ask_of code items g.hart) g.reserved) × ((s : Stored) → c.stored ≡ Some s → asked_item (ask_of code items g.hart) ≡ Some s.item)
unfolding hart_step
step_leaves code items g words sc_ok c e = go g.hart.halt e where
  go : (halt : Option HaltCause) → unless_halted halt (change_by (ask_of code items g.hart) g.reserved (finish_of code items g.hart) words sc_ok) ≡ Ok c → (c.after.reserved ≡ reserved_by_ask (ask_of code items g.hart) g.reserved) × ((s : Stored) → c.stored ≡ Some s → asked_item (ask_of code items g.hart) ≡ Some s.item)
  go None e = change_leaves (ask_of code items g.hart) g.reserved (finish_of code items g.hart) words sc_ok c e
  go (Some cause) e = grind arith

-- ---- the words that an instruction leaves

-- a load and an LR leave the words
sharing_keeps : (act : Action) (x : ℕ) (lr : Bool) (h : HartValue) (words : List ℕ) (sc_ok : Bool) → ask_by act ≡ NeedsShared x lr → (finish_by act h words sc_ok).words ≡ words
sharing_keeps (Halts cause) x lr h words sc_ok e = refl
sharing_keeps (Computes after) x lr h words sc_ok e = refl
sharing_keeps (Puts byte after) x lr h words sc_ok e = refl
sharing_keeps (Loads op rd a) x lr h words sc_ok e = refl
sharing_keeps (Reserves rd a) x lr h words sc_ok e = refl
sharing_keeps (Stores op v a) x lr h words sc_ok e = grind arith
sharing_keeps (StoresIfReserved rd v a) x lr h words sc_ok e = grind arith
sharing_keeps (Changes op rd v a) x lr h words sc_ok e = grind arith

pub finish_keeps : (code : List CodeWord) (items : ItemTable) (x : ℕ) (lr : Bool) (h : HartValue) (words : List ℕ) (sc_ok : Bool) → ask_of code items h ≡ NeedsShared x lr → (finish_of code items h words sc_ok).words ≡ words
unfolding ask_of finish_of
finish_keeps code items x lr h words sc_ok e = sharing_keeps (action_of code items h) x lr h words sc_ok e

-- and so does an SC that fails
failing_keeps : (act : Action) (x : ℕ) (h : HartValue) (words : List ℕ) → ask_by act ≡ Conditional x → (finish_by act h words false).words ≡ words
failing_keeps (Halts cause) x h words e = refl
failing_keeps (Computes after) x h words e = refl
failing_keeps (Puts byte after) x h words e = refl
failing_keeps (Loads op rd a) x h words e = refl
failing_keeps (Stores op v a) x h words e = grind arith
failing_keeps (Reserves rd a) x h words e = refl
failing_keeps (StoresIfReserved rd v a) x h words e = refl
failing_keeps (Changes op rd v a) x h words e = grind arith

pub finish_failing_keeps : (code : List CodeWord) (items : ItemTable) (h : HartValue) (x : ℕ) (words : List ℕ) → ask_of code items h ≡ Conditional x → (finish_of code items h words false).words ≡ words
unfolding ask_of finish_of
finish_failing_keeps code items h x words e = failing_keeps (action_of code items h) x h words e
