-- The parts of an instruction: its word, the item of its access, and what it does.
use Rattle.std.specs.Prelude.{◌≡◌, ℕ, ◌+◌, ◌*◌, ◌%◌, ◌<◌, ◌≤◌, nat_eq, List, Option, Some, None, Result, Ok, Err, if◌then◌else◌}
use Rattle.rv_hart.specs.DdmTypes.declared.operations.Effect.{Effect}
use Rattle.rv_hart.specs.DdmTypes.declared.operations.HaltCause.{HaltCause}
use Rattle.rv_hart.specs.DdmTypes.declared.operations.HaltCause.TheVariants.{Illegal, FetchOutside, MisalignedAccess}
use Rattle.rv_hart.specs.DdmTypes.declared.operations.HaltCause.TheVariants.{LoadOutside, StoreOutside}
use Rattle.rv_hart.specs.DdmTypes.CodeMap.{CodeWord, word_at}
use Rattle.rv_hart.specs.DdmTypes.ItemTable.{ItemTable, item_at, row_at}
use Rattle.rv_hart.specs.RvDecode.declared.instructions.Instr.{Instr}
use Rattle.rv_hart.specs.RvDecode.declared.instructions.Instr.TheVariants.{Load as LoadInstr, Store as StoreInstr, Lr, Sc, Amo}
use Rattle.rv_hart.specs.RvDecode.Table.{decode_of}
use Rattle.flat_model.specs.declared.Ask.{Ask}
use Rattle.flat_model.specs.declared.Ask.TheVariants.{Plain, Put as PutAsk, NeedsShared, NeedsExclusive, Conditional, Halt as HaltAsk}
use Rattle.flat_model.specs.Hart.{HartValue, Finished, Access as AccessValue, Action, Halts, Computes, Puts, Loads}
use Rattle.flat_model.specs.Hart.{Stores, Reserves, StoresIfReserved, Changes, advanced, written, with_register}
use Rattle.flat_model.specs.Hart.{next_pc, load_bytes, store_bytes}
use Rattle.rv_hart.specs.declared.steps.Access.{Access}
use Rattle.rv_hart.specs.declared.steps.Step.{Step}
use Rattle.rv_hart.specs.declared.steps.Step.TheVariants.{Halt, Advance, Write, Jump, Link, Put, Load, Store, Reserve}
use Rattle.rv_hart.specs.declared.steps.Step.TheVariants.{StoreIfReserved, Change}
use Rattle.rv_hart.specs.HartState.{HartState}

-- ---- the next instruction

abbrev pub decoded : ℕ → Option Instr → Result Instr HaltCause
decoded word None = Err (Illegal word)
decoded word (Some i) = Ok i

abbrev pub fetched_word : ℕ → Option ℕ → Result Instr HaltCause
fetched_word pc None = Err (FetchOutside pc)
fetched_word pc (Some word) = decoded word (decode_of word)

-- the instruction at a pc, or why there is none
abbrev pub fetched : List CodeWord → ℕ → Result Instr HaltCause
fetched code pc = fetched_word pc (word_at code pc)

-- ---- the item of an access

abbrev pub load_found_item : ℕ → Option ℕ → Result ℕ HaltCause
load_found_item a None = Err (LoadOutside a)
load_found_item a (Some x) = Ok x

-- the item that a load of so many bytes at this address reads
abbrev pub load_item : ItemTable → ℕ → ℕ → Result ℕ HaltCause
load_item items bytes a =
    if nat_eq (a % bytes) 0 then load_found_item a (item_at items a) else Err (MisalignedAccess a)

abbrev pub store_found_item : ItemTable → ℕ → Option ℕ → Result ℕ HaltCause
store_found_item items a None = Err (StoreOutside a)
store_found_item items a (Some x) = if (row_at items x).writable then Ok x else Err (StoreOutside a)

-- the item that a store of so many bytes at this address writes
abbrev pub store_item : ItemTable → ℕ → ℕ → Result ℕ HaltCause
store_item items bytes a =
    if nat_eq (a % bytes) 0 then store_found_item items a (item_at items a) else Err (MisalignedAccess a)

-- ---- what an instruction does

abbrev pub access_value : Access → AccessValue
access_value a = record { address = a.address; item = a.item; place = a.place }

-- the step as the flat machine has it
abbrev pub action_by : HartValue → Step → Action
action_by h (Halt cause) = Halts cause
action_by h Advance = Computes (advanced h)
action_by h (Write rd value) = Computes (written h rd value)
action_by h (Jump target) = Computes (record h { pc = target })
action_by h (Link rd target) = Computes (record (with_register h rd (next_pc h)) { pc = target })
action_by h (Put byte) = Puts byte (advanced h)
action_by h (Load op rd a) = Loads op rd (access_value a)
action_by h (Store op value a) = Stores op value (access_value a)
action_by h (Reserve rd a) = Reserves rd (access_value a)
action_by h (StoreIfReserved rd value a) = StoresIfReserved rd value (access_value a)
action_by h (Change op rd value a) = Changes op rd value (access_value a)

-- a word of the access is in an item of this size, and its bytes are in that word
abbrev pub IsInWord : ℕ → ℕ → Access → Type 0
IsInWord size bytes a = (4 * a.place < size) × (a.address % 4 + bytes ≤ 4)

-- the access of a step, if it has one, is within an item of this size
abbrev pub IsInside : ℕ → Step → Type 0
IsInside size (Halt cause) = Unit {0}
IsInside size Advance = Unit {0}
IsInside size (Write rd value) = Unit {0}
IsInside size (Jump target) = Unit {0}
IsInside size (Link rd target) = Unit {0}
IsInside size (Put byte) = Unit {0}
IsInside size (Load op rd a) = IsInWord size (load_bytes op) a
IsInside size (Store op value a) = IsInWord size (store_bytes op) a
IsInside size (Reserve rd a) = IsInWord size 4 a
IsInside size (StoreIfReserved rd value a) = IsInWord size 4 a
IsInside size (Change op rd value a) = IsInWord size 4 a

-- the instruction has no access
abbrev pub HasNoAccess : Instr → Type 0
HasNoAccess (LoadInstr op rd rs1 offset) = ⊥
HasNoAccess (StoreInstr op rs1 rs2 offset) = ⊥
HasNoAccess (Lr rd rs1 aq rl) = ⊥
HasNoAccess (Sc rd rs1 rs2 aq rl) = ⊥
HasNoAccess (Amo op rd rs1 rs2 aq rl) = ⊥
HasNoAccess _ = Unit {0}

-- ---- its end

-- the action isn't a halt
abbrev pub GoesOn : Action → Type 0
GoesOn (Halts cause) = ⊥
GoesOn _ = Unit {0}

-- what is asked isn't a halt
abbrev pub IsReady : Ask → Type 0
IsReady Plain = Unit {0}
IsReady (PutAsk byte) = Unit {0}
IsReady (NeedsShared x lr) = Unit {0}
IsReady (NeedsExclusive x) = Unit {0}
IsReady (Conditional x) = Unit {0}
IsReady (HaltAsk cause) = ⊥

-- a hart, an effect and the words of an item are as an instruction leaves them, and the hart's count is this one
pub record IsFinished (f : Finished) (count : ℕ) (after : HartState) (made : Effect) (left : List ℕ) : Type 0 where
  pub effect : made ≡ f.effect
  pub hart : after.hart ≡ f.hart
  pub words : left ≡ f.words
  pub done : after.done ≡ count
