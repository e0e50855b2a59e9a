-- One hart: what its next instruction needs, and what it does.
use Rattle.std.specs.Prelude.{ℕ, ◌+◌, ◌-◌, ◌*◌, ◌/◌, ◌%◌, ◌^◌, nat_eq, nat_lt, min, max, Bool, true, false, not, List}
use Rattle.std.specs.Prelude.{[], ◌∷◌, replicate, Option, Some, None, ℤ, int_lt, bit_and, bit_or, bit_xor}
use Rattle.std.specs.Prelude.{slice_index, slice_set, if◌then◌else◌}
use Rattle.std.specs.Int.{w8, w16, w32, cast_signed, cast_unsigned, int_shr, to_le_bytes, from_le_bytes, from_bool}
use Rattle.ddm_types.specs.declared.operations.Effect.{Effect}
use Rattle.ddm_types.specs.declared.operations.Effect.TheVariants.{Plain as PlainEffect, Put as PutEffect}
use Rattle.ddm_types.specs.declared.operations.Effect.TheVariants.{Load as LoadEffect, Store as StoreEffect}
use Rattle.ddm_types.specs.declared.operations.Effect.TheVariants.{Lr as LrEffect, ScOk, ScFail, Amo as AmoEffect}
use Rattle.ddm_types.specs.declared.operations.HaltCause.{HaltCause}
use Rattle.ddm_types.specs.declared.operations.HaltCause.TheVariants.{Exit, Illegal, Breakpoint, UnknownCall}
use Rattle.ddm_types.specs.declared.operations.HaltCause.TheVariants.{MisalignedTarget, FetchOutside}
use Rattle.ddm_types.specs.declared.operations.HaltCause.TheVariants.{MisalignedAccess, LoadOutside, StoreOutside}
use Rattle.ddm_types.specs.declared.sizes.Start.{Start}
use Rattle.ddm_types.specs.CodeMap.{CodeWord, word_at}
use Rattle.ddm_types.specs.ItemTable.{ItemTable, item_at, row_at}
use Rattle.rv_decode.specs.declared.instructions.Reg.{Reg}
use Rattle.rv_decode.specs.declared.instructions.BranchOp.{BranchOp}
use Rattle.rv_decode.specs.declared.instructions.BranchOp.TheVariants.{Beq, Bne, Blt, Bge, Bltu, Bgeu}
use Rattle.rv_decode.specs.declared.instructions.LoadOp.{LoadOp}
use Rattle.rv_decode.specs.declared.instructions.LoadOp.TheVariants.{Lb, Lh, Lw, Lbu, Lhu}
use Rattle.rv_decode.specs.declared.instructions.StoreOp.{StoreOp}
use Rattle.rv_decode.specs.declared.instructions.StoreOp.TheVariants.{Sb, Sh, Sw}
use Rattle.rv_decode.specs.declared.instructions.ImmOp.{ImmOp}
use Rattle.rv_decode.specs.declared.instructions.ImmOp.TheVariants.{Addi, Slti, Sltiu, Xori, Ori, Andi, Slli, Srli, Srai}
use Rattle.rv_decode.specs.declared.instructions.RegOp.{RegOp}
use Rattle.rv_decode.specs.declared.instructions.RegOp.TheVariants.{Add, Sub, Sll, Slt, Sltu, Xor, Srl, Sra, Or, And}
use Rattle.rv_decode.specs.declared.instructions.AmoOp.{AmoOp}
use Rattle.rv_decode.specs.declared.instructions.AmoOp.TheVariants.{Add as AmoAdd, Swap as AmoSwap, Xor as AmoXor}
use Rattle.rv_decode.specs.declared.instructions.AmoOp.TheVariants.{Or as AmoOr, And as AmoAnd, Min as AmoMin}
use Rattle.rv_decode.specs.declared.instructions.AmoOp.TheVariants.{Max as AmoMax, Minu as AmoMinu, Maxu as AmoMaxu}
use Rattle.rv_decode.specs.declared.instructions.Instr.{Instr}
use Rattle.rv_decode.specs.declared.instructions.Instr.TheVariants.{Lui, Auipc, Jal, Jalr, Branch, Load, Store}
use Rattle.rv_decode.specs.declared.instructions.Instr.TheVariants.{Immediate, Register, Fence, Ecall, Ebreak, Lr, Sc}
use Rattle.rv_decode.specs.declared.instructions.Instr.TheVariants.{Amo}
use Rattle.rv_decode.specs.Table.{decode_of}
use Rattle.flat_model.specs.declared.Ask.{Ask}
use Rattle.flat_model.specs.declared.Ask.TheVariants.{Plain, Put, NeedsShared, NeedsExclusive, Conditional, Halt}

-- ---- a hart

-- the 32 registers, the pc, and why the hart stopped if it did
pub record HartValue : Type 0 where
  pub registers : List ℕ
  pub pc : ℕ
  pub halt : Option HaltCause

-- x0 reads 0, whatever stands in the list
abbrev pub register : HartValue → Reg → ℕ
register h r = if nat_eq r 0 then 0 else slice_index h.registers r

-- the hart with a register written; a write of x0 is ignored
abbrev pub with_register : HartValue → Reg → ℕ → HartValue
with_register h r v = record h { registers = if nat_eq r 0 then h.registers else slice_set h.registers r v }

-- the pc of the next instruction in the code
abbrev pub next_pc : HartValue → ℕ
next_pc h = (h.pc + 4) % 2 ^ 32

-- the hart at the next instruction in the code, and the same with a register written
abbrev pub advanced : HartValue → HartValue
advanced h = record h { pc = next_pc h }

abbrev pub written : HartValue → Reg → ℕ → HartValue
written h rd v = advanced (with_register h rd v)

-- at its start: x2 is the end of its stack, x10 its number, x11 the number of harts
unfoldable pub hart_start : Start → ℕ → HartValue
hart_start start hart = record {
  registers =
      slice_set
      (slice_set (slice_set (replicate 32 0) 2 ((start.stack_base + (hart + 1) * start.stack_bytes) % 2 ^ 32))
      10 hart) 11 start.harts;
  pc = start.entry;
  halt = None;
}

-- ---- results of 32 bits

-- a word as a number in two's complement
abbrev pub signed_word : ℕ → ℤ
signed_word a = cast_signed w32 a

abbrev pub wrapping_sum : ℕ → ℕ → ℕ
wrapping_sum a b = (a + b) % 2 ^ 32

abbrev pub wrapping_difference : ℕ → ℕ → ℕ
wrapping_difference a b = (a + (2 ^ 32 - b)) % 2 ^ 32

-- a word and an immediate that has been extended by its sign
abbrev pub offset_by : ℕ → ℤ → ℕ
offset_by a z = wrapping_sum a (cast_unsigned w32 z)

-- RV32I, "Integer Register-Register Operations"; a shift is by the low five bits
abbrev pub register_result : RegOp → ℕ → ℕ → ℕ
register_result Add a b = wrapping_sum a b
register_result Sub a b = wrapping_difference a b
register_result Sll a b = (a * 2 ^ (b % 32)) % 2 ^ 32
register_result Slt a b = from_bool (int_lt (signed_word a) (signed_word b))
register_result Sltu a b = from_bool (nat_lt a b)
register_result Xor a b = bit_xor a b
register_result Srl a b = a / 2 ^ (b % 32)
register_result Sra a b = cast_unsigned w32 (int_shr (signed_word a) (b % 32))
register_result Or a b = bit_or a b
register_result And a b = bit_and a b

-- RV32I, "Integer Register-Immediate Instructions": the same operations
abbrev pub operation : ImmOp → RegOp
operation Addi = Add
operation Slti = Slt
operation Sltiu = Sltu
operation Xori = Xor
operation Ori = Or
operation Andi = And
operation Slli = Sll
operation Srli = Srl
operation Srai = Sra

-- on the immediate extended by its sign; SLTIU takes the result of that as a number without sign
abbrev pub immediate_result : ImmOp → ℕ → ℤ → ℕ
immediate_result op a imm = register_result (operation op) a (cast_unsigned w32 imm)

-- RV32I, "Conditional Branches"
abbrev pub is_taken : BranchOp → ℕ → ℕ → Bool
is_taken Beq a b = nat_eq a b
is_taken Bne a b = not (nat_eq a b)
is_taken Blt a b = int_lt (signed_word a) (signed_word b)
is_taken Bge a b = not (int_lt (signed_word a) (signed_word b))
is_taken Bltu a b = nat_lt a b
is_taken Bgeu a b = not (nat_lt a b)

-- RV32A, "Atomic Memory Operations": what is stored, of the old word and the register's
abbrev pub amo_result : AmoOp → ℕ → ℕ → ℕ
amo_result AmoAdd a b = wrapping_sum a b
amo_result AmoSwap a b = b
amo_result AmoXor a b = bit_xor a b
amo_result AmoOr a b = bit_or a b
amo_result AmoAnd a b = bit_and a b
amo_result AmoMin a b = if int_lt (signed_word b) (signed_word a) then b else a
amo_result AmoMax a b = if int_lt (signed_word a) (signed_word b) then b else a
amo_result AmoMinu a b = min a b
amo_result AmoMaxu a b = max a b

-- RV32I, "Load and Store Instructions": how many bytes one reads or writes
abbrev pub load_bytes : LoadOp → ℕ
load_bytes Lb = 1
load_bytes Lh = 2
load_bytes Lw = 4
load_bytes Lbu = 1
load_bytes Lhu = 2

abbrev pub store_bytes : StoreOp → ℕ
store_bytes Sb = 1
store_bytes Sh = 2
store_bytes Sw = 4

-- the byte and the half word at a place of a word, the lowest byte first
abbrev pub byte_in : ℕ → ℕ → ℕ
byte_in word k = slice_index (to_le_bytes w32 word) k

abbrev pub half_in : ℕ → ℕ → ℕ
half_in word k = from_le_bytes w16 (byte_in word k ∷ byte_in word (k + 1) ∷ [])

-- what a load puts into its register, of the aligned word and the byte's place in it
abbrev pub loaded_value : LoadOp → ℕ → ℕ → ℕ
loaded_value Lb word k = cast_unsigned w32 (cast_signed w8 (byte_in word k))
loaded_value Lh word k = cast_unsigned w32 (cast_signed w16 (half_in word k))
loaded_value Lw word k = word
loaded_value Lbu word k = byte_in word k
loaded_value Lhu word k = half_in word k

-- the aligned word after a store of the register's low bytes
abbrev pub stored_word : StoreOp → ℕ → ℕ → ℕ → ℕ
stored_word Sb word k v = from_le_bytes w32 (slice_set (to_le_bytes w32 word) k (byte_in v 0))
stored_word Sh word k v = from_le_bytes w32 (slice_set (slice_set (to_le_bytes w32 word) k (byte_in v 0)) (k + 1) (byte_in v 1))
stored_word Sw word k v = v

-- ---- what an instruction does

-- a place in memory that an instruction may use: its byte address, its item, and which word of the item it is in
pub record Access : Type 0 where
  pub address : ℕ
  pub item : ℕ
  pub place : ℕ

-- the hart halts, or goes on as a new hart without memory, or puts out a byte, or does this at that place
pub data Action : Type 0 where
  Halts : HaltCause → Action
  Computes : HartValue → Action
  Puts : ℕ → HartValue → Action
  Loads : LoadOp → Reg → Access → Action
  Stores : StoreOp → ℕ → Access → Action
  Reserves : Reg → Access → Action
  StoresIfReserved : Reg → ℕ → Access → Action
  Changes : AmoOp → Reg → ℕ → Access → Action

abbrev pub access_in : ItemTable → ℕ → ℕ → Access
access_in items a x = record { address = a; item = x; place = (a - (row_at items x).address) / 4 }

-- the access of so many bytes, whose address must be a multiple of their number
abbrev pub aligned : ℕ → ℕ → (ℕ → Action) → Action
aligned bytes a action = let other = Halts (MisalignedAccess a) in (if nat_eq (a % bytes) 0 then action a else other)

-- a load is of some item
abbrev pub load_found : ItemTable → (Access → Action) → ℕ → Option ℕ → Action
load_found items action a None = Halts (LoadOutside a)
load_found items action a (Some x) = action (access_in items a x)

abbrev pub load_at : ItemTable → (Access → Action) → ℕ → Action
load_at items action a = load_found items action a (item_at items a)

-- a store is of some item that may be written
abbrev pub store_found : ItemTable → (Access → Action) → ℕ → Option ℕ → Action
store_found items action a None = Halts (StoreOutside a)
store_found items action a (Some x) = if (row_at items x).writable then action (access_in items a x) else Halts (StoreOutside a)

abbrev pub store_at : ItemTable → (Access → Action) → ℕ → Action
store_at items action a = store_found items action a (item_at items a)

-- a jump, or a branch that is taken
abbrev pub jump : HartValue → ℕ → Action
jump h target = if nat_eq (target % 4) 0 then Computes (record h { pc = target }) else Halts (MisalignedTarget target)

-- ECALL: x17 says which call it is
abbrev pub call : HartValue → Action
call h =
    let number = register h 17 in
    let argument = register h 10 in
    (if nat_eq number 93 then Halts (Exit argument)
    else (if nat_eq number 1000 then Puts (argument % 256) (advanced h)
    else Halts (UnknownCall number)))

unfoldable pub instr_action : ItemTable → HartValue → Instr → Action
-- RV32I, "Integer Register-Immediate Instructions"
instr_action items h (Lui rd imm) = Computes (written h rd imm)
instr_action items h (Auipc rd imm) = Computes (written h rd (wrapping_sum h.pc imm))
instr_action items h (Immediate op rd rs1 imm) = Computes (written h rd (immediate_result op (register h rs1) imm))
-- RV32I, "Integer Register-Register Operations"
instr_action items h (Register op rd rs1 rs2) = Computes (written h rd (register_result op (register h rs1) (register h rs2)))
-- RV32I, "Unconditional Jumps"; JALR clears the lowest bit of its target
instr_action items h (Jal rd offset) = jump (with_register h rd (next_pc h)) (offset_by h.pc offset)
instr_action items h (Jalr rd rs1 offset) = jump (with_register h rd (next_pc h)) (offset_by (register h rs1) offset / 2 * 2)
-- RV32I, "Conditional Branches"
instr_action items h (Branch op rs1 rs2 offset) =
    if is_taken op (register h rs1) (register h rs2) then jump h (offset_by h.pc offset) else Computes (advanced h)
-- RV32I, "Load and Store Instructions"
instr_action items h (Load op rd rs1 offset) = aligned (load_bytes op) (offset_by (register h rs1) offset) (load_at items (Loads op rd))
instr_action items h (Store op rs1 rs2 offset) =
    aligned (store_bytes op) (offset_by (register h rs1) offset) (store_at items (Stores op (register h rs2)))
-- RV32I, "Memory Ordering Instructions": nothing to do
instr_action items h (Fence rd rs1 imm) = Computes (advanced h)
-- RV32I, "Environment Call and Breakpoints"
instr_action items h Ecall = call h
instr_action items h Ebreak = Halts Breakpoint
-- RV32A, "Load-Reserved/Store-Conditional Instructions"
instr_action items h (Lr rd rs1 aq rl) = aligned 4 (register h rs1) (load_at items (Reserves rd))
instr_action items h (Sc rd rs1 rs2 aq rl) = aligned 4 (register h rs1) (store_at items (StoresIfReserved rd (register h rs2)))
-- RV32A, "Atomic Memory Operations"
instr_action items h (Amo op rd rs1 rs2 aq rl) = aligned 4 (register h rs1) (store_at items (Changes op rd (register h rs2)))

abbrev pub decoded_action : ItemTable → HartValue → ℕ → Option Instr → Action
decoded_action items h word None = Halts (Illegal word)
decoded_action items h word (Some i) = instr_action items h i

abbrev pub fetched_action : ItemTable → HartValue → Option ℕ → Action
fetched_action items h None = Halts (FetchOutside h.pc)
fetched_action items h (Some word) = decoded_action items h word (decode_of word)

-- what the hart's next instruction does
unfoldable pub action_of : List CodeWord → ItemTable → HartValue → Action
action_of code items h = fetched_action items h (word_at code h.pc)

-- ---- what it needs

abbrev pub ask_by : Action → Ask
ask_by (Halts cause) = Halt cause
ask_by (Computes after) = Plain
ask_by (Puts byte after) = Put byte
ask_by (Loads op rd a) = NeedsShared a.item false
ask_by (Stores op v a) = NeedsExclusive a.item
ask_by (Reserves rd a) = NeedsShared a.item true
ask_by (StoresIfReserved rd v a) = Conditional a.item
ask_by (Changes op rd v a) = NeedsExclusive a.item

-- What the hart's next instruction needs. It depends on registers, pc, code and the table of items alone.
unfoldable pub ask_of : List CodeWord → ItemTable → HartValue → Ask
ask_of code items h = ask_by (action_of code items h)

-- ---- what it leaves

-- the effect, the hart, and the words of the instruction's item
pub record Finished : Type 0 where
  pub effect : Effect
  pub hart : HartValue
  pub words : List ℕ

-- the address of the aligned word, and the byte's place in it
abbrev pub word_address : Access → ℕ
word_address a = a.address / 4 * 4

abbrev pub byte_place : Access → ℕ
byte_place a = a.address % 4

abbrev pub loading : HartValue → Reg → Access → List ℕ → LoadOp → Finished
loading h rd a words op =
    let word = slice_index words a.place in
    record { effect = LoadEffect (word_address a) word; hart = written h rd (loaded_value op word (byte_place a)); words = words }

abbrev pub reserving : HartValue → Reg → Access → List ℕ → Finished
reserving h rd a words =
    let word = slice_index words a.place in
    record { effect = LrEffect (word_address a) word; hart = written h rd word; words = words }

abbrev pub storing : HartValue → StoreOp → ℕ → Access → List ℕ → Finished
storing h op v a words =
    let before = slice_index words a.place in
    let after = stored_word op before (byte_place a) v in
    record { effect = StoreEffect (word_address a) before after; hart = advanced h; words = slice_set words a.place after }

abbrev pub changing : HartValue → AmoOp → Reg → ℕ → Access → List ℕ → Finished
changing h op rd v a words =
    let before = slice_index words a.place in
    let after = amo_result op before v in
    record { effect = AmoEffect (word_address a) before after; hart = written h rd before; words = slice_set words a.place after }

-- SC puts 0 where it stored and 1 where it failed
abbrev pub storing_if : Bool → HartValue → Reg → ℕ → Access → List ℕ → Finished
storing_if true h rd v a words =
    record { effect = ScOk (word_address a) (slice_index words a.place) v; hart = written h rd 0; words = slice_set words a.place v }
storing_if false h rd v a words =
    record { effect = ScFail (word_address a); hart = written h rd 1; words = words }

abbrev pub finish_by : Action → HartValue → List ℕ → Bool → Finished
finish_by (Halts cause) h words sc_ok = record { effect = PlainEffect; hart = h; words = words }
finish_by (Computes after) h words sc_ok = record { effect = PlainEffect; hart = after; words = words }
finish_by (Puts byte after) h words sc_ok = record { effect = PutEffect byte; hart = after; words = words }
finish_by (Loads op rd a) h words sc_ok = loading h rd a words op
finish_by (Stores op v a) h words sc_ok = storing h op v a words
finish_by (Reserves rd a) h words sc_ok = reserving h rd a words
finish_by (StoresIfReserved rd v a) h words sc_ok = storing_if sc_ok h rd v a words
finish_by (Changes op rd v a) h words sc_ok = changing h op rd v a words

-- What the hart's next instruction leaves, given the words of its item and whether an SC stores. Where it halts, nothing.
unfoldable pub finish_of : List CodeWord → ItemTable → HartValue → List ℕ → Bool → Finished
finish_of code items h words sc_ok = finish_by (action_of code items h) h words sc_ok
