-- What an instruction's action is made of: the hart that goes on, and accesses of items.
use Rattle.std.proofs.Common.{◌≡◌, ℕ, ◌-◌, ◌*◌, ◌/◌, ◌%◌, Bool, true, false, nat_eq, List, Option, Some, None, refl}
use Rattle.std.specs.Prelude.{if◌then◌else◌}
use Rattle.ddm_types.specs.declared.operations.HaltCause.TheVariants.{MisalignedAccess, MisalignedTarget, StoreOutside, Exit, UnknownCall}
use Rattle.ddm_types.specs.CodeMap.{CodeWord, word_at}
use Rattle.ddm_types.specs.ItemTable.{ItemTable, row_at, item_at}
use Rattle.rv_decode.specs.declared.instructions.Reg.{Reg}
use Rattle.rv_decode.specs.declared.instructions.Instr.{Instr}
use Rattle.rv_decode.specs.declared.instructions.Instr.TheVariants.{Lui, Auipc, Jal, Jalr, Branch, Load, Store, Immediate, Register, Fence, Ecall, Ebreak, Lr, Sc, Amo}
use Rattle.rv_decode.specs.Table.{decode_of}
use Rattle.flat_model.specs.Hart.{HartValue, Access, Action, with_register, next_pc, Halts, Computes, Puts, Loads, Stores, Reserves, StoresIfReserved, Changes, register, access_in, aligned, load_bytes, store_bytes, offset_by, is_taken, load_found, load_at, store_found, store_at, jump, call, advanced, instr_action, decoded_action, fetched_action, action_of}

-- the hart with one register written, which may be x0, and at some pc
pub record IsNextOf (h after : HartValue) : Type 0 where
  pub rd : Reg
  pub value : ℕ
  pub pc : ℕ
  pub is : after ≡ record (with_register h rd value) { pc = pc }

-- an access of the item that has its address, at the place of its word
pub record IsAccess (items : ItemTable) (a : Access) : Type 0 where
  pub item : item_at items a.address ≡ Some a.item
  pub place : a.place ≡ (a.address - (row_at items a.item).address) / 4

-- an action of this hart, with these items
abbrev pub IsActionOf : ItemTable → HartValue → Action → Type 0
IsActionOf items h (Halts cause) = Unit {0}
IsActionOf items h (Computes after) = IsNextOf h after
IsActionOf items h (Puts byte after) = IsNextOf h after
IsActionOf items h (Loads op rd a) = IsAccess items a
IsActionOf items h (Stores op v a) = IsAccess items a
IsActionOf items h (Reserves rd a) = IsAccess items a
IsActionOf items h (StoresIfReserved rd v a) = IsAccess items a
IsActionOf items h (Changes op rd v a) = IsAccess items a

-- x0 takes no value
at_pc : (h : HartValue) (pc : ℕ) → IsNextOf h (record h { pc = pc })
at_pc h pc = record { rd = 0; value = 0; pc = pc; is = refl }

with_written : (h : HartValue) (rd : Reg) (v pc : ℕ) → IsNextOf h (record (with_register h rd v) { pc = pc })
with_written h rd v pc = record { rd = rd; value = v; pc = pc; is = refl }

access_found : (items : ItemTable) (a x : ℕ) → item_at items a ≡ Some x → IsAccess items (access_in items a x)
access_found items a x at = record { item = at; place = refl }

module _ (items : ItemTable) (h : HartValue) where
  -- an action of an access
  abbrev OfAccess : (Access → Action) → Type 0
  OfAccess action = (a : Access) → IsAccess items a → IsActionOf items h (action a)

  load_made : (action : Access → Action) (a : ℕ) → OfAccess action → IsActionOf items h (load_at items action a)
  load_made action a of = go (item_at items a) refl where
    go : (o : Option ℕ) → item_at items a ≡ o → IsActionOf items h (load_found items action a o)
    go None at = tt
    go (Some x) at = of (access_in items a x) (access_found items a x at)

  store_made : (action : Access → Action) (a : ℕ) → OfAccess action → IsActionOf items h (store_at items action a)
  store_made action a of = go (item_at items a) refl where
    found : (x : ℕ) (writable : Bool) → item_at items a ≡ Some x → IsActionOf items h (if writable then action (access_in items a x) else Halts (StoreOutside a))
    found x true at = of (access_in items a x) (access_found items a x at)
    found x false at = tt

    go : (o : Option ℕ) → item_at items a ≡ o → IsActionOf items h (store_found items action a o)
    go None at = tt
    go (Some x) at = found x (row_at items x).writable at

  aligned_made : (bytes a : ℕ) (action : ℕ → Action) → IsActionOf items h (action a) → IsActionOf items h (aligned bytes a action)
  aligned_made bytes a action made = go (nat_eq (a % bytes) 0) where
    go : (b : Bool) → IsActionOf items h (if b then action a else Halts (MisalignedAccess a))
    go true = made
    go false = tt

  jump_made : (rd : Reg) (v target : ℕ) → IsActionOf items h (jump (with_register h rd v) target)
  jump_made rd v target = go (nat_eq (target % 4) 0) where
    go : (b : Bool) → IsActionOf items h (if b then Computes (record (with_register h rd v) { pc = target }) else Halts (MisalignedTarget target))
    go true = with_written h rd v target
    go false = tt

  call_made : IsActionOf items h (call h)
  call_made = go (nat_eq (register h 17) 93) (nat_eq (register h 17) 1000) where
    go : (exit put : Bool) → IsActionOf items h (if exit then Halts (Exit (register h 10)) else (if put then Puts (register h 10 % 256) (advanced h) else Halts (UnknownCall (register h 17))))
    go true put = tt
    go false true = at_pc h (next_pc h)
    go false false = tt

  instr_made : (i : Instr) → IsActionOf items h (instr_action items h i)
  unfolding instr_action
  instr_made (Lui rd imm) = with_written h rd _ _
  instr_made (Auipc rd imm) = with_written h rd _ _
  instr_made (Immediate op rd rs1 imm) = with_written h rd _ _
  instr_made (Register op rd rs1 rs2) = with_written h rd _ _
  instr_made (Jal rd offset) = jump_made rd (next_pc h) (offset_by h.pc offset)
  instr_made (Jalr rd rs1 offset) = jump_made rd (next_pc h) (offset_by (register h rs1) offset / 2 * 2)
  instr_made (Branch op rs1 rs2 offset) = go (is_taken op (register h rs1) (register h rs2)) where
    go : (b : Bool) → IsActionOf items h (if b then jump h (offset_by h.pc offset) else Computes (advanced h))
    go true = jump_made 0 0 (offset_by h.pc offset)
    go false = at_pc h (next_pc h)
  instr_made (Load op rd rs1 offset) = aligned_made (load_bytes op) (offset_by (register h rs1) offset) (load_at items (Loads op rd)) (load_made (Loads op rd) (offset_by (register h rs1) offset) (λ a at. at))
  instr_made (Store op rs1 rs2 offset) = aligned_made (store_bytes op) (offset_by (register h rs1) offset) (store_at items (Stores op (register h rs2))) (store_made (Stores op (register h rs2)) (offset_by (register h rs1) offset) (λ a at. at))
  instr_made (Fence rd rs1 imm) = at_pc h (next_pc h)
  instr_made Ecall = call_made
  instr_made Ebreak = tt
  instr_made (Lr rd rs1 aq rl) = aligned_made 4 (register h rs1) (load_at items (Reserves rd)) (load_made (Reserves rd) (register h rs1) (λ a at. at))
  instr_made (Sc rd rs1 rs2 aq rl) = aligned_made 4 (register h rs1) (store_at items (StoresIfReserved rd (register h rs2))) (store_made (StoresIfReserved rd (register h rs2)) (register h rs1) (λ a at. at))
  instr_made (Amo op rd rs1 rs2 aq rl) = aligned_made 4 (register h rs1) (store_at items (Changes op rd (register h rs2))) (store_made (Changes op rd (register h rs2)) (register h rs1) (λ a at. at))

pub action_is : (code : List CodeWord) (items : ItemTable) (h : HartValue) → IsActionOf items h (action_of code items h)
unfolding action_of
action_is code items h = fetched (word_at code h.pc) where
  decoded : (word : ℕ) (i : Option Instr) → IsActionOf items h (decoded_action items h word i)
  decoded word None = tt
  decoded word (Some i) = instr_made items h i

  fetched : (word : Option ℕ) → IsActionOf items h (fetched_action items h word)
  fetched None = tt
  fetched (Some word) = decoded word (decode_of word)
