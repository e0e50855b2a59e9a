-- Worked examples: programs step by step, and single instructions with their operands.
use Rattle.std.specs.Prelude.{◌≡◌, ℕ, Bool, true, false, List, [], ◌∷◌, replicate, Some, None, Result, Ok, Err, slice_set, IsTrue, IsFalse}
use Rattle.ddm_types.specs.declared.keys.Key.{Key}
use Rattle.ddm_types.specs.declared.operations.Effect.{Effect}
use Rattle.ddm_types.specs.declared.operations.Effect.TheVariants.{Plain, Put, Load, Store, Lr, ScOk, ScFail, Amo}
use Rattle.ddm_types.specs.declared.operations.HaltCause.{HaltCause}
use Rattle.ddm_types.specs.declared.operations.HaltCause.TheVariants.{Exit, Illegal, Breakpoint, UnknownCall}
use Rattle.ddm_types.specs.declared.operations.HaltCause.TheVariants.{MisalignedTarget, FetchOutside}
use Rattle.ddm_types.specs.declared.operations.HaltCause.TheVariants.{MisalignedAccess, LoadOutside, StoreOutside}
use Rattle.ddm_types.specs.declared.operations.Op.{Op}
use Rattle.ddm_types.specs.CodeMap.{CodeWord, words_from}
use Rattle.ddm_types.specs.ItemTable.{ItemTable}
use Rattle.flat_model.specs.declared.Ask.{Ask}
use Rattle.flat_model.specs.declared.Ask.TheVariants.{Plain as AsksNothing, Put as AsksPut, NeedsShared, NeedsExclusive, Conditional, Halt}
use Rattle.flat_model.specs.Hart.{HartValue, Finished, register, ask_of, finish_of}
use Rattle.flat_model.specs.Flat.{FlatMachine, FlatStepped, flat_hart, flat_start, flat_step, machine_after}
use Rattle.flat_model.specs.Legal.{Legal, legal_run, on_item, changes_item}

-- ---- programs

-- what a step answers
abbrev pub answer : FlatStepped → Result Effect HaltCause
answer (Ok x) = Ok x.0
answer (Err cause) = Err cause

-- a hart's step, and what an SC is to do
abbrev pub Step : Type 0
Step = ℕ × Bool

-- the answers of steps in turn
unfoldable pub answers : List CodeWord → ItemTable → FlatMachine → List Step → List (Result Effect HaltCause)
answers code items m [] = []
answers code items m (t ∷ ts) = let s = flat_step code items m t.0 t.1 in answer s ∷ answers code items (machine_after m t.0 s) ts

-- the machine after steps in turn
unfoldable pub machine_at_end : List CodeWord → ItemTable → FlatMachine → List Step → FlatMachine
machine_at_end code items m [] = m
machine_at_end code items m (t ∷ ts) = machine_at_end code items (machine_after m t.0 (flat_step code items m t.0 t.1)) ts

abbrev pub register_at_end : List CodeWord → ItemTable → FlatMachine → List Step → ℕ → ℕ → ℕ
register_at_end code items m ts h r = register (flat_hart (machine_at_end code items m ts) h).hart r

-- code at 65536, two items of it, one of data at 131072, and one of a stack at 196608
abbrev pub four_items : ItemTable
four_items = record {
  size = 16;
  rows =
      record { address = 0x10000; writable = false } ∷ record { address = 0x10010; writable = false }
      ∷ record { address = 0x20000; writable = true } ∷ record { address = 0x30000; writable = true } ∷ [];
}

abbrev pub zeros : List ℕ
zeros = 0 ∷ 0 ∷ 0 ∷ 0 ∷ []

abbrev pub code_of : List ℕ → List CodeWord
code_of words = words_from 0x10000 words

-- so many harts, each with a stack of 16 bytes
abbrev pub started : ℕ → List (List ℕ) → FlatMachine
started harts words = flat_start (record { entry = 0x10000; harts = harts; stack_base = 0x30000; stack_bytes = 16 }) words

-- lui x5, 32; addi x6, x0, 7; sw x6, 0(x5); lw x7, 0(x5); addi x17, x0, 93; addi x10, x7, 0; ecall
abbrev pub store_and_load_code : List CodeWord
store_and_load_code = code_of (0x000202b7 ∷ 0x00700313 ∷ 0x0062a023 ∷ 0x0002a383 ∷ 0x05d00893 ∷ 0x00038513 ∷ 0x00000073 ∷ [])

abbrev pub store_and_load_start : FlatMachine
store_and_load_start =
    started 1 ((0x000202b7 ∷ 0x00700313 ∷ 0x0062a023 ∷ 0x0002a383 ∷ [])
    ∷ (0x05d00893 ∷ 0x00038513 ∷ 0x00000073 ∷ 0 ∷ []) ∷ zeros ∷ zeros ∷ [])

abbrev pub eight_steps : List Step
eight_steps = replicate 8 (0, false)

-- The word that was stored is loaded and becomes the exit code; the halted hart answers the same again.
abbrev pub StoreAndLoadBack : Type 0
StoreAndLoadBack =
    answers store_and_load_code four_items store_and_load_start eight_steps
    ≡ Ok Plain ∷ Ok Plain ∷ Ok (Store 0x20000 0 7) ∷ Ok (Load 0x20000 7) ∷ Ok Plain ∷ Ok Plain ∷ Err (Exit 7)
    ∷ Err (Exit 7) ∷ []

-- the machine afterwards: x2 is the end of the stack, x11 the number of harts, pc at the ECALL
abbrev pub StoreAndLoadEnd : Type 0
StoreAndLoadEnd =
    machine_at_end store_and_load_code four_items store_and_load_start eight_steps
    ≡ record {
      harts = record {
        hart = record {
          registers = 0 ∷ 0 ∷ 0x30010 ∷ 0 ∷ 0 ∷ 0x20000 ∷ 7 ∷ 7 ∷ 0 ∷ 0 ∷ 7 ∷ 1 ∷ 0 ∷ 0 ∷ 0 ∷ 0 ∷ 0 ∷ 0x5d ∷ replicate 14 0;
          pc = 0x10018;
          halt = Some (Exit 7);
        };
        reserved = None;
      } ∷ [];
      words =
          (0x000202b7 ∷ 0x00700313 ∷ 0x0062a023 ∷ 0x0002a383 ∷ [])
          ∷ (0x05d00893 ∷ 0x00038513 ∷ 0x00000073 ∷ 0 ∷ []) ∷ (7 ∷ 0 ∷ 0 ∷ 0 ∷ []) ∷ zeros ∷ [];
    }

-- a record of hart 0
abbrev pub op_at : Key → ℕ → Effect → Op
op_at key pc effect = record { key = key; hart = 0; pc = pc; effect = effect }

-- Its records are a legal list; with another loaded word they are not, nor in another order.
abbrev pub StoreAndLoadLegal : Type 0
StoreAndLoadLegal =
    (key : Key) →
    Legal store_and_load_code four_items store_and_load_start
    (op_at key 0x10000 Plain ∷ op_at key 0x10004 Plain ∷ op_at key 0x10008 (Store 0x20000 0 7)
    ∷ op_at key 0x1000c (Load 0x20000 7) ∷ op_at key 0x10010 Plain ∷ op_at key 0x10014 Plain ∷ [])
    × (legal_run store_and_load_code four_items store_and_load_start
    (op_at key 0x10000 Plain ∷ op_at key 0x10004 Plain ∷ op_at key 0x10008 (Store 0x20000 0 7)
    ∷ op_at key 0x1000c (Load 0x20000 8) ∷ [])
    ≡ None)
    × (legal_run store_and_load_code four_items store_and_load_start (op_at key 0x10004 Plain ∷ op_at key 0x10000 Plain ∷ []) ≡ None)

-- addi x17, x0, 1000; addi x10, x0, 72; ecall
abbrev pub one_byte_code : List CodeWord
one_byte_code = code_of (0x3e800893 ∷ 0x04800513 ∷ 0x00000073 ∷ [])

-- A byte is put, and the code ends.
abbrev pub OneByteOfOutput : Type 0
OneByteOfOutput =
    answers one_byte_code four_items (started 1 (zeros ∷ zeros ∷ zeros ∷ zeros ∷ [])) (replicate 4 (0, false))
    ≡ Ok Plain ∷ Ok Plain ∷ Ok (Put 0x48) ∷ Err (FetchOutside 0x1000c) ∷ []

-- lui x5, 32; lr.w x7, (x5); sc.w x6, x7, (x5)
abbrev pub reserve_code : List CodeWord
reserve_code = code_of (0x000202b7 ∷ 0x1002a3af ∷ 0x1872a32f ∷ [])

abbrev pub reserve_start : FlatMachine
reserve_start = started 2 (zeros ∷ zeros ∷ (5 ∷ 0 ∷ 0 ∷ 0 ∷ []) ∷ zeros ∷ [])

abbrev pub kept_steps : List Step
kept_steps = (1, false) ∷ (1, false) ∷ (1, true) ∷ []

-- Nobody stores between LR and SC: the SC stores and puts 0.
abbrev pub ReservationKept : Type 0
ReservationKept =
    (answers reserve_code four_items reserve_start kept_steps ≡ Ok Plain ∷ Ok (Lr 0x20000 5) ∷ Ok (ScOk 0x20000 5 5) ∷ [])
    × (register_at_end reserve_code four_items reserve_start kept_steps 1 6 ≡ 0)

abbrev pub lost_steps : List Step
lost_steps = (1, false) ∷ (1, false) ∷ (0, false) ∷ (0, false) ∷ (0, true) ∷ (1, true) ∷ []

-- Another hart stores in between, though the same word: the SC fails and puts 1.
abbrev pub ReservationLost : Type 0
ReservationLost =
    (answers reserve_code four_items reserve_start lost_steps
    ≡ Ok Plain ∷ Ok (Lr 0x20000 5) ∷ Ok Plain ∷ Ok (Lr 0x20000 5) ∷ Ok (ScOk 0x20000 5 5) ∷ Ok (ScFail 0x20000)
    ∷ [])
    × (register_at_end reserve_code four_items reserve_start lost_steps 1 6 ≡ 1)

-- An SC that fails, here since it was not let to store, ends its hart's reservation, and no other's.
abbrev pub FailedConditional : Type 0
FailedConditional =
    (answers reserve_code four_items reserve_start failed_steps
    ≡ Ok Plain ∷ Ok (Lr 0x20000 5) ∷ Ok Plain ∷ Ok (Lr 0x20000 5) ∷ Ok (ScFail 0x20000) ∷ Ok (ScOk 0x20000 5 5)
    ∷ [])
    × ((flat_hart (machine_at_end reserve_code four_items reserve_start first_steps) 1).reserved ≡ Some 2)
    × ((flat_hart (machine_at_end reserve_code four_items reserve_start first_steps) 0).reserved ≡ None)
  where
    first_steps : List Step
    first_steps = (1, false) ∷ (1, false) ∷ (0, false) ∷ (0, false) ∷ (0, false) ∷ []

    failed_steps : List Step
    failed_steps = (1, false) ∷ (1, false) ∷ (0, false) ∷ (0, false) ∷ (0, false) ∷ (1, true) ∷ []

-- lui x5, 32; lr.w x7, (x5); sw x6, 8(x5)
abbrev pub own_store_code : List CodeWord
own_store_code = code_of (0x000202b7 ∷ 0x1002a3af ∷ 0x0062a423 ∷ [])

-- A store leaves its own hart's reservation on the item, and ends the other's.
abbrev pub OwnStore : Type 0
OwnStore =
    ((flat_hart (machine_at_end own_store_code four_items reserve_start steps) 0).reserved ≡ Some 2)
    × ((flat_hart (machine_at_end own_store_code four_items reserve_start steps) 1).reserved ≡ None)
  where
    steps : List Step
    steps = (0, false) ∷ (0, false) ∷ (1, false) ∷ (1, false) ∷ (0, false) ∷ []

-- ---- single instructions

-- code of this word alone at 65536, which stands in an item that may not be written, and an item at 131072
abbrev pub two_items : ItemTable
two_items = record {
  size = 16;
  rows = record { address = 0x10000; writable = false } ∷ record { address = 0x20000; writable = true } ∷ [];
}

-- a hart with values in x5, x6 and x7
abbrev pub hart_with : ℕ → ℕ → ℕ → HartValue
hart_with v5 v6 v7 = record {
  registers = slice_set (slice_set (slice_set (replicate 32 0) 5 v5) 6 v6) 7 v7;
  pc = 0x10000;
  halt = None;
}

abbrev pub asked : ℕ → HartValue → Ask
asked word h = ask_of (code_of (word ∷ [])) two_items h

abbrev pub finished : ℕ → HartValue → List ℕ → Finished
finished word h words = finish_of (code_of (word ∷ [])) two_items h words false

-- The word asks for nothing, and leaves v in a register and goes on at a pc.
abbrev pub Gives : ℕ → HartValue → ℕ → ℕ → ℕ → Type 0
Gives word h r v pc = (asked word h ≡ AsksNothing) × (register (finished word h []).hart r ≡ v) × ((finished word h []).hart.pc ≡ pc)

-- at x6 and x7 the word leaves v in x5
abbrev pub Computes : ℕ → ℕ → ℕ → ℕ → Type 0
Computes word v6 v7 v = Gives word (hart_with 0 v6 v7) 5 v 0x10004

-- on an item whose first word is `before`, with 131072 in x5 and v6 in x6, the word leaves v in x7
abbrev pub Loads : ℕ → ℕ → ℕ → Type 0
Loads word before v =
    (asked word (hart_with 0x20000 0 0) ≡ NeedsShared 1 false)
    × (finished word (hart_with 0x20000 0 0) (before ∷ 0 ∷ 0 ∷ 9 ∷ [])
    ≡ record { effect = Load 0x20000 before; hart = record (hart_with 0x20000 0 v) { pc = 0x10004 }; words = before ∷ 0 ∷ 0 ∷ 9 ∷ [] })

-- it leaves `after` as the first word
abbrev pub Stores : ℕ → ℕ → ℕ → ℕ → Type 0
Stores word v6 before after =
    (asked word (hart_with 0x20000 v6 0) ≡ NeedsExclusive 1)
    × (finished word (hart_with 0x20000 v6 0) (before ∷ 0 ∷ 0 ∷ 9 ∷ [])
    ≡ record {
      effect = Store 0x20000 before after;
      hart = record (hart_with 0x20000 v6 0) { pc = 0x10004 };
      words = after ∷ 0 ∷ 0 ∷ 9 ∷ [];
    })

-- the same of an atomic operation, which puts the old word in x7
abbrev pub Amos : ℕ → ℕ → ℕ → ℕ → Type 0
Amos word v6 before after =
    (asked word (hart_with 0x20000 v6 0) ≡ NeedsExclusive 1)
    × (finished word (hart_with 0x20000 v6 0) (before ∷ 0 ∷ 0 ∷ 9 ∷ [])
    ≡ record {
      effect = Amo 0x20000 before after;
      hart = record (hart_with 0x20000 v6 before) { pc = 0x10004 };
      words = after ∷ 0 ∷ 0 ∷ 9 ∷ [];
    })

abbrev pub Results : Type 0
Results =
    Computes 0xfff33293 0xfffffffe 0 1  -- sltiu x5, x6, -1
    × Computes 0xfff33293 0xffffffff 0 0  -- sltiu x5, x6, -1
    × Computes 0xfff33293 5 0 1  -- sltiu x5, x6, -1
    × Computes 0xfff32293 5 0 0  -- slti x5, x6, -1
    × Computes 0xfff32293 0xfffffffe 0 1  -- slti x5, x6, -1
    × Computes 0x40435293 0x80000010 0 0xf8000001  -- srai x5, x6, 4
    × Computes 0x407352b3 0x80000010 36 0xf8000001  -- sra x5, x6, x7
    × Computes 0x407352b3 0x70000010 4 0x07000001  -- sra x5, x6, x7
    × Computes 0x007352b3 0x80000010 36 0x08000001  -- srl x5, x6, x7
    × Computes 0x007312b3 0x80000001 33 2  -- sll x5, x6, x7
    × Computes 0x007302b3 0xffffffff 2 1  -- add x5, x6, x7
    × Computes 0x407302b3 1 2 0xffffffff  -- sub x5, x6, x7
    × Computes 0x407302b3 2 1 1  -- sub x5, x6, x7
    × Computes 0x007322b3 0x80000000 0x7fffffff 1  -- slt x5, x6, x7
    × Computes 0x007332b3 0x80000000 0x7fffffff 0  -- sltu x5, x6, x7
    × Computes 0x800002b7 0 0 0x80000000  -- lui x5, 0x80000
    × Computes 0xfffff297 0 0 0x0000f000  -- auipc x5, 0xfffff
    × Computes 0x0ff0000f 0 0 0  -- fence iorw, iorw
    × Gives 0x00130013 (hart_with 0 1 0) 0 0 0x10004  -- addi x0, x6, 1

-- rd gets the next pc, though it is the register of the target; bit 0 of the target of JALR is cleared
abbrev pub Jumps : Type 0
Jumps =
    Gives 0x001280e7 (hart_with 0x10010 0 0) 1 0x10004 0x10010  -- jalr x1, 1(x5)
    × Gives 0x000282e7 (hart_with 0x10021 0 0) 5 0x10004 0x10020  -- jalr x5, 0(x5)
    × Gives 0xffdff0ef (hart_with 0 0 0) 1 0x10004 0xfffc  -- jal x1, -4
    × Gives 0x00734463 (hart_with 0 0xffffffff 1) 0 0 0x10008  -- blt x6, x7, 8
    × Gives 0x00736463 (hart_with 0 0xffffffff 1) 0 0 0x10004  -- bltu x6, x7, 8
    × Gives 0x00001163 (hart_with 0 0 0) 0 0 0x10004  -- bne x0, x0, 2

abbrev pub BytesAndHalves : Type 0
BytesAndHalves =
    Loads 0x00028383 0x80ff7f01 1  -- lb x7, 0(x5)
    × Loads 0x00128383 0x80ff7f01 0x7f  -- lb x7, 1(x5)
    × Loads 0x00228383 0x80ff7f01 0xffffffff  -- lb x7, 2(x5)
    × Loads 0x00328383 0x80ff7f01 0xffffff80  -- lb x7, 3(x5)
    × Loads 0x0002c383 0x80ff7f01 1  -- lbu x7, 0(x5)
    × Loads 0x0012c383 0x80ff7f01 0x7f  -- lbu x7, 1(x5)
    × Loads 0x0022c383 0x80ff7f01 0xff  -- lbu x7, 2(x5)
    × Loads 0x0032c383 0x80ff7f01 0x80  -- lbu x7, 3(x5)
    × Loads 0x00029383 0x80ff7f01 0x7f01  -- lh x7, 0(x5)
    × Loads 0x00229383 0x80ff7f01 0xffff80ff  -- lh x7, 2(x5)
    × Loads 0x0002d383 0x80ff7f01 0x7f01  -- lhu x7, 0(x5)
    × Loads 0x0022d383 0x80ff7f01 0x80ff  -- lhu x7, 2(x5)
    × Stores 0x00628023 0xaabbccdd 0x44332211 0x443322dd  -- sb x6, 0(x5)
    × Stores 0x006280a3 0xaabbccdd 0x44332211 0x4433dd11  -- sb x6, 1(x5)
    × Stores 0x00628123 0xaabbccdd 0x44332211 0x44dd2211  -- sb x6, 2(x5)
    × Stores 0x006281a3 0xaabbccdd 0x44332211 0xdd332211  -- sb x6, 3(x5)
    × Stores 0x00629023 0xaabbccdd 0x44332211 0x4433ccdd  -- sh x6, 0(x5)
    × Stores 0x00629123 0xaabbccdd 0x44332211 0xccdd2211  -- sh x6, 2(x5)

-- the other words of an item, and x0 as the register of a load
abbrev pub OtherWords : Type 0
OtherWords =
    ((finished 0x00c2a383 (hart_with 0x20000 0 0) (1 ∷ 2 ∷ 3 ∷ 4 ∷ [])).effect ≡ Load 0x2000c 4)  -- lw x7, 12(x5)
    × ((finished 0x0062a223 (hart_with 0x20000 9 0) (1 ∷ 2 ∷ 3 ∷ 4 ∷ [])).effect ≡ Store 0x20004 2 9)  -- sw x6, 4(x5)
    × ((finished 0x0062a223 (hart_with 0x20000 9 0) (1 ∷ 2 ∷ 3 ∷ 4 ∷ [])).words ≡ 1 ∷ 9 ∷ 3 ∷ 4 ∷ [])  -- sw x6, 4(x5)
    × ((finished 0x0002a003 (hart_with 0x20000 0 0) (1 ∷ 2 ∷ 3 ∷ 4 ∷ [])).effect ≡ Load 0x20000 1)  -- lw x0, 0(x5)
    -- lw x0, 0(x5)
    × ((finished 0x0002a003 (hart_with 0x20000 0 0) (1 ∷ 2 ∷ 3 ∷ 4 ∷ [])).hart.registers
    ≡ (hart_with 0x20000 0 0).registers)

abbrev pub AtomicOperations : Type 0
AtomicOperations =
    Amos 0x8062a3af 0x7fffffff 0x80000000 0x80000000  -- amomin.w x7, x6, (x5)
    × Amos 0x8062a3af 0x80000000 0x7fffffff 0x80000000  -- amomin.w x7, x6, (x5)
    × Amos 0xa062a3af 0x7fffffff 0x80000000 0x7fffffff  -- amomax.w x7, x6, (x5)
    × Amos 0xa062a3af 0x80000000 0x7fffffff 0x7fffffff  -- amomax.w x7, x6, (x5)
    × Amos 0xc062a3af 0x7fffffff 0x80000000 0x7fffffff  -- amominu.w x7, x6, (x5)
    × Amos 0xc062a3af 0x80000000 0x7fffffff 0x7fffffff  -- amominu.w x7, x6, (x5)
    × Amos 0xe062a3af 0x7fffffff 0x80000000 0x80000000  -- amomaxu.w x7, x6, (x5)
    × Amos 0xe062a3af 0x80000000 0x7fffffff 0x80000000  -- amomaxu.w x7, x6, (x5)
    × Amos 0x0062a3af 2 0xffffffff 1  -- amoadd.w x7, x6, (x5)
    × Amos 0x0862a3af 2 0xffffffff 2  -- amoswap.w x7, x6, (x5)
    × Amos 0x2062a3af 0b1100 0b1010 0b0110  -- amoxor.w x7, x6, (x5)
    × Amos 0x4062a3af 0b1100 0b1010 0b1110  -- amoor.w x7, x6, (x5)
    × Amos 0x6062a3af 0b1100 0b1010 0b1000  -- amoand.w x7, x6, (x5)

-- x5 is the address and gets the old word
abbrev pub AmoOverAddress : Type 0
AmoOverAddress =
    finished 0x0062a2af (hart_with 0x20000 3 0) (4 ∷ 0 ∷ 0 ∷ 0 ∷ [])
    ≡ record {
      effect = Amo 0x20000 4 7;
      hart = record (hart_with 4 3 0) { pc = 0x10004 };
      words = 7 ∷ 0 ∷ 0 ∷ 0 ∷ [];
    }

-- a hart that calls with a number in x17 and an argument in x10
abbrev pub calling : ℕ → ℕ → HartValue
calling number argument = record (hart_with 0 0 0) { registers = slice_set (slice_set (replicate 32 0) 17 number) 10 argument }

-- what each instruction asks for, and each way to halt
abbrev pub Asks : Type 0
Asks =
    (asked 0x0002a383 (hart_with 0x20000 0 0) ≡ NeedsShared 1 false)  -- lw x7, 0(x5)
    × (asked 0x1002a3af (hart_with 0x20000 0 0) ≡ NeedsShared 1 true)  -- lr.w x7, (x5)
    × (asked 0x0062a223 (hart_with 0x20000 0 0) ≡ NeedsExclusive 1)  -- sw x6, 4(x5)
    × (asked 0x0062a3af (hart_with 0x20000 0 0) ≡ NeedsExclusive 1)  -- amoadd.w x7, x6, (x5)
    × (asked 0x1862a3af (hart_with 0x20000 0 0) ≡ Conditional 1)  -- sc.w x7, x6, (x5)
    × (asked 0x00000073 (calling 1000 0x148) ≡ AsksPut 0x48)  -- ecall
    × (asked 0x0002a383 (hart_with 0x10000 0 0) ≡ NeedsShared 0 false)  -- lw x7, 0(x5): from an item that may not be written

abbrev pub Halts : Type 0
Halts =
    (asked 0x00000073 (calling 93 5) ≡ Halt (Exit 5))  -- ecall
    × (asked 0x00000073 (calling 94 5) ≡ Halt (UnknownCall 94))  -- ecall
    × (asked 0x00100073 (hart_with 0 0 0) ≡ Halt Breakpoint)  -- ebreak
    × (asked 0x02208033 (hart_with 0 0 0) ≡ Halt (Illegal 0x02208033))  -- mul x0, x1, x2
    × (asked 0x0ff0000f (record (hart_with 0 0 0) { pc = 0x10004 }) ≡ Halt (FetchOutside 0x10004))
    × (asked 0x00000163 (hart_with 0 0 0) ≡ Halt (MisalignedTarget 0x10002))  -- beq x0, x0, 2
    × (asked 0x000282e7 (hart_with 0x10003 0 0) ≡ Halt (MisalignedTarget 0x10002))  -- jalr x5, 0(x5)
    × (asked 0x0022a383 (hart_with 0x20000 0 0) ≡ Halt (MisalignedAccess 0x20002))  -- lw x7, 2(x5)
    × (asked 0x006290a3 (hart_with 0x20000 0 0) ≡ Halt (MisalignedAccess 0x20001))  -- sh x6, 1(x5)
    × (asked 0x1002a3af (hart_with 1 0 0) ≡ Halt (MisalignedAccess 1))  -- lr.w x7, (x5)
    × (asked 0xffc2a383 (hart_with 0x20000 0 0) ≡ Halt (LoadOutside 0x1fffc))  -- lw x7, -4(x5)
    × (asked 0x1002a3af (hart_with 0x20010 0 0) ≡ Halt (LoadOutside 0x20010))  -- lr.w x7, (x5)
    × (asked 0xfe62ae23 (hart_with 0 0 0) ≡ Halt (StoreOutside 0xfffffffc))  -- sw x6, -4(x5)
    × (asked 0x1862a3af (hart_with 0x20010 0 0) ≡ Halt (StoreOutside 0x20010))  -- sc.w x7, x6, (x5)
    × (asked 0x0062a3af (hart_with 0x10000 0 0) ≡ Halt (StoreOutside 0x10000))  -- amoadd.w x7, x6, (x5): the item may not be written
    × (asked 0x1862a3af (hart_with 0x10000 0 0) ≡ Halt (StoreOutside 0x10000))  -- sc.w x7, x6, (x5)

-- which effects are on an item, and which change it
abbrev pub EffectsOnItems : Type 0
EffectsOnItems =
    IsTrue (on_item four_items 2 (Load 0x2000c 1))
    × IsTrue (on_item four_items 2 (Lr 0x20000 1))
    × IsFalse (on_item four_items 3 (Load 0x2000c 1))
    × IsFalse (on_item four_items 2 (ScFail 0x20000))
    × IsFalse (on_item four_items 0 Plain)
    × IsFalse (changes_item four_items 2 (Load 0x2000c 1))
    × IsTrue (changes_item four_items 2 (Store 0x20000 0 0))
    × IsTrue (changes_item four_items 2 (ScOk 0x20000 0 0))
    × IsTrue (changes_item four_items 3 (Amo 0x30008 0 0))
    × IsFalse (changes_item four_items 2 (Amo 0x30008 0 0))
