-- Words and the instructions that they are, with what an assembler writes for each.
use Rattle.std.specs.Prelude.{◌≡◌, ℕ, true, false, Some, None, pos, negsuc}
use Rattle.rv_decode.specs.declared.instructions.BranchOp.TheVariants.{Beq, Bne, Blt, Bge, Bltu, Bgeu}
use Rattle.rv_decode.specs.declared.instructions.LoadOp.TheVariants.{Lb, Lh, Lw, Lbu, Lhu}
use Rattle.rv_decode.specs.declared.instructions.StoreOp.TheVariants.{Sb, Sh, Sw}
use Rattle.rv_decode.specs.declared.instructions.ImmOp.TheVariants.{Addi, Slti, Sltiu, Xori, Ori, Andi, Slli, Srli, Srai}
use Rattle.rv_decode.specs.declared.instructions.RegOp.TheVariants.{Add, Sub, Sll, Slt, Sltu, Xor, Srl, Sra, Or, And}
use Rattle.rv_decode.specs.declared.instructions.AmoOp.TheVariants.{Add as AmoAdd, Swap as AmoSwap, Xor as AmoXor}
use Rattle.rv_decode.specs.declared.instructions.AmoOp.TheVariants.{Or as AmoOr, And as AmoAnd, Min as AmoMin}
use Rattle.rv_decode.specs.declared.instructions.AmoOp.TheVariants.{Max as AmoMax, Minu as AmoMinu, Maxu as AmoMaxu}
use Rattle.rv_decode.specs.declared.instructions.Instr.{Instr}
use Rattle.rv_decode.specs.declared.instructions.Instr.TheVariants.{Lui, Auipc, Jal, Jalr, Branch, Load, Store}
use Rattle.rv_decode.specs.declared.instructions.Instr.TheVariants.{Immediate, Register, Fence, Ecall, Ebreak, Lr, Sc}
use Rattle.rv_decode.specs.declared.instructions.Instr.TheVariants.{Amo}
use Rattle.rv_decode.specs.Table.{decode_of}

abbrev pub Is : ℕ → Instr → Type 0
Is word i = decode_of word ≡ Some i

abbrev pub IsOutside : ℕ → Type 0
IsOutside word = decode_of word ≡ None

-- the decoder vectors: words that are instructions
abbrev pub InstructionVectors : Type 0
InstructionVectors =
    Is 0x100522af (Lr 5 10 false false)  -- lr.w x5, (x10)
    × Is 0x1855232f (Sc 6 10 5 false false)  -- sc.w x6, x5, (x10)
    × Is 0x0ff0000f (Fence 0 0 0x0ff)  -- fence iorw, iorw
    × Is 0x00100073 Ebreak  -- ebreak

-- the decoder vectors: words outside the table, which other extensions have or nothing has
abbrev pub OutsideVectors : Type 0
OutsideVectors =
    IsOutside 0x02208033  -- mul x0, x1, x2
    × IsOutside 0x0000100f  -- fence.i
    × IsOutside 0x40111093  -- slli with bit 30 set
    × IsOutside 0x101522af  -- lr.w with rs2 x1
    × IsOutside 0xffffffff
    × IsOutside 0x00000000

-- the words of the worked programs
abbrev pub ProgramWords : Type 0
ProgramWords =
    Is 0x000202b7 (Lui 5 0x00020000)  -- lui x5, 32
    × Is 0x00700313 (Immediate Addi 6 0 (pos 7))  -- addi x6, x0, 7
    × Is 0x0062a023 (Store Sw 5 6 (pos 0))  -- sw x6, 0(x5)
    × Is 0x0002a383 (Load Lw 7 5 (pos 0))  -- lw x7, 0(x5)
    × Is 0x05d00893 (Immediate Addi 17 0 (pos 93))  -- addi x17, x0, 93
    × Is 0x00038513 (Immediate Addi 10 7 (pos 0))  -- addi x10, x7, 0
    × Is 0x00000073 Ecall  -- ecall
    × Is 0x00150313 (Immediate Addi 6 10 (pos 1))  -- addi x6, x10, 1
    × Is 0x1002a3af (Lr 7 5 false false)  -- lr.w x7, (x5)
    × Is 0x1872a32f (Sc 6 5 7 false false)  -- sc.w x6, x7, (x5)
    × Is 0x00050863 (Branch Beq 10 0 (pos 16))  -- beq x10, x0, 16
    × Is 0x0002a403 (Load Lw 8 5 (pos 0))  -- lw x8, 0(x5)
    × Is 0x0102a483 (Load Lw 9 5 (pos 16))  -- lw x9, 16(x5)
    × Is 0x0002a603 (Load Lw 12 5 (pos 0))  -- lw x12, 0(x5)
    × Is 0x00b2a023 (Store Sw 5 11 (pos 0))  -- sw x11, 0(x5)
    × Is 0x00b2a823 (Store Sw 5 11 (pos 16))  -- sw x11, 16(x5)
    × Is 0x06400313 (Immediate Addi 6 0 (pos 100))  -- addi x6, x0, 100
    × Is 0x00100393 (Immediate Addi 7 0 (pos 1))  -- addi x7, x0, 1
    × Is 0x0072a42f (Amo AmoAdd 8 5 7 false false)  -- amoadd.w x8, x7, (x5)
    × Is 0xfff30313 (Immediate Addi 6 6 (negsuc 0))  -- addi x6, x6, -1
    × Is 0xfe031ce3 (Branch Bne 6 0 (negsuc 7))  -- bne x6, x0, -8
    × Is 0x0102a403 (Load Lw 8 5 (pos 16))  -- lw x8, 16(x5)
    × Is 0x00010337 (Lui 6 0x00010000)  -- lui x6, 16
    × Is 0x00032403 (Load Lw 8 6 (pos 0))  -- lw x8, 0(x6)
    × Is 0x3e800893 (Immediate Addi 17 0 (pos 1000))  -- addi x17, x0, 1000
    × Is 0x04800513 (Immediate Addi 10 0 (pos 72))  -- addi x10, x0, 72
    × Is 0x00051463 (Branch Bne 10 0 (pos 8))  -- bne x10, x0, 8

-- a word of each row of the table, as an assembler makes it, with the least and the greatest immediates
abbrev pub JumpWords : Type 0
JumpWords =
    Is 0xfffff0b7 (Lui 1 0xfffff000)  -- lui x1, 0xfffff
    × Is 0x12345f97 (Auipc 31 0x12345000)  -- auipc x31, 0x12345
    × Is 0x7ffff0ef (Jal 1 (pos 1048574))  -- jal x1, 1048574
    × Is 0x8000006f (Jal 0 (negsuc 1048575))  -- jal x0, -1048576
    × Is 0x003002ef (Jal 5 (pos 2050))  -- jal x5, 2050
    × Is 0x800100e7 (Jalr 1 2 (negsuc 2047))  -- jalr x1, -2048(x2)
    × Is 0x7e208fe3 (Branch Beq 1 2 (pos 4094))  -- beq x1, x2, 4094
    × Is 0x80419063 (Branch Bne 3 4 (negsuc 4095))  -- bne x3, x4, -4096
    × Is 0x0062c0e3 (Branch Blt 5 6 (pos 2048))  -- blt x5, x6, 2048
    × Is 0xfe83dfe3 (Branch Bge 7 8 (negsuc 1))  -- bge x7, x8, -2
    × Is 0x01ff6f63 (Branch Bltu 30 31 (pos 30))  -- bltu x30, x31, 30
    × Is 0xfef87f63 (Branch Bgeu 16 15 (negsuc 2049))  -- bgeu x16, x15, -2050

abbrev pub MemoryWords : Type 0
MemoryWords =
    Is 0x7ff10083 (Load Lb 1 2 (pos 2047))  -- lb x1, 2047(x2)
    × Is 0x80021183 (Load Lh 3 4 (negsuc 2047))  -- lh x3, -2048(x4)
    × Is 0x00032283 (Load Lw 5 6 (pos 0))  -- lw x5, 0(x6)
    × Is 0xffff4f83 (Load Lbu 31 30 (negsuc 0))  -- lbu x31, -1(x30)
    × Is 0x00255483 (Load Lhu 9 10 (pos 2))  -- lhu x9, 2(x10)
    × Is 0x7e110fa3 (Store Sb 2 1 (pos 2047))  -- sb x1, 2047(x2)
    × Is 0x80321023 (Store Sh 4 3 (negsuc 2047))  -- sh x3, -2048(x4)
    × Is 0xffff2fa3 (Store Sw 30 31 (negsuc 0))  -- sw x31, -1(x30)
    × Is 0x0230000f (Fence 0 0 0x023)  -- fence r, rw
    × Is 0x8330000f (Fence 0 0 0x833)  -- fence.tso

abbrev pub ImmediateWords : Type 0
ImmediateWords =
    Is 0x80010093 (Immediate Addi 1 2 (negsuc 2047))  -- addi x1, x2, -2048
    × Is 0x7ff22193 (Immediate Slti 3 4 (pos 2047))  -- slti x3, x4, 2047
    × Is 0xfff33293 (Immediate Sltiu 5 6 (negsuc 0))  -- sltiu x5, x6, -1
    × Is 0xfff44393 (Immediate Xori 7 8 (negsuc 0))  -- xori x7, x8, -1
    × Is 0x55556493 (Immediate Ori 9 10 (pos 1365))  -- ori x9, x10, 1365
    × Is 0x0ff67593 (Immediate Andi 11 12 (pos 255))  -- andi x11, x12, 255
    × Is 0x01f71693 (Immediate Slli 13 14 (pos 31))  -- slli x13, x14, 31
    × Is 0x00185793 (Immediate Srli 15 16 (pos 1))  -- srli x15, x16, 1
    × Is 0x41f95893 (Immediate Srai 17 18 (pos 31))  -- srai x17, x18, 31

abbrev pub RegisterWords : Type 0
RegisterWords =
    Is 0x015580b3 (Register Add 1 11 21)  -- add x1, x11, x21
    × Is 0x41660133 (Register Sub 2 12 22)  -- sub x2, x12, x22
    × Is 0x017691b3 (Register Sll 3 13 23)  -- sll x3, x13, x23
    × Is 0x01872233 (Register Slt 4 14 24)  -- slt x4, x14, x24
    × Is 0x0197b2b3 (Register Sltu 5 15 25)  -- sltu x5, x15, x25
    × Is 0x01a84333 (Register Xor 6 16 26)  -- xor x6, x16, x26
    × Is 0x01b8d3b3 (Register Srl 7 17 27)  -- srl x7, x17, x27
    × Is 0x41c95433 (Register Sra 8 18 28)  -- sra x8, x18, x28
    × Is 0x01d9e4b3 (Register Or 9 19 29)  -- or x9, x19, x29
    × Is 0x01ea7533 (Register And 10 20 30)  -- and x10, x20, x30
    × Is 0x00000073 Ecall  -- ecall
    × Is 0x00100073 Ebreak  -- ebreak

abbrev pub AtomicWords : Type 0
AtomicWords =
    Is 0x1005a0af (Lr 1 11 false false)  -- lr.w x1, (x11)
    × Is 0x1206212f (Lr 2 12 false true)  -- lr.w.rl x2, (x12)
    × Is 0x1406a1af (Lr 3 13 true false)  -- lr.w.aq x3, (x13)
    × Is 0x1607222f (Lr 4 14 true true)  -- lr.w.aqrl x4, (x14)
    × Is 0x1955a0af (Sc 1 11 21 false false)  -- sc.w x1, x21, (x11)
    × Is 0x1b66212f (Sc 2 12 22 false true)  -- sc.w.rl x2, x22, (x12)
    × Is 0x1d76a1af (Sc 3 13 23 true false)  -- sc.w.aq x3, x23, (x13)
    × Is 0x1f87222f (Sc 4 14 24 true true)  -- sc.w.aqrl x4, x24, (x14)
    × Is 0x0155a0af (Amo AmoAdd 1 11 21 false false)  -- amoadd.w x1, x21, (x11)
    × Is 0x0b66212f (Amo AmoSwap 2 12 22 false true)  -- amoswap.w.rl x2, x22, (x12)
    × Is 0x2576a1af (Amo AmoXor 3 13 23 true false)  -- amoxor.w.aq x3, x23, (x13)
    × Is 0x6787222f (Amo AmoAnd 4 14 24 true true)  -- amoand.w.aqrl x4, x24, (x14)
    × Is 0x4197a2af (Amo AmoOr 5 15 25 false false)  -- amoor.w x5, x25, (x15)
    × Is 0x83a8232f (Amo AmoMin 6 16 26 false true)  -- amomin.w.rl x6, x26, (x16)
    × Is 0xa5b8a3af (Amo AmoMax 7 17 27 true false)  -- amomax.w.aq x7, x27, (x17)
    × Is 0xc7c9242f (Amo AmoMinu 8 18 28 true true)  -- amominu.w.aqrl x8, x28, (x18)
    × Is 0xe1d9a4af (Amo AmoMaxu 9 19 29 false false)  -- amomaxu.w x9, x29, (x19)
