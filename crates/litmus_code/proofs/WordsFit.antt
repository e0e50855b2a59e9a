-- The word of a valid instruction has 32 bits.
use Rattle.std.proofs.Common.{◌≡◌, ℕ, ◌+◌, ◌*◌, ◌/◌, ◌%◌, ◌^◌, ◌<◌, ◌≤◌, arith}
use Rattle.std.specs.Prelude.{Bool, true, false, ℤ, pos, negsuc}
use Rattle.rv_decode.specs.declared.instructions.AmoOp.{AmoOp}
use Rattle.rv_decode.specs.declared.instructions.BranchOp.{BranchOp}
use Rattle.rv_decode.specs.declared.instructions.ImmOp.{ImmOp}
use Rattle.rv_decode.specs.declared.instructions.ImmOp.TheVariants.{Addi, Slti, Sltiu, Xori, Ori, Andi, Slli, Srli, Srai}
use Rattle.rv_decode.specs.declared.instructions.LoadOp.{LoadOp}
use Rattle.rv_decode.specs.declared.instructions.RegOp.{RegOp}
use Rattle.rv_decode.specs.declared.instructions.StoreOp.{StoreOp}
use Rattle.rv_decode.specs.declared.instructions.Instr.{Instr}
use Rattle.rv_decode.specs.declared.instructions.Instr.TheVariants.{Lui, Auipc, Jal, Jalr, Branch, Load, Store}
use Rattle.rv_decode.specs.declared.instructions.Instr.TheVariants.{Immediate, Register, Fence, Ecall, Ebreak, Lr, Sc, Amo}
use Rattle.rv_decode.specs.Encode.{amo_funct5, atomic_word, b_word, bits_of, branch_funct3, encode_of, i_word, immediate_funct3, immediate_funct7, j_word, load_funct3, r_word, register_funct3, register_funct7, s_word, store_funct3, u_word}
use Rattle.rv_decode.specs.Valid.{FitsBits, FitsOperation, IsShiftAmount, IsValid}

-- ---- the formats

r-fits : (f7 rs2 rs1 f3 rd op : ℕ) → f7 < 128 → rs2 < 32 → rs1 < 32 → f3 < 8 → rd < 32 → op < 128 → r_word f7 rs2 rs1 f3 rd op < 2 ^ 32
unfolding r_word
r-fits f7 rs2 rs1 f3 rd op a b c d e f = omega (arith, a, b, c, d, e, f)

i-fits : (imm rs1 f3 rd op : ℕ) → imm < 4096 → rs1 < 32 → f3 < 8 → rd < 32 → op < 128 → i_word imm rs1 f3 rd op < 2 ^ 32
unfolding i_word
i-fits imm rs1 f3 rd op a b c d e = omega (arith, a, b, c, d, e)

s-fits : (imm rs2 rs1 f3 op : ℕ) → rs2 < 32 → rs1 < 32 → f3 < 8 → op < 128 → s_word imm rs2 rs1 f3 op < 2 ^ 32
unfolding s_word
s-fits imm rs2 rs1 f3 op b c d e = r-fits (imm / 2 ^ 5 % 2 ^ 7) rs2 rs1 f3 (imm / 2 ^ 0 % 2 ^ 5) op (omega arith) b c d (omega arith) e

b-fits : (imm rs2 rs1 f3 op : ℕ) → rs2 < 32 → rs1 < 32 → f3 < 8 → op < 128 → b_word imm rs2 rs1 f3 op < 2 ^ 32
unfolding b_word
b-fits imm rs2 rs1 f3 op b c d e =
    r-fits (imm / 2 ^ 12 % 2 ^ 1 * 2 ^ 6 + imm / 2 ^ 5 % 2 ^ 6) rs2 rs1 f3 (imm / 2 ^ 1 % 2 ^ 4 * 2 + imm / 2 ^ 11 % 2 ^ 1) op (omega arith) b c d (omega arith) e

-- the low 12 bits are 0
u-fits : (imm rd op : ℕ) → imm < 2 ^ 32 → imm % 2 ^ 12 ≡ 0 → rd < 32 → op < 128 → u_word imm rd op < 2 ^ 32
unfolding u_word
u-fits imm rd op small low a b = omega (arith, small, low, a, b)

j-fits : (imm rd op : ℕ) → rd < 32 → op < 128 → j_word imm rd op < 2 ^ 32
unfolding j_word u_word
j-fits imm rd op a b = omega (arith, a, b)

atomic-fits : (f5 : ℕ) (aq rl : Bool) (rs2 rs1 rd : ℕ) → f5 < 32 → rs2 < 32 → rs1 < 32 → rd < 32 → atomic_word f5 aq rl rs2 rs1 rd < 2 ^ 32
unfolding atomic_word
atomic-fits f5 true true rs2 rs1 rd a b c d = r-fits (f5 * 4 + 1 * 2 + 1) rs2 rs1 0b010 rd 0b0101111 (omega (arith, a)) b c (omega arith) d (omega arith)
atomic-fits f5 true false rs2 rs1 rd a b c d = r-fits (f5 * 4 + 1 * 2 + 0) rs2 rs1 0b010 rd 0b0101111 (omega (arith, a)) b c (omega arith) d (omega arith)
atomic-fits f5 false true rs2 rs1 rd a b c d = r-fits (f5 * 4 + 0 * 2 + 1) rs2 rs1 0b010 rd 0b0101111 (omega (arith, a)) b c (omega arith) d (omega arith)
atomic-fits f5 false false rs2 rs1 rd a b c d = r-fits (f5 * 4 + 0 * 2 + 0) rs2 rs1 0b010 rd 0b0101111 (omega (arith, a)) b c (omega arith) d (omega arith)

-- ---- the fields that an operation fixes

branch-fits : (op : BranchOp) → branch_funct3 op < 8
unfolding branch_funct3
branch-fits BranchOp.Beq = omega arith
branch-fits BranchOp.Bne = omega arith
branch-fits BranchOp.Blt = omega arith
branch-fits BranchOp.Bge = omega arith
branch-fits BranchOp.Bltu = omega arith
branch-fits BranchOp.Bgeu = omega arith

load-fits : (op : LoadOp) → load_funct3 op < 8
unfolding load_funct3
load-fits LoadOp.Lb = omega arith
load-fits LoadOp.Lh = omega arith
load-fits LoadOp.Lw = omega arith
load-fits LoadOp.Lbu = omega arith
load-fits LoadOp.Lhu = omega arith

store-fits : (op : StoreOp) → store_funct3 op < 8
unfolding store_funct3
store-fits StoreOp.Sb = omega arith
store-fits StoreOp.Sh = omega arith
store-fits StoreOp.Sw = omega arith

register3-fits : (op : RegOp) → register_funct3 op < 8
unfolding register_funct3
register3-fits RegOp.Add = omega arith
register3-fits RegOp.Sub = omega arith
register3-fits RegOp.Sll = omega arith
register3-fits RegOp.Slt = omega arith
register3-fits RegOp.Sltu = omega arith
register3-fits RegOp.Xor = omega arith
register3-fits RegOp.Srl = omega arith
register3-fits RegOp.Sra = omega arith
register3-fits RegOp.Or = omega arith
register3-fits RegOp.And = omega arith

register7-fits : (op : RegOp) → register_funct7 op < 128
unfolding register_funct7
register7-fits RegOp.Add = omega arith
register7-fits RegOp.Sub = omega arith
register7-fits RegOp.Sll = omega arith
register7-fits RegOp.Slt = omega arith
register7-fits RegOp.Sltu = omega arith
register7-fits RegOp.Xor = omega arith
register7-fits RegOp.Srl = omega arith
register7-fits RegOp.Sra = omega arith
register7-fits RegOp.Or = omega arith
register7-fits RegOp.And = omega arith

amo-fits : (op : AmoOp) → amo_funct5 op < 32
unfolding amo_funct5
amo-fits AmoOp.Add = omega arith
amo-fits AmoOp.Swap = omega arith
amo-fits AmoOp.Xor = omega arith
amo-fits AmoOp.Or = omega arith
amo-fits AmoOp.And = omega arith
amo-fits AmoOp.Min = omega arith
amo-fits AmoOp.Max = omega arith
amo-fits AmoOp.Minu = omega arith
amo-fits AmoOp.Maxu = omega arith

immediate3-fits : (op : ImmOp) → immediate_funct3 op < 8
unfolding immediate_funct3
immediate3-fits ImmOp.Addi = omega arith
immediate3-fits ImmOp.Slti = omega arith
immediate3-fits ImmOp.Sltiu = omega arith
immediate3-fits ImmOp.Xori = omega arith
immediate3-fits ImmOp.Ori = omega arith
immediate3-fits ImmOp.Andi = omega arith
immediate3-fits ImmOp.Slli = omega arith
immediate3-fits ImmOp.Srli = omega arith
immediate3-fits ImmOp.Srai = omega arith

-- ---- immediates

twelve-fits : (z : ℤ) → FitsBits 12 z → bits_of 12 z < 4096
twelve-fits (pos n) h = omega (arith, h)
twelve-fits (negsuc n) h = omega (arith, h)

amount-fits : (f7 : ℕ) (z : ℤ) → f7 ≤ 32 → IsShiftAmount z → f7 * 2 ^ 5 + bits_of 12 z < 4096
amount-fits f7 (pos n) few h = omega (arith, few, h)
amount-fits f7 (negsuc n) few h = absurd h

immediate-fits : (op : ImmOp) (z : ℤ) → FitsOperation op z → immediate_funct7 op * 2 ^ 5 + bits_of 12 z < 4096
unfolding immediate_funct7
immediate-fits Slli z h = amount-fits 0 z (omega arith) h
immediate-fits Srli z h = amount-fits 0 z (omega arith) h
immediate-fits Srai z h = amount-fits 32 z (omega arith) h
immediate-fits Addi z h = let e = twelve-fits z h in omega (arith, e)
immediate-fits Slti z h = let e = twelve-fits z h in omega (arith, e)
immediate-fits Sltiu z h = let e = twelve-fits z h in omega (arith, e)
immediate-fits Xori z h = let e = twelve-fits z h in omega (arith, e)
immediate-fits Ori z h = let e = twelve-fits z h in omega (arith, e)
immediate-fits Andi z h = let e = twelve-fits z h in omega (arith, e)

-- ---- all of them

pub word-fits : (i : Instr) → IsValid i → encode_of i < 2 ^ 32
unfolding encode_of
word-fits (Lui rd imm) h = u-fits imm rd 0b0110111 h.1.0 h.1.1 h.0 (omega arith)
word-fits (Auipc rd imm) h = u-fits imm rd 0b0010111 h.1.0 h.1.1 h.0 (omega arith)
word-fits (Jal rd offset) h = j-fits (bits_of 21 offset) rd 0b1101111 h.0 (omega arith)
word-fits (Jalr rd rs1 offset) h = i-fits (bits_of 12 offset) rs1 0b000 rd 0b1100111 (twelve-fits offset h.2) h.1 (omega arith) h.0 (omega arith)
word-fits (Branch op rs1 rs2 offset) h = b-fits (bits_of 13 offset) rs2 rs1 (branch_funct3 op) 0b1100011 h.1 h.0 (branch-fits op) (omega arith)
word-fits (Load op rd rs1 offset) h = i-fits (bits_of 12 offset) rs1 (load_funct3 op) rd 0b0000011 (twelve-fits offset h.2) h.1 (load-fits op) h.0 (omega arith)
word-fits (Store op rs1 rs2 offset) h = s-fits (bits_of 12 offset) rs2 rs1 (store_funct3 op) 0b0100011 h.1 h.0 (store-fits op) (omega arith)
word-fits (Immediate op rd rs1 imm) h = i-fits (immediate_funct7 op * 2 ^ 5 + bits_of 12 imm) rs1 (immediate_funct3 op) rd 0b0010011 (immediate-fits op imm h.2) h.1 (immediate3-fits op) h.0 (omega arith)
word-fits (Register op rd rs1 rs2) h = r-fits (register_funct7 op) rs2 rs1 (register_funct3 op) rd 0b0110011 (register7-fits op) h.2 h.1 (register3-fits op) h.0 (omega arith)
word-fits (Fence rd rs1 imm) h = i-fits imm rs1 0b000 rd 0b0001111 (omega (arith, h.2)) h.1 (omega arith) h.0 (omega arith)
word-fits Ecall h = omega arith
word-fits Ebreak h = omega arith
word-fits (Lr rd rs1 aq rl) h = atomic-fits 0b00010 aq rl 0 rs1 rd (omega arith) (omega arith) h.1 h.0
word-fits (Sc rd rs1 rs2 aq rl) h = atomic-fits 0b00011 aq rl rs2 rs1 rd (omega arith) h.2 h.1 h.0
word-fits (Amo op rd rs1 rs2 aq rl) h = atomic-fits (amo_funct5 op) aq rl rs2 rs1 rd (amo-fits op) h.2 h.1 h.0
