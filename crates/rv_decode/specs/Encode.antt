-- The word of an instruction, by the formats of RV32I ("Base Instruction Formats", "Immediate Encoding Variants").
use Rattle.std.specs.Prelude.{ℕ, ◌+◌, ◌*◌, ◌^◌, ◌-◌, Bool, true, false, ℤ, pos, negsuc}
use Rattle.rv_decode.specs.declared.instructions.BranchOp.{BranchOp}
use Rattle.rv_decode.specs.declared.instructions.BranchOp.TheVariants.{Beq, Bne, Blt, Bge, Bltu, Bgeu}
use Rattle.rv_decode.specs.declared.instructions.LoadOp.{LoadOp}
use Rattle.rv_decode.specs.declared.instructions.LoadOp.TheVariants.{Lb, Lh, Lw, Lbu, Lhu}
use Rattle.rv_decode.specs.declared.instructions.StoreOp.{StoreOp}
use Rattle.rv_decode.specs.declared.instructions.StoreOp.TheVariants.{Sb, Sh, Sw}
use Rattle.rv_decode.specs.declared.instructions.ImmOp.{ImmOp}
use Rattle.rv_decode.specs.declared.instructions.ImmOp.TheVariants.{Addi, Slti, Sltiu, Xori, Ori, Andi, Slli, Srli, Srai}
use Rattle.rv_decode.specs.declared.instructions.RegOp.{RegOp}
use Rattle.rv_decode.specs.declared.instructions.RegOp.TheVariants.{Add, Sub, Sll, Slt, Sltu, Xor, Srl, Sra, Or, And}
use Rattle.rv_decode.specs.declared.instructions.AmoOp.{AmoOp}
use Rattle.rv_decode.specs.declared.instructions.AmoOp.TheVariants.{Add as AmoAdd, Swap as AmoSwap, Xor as AmoXor}
use Rattle.rv_decode.specs.declared.instructions.AmoOp.TheVariants.{Or as AmoOr, And as AmoAnd, Min as AmoMin}
use Rattle.rv_decode.specs.declared.instructions.AmoOp.TheVariants.{Max as AmoMax, Minu as AmoMinu, Maxu as AmoMaxu}
use Rattle.rv_decode.specs.declared.instructions.Instr.{Instr}
use Rattle.rv_decode.specs.declared.instructions.Instr.TheVariants.{Lui, Auipc, Jal, Jalr, Branch, Load, Store}
use Rattle.rv_decode.specs.declared.instructions.Instr.TheVariants.{Immediate, Register, Fence, Ecall, Ebreak, Lr, Sc}
use Rattle.rv_decode.specs.declared.instructions.Instr.TheVariants.{Amo}
use Rattle.rv_decode.specs.Table.{field}

-- ---- the fields that an operation fixes

unfoldable pub branch_funct3 : BranchOp → ℕ
branch_funct3 Beq = 0b000
branch_funct3 Bne = 0b001
branch_funct3 Blt = 0b100
branch_funct3 Bge = 0b101
branch_funct3 Bltu = 0b110
branch_funct3 Bgeu = 0b111

unfoldable pub load_funct3 : LoadOp → ℕ
load_funct3 Lb = 0b000
load_funct3 Lh = 0b001
load_funct3 Lw = 0b010
load_funct3 Lbu = 0b100
load_funct3 Lhu = 0b101

unfoldable pub store_funct3 : StoreOp → ℕ
store_funct3 Sb = 0b000
store_funct3 Sh = 0b001
store_funct3 Sw = 0b010

unfoldable pub immediate_funct3 : ImmOp → ℕ
immediate_funct3 Addi = 0b000
immediate_funct3 Slti = 0b010
immediate_funct3 Sltiu = 0b011
immediate_funct3 Xori = 0b100
immediate_funct3 Ori = 0b110
immediate_funct3 Andi = 0b111
immediate_funct3 Slli = 0b001
immediate_funct3 Srli = 0b101
immediate_funct3 Srai = 0b101

-- funct7 of a shift by a fixed amount; the other operations have no such field
unfoldable pub immediate_funct7 : ImmOp → ℕ
immediate_funct7 Srai = 0b0100000
immediate_funct7 Addi = 0
immediate_funct7 Slti = 0
immediate_funct7 Sltiu = 0
immediate_funct7 Xori = 0
immediate_funct7 Ori = 0
immediate_funct7 Andi = 0
immediate_funct7 Slli = 0
immediate_funct7 Srli = 0

unfoldable pub register_funct3 : RegOp → ℕ
register_funct3 Add = 0b000
register_funct3 Sub = 0b000
register_funct3 Sll = 0b001
register_funct3 Slt = 0b010
register_funct3 Sltu = 0b011
register_funct3 Xor = 0b100
register_funct3 Srl = 0b101
register_funct3 Sra = 0b101
register_funct3 Or = 0b110
register_funct3 And = 0b111

unfoldable pub register_funct7 : RegOp → ℕ
register_funct7 Sub = 0b0100000
register_funct7 Sra = 0b0100000
register_funct7 Add = 0
register_funct7 Sll = 0
register_funct7 Slt = 0
register_funct7 Sltu = 0
register_funct7 Xor = 0
register_funct7 Srl = 0
register_funct7 Or = 0
register_funct7 And = 0

unfoldable pub amo_funct5 : AmoOp → ℕ
amo_funct5 AmoSwap = 0b00001
amo_funct5 AmoAdd = 0b00000
amo_funct5 AmoXor = 0b00100
amo_funct5 AmoAnd = 0b01100
amo_funct5 AmoOr = 0b01000
amo_funct5 AmoMin = 0b10000
amo_funct5 AmoMax = 0b10100
amo_funct5 AmoMinu = 0b11000
amo_funct5 AmoMaxu = 0b11100

-- ---- the formats

-- a number in two's complement, of so many bits
abbrev pub bits_of : ℕ → ℤ → ℕ
bits_of bits (pos n) = n
bits_of bits (negsuc n) = 2 ^ bits - 1 - n

-- a flag is a bit
abbrev pub bit_of : Bool → ℕ
bit_of true = 1
bit_of false = 0

unfoldable pub r_word : ℕ → ℕ → ℕ → ℕ → ℕ → ℕ → ℕ
r_word f7 rs2 rs1 f3 rd op = f7 * 2 ^ 25 + rs2 * 2 ^ 20 + rs1 * 2 ^ 15 + f3 * 2 ^ 12 + rd * 2 ^ 7 + op

-- the immediate has 12 bits
unfoldable pub i_word : ℕ → ℕ → ℕ → ℕ → ℕ → ℕ
i_word imm rs1 f3 rd op = imm * 2 ^ 20 + rs1 * 2 ^ 15 + f3 * 2 ^ 12 + rd * 2 ^ 7 + op

-- the immediate has 12 bits
unfoldable pub s_word : ℕ → ℕ → ℕ → ℕ → ℕ → ℕ
s_word imm rs2 rs1 f3 op = r_word (field 5 7 imm) rs2 rs1 f3 (field 0 5 imm) op

-- the immediate has 13 bits, of which the lowest is 0
unfoldable pub b_word : ℕ → ℕ → ℕ → ℕ → ℕ → ℕ
b_word imm rs2 rs1 f3 op =
    r_word (field 12 1 imm * 2 ^ 6 + field 5 6 imm) rs2 rs1 f3 (field 1 4 imm * 2 + field 11 1 imm) op

-- the immediate is a word with its low 12 bits 0
unfoldable pub u_word : ℕ → ℕ → ℕ → ℕ
u_word imm rd op = imm + rd * 2 ^ 7 + op

-- the immediate has 21 bits, of which the lowest is 0
unfoldable pub j_word : ℕ → ℕ → ℕ → ℕ
j_word imm rd op =
    u_word (field 20 1 imm * 2 ^ 31 + field 1 10 imm * 2 ^ 21 + field 11 1 imm * 2 ^ 20 + field 12 8 imm * 2 ^ 12) rd op

-- an atomic instruction: funct5, acquire and release stand in funct7's place, and it is of one word
unfoldable pub atomic_word : ℕ → Bool → Bool → ℕ → ℕ → ℕ → ℕ
atomic_word f5 aq rl rs2 rs1 rd = r_word (f5 * 4 + bit_of aq * 2 + bit_of rl) rs2 rs1 0b010 rd 0b0101111

-- ---- the word

unfoldable pub encode_of : Instr → ℕ
encode_of (Lui rd imm) = u_word imm rd 0b0110111
encode_of (Auipc rd imm) = u_word imm rd 0b0010111
encode_of (Jal rd offset) = j_word (bits_of 21 offset) rd 0b1101111
encode_of (Jalr rd rs1 offset) = i_word (bits_of 12 offset) rs1 0b000 rd 0b1100111
encode_of (Branch op rs1 rs2 offset) = b_word (bits_of 13 offset) rs2 rs1 (branch_funct3 op) 0b1100011
encode_of (Load op rd rs1 offset) = i_word (bits_of 12 offset) rs1 (load_funct3 op) rd 0b0000011
encode_of (Store op rs1 rs2 offset) = s_word (bits_of 12 offset) rs2 rs1 (store_funct3 op) 0b0100011
encode_of (Immediate op rd rs1 imm) =
    i_word (immediate_funct7 op * 2 ^ 5 + bits_of 12 imm) rs1 (immediate_funct3 op) rd 0b0010011
encode_of (Register op rd rs1 rs2) = r_word (register_funct7 op) rs2 rs1 (register_funct3 op) rd 0b0110011
encode_of (Fence rd rs1 imm) = i_word imm rs1 0b000 rd 0b0001111
encode_of Ecall = 0b00000000000000000000000001110011
encode_of Ebreak = 0b00000000000100000000000001110011
encode_of (Lr rd rs1 aq rl) = atomic_word 0b00010 aq rl 0 rs1 rd
encode_of (Sc rd rs1 rs2 aq rl) = atomic_word 0b00011 aq rl rs2 rs1 rd
encode_of (Amo op rd rs1 rs2 aq rl) = atomic_word (amo_funct5 op) aq rl rs2 rs1 rd
