-- The instruction table: a row for each instruction, with the fields of its word that are fixed and the instruction that the word is.
use Rattle.std.specs.Prelude.{◌≡◌, ℕ, ◌+◌, ◌*◌, ◌/◌, ◌%◌, ◌^◌, ◌-◌, nat_eq, nat_lt, Bool, IsTrue, List, [], ◌∷◌}
use Rattle.std.specs.Prelude.{Contains, Option, Some, None, ℤ, pos, negsuc, if◌then◌else◌}
use Rattle.std.specs.List.{list_all}
use Rattle.rv_decode.specs.declared.instructions.Reg.{Reg}
use Rattle.rv_decode.specs.declared.instructions.BranchOp.TheVariants.{Beq, Bne, Blt, Bge, Bltu, Bgeu}
use Rattle.rv_decode.specs.declared.instructions.LoadOp.TheVariants.{Lb, Lh, Lw, Lbu, Lhu}
use Rattle.rv_decode.specs.declared.instructions.StoreOp.TheVariants.{Sb, Sh, Sw}
use Rattle.rv_decode.specs.declared.instructions.ImmOp.TheVariants.{Addi, Slti, Sltiu, Xori, Ori, Andi, Slli, Srli, Srai}
use Rattle.rv_decode.specs.declared.instructions.RegOp.TheVariants.{Add, Sub, Sll, Slt, Sltu, Xor, Srl, Sra, Or, And}
use Rattle.rv_decode.specs.declared.instructions.AmoOp.TheVariants.{Add as AmoAdd, Swap as AmoSwap, Xor as AmoXor}
use Rattle.rv_decode.specs.declared.instructions.AmoOp.TheVariants.{Or as AmoOr, And as AmoAnd, Min as AmoMin}
use Rattle.rv_decode.specs.declared.instructions.AmoOp.TheVariants.{Max as AmoMax, Minu as AmoMinu, Maxu as AmoMaxu}
use Rattle.rv_decode.specs.declared.instructions.Instr.{Instr}
use Rattle.rv_decode.specs.declared.instructions.Instr.TheVariants.{Lui, Auipc, Jal, Jalr, Branch, Load, Store}
use Rattle.rv_decode.specs.declared.instructions.Instr.TheVariants.{Immediate, Register, Fence, Ecall, Ebreak, Lr, Sc}
use Rattle.rv_decode.specs.declared.instructions.Instr.TheVariants.{Amo}

-- ---- fields of a word

-- so many bits of a word, from this bit upward
abbrev pub field : ℕ → ℕ → ℕ → ℕ
field low bits w = w / 2 ^ low % 2 ^ bits

-- the number that so many bits stand for in two's complement
abbrev pub signed : ℕ → ℕ → ℤ
signed bits n = if nat_lt n (2 ^ (bits - 1)) then pos n else negsuc (2 ^ bits - 1 - n)

-- bits 11..7, 19..15 and 24..20: the registers
abbrev pub rd_of : ℕ → Reg
rd_of w = field 7 5 w

abbrev pub rs1_of : ℕ → Reg
rs1_of w = field 15 5 w

abbrev pub rs2_of : ℕ → Reg
rs2_of w = field 20 5 w

-- bit 26 (acquire) and bit 25 (release) of an atomic instruction
abbrev pub aq_of : ℕ → Bool
aq_of w = nat_eq (field 26 1 w) 1

abbrev pub rl_of : ℕ → Bool
rl_of w = nat_eq (field 25 1 w) 1

-- the immediates of the manual's formats; a piece of the word stands at the place that it has in the number
abbrev pub i_immediate : ℕ → ℤ
i_immediate w = signed 12 (field 20 12 w)

abbrev pub s_immediate : ℕ → ℤ
s_immediate w = signed 12 (field 25 7 w * 2 ^ 5 + field 7 5 w)

abbrev pub b_immediate : ℕ → ℤ
b_immediate w = signed 13 (field 31 1 w * 2 ^ 12 + field 7 1 w * 2 ^ 11 + field 25 6 w * 2 ^ 5 + field 8 4 w * 2 ^ 1)

abbrev pub u_immediate : ℕ → ℕ
u_immediate w = field 12 20 w * 2 ^ 12

abbrev pub j_immediate : ℕ → ℤ
j_immediate w = signed 21 (field 31 1 w * 2 ^ 20 + field 12 8 w * 2 ^ 12 + field 20 1 w * 2 ^ 11 + field 21 10 w * 2 ^ 1)

abbrev pub shift_amount : ℕ → ℤ
shift_amount w = pos (field 20 5 w)

-- ---- rows

-- a field that is fixed: its lowest bit, how many bits it has, and their value
pub record Fixed : Type 0 where
  pub low : ℕ
  pub bits : ℕ
  pub value : ℕ

pub record Row : Type 0 where
  pub fixed : List Fixed
  pub makes : ℕ → Instr

abbrev pub opcode : ℕ → Fixed
opcode v = record { low = 0; bits = 7; value = v }

abbrev pub funct3 : ℕ → Fixed
funct3 v = record { low = 12; bits = 3; value = v }

abbrev pub rs2_field : ℕ → Fixed
rs2_field v = record { low = 20; bits = 5; value = v }

abbrev pub funct7 : ℕ → Fixed
funct7 v = record { low = 25; bits = 7; value = v }

abbrev pub funct5 : ℕ → Fixed
funct5 v = record { low = 27; bits = 5; value = v }

abbrev pub whole_word : ℕ → Fixed
whole_word v = record { low = 0; bits = 32; value = v }

-- the formats: each takes the fixed fields as the listing has them, left to right, and the instruction
abbrev pub R : ℕ → ℕ → ℕ → (Reg → Reg → Reg → Instr) → Row
R f7 f3 op make = record {
  fixed = funct7 f7 ∷ funct3 f3 ∷ opcode op ∷ [];
  makes = λ w. make (rd_of w) (rs1_of w) (rs2_of w);
}

abbrev pub I : ℕ → ℕ → (Reg → Reg → ℤ → Instr) → Row
I f3 op make = record {
  fixed = funct3 f3 ∷ opcode op ∷ [];
  makes = λ w. make (rd_of w) (rs1_of w) (i_immediate w);
}

abbrev pub Shift : ℕ → ℕ → ℕ → (Reg → Reg → ℤ → Instr) → Row
Shift f7 f3 op make = record {
  fixed = funct7 f7 ∷ funct3 f3 ∷ opcode op ∷ [];
  makes = λ w. make (rd_of w) (rs1_of w) (shift_amount w);
}

abbrev pub S : ℕ → ℕ → (Reg → Reg → ℤ → Instr) → Row
S f3 op make = record {
  fixed = funct3 f3 ∷ opcode op ∷ [];
  makes = λ w. make (rs1_of w) (rs2_of w) (s_immediate w);
}

abbrev pub B : ℕ → ℕ → (Reg → Reg → ℤ → Instr) → Row
B f3 op make = record {
  fixed = funct3 f3 ∷ opcode op ∷ [];
  makes = λ w. make (rs1_of w) (rs2_of w) (b_immediate w);
}

abbrev pub U : ℕ → (Reg → ℕ → Instr) → Row
U op make = record {
  fixed = opcode op ∷ [];
  makes = λ w. make (rd_of w) (u_immediate w);
}

abbrev pub J : ℕ → (Reg → ℤ → Instr) → Row
J op make = record {
  fixed = opcode op ∷ [];
  makes = λ w. make (rd_of w) (j_immediate w);
}

-- a fence has bits 31..20 (fm, pred, succ) as a number without sign
abbrev pub FenceFormat : ℕ → ℕ → (Reg → Reg → ℕ → Instr) → Row
FenceFormat f3 op make = record {
  fixed = funct3 f3 ∷ opcode op ∷ [];
  makes = λ w. make (rd_of w) (rs1_of w) (field 20 12 w);
}

abbrev pub Atomic : ℕ → ℕ → ℕ → (Reg → Reg → Reg → Bool → Bool → Instr) → Row
Atomic f5 f3 op make = record {
  fixed = funct5 f5 ∷ funct3 f3 ∷ opcode op ∷ [];
  makes = λ w. make (rd_of w) (rs1_of w) (rs2_of w) (aq_of w) (rl_of w);
}

-- an atomic instruction of one register, whose rs2 is fixed
abbrev pub AtomicLoad : ℕ → ℕ → ℕ → ℕ → (Reg → Reg → Bool → Bool → Instr) → Row
AtomicLoad f5 r2 f3 op make = record {
  fixed = funct5 f5 ∷ rs2_field r2 ∷ funct3 f3 ∷ opcode op ∷ [];
  makes = λ w. make (rd_of w) (rs1_of w) (aq_of w) (rl_of w);
}

abbrev pub Word : ℕ → Instr → Row
Word v instr = record {
  fixed = whole_word v ∷ [];
  makes = λ w. instr;
}

-- ---- the table

-- The manual's listing of opcodes of RV32I and RV32A, in its order. A row has its format, then the fixed fields as
-- they stand in the word from left to right (funct7, funct3, opcode), then the instruction.
unfoldable pub table : List Row
table =
    -- RV32I: upper immediates
    U 0b0110111 Lui
    ∷ U 0b0010111 Auipc
    -- unconditional jumps
    ∷ J 0b1101111 Jal
    ∷ I 0b000 0b1100111 Jalr
    -- conditional branches
    ∷ B 0b000 0b1100011 (Branch Beq)
    ∷ B 0b001 0b1100011 (Branch Bne)
    ∷ B 0b100 0b1100011 (Branch Blt)
    ∷ B 0b101 0b1100011 (Branch Bge)
    ∷ B 0b110 0b1100011 (Branch Bltu)
    ∷ B 0b111 0b1100011 (Branch Bgeu)
    -- loads and stores
    ∷ I 0b000 0b0000011 (Load Lb)
    ∷ I 0b001 0b0000011 (Load Lh)
    ∷ I 0b010 0b0000011 (Load Lw)
    ∷ I 0b100 0b0000011 (Load Lbu)
    ∷ I 0b101 0b0000011 (Load Lhu)
    ∷ S 0b000 0b0100011 (Store Sb)
    ∷ S 0b001 0b0100011 (Store Sh)
    ∷ S 0b010 0b0100011 (Store Sw)
    -- register and immediate
    ∷ I 0b000 0b0010011 (Immediate Addi)
    ∷ I 0b010 0b0010011 (Immediate Slti)
    ∷ I 0b011 0b0010011 (Immediate Sltiu)
    ∷ I 0b100 0b0010011 (Immediate Xori)
    ∷ I 0b110 0b0010011 (Immediate Ori)
    ∷ I 0b111 0b0010011 (Immediate Andi)
    ∷ Shift 0b0000000 0b001 0b0010011 (Immediate Slli)
    ∷ Shift 0b0000000 0b101 0b0010011 (Immediate Srli)
    ∷ Shift 0b0100000 0b101 0b0010011 (Immediate Srai)
    -- register and register: funct7, funct3, opcode
    ∷ R 0b0000000 0b000 0b0110011 (Register Add)
    ∷ R 0b0100000 0b000 0b0110011 (Register Sub)
    ∷ R 0b0000000 0b001 0b0110011 (Register Sll)
    ∷ R 0b0000000 0b010 0b0110011 (Register Slt)
    ∷ R 0b0000000 0b011 0b0110011 (Register Sltu)
    ∷ R 0b0000000 0b100 0b0110011 (Register Xor)
    ∷ R 0b0000000 0b101 0b0110011 (Register Srl)
    ∷ R 0b0100000 0b101 0b0110011 (Register Sra)
    ∷ R 0b0000000 0b110 0b0110011 (Register Or)
    ∷ R 0b0000000 0b111 0b0110011 (Register And)
    -- memory ordering
    ∷ FenceFormat 0b000 0b0001111 Fence
    -- environment call and breakpoint: the whole word
    ∷ Word 0b00000000000000000000000001110011 Ecall
    ∷ Word 0b00000000000100000000000001110011 Ebreak
    -- RV32A: funct5, for LR its rs2, funct3, opcode
    ∷ AtomicLoad 0b00010 0b00000 0b010 0b0101111 Lr
    ∷ Atomic 0b00011 0b010 0b0101111 Sc
    ∷ Atomic 0b00001 0b010 0b0101111 (Amo AmoSwap)
    ∷ Atomic 0b00000 0b010 0b0101111 (Amo AmoAdd)
    ∷ Atomic 0b00100 0b010 0b0101111 (Amo AmoXor)
    ∷ Atomic 0b01100 0b010 0b0101111 (Amo AmoAnd)
    ∷ Atomic 0b01000 0b010 0b0101111 (Amo AmoOr)
    ∷ Atomic 0b10000 0b010 0b0101111 (Amo AmoMin)
    ∷ Atomic 0b10100 0b010 0b0101111 (Amo AmoMax)
    ∷ Atomic 0b11000 0b010 0b0101111 (Amo AmoMinu)
    ∷ Atomic 0b11100 0b010 0b0101111 (Amo AmoMaxu)
    ∷ []

-- ---- what a word is

abbrev pub has_field : ℕ → Fixed → Bool
has_field w f = nat_eq (field f.low f.bits w) f.value

-- the word has each field that the row fixes
abbrev pub fits : ℕ → Row → Bool
fits w row = list_all (has_field w) row.fixed

-- the first row that the word fits makes the instruction
unfoldable pub decode_by : List Row → ℕ → Option Instr
decode_by [] w = None
decode_by (row ∷ rows) w = let rest = decode_by rows w in (if fits w row then Some (row.makes w) else rest)

-- the instruction that a word is
unfoldable pub decode_of : ℕ → Option Instr
decode_of w = decode_by table w

-- some row of the table fits the word, and makes this instruction of it
abbrev pub Decodes : ℕ → Instr → Type 0
Decodes w i = (row : Row) × Contains table row × IsTrue (fits w row) × (row.makes w ≡ i)
