-- The instructions that a word can be: registers below 32, and immediates in the range of their format.
use Rattle.std.specs.Prelude.{◌≡◌, ℕ, ◌-◌, ◌%◌, ◌^◌, ◌<◌, ℤ, pos, negsuc}
use Rattle.rv_decode.specs.declared.instructions.ImmOp.{ImmOp}
use Rattle.rv_decode.specs.declared.instructions.ImmOp.TheVariants.{Addi, Slti, Sltiu, Xori, Ori, Andi, Slli, Srli, Srai}
use Rattle.rv_decode.specs.declared.instructions.Instr.{Instr}
use Rattle.rv_decode.specs.declared.instructions.Instr.TheVariants.{Lui, Auipc, Jal, Jalr, Branch, Load, Store}
use Rattle.rv_decode.specs.declared.instructions.Instr.TheVariants.{Immediate, Register, Fence, Ecall, Ebreak, Lr, Sc}
use Rattle.rv_decode.specs.declared.instructions.Instr.TheVariants.{Amo}

-- a number of so many bits in two's complement
abbrev pub FitsBits : ℕ → ℤ → Type 0
FitsBits bits (pos n) = n < 2 ^ (bits - 1)
FitsBits bits (negsuc n) = n < 2 ^ (bits - 1)

abbrev pub IsEven : ℤ → Type 0
IsEven (pos n) = n % 2 ≡ 0
IsEven (negsuc n) = n % 2 ≡ 1

-- the amount of a shift by a fixed amount
abbrev pub IsShiftAmount : ℤ → Type 0
IsShiftAmount (pos n) = n < 32
IsShiftAmount (negsuc n) = ⊥

-- the immediate of an operation with a register: 12 bits, or the amount of a shift
abbrev pub FitsOperation : ImmOp → ℤ → Type 0
FitsOperation Slli z = IsShiftAmount z
FitsOperation Srli z = IsShiftAmount z
FitsOperation Srai z = IsShiftAmount z
FitsOperation Addi z = FitsBits 12 z
FitsOperation Slti z = FitsBits 12 z
FitsOperation Sltiu z = FitsBits 12 z
FitsOperation Xori z = FitsBits 12 z
FitsOperation Ori z = FitsBits 12 z
FitsOperation Andi z = FitsBits 12 z

-- the immediate of the U format: a word whose low 12 bits are 0
abbrev pub IsUpper : ℕ → Type 0
IsUpper imm = (imm < 2 ^ 32) × (imm % 2 ^ 12 ≡ 0)

abbrev pub IsRegister : ℕ → Type 0
IsRegister n = n < 32

abbrev pub IsValid : Instr → Type 0
IsValid (Lui rd imm) = IsRegister rd × IsUpper imm
IsValid (Auipc rd imm) = IsRegister rd × IsUpper imm
IsValid (Jal rd offset) = IsRegister rd × FitsBits 21 offset × IsEven offset
IsValid (Jalr rd rs1 offset) = IsRegister rd × IsRegister rs1 × FitsBits 12 offset
IsValid (Branch op rs1 rs2 offset) = IsRegister rs1 × IsRegister rs2 × FitsBits 13 offset × IsEven offset
IsValid (Load op rd rs1 offset) = IsRegister rd × IsRegister rs1 × FitsBits 12 offset
IsValid (Store op rs1 rs2 offset) = IsRegister rs1 × IsRegister rs2 × FitsBits 12 offset
IsValid (Immediate op rd rs1 imm) = IsRegister rd × IsRegister rs1 × FitsOperation op imm
IsValid (Register op rd rs1 rs2) = IsRegister rd × IsRegister rs1 × IsRegister rs2
IsValid (Fence rd rs1 imm) = IsRegister rd × IsRegister rs1 × (imm < 2 ^ 12)
IsValid Ecall = Unit {0}
IsValid Ebreak = Unit {0}
IsValid (Lr rd rs1 aq rl) = IsRegister rd × IsRegister rs1
IsValid (Sc rd rs1 rs2 aq rl) = IsRegister rd × IsRegister rs1 × IsRegister rs2
IsValid (Amo op rd rs1 rs2 aq rl) = IsRegister rd × IsRegister rs1 × IsRegister rs2
