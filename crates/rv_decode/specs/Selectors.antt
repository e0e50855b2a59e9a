-- What the fields beside an opcode select, and the instruction that they make with it.
use Rattle.std.specs.Prelude.{ℕ, nat_eq, ◌&&◌, Option, Some, None, if◌then◌else◌}
use Rattle.std.specs.Option.{option_map}
use Rattle.rv_decode.specs.declared.instructions.BranchOp.{BranchOp}
use Rattle.rv_decode.specs.declared.instructions.BranchOp.TheVariants.{Beq, Bne, Blt, Bge, Bltu, Bgeu}
use Rattle.rv_decode.specs.declared.instructions.LoadOp.{LoadOp}
use Rattle.rv_decode.specs.declared.instructions.LoadOp.TheVariants.{Lb, Lh, Lw, Lbu, Lhu}
use Rattle.rv_decode.specs.declared.instructions.StoreOp.{StoreOp}
use Rattle.rv_decode.specs.declared.instructions.StoreOp.TheVariants.{Sb, Sh, Sw}
use Rattle.rv_decode.specs.declared.instructions.ImmOp.{ImmOp}
use Rattle.rv_decode.specs.declared.instructions.ImmOp.TheVariants.{Addi, Slti, Sltiu, Xori, Ori, Andi, Slli, Srli, Srai}
use Rattle.rv_decode.specs.declared.instructions.RegOp.{RegOp}
use Rattle.rv_decode.specs.declared.instructions.RegOp.TheVariants.{Add, Sub, Sll, Slt, Sltu, Xor, Srl, Sra, Or, And}
use Rattle.rv_decode.specs.declared.instructions.AmoOp.{AmoOp}
use Rattle.rv_decode.specs.declared.instructions.AmoOp.TheVariants.{Add as AmoAdd, Swap as AmoSwap, Xor as AmoXor}
use Rattle.rv_decode.specs.declared.instructions.AmoOp.TheVariants.{Or as AmoOr, And as AmoAnd, Min as AmoMin}
use Rattle.rv_decode.specs.declared.instructions.AmoOp.TheVariants.{Max as AmoMax, Minu as AmoMinu, Maxu as AmoMaxu}
use Rattle.rv_decode.specs.declared.instructions.Instr.{Instr}
use Rattle.rv_decode.specs.declared.instructions.Instr.TheVariants.{Lui, Auipc, Jal, Jalr, Branch, Load, Store}
use Rattle.rv_decode.specs.declared.instructions.Instr.TheVariants.{Immediate, Register, Fence, Ecall, Ebreak, Lr, Sc}
use Rattle.rv_decode.specs.declared.instructions.Instr.TheVariants.{Amo}
use Rattle.rv_decode.specs.Table.{field, rd_of, rs1_of, rs2_of, aq_of, rl_of, i_immediate, s_immediate, b_immediate}
use Rattle.rv_decode.specs.Table.{u_immediate, j_immediate, shift_amount}

-- ---- the operation that funct3, funct7 or funct5 selects

unfoldable pub branch_op : ℕ → Option BranchOp
branch_op f3 =
    if nat_eq f3 0b000 then Some Beq else (
    if nat_eq f3 0b001 then Some Bne else (
    if nat_eq f3 0b100 then Some Blt else (
    if nat_eq f3 0b101 then Some Bge else (
    if nat_eq f3 0b110 then Some Bltu else (
    if nat_eq f3 0b111 then Some Bgeu else None)))))

unfoldable pub load_op : ℕ → Option LoadOp
load_op f3 =
    if nat_eq f3 0b000 then Some Lb else (
    if nat_eq f3 0b001 then Some Lh else (
    if nat_eq f3 0b010 then Some Lw else (
    if nat_eq f3 0b100 then Some Lbu else (
    if nat_eq f3 0b101 then Some Lhu else None))))

unfoldable pub store_op : ℕ → Option StoreOp
store_op f3 =
    if nat_eq f3 0b000 then Some Sb else (
    if nat_eq f3 0b001 then Some Sh else (
    if nat_eq f3 0b010 then Some Sw else None))

-- the operations whose immediate is bits 31..20
unfoldable pub immediate_op : ℕ → Option ImmOp
immediate_op f3 =
    if nat_eq f3 0b000 then Some Addi else (
    if nat_eq f3 0b010 then Some Slti else (
    if nat_eq f3 0b011 then Some Sltiu else (
    if nat_eq f3 0b100 then Some Xori else (
    if nat_eq f3 0b110 then Some Ori else (
    if nat_eq f3 0b111 then Some Andi else None)))))

-- the shifts by a fixed amount, from funct7 and funct3
unfoldable pub shift_op : ℕ → ℕ → Option ImmOp
shift_op f7 f3 =
    if nat_eq f7 0b0000000 && nat_eq f3 0b001 then Some Slli else (
    if nat_eq f7 0b0000000 && nat_eq f3 0b101 then Some Srli else (
    if nat_eq f7 0b0100000 && nat_eq f3 0b101 then Some Srai else None))

unfoldable pub register_op : ℕ → ℕ → Option RegOp
register_op f7 f3 =
    if nat_eq f7 0b0000000 && nat_eq f3 0b000 then Some Add else (
    if nat_eq f7 0b0100000 && nat_eq f3 0b000 then Some Sub else (
    if nat_eq f7 0b0000000 && nat_eq f3 0b001 then Some Sll else (
    if nat_eq f7 0b0000000 && nat_eq f3 0b010 then Some Slt else (
    if nat_eq f7 0b0000000 && nat_eq f3 0b011 then Some Sltu else (
    if nat_eq f7 0b0000000 && nat_eq f3 0b100 then Some Xor else (
    if nat_eq f7 0b0000000 && nat_eq f3 0b101 then Some Srl else (
    if nat_eq f7 0b0100000 && nat_eq f3 0b101 then Some Sra else (
    if nat_eq f7 0b0000000 && nat_eq f3 0b110 then Some Or else (
    if nat_eq f7 0b0000000 && nat_eq f3 0b111 then Some And else None)))))))))

unfoldable pub amo_op : ℕ → Option AmoOp
amo_op f5 =
    if nat_eq f5 0b00001 then Some AmoSwap else (
    if nat_eq f5 0b00000 then Some AmoAdd else (
    if nat_eq f5 0b00100 then Some AmoXor else (
    if nat_eq f5 0b01100 then Some AmoAnd else (
    if nat_eq f5 0b01000 then Some AmoOr else (
    if nat_eq f5 0b10000 then Some AmoMin else (
    if nat_eq f5 0b10100 then Some AmoMax else (
    if nat_eq f5 0b11000 then Some AmoMinu else (
    if nat_eq f5 0b11100 then Some AmoMaxu else None))))))))

-- ---- the instruction of a word whose opcode is known

unfoldable pub jump_of : ℕ → Option Instr
jump_of w = if nat_eq (field 12 3 w) 0b000 then Some (Jalr (rd_of w) (rs1_of w) (i_immediate w)) else None

unfoldable pub branch_of : ℕ → Option Instr
branch_of w = option_map (λ op. Branch op (rs1_of w) (rs2_of w) (b_immediate w)) (branch_op (field 12 3 w))

unfoldable pub load_of : ℕ → Option Instr
load_of w = option_map (λ op. Load op (rd_of w) (rs1_of w) (i_immediate w)) (load_op (field 12 3 w))

unfoldable pub store_of : ℕ → Option Instr
store_of w = option_map (λ op. Store op (rs1_of w) (rs2_of w) (s_immediate w)) (store_op (field 12 3 w))

unfoldable pub shift_of : ℕ → Option Instr
shift_of w = option_map (λ op. Immediate op (rd_of w) (rs1_of w) (shift_amount w)) (shift_op (field 25 7 w) (field 12 3 w))

-- what is made of the operation, or the rest where there is none
abbrev pub made_or : {A B : Type 0} → (A → B) → Option A → Option B → Option B
made_or make None rest = rest
made_or make (Some op) rest = Some (make op)

-- with an immediate of 12 bits, or by a shift
unfoldable pub immediate_of : ℕ → Option Instr
immediate_of w = made_or (λ op. Immediate op (rd_of w) (rs1_of w) (i_immediate w)) (immediate_op (field 12 3 w)) (shift_of w)

unfoldable pub register_of : ℕ → Option Instr
register_of w = option_map (λ op. Register op (rd_of w) (rs1_of w) (rs2_of w)) (register_op (field 25 7 w) (field 12 3 w))

unfoldable pub fence_of : ℕ → Option Instr
fence_of w = if nat_eq (field 12 3 w) 0b000 then Some (Fence (rd_of w) (rs1_of w) (field 20 12 w)) else None

unfoldable pub system_of : ℕ → Option Instr
system_of w =
    if nat_eq w 0b00000000000000000000000001110011 then Some Ecall else (
    if nat_eq w 0b00000000000100000000000001110011 then Some Ebreak else None)

unfoldable pub load_reserved_of : ℕ → Option Instr
load_reserved_of w = if nat_eq (rs2_of w) 0 then Some (Lr (rd_of w) (rs1_of w) (aq_of w) (rl_of w)) else None

unfoldable pub amo_of : ℕ → Option Instr
amo_of w = option_map (λ op. Amo op (rd_of w) (rs1_of w) (rs2_of w) (aq_of w) (rl_of w)) (amo_op (field 27 5 w))

-- of one word, so with funct3 010
unfoldable pub atomic_of : ℕ → Option Instr
atomic_of w =
    if nat_eq (field 12 3 w) 0b010 then (
    if nat_eq (field 27 5 w) 0b00010 then load_reserved_of w else (
    if nat_eq (field 27 5 w) 0b00011 then Some (Sc (rd_of w) (rs1_of w) (rs2_of w) (aq_of w) (rl_of w)) else amo_of w))
    else None

-- the instruction of a word by its opcode
unfoldable pub by_opcode : ℕ → ℕ → Option Instr
by_opcode op w =
    if nat_eq op 0b0110111 then Some (Lui (rd_of w) (u_immediate w)) else (
    if nat_eq op 0b0010111 then Some (Auipc (rd_of w) (u_immediate w)) else (
    if nat_eq op 0b1101111 then Some (Jal (rd_of w) (j_immediate w)) else (
    if nat_eq op 0b1100111 then jump_of w else (
    if nat_eq op 0b1100011 then branch_of w else (
    if nat_eq op 0b0000011 then load_of w else (
    if nat_eq op 0b0100011 then store_of w else (
    if nat_eq op 0b0010011 then immediate_of w else (
    if nat_eq op 0b0110011 then register_of w else (
    if nat_eq op 0b0001111 then fence_of w else (
    if nat_eq op 0b1110011 then system_of w else (
    if nat_eq op 0b0101111 then atomic_of w else None)))))))))))
