-- The word of a valid instruction is decoded to it.
use Rattle.std.proofs.Common.{◌≡◌, ℕ, ◌+◌, ◌*◌, ◌/◌, ◌%◌, ◌^◌, ◌<◌, inl, inr, nat_eq, Bool, Some, refl, ap, ◌∙◌, arith, if◌then◌else◌, ℤ, pos, negsuc}
use Rattle.rv_decode.specs.declared.instructions.ImmOp.{ImmOp}
use Rattle.rv_decode.specs.declared.instructions.BranchOp.{BranchOp}
use Rattle.rv_decode.specs.declared.instructions.LoadOp.{LoadOp}
use Rattle.rv_decode.specs.declared.instructions.StoreOp.{StoreOp}
use Rattle.rv_decode.specs.declared.instructions.ImmOp.TheVariants.{Addi, Slti, Sltiu, Xori, Ori, Andi, Slli, Srli, Srai}
use Rattle.rv_decode.specs.declared.instructions.RegOp.{RegOp}
use Rattle.rv_decode.specs.declared.instructions.AmoOp.{AmoOp}
use Rattle.rv_decode.specs.declared.instructions.AmoOp.TheVariants.{Add as AmoAdd, Swap as AmoSwap, Xor as AmoXor, Or as AmoOr, And as AmoAnd, Min as AmoMin, Max as AmoMax, Minu as AmoMinu, Maxu as AmoMaxu}
use Rattle.rv_decode.specs.declared.instructions.Instr.{Instr}
use Rattle.rv_decode.specs.declared.instructions.Instr.TheVariants.{Lui, Auipc, Jal, Jalr, Branch, Load, Store, Immediate, Register, Fence, Ecall, Ebreak, Lr, Sc, Amo}
use Rattle.rv_decode.specs.Table.{field, signed, decode_of, aq_of, rl_of, i_immediate, s_immediate, b_immediate, j_immediate}
use Rattle.rv_decode.specs.Computing.{decode_computes}
use Rattle.rv_decode.specs.Selectors.{jump_of, branch_of, load_of, store_of, shift_of, immediate_of, register_of, fence_of, load_reserved_of, amo_of, atomic_of}
use Rattle.rv_decode.specs.Valid.{IsValid, FitsBits, IsEven, FitsOperation, IsRegister}
use Rattle.rv_decode.specs.Encode.{encode_of, bits_of, bit_of, s_word, b_word, atomic_word, branch_funct3, load_funct3, store_funct3, immediate_funct3, immediate_funct7, register_funct3, register_funct7, amo_funct5}
use Rattle.rv_decode.proofs.Signed.{signed-bits_of, bits_of_below, bits_of_even}
use Rattle.rv_decode.proofs.Words.{HasFields, HasUpper, scattered, r_fields, i_fields, u_fields, j_fields, i_number, s_number, b_number, j_number, nat_eq-bit_of, bit_of_below}
use Rattle.rv_decode.proofs.Selected.{branch_selects, branch_funct3_below, load_selects, load_funct3_below, store_selects, store_funct3_below, immediate_selects, immediate_funct3_below, immediate_funct7_below, SelectsImmediate, SelectsShift, register_selects, register_funct3_below, register_funct7_below, amo_selects, amo_funct5_below}
use Rattle.rv_decode.proofs.Grouped.{lui, auipc, jal, jump, branch, load, store, immediate, register, fence, atomic}

-- ---- a word with these fields

pub lui_read : (w rd imm : ℕ) → HasUpper w imm rd 0b0110111 → decode_of w ≡ Some (Lui rd imm)
lui_read w rd imm h = lui w h.opcode ∙ rw (h.rd, h.upper) refl

pub auipc_read : (w rd imm : ℕ) → HasUpper w imm rd 0b0010111 → decode_of w ≡ Some (Auipc rd imm)
auipc_read w rd imm h = auipc w h.opcode ∙ rw (h.rd, h.upper) refl

pub jal_read : (w rd : ℕ) (offset : ℤ) → FitsBits 21 offset → IsEven offset → HasUpper w (scattered (bits_of 21 offset)) rd 0b1101111 → decode_of w ≡ Some (Jal rd offset)
jal_read w rd offset fits even h =
    let n : ℕ = bits_of 21 offset in
    let number : field 31 1 w * 2 ^ 20 + field 12 8 w * 2 ^ 12 + field 20 1 w * 2 ^ 11 + field 21 10 w * 2 ^ 1 ≡ n =
    j_number w n rd 0b1101111 (bits_of_below 21 offset refl fits) (bits_of_even 21 offset refl fits even) h in
    let immediate : j_immediate w ≡ offset = ap (signed 21) number ∙ signed-bits_of 21 offset refl fits in
    jal w h.opcode ∙ rw (h.rd, immediate) refl

-- the fields of the I format
abbrev pub HasImmediate : ℕ → ℕ → ℕ → ℕ → ℕ → ℕ → Type 0
HasImmediate w imm rs1 f3 rd op = HasFields w (imm / 32) (imm % 32) rs1 f3 rd op

pub jump_read : (w rd rs1 : ℕ) (offset : ℤ) → FitsBits 12 offset → HasImmediate w (bits_of 12 offset) rs1 0b000 rd 0b1100111 → decode_of w ≡ Some (Jalr rd rs1 offset)
unfolding jump_of
jump_read w rd rs1 offset fits h =
    let immediate : i_immediate w ≡ offset = ap (signed 12) (i_number w _ rs1 _ rd _ (bits_of_below 12 offset refl fits) h) ∙ signed-bits_of 12 offset refl fits in
    jump w h.opcode ∙ rw (h.funct3, h.rd, h.rs1, immediate) refl

pub branch_read : (w : ℕ) (op : BranchOp) (rs1 rs2 : ℕ) (offset : ℤ) → FitsBits 13 offset → IsEven offset →
    (let n = bits_of 13 offset in HasFields w (field 12 1 n * 2 ^ 6 + field 5 6 n) rs2 rs1 (branch_funct3 op) (field 1 4 n * 2 + field 11 1 n) 0b1100011) → decode_of w ≡ Some (Branch op rs1 rs2 offset)
unfolding branch_of
branch_read w op rs1 rs2 offset fits even h =
    let number : field 31 1 w * 2 ^ 12 + field 7 1 w * 2 ^ 11 + field 25 6 w * 2 ^ 5 + field 8 4 w * 2 ^ 1 ≡ bits_of 13 offset =
    b_number w (bits_of 13 offset) rs2 rs1 (branch_funct3 op) 0b1100011 (bits_of_below 13 offset refl fits) (bits_of_even 13 offset refl fits even) h in
    let immediate : b_immediate w ≡ offset = ap (signed 13) number ∙ signed-bits_of 13 offset refl fits in
    branch w h.opcode ∙ rw (h.funct3, branch_selects op, h.rs1, h.rs2, immediate) refl

pub load_read : (w : ℕ) (op : LoadOp) (rd rs1 : ℕ) (offset : ℤ) → FitsBits 12 offset → HasImmediate w (bits_of 12 offset) rs1 (load_funct3 op) rd 0b0000011 → decode_of w ≡ Some (Load op rd rs1 offset)
unfolding load_of
load_read w op rd rs1 offset fits h =
    let immediate : i_immediate w ≡ offset = ap (signed 12) (i_number w _ rs1 _ rd _ (bits_of_below 12 offset refl fits) h) ∙ signed-bits_of 12 offset refl fits in
    load w h.opcode ∙ rw (h.funct3, load_selects op, h.rd, h.rs1, immediate) refl

pub store_read : (w : ℕ) (op : StoreOp) (rs1 rs2 : ℕ) (offset : ℤ) → FitsBits 12 offset →
    (let n = bits_of 12 offset in HasFields w (field 5 7 n) rs2 rs1 (store_funct3 op) (field 0 5 n) 0b0100011) → decode_of w ≡ Some (Store op rs1 rs2 offset)
unfolding store_of
store_read w op rs1 rs2 offset fits h =
    let number : field 25 7 w * 2 ^ 5 + field 7 5 w ≡ bits_of 12 offset =
    s_number w (bits_of 12 offset) rs2 rs1 (store_funct3 op) 0b0100011 (bits_of_below 12 offset refl fits) h in
    let immediate : s_immediate w ≡ offset = ap (signed 12) number ∙ signed-bits_of 12 offset refl fits in
    store w h.opcode ∙ rw (h.funct3, store_selects op, h.rs1, h.rs2, immediate) refl

-- an operation with an immediate of 12 bits
pub immediate_read : (w : ℕ) (op : ImmOp) (rd rs1 : ℕ) (imm : ℤ) → SelectsImmediate op imm → HasImmediate w (bits_of 12 imm) rs1 (immediate_funct3 op) rd 0b0010011 → decode_of w ≡ Some (Immediate op rd rs1 imm)
unfolding immediate_of
immediate_read w op rd rs1 imm selects h =
    let fits : FitsBits 12 imm = selects.2 in
    let number : i_immediate w ≡ imm = ap (signed 12) (i_number w _ rs1 _ rd _ (bits_of_below 12 imm refl fits) h) ∙ signed-bits_of 12 imm refl fits in
    immediate w h.opcode ∙ rw (h.funct3, selects.0, h.rd, h.rs1, number) refl

-- a shift by a fixed amount
pub shift_read : (w : ℕ) (op : ImmOp) (rd rs1 n : ℕ) → n < 32 → SelectsShift op (pos n) → HasFields w (immediate_funct7 op) n rs1 (immediate_funct3 op) rd 0b0010011 → decode_of w ≡ Some (Immediate op rd rs1 (pos n))
unfolding immediate_of shift_of
shift_read w op rd rs1 n below selects h =
    immediate w h.opcode ∙ rw (h.funct3, h.funct7, selects.0, selects.1, h.rd, h.rs1, h.rs2) refl

pub register_read : (w : ℕ) (op : RegOp) (rd rs1 rs2 : ℕ) → HasFields w (register_funct7 op) rs2 rs1 (register_funct3 op) rd 0b0110011 → decode_of w ≡ Some (Register op rd rs1 rs2)
unfolding register_of
register_read w op rd rs1 rs2 h = register w h.opcode ∙ rw (h.funct3, h.funct7, register_selects op, h.rd, h.rs1, h.rs2) refl

pub fence_read : (w rd rs1 imm : ℕ) → imm < 4096 → HasImmediate w imm rs1 0b000 rd 0b0001111 → decode_of w ≡ Some (Fence rd rs1 imm)
unfolding fence_of
fence_read w rd rs1 imm below h =
    fence w h.opcode ∙ rw (h.funct3, h.rd, h.rs1, i_number w imm rs1 _ rd _ below h) refl

-- the fields of an atomic instruction
pub record HasAtomic (w f5 : ℕ) (a r : Bool) : Type 0 where
  pub funct5 : field 27 5 w ≡ f5
  pub aq : aq_of w ≡ a
  pub rl : rl_of w ≡ r

pub atomic_fields : (w f5 : ℕ) (aq rl : Bool) (rs2 rs1 rd : ℕ) → HasFields w (f5 * 4 + bit_of aq * 2 + bit_of rl) rs2 rs1 0b010 rd 0b0101111 → HasAtomic w f5 aq rl
atomic_fields w f5 aq rl rs2 rs1 rd h =
    let a : bit_of aq < 2 = bit_of_below aq in
    let r : bit_of rl < 2 = bit_of_below rl in
    record {
      funct5 = omega arith;
      aq = nat_eq-bit_of (field 26 1 w) aq (omega arith);
      rl = nat_eq-bit_of (field 25 1 w) rl (omega arith);
    }

pub lr_read : (w rd rs1 : ℕ) (aq rl : Bool) → HasFields w (0b00010 * 4 + bit_of aq * 2 + bit_of rl) 0 rs1 0b010 rd 0b0101111 → decode_of w ≡ Some (Lr rd rs1 aq rl)
unfolding atomic_of load_reserved_of
lr_read w rd rs1 aq rl h =
    let a : HasAtomic w 0b00010 aq rl = atomic_fields w 0b00010 aq rl 0 rs1 rd h in
    atomic w h.opcode ∙ rw (h.funct3, a.funct5, h.rs2, h.rd, h.rs1, a.aq, a.rl) refl

pub sc_read : (w rd rs1 rs2 : ℕ) (aq rl : Bool) → HasFields w (0b00011 * 4 + bit_of aq * 2 + bit_of rl) rs2 rs1 0b010 rd 0b0101111 → decode_of w ≡ Some (Sc rd rs1 rs2 aq rl)
unfolding atomic_of
sc_read w rd rs1 rs2 aq rl h =
    let a : HasAtomic w 0b00011 aq rl = atomic_fields w 0b00011 aq rl rs2 rs1 rd h in
    atomic w h.opcode ∙ rw (h.funct3, a.funct5, h.rs2, h.rd, h.rs1, a.aq, a.rl) refl

-- a word's funct5 is that of an operation on memory, so of neither LR nor SC
pub by_amo : {A : Type 0} (op : AmoOp) (lr sc amo : A) → (if nat_eq (amo_funct5 op) 0b00010 then lr else (if nat_eq (amo_funct5 op) 0b00011 then sc else amo)) ≡ amo
unfolding amo_funct5
by_amo AmoSwap lr sc amo = refl
by_amo AmoAdd lr sc amo = refl
by_amo AmoXor lr sc amo = refl
by_amo AmoAnd lr sc amo = refl
by_amo AmoOr lr sc amo = refl
by_amo AmoMin lr sc amo = refl
by_amo AmoMax lr sc amo = refl
by_amo AmoMinu lr sc amo = refl
by_amo AmoMaxu lr sc amo = refl

pub amo_read : (w : ℕ) (op : AmoOp) (rd rs1 rs2 : ℕ) (aq rl : Bool) → HasFields w (amo_funct5 op * 4 + bit_of aq * 2 + bit_of rl) rs2 rs1 0b010 rd 0b0101111 → decode_of w ≡ Some (Amo op rd rs1 rs2 aq rl)
unfolding atomic_of amo_of
amo_read w op rd rs1 rs2 aq rl h =
    let a : HasAtomic w (amo_funct5 op) aq rl = atomic_fields w (amo_funct5 op) aq rl rs2 rs1 rd h in
    atomic w h.opcode ∙ rw (h.funct3, a.funct5, by_amo op, amo_selects op, h.rs2, h.rd, h.rs1, a.aq, a.rl) refl

-- an immediate of 12 bits, and a shift's funct7 above its amount, have 12 bits together
pub operation_below : (op : ImmOp) (z : ℤ) → FitsOperation op z → immediate_funct7 op * 2 ^ 5 + bits_of 12 z < 4096
unfolding immediate_funct7
operation_below Addi z fits = let below : bits_of 12 z < 2 ^ 12 = bits_of_below 12 z refl fits in omega arith
operation_below Slti z fits = let below : bits_of 12 z < 2 ^ 12 = bits_of_below 12 z refl fits in omega arith
operation_below Sltiu z fits = let below : bits_of 12 z < 2 ^ 12 = bits_of_below 12 z refl fits in omega arith
operation_below Xori z fits = let below : bits_of 12 z < 2 ^ 12 = bits_of_below 12 z refl fits in omega arith
operation_below Ori z fits = let below : bits_of 12 z < 2 ^ 12 = bits_of_below 12 z refl fits in omega arith
operation_below Andi z fits = let below : bits_of 12 z < 2 ^ 12 = bits_of_below 12 z refl fits in omega arith
operation_below Slli (pos n) fits = omega arith
operation_below Slli (negsuc n) fits = absurd fits
operation_below Srli (pos n) fits = omega arith
operation_below Srli (negsuc n) fits = absurd fits
operation_below Srai (pos n) fits = omega arith
operation_below Srai (negsuc n) fits = absurd fits

-- that number as the code has it
pub operation_number : (op : ImmOp) (z : ℤ) (f7 n : ℕ) → f7 ≡ immediate_funct7 op → n ≡ bits_of 12 z → FitsOperation op z → f7 * 2 ^ 5 % 2 ^ 32 + n ≡ immediate_funct7 op * 2 ^ 5 + bits_of 12 z
operation_number op z f7 n e7 en fits = let below : immediate_funct7 op * 2 ^ 5 + bits_of 12 z < 4096 = operation_below op z fits in omega arith

-- ---- the word of an instruction

pub ecall_read : decode_of 0x00000073 ≡ Some Ecall
unfolding decode_computes
ecall_read = refl

pub ebreak_read : decode_of 0x00100073 ≡ Some Ebreak
unfolding decode_computes
ebreak_read = refl

-- an immediate below a shift's funct7
pub shift_fields : (w f7 n rs1 f3 rd op : ℕ) → n < 32 → HasImmediate w (f7 * 2 ^ 5 + n) rs1 f3 rd op → HasFields w f7 n rs1 f3 rd op
shift_fields w f7 n rs1 f3 rd op below h = record {
  opcode = h.opcode;
  rd = h.rd;
  funct3 = h.funct3;
  rs1 = h.rs1;
  rs2 = omega arith;
  funct7 = omega arith;
  below = h.below;
}

pub shift_encoded : (op : ImmOp) (rd rs1 : ℕ) (imm : ℤ) → IsRegister rd → IsRegister rs1 → SelectsShift op imm → decode_of (encode_of (Immediate op rd rs1 imm)) ≡ Some (Immediate op rd rs1 imm)
unfolding encode_of
shift_encoded op rd rs1 (pos n) bd b1 selects =
    let f7 : immediate_funct7 op < 128 = immediate_funct7_below op in
    let below : n < 32 = selects.2 in
    shift_read _ op rd rs1 n below selects
    (shift_fields _ (immediate_funct7 op) n rs1 _ rd _ below (i_fields (immediate_funct7 op * 2 ^ 5 + n) rs1 (immediate_funct3 op) rd 0b0010011 (omega arith) b1 (immediate_funct3_below op) bd (omega arith)))
shift_encoded op rd rs1 (negsuc n) bd b1 selects = absurd selects.2

pub immediate_encoded : (op : ImmOp) (rd rs1 : ℕ) (imm : ℤ) → IsRegister rd → IsRegister rs1 → SelectsImmediate op imm → decode_of (encode_of (Immediate op rd rs1 imm)) ≡ Some (Immediate op rd rs1 imm)
unfolding encode_of
immediate_encoded op rd rs1 imm bd b1 selects =
    let plain : immediate_funct7 op * 2 ^ 5 + bits_of 12 imm ≡ bits_of 12 imm = omega (arith, selects.1) in
    rw plain
    (immediate_read _ op rd rs1 imm selects (i_fields (bits_of 12 imm) rs1 (immediate_funct3 op) rd 0b0010011 (bits_of_below 12 imm refl selects.2) b1 (immediate_funct3_below op) bd (omega arith)))

pub atomic_word_fields : (f5 : ℕ) (aq rl : Bool) (rs2 rs1 rd : ℕ) → f5 < 32 → IsRegister rs2 → IsRegister rs1 → IsRegister rd → HasFields (atomic_word f5 aq rl rs2 rs1 rd) (f5 * 4 + bit_of aq * 2 + bit_of rl) rs2 rs1 0b010 rd 0b0101111
unfolding atomic_word
atomic_word_fields f5 aq rl rs2 rs1 rd b5 b2 b1 bd =
    let a : bit_of aq < 2 = bit_of_below aq in
    let r : bit_of rl < 2 = bit_of_below rl in
    r_fields (f5 * 4 + bit_of aq * 2 + bit_of rl) rs2 rs1 0b010 rd 0b0101111 (omega arith) b2 b1 (omega arith) bd (omega arith)

pub encoded : (i : Instr) → IsValid i → decode_of (encode_of i) ≡ Some i
unfolding encode_of s_word b_word
encoded (Lui rd imm) v = lui_read _ rd imm (u_fields imm rd _ v.1.0 v.1.1 v.0 (omega arith))
encoded (Auipc rd imm) v = auipc_read _ rd imm (u_fields imm rd _ v.1.0 v.1.1 v.0 (omega arith))
encoded (Jal rd offset) v = jal_read _ rd offset v.1 v.2 (j_fields (bits_of 21 offset) rd _ v.0 (omega arith))
encoded (Jalr rd rs1 offset) v =
    jump_read _ rd rs1 offset v.2 (i_fields (bits_of 12 offset) rs1 0 rd 0b1100111 (bits_of_below 12 offset refl v.2) v.1 (omega arith) v.0 (omega arith))
encoded (Branch op rs1 rs2 offset) v =
    branch_read _ op rs1 rs2 offset v.2 v.3
    (r_fields _ rs2 rs1 (branch_funct3 op) _ 0b1100011 (omega arith) v.1 v.0 (branch_funct3_below op) (omega arith) (omega arith))
encoded (Load op rd rs1 offset) v =
    load_read _ op rd rs1 offset v.2 (i_fields (bits_of 12 offset) rs1 (load_funct3 op) rd 0b0000011 (bits_of_below 12 offset refl v.2) v.1 (load_funct3_below op) v.0 (omega arith))
encoded (Store op rs1 rs2 offset) v =
    store_read _ op rs1 rs2 offset v.2
    (r_fields _ rs2 rs1 (store_funct3 op) _ 0b0100011 (omega arith) v.1 v.0 (store_funct3_below op) (omega arith) (omega arith))
encoded (Immediate op rd rs1 imm) v =
    elim (immediate_selects op imm v.2) [ inl selects ↦ immediate_encoded op rd rs1 imm v.0 v.1 selects | inr selects ↦ shift_encoded op rd rs1 imm v.0 v.1 selects ]
encoded (Register op rd rs1 rs2) v =
    register_read _ op rd rs1 rs2
    (r_fields (register_funct7 op) rs2 rs1 (register_funct3 op) rd 0b0110011 (register_funct7_below op) v.2 v.1 (register_funct3_below op) v.0 (omega arith))
encoded (Fence rd rs1 imm) v = fence_read _ rd rs1 imm v.2 (i_fields imm rs1 0 rd 0b0001111 v.2 v.1 (omega arith) v.0 (omega arith))
encoded Ecall v = ecall_read
encoded Ebreak v = ebreak_read
encoded (Lr rd rs1 aq rl) v = lr_read _ rd rs1 aq rl (atomic_word_fields 0b00010 aq rl 0 rs1 rd (omega arith) (omega arith) v.1 v.0)
encoded (Sc rd rs1 rs2 aq rl) v = sc_read _ rd rs1 rs2 aq rl (atomic_word_fields 0b00011 aq rl rs2 rs1 rd (omega arith) v.2 v.1 v.0)
encoded (Amo op rd rs1 rs2 aq rl) v = amo_read _ op rd rs1 rs2 aq rl (atomic_word_fields (amo_funct5 op) aq rl rs2 rs1 rd (amo_funct5_below op) v.2 v.1 v.0)
