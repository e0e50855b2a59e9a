-- The fields of a word that is put together, and a word put together again from its fields.
use Rattle.std.proofs.Common.{◌≡◌, ℕ, zero, suc, ◌+◌, ◌*◌, ◌/◌, ◌%◌, ◌^◌, ◌<◌, Bool, true, false, nat_eq, refl, arith}
use Rattle.rv_decode.specs.Table.{field, aq_of, rl_of}
use Rattle.rv_decode.specs.Encode.{bit_of, r_word, i_word, s_word, b_word, u_word, j_word, atomic_word}

-- the fields of the R format
pub record HasFields (w f7 r2 r1 f3 d op : ℕ) : Type 0 where
  pub opcode : field 0 7 w ≡ op
  pub rd : field 7 5 w ≡ d
  pub funct3 : field 12 3 w ≡ f3
  pub rs1 : field 15 5 w ≡ r1
  pub rs2 : field 20 5 w ≡ r2
  pub funct7 : field 25 7 w ≡ f7
  pub below : w < 2 ^ 32

pub r_fields : (f7 rs2 rs1 f3 rd op : ℕ) → f7 < 128 → rs2 < 32 → rs1 < 32 → f3 < 8 → rd < 32 → op < 128 → HasFields (r_word f7 rs2 rs1 f3 rd op) f7 rs2 rs1 f3 rd op
unfolding r_word
r_fields f7 rs2 rs1 f3 rd op b7 b2 b1 b3 bd bo = record {
  opcode = omega arith;
  rd = omega arith;
  funct3 = omega arith;
  rs1 = omega arith;
  rs2 = omega arith;
  funct7 = omega arith;
  below = omega arith;
}

pub i_fields : (imm rs1 f3 rd op : ℕ) → imm < 4096 → rs1 < 32 → f3 < 8 → rd < 32 → op < 128 → HasFields (i_word imm rs1 f3 rd op) (imm / 32) (imm % 32) rs1 f3 rd op
unfolding i_word
i_fields imm rs1 f3 rd op bi b1 b3 bd bo = record {
  opcode = omega arith;
  rd = omega arith;
  funct3 = omega arith;
  rs1 = omega arith;
  rs2 = omega arith;
  funct7 = omega arith;
  below = omega arith;
}

pub i_number : (w imm rs1 f3 rd op : ℕ) → imm < 4096 → HasFields w (imm / 32) (imm % 32) rs1 f3 rd op → field 20 12 w ≡ imm
i_number w imm rs1 f3 rd op bi h = omega arith

pub s_number : (w imm rs2 rs1 f3 op : ℕ) → imm < 4096 → HasFields w (field 5 7 imm) rs2 rs1 f3 (field 0 5 imm) op → field 25 7 w * 2 ^ 5 + field 7 5 w ≡ imm
s_number w imm rs2 rs1 f3 op bi h = omega arith

pub b_number : (w imm rs2 rs1 f3 op : ℕ) → imm < 8192 → imm % 2 ≡ 0 →
    HasFields w (field 12 1 imm * 2 ^ 6 + field 5 6 imm) rs2 rs1 f3 (field 1 4 imm * 2 + field 11 1 imm) op →
    field 31 1 w * 2 ^ 12 + field 7 1 w * 2 ^ 11 + field 25 6 w * 2 ^ 5 + field 8 4 w * 2 ^ 1 ≡ imm
b_number w imm rs2 rs1 f3 op bi even h = omega arith

-- the fields of the U format
pub record HasUpper (w imm d op : ℕ) : Type 0 where
  pub opcode : field 0 7 w ≡ op
  pub rd : field 7 5 w ≡ d
  pub upper : field 12 20 w * 2 ^ 12 ≡ imm
  pub below : w < 2 ^ 32

pub u_fields : (imm rd op : ℕ) → imm < 2 ^ 32 → imm % 2 ^ 12 ≡ 0 → rd < 32 → op < 128 → HasUpper (u_word imm rd op) imm rd op
unfolding u_word
u_fields imm rd op bi low bd bo = record {
  opcode = omega arith;
  rd = omega arith;
  upper = omega arith;
  below = omega arith;
}

-- the immediate of the J format as the U format has it
abbrev pub scattered : ℕ → ℕ
scattered imm = field 20 1 imm * 2 ^ 31 + field 1 10 imm * 2 ^ 21 + field 11 1 imm * 2 ^ 20 + field 12 8 imm * 2 ^ 12

pub j_fields : (imm rd op : ℕ) → rd < 32 → op < 128 → HasUpper (j_word imm rd op) (scattered imm) rd op
unfolding j_word
j_fields imm rd op bd bo =
    u_fields (scattered imm) rd op (omega arith) (omega arith) bd bo

pub j_number : (w imm rd op : ℕ) → imm < 2 ^ 21 → imm % 2 ≡ 0 → HasUpper w (scattered imm) rd op →
    field 31 1 w * 2 ^ 20 + field 12 8 w * 2 ^ 12 + field 20 1 w * 2 ^ 11 + field 21 10 w * 2 ^ 1 ≡ imm
j_number w imm rd op bi even h = omega arith

-- a flag and its bit
pub bit_of-nat_eq : (x : ℕ) → x < 2 → bit_of (nat_eq x 1) ≡ x
bit_of-nat_eq zero h = refl
bit_of-nat_eq (suc zero) h = refl
bit_of-nat_eq (suc (suc x)) h = absurd (omega arith)

pub nat_eq-bit_of : (x : ℕ) (b : Bool) → x ≡ bit_of b → nat_eq x 1 ≡ b
nat_eq-bit_of x true e = rw e refl
nat_eq-bit_of x false e = rw e refl

pub bit_of_below : (b : Bool) → bit_of b < 2
bit_of_below true = omega arith
bit_of_below false = omega arith

-- ---- put together again

pub r_again : (w f7 rs2 f3 op : ℕ) → w < 2 ^ 32 → f7 ≡ field 25 7 w → rs2 ≡ field 20 5 w → f3 ≡ field 12 3 w → field 0 7 w ≡ op → r_word f7 rs2 (field 15 5 w) f3 (field 7 5 w) op ≡ w
unfolding r_word
r_again w f7 rs2 f3 op h e7 e2 e3 eo = omega arith

pub i_again : (w imm f3 op : ℕ) → w < 2 ^ 32 → imm ≡ field 20 12 w → f3 ≡ field 12 3 w → field 0 7 w ≡ op → i_word imm (field 15 5 w) f3 (field 7 5 w) op ≡ w
unfolding i_word
i_again w imm f3 op h ei e3 eo = omega arith

pub s_again : (w imm f3 op : ℕ) → w < 2 ^ 32 → imm ≡ field 25 7 w * 2 ^ 5 + field 7 5 w → f3 ≡ field 12 3 w → field 0 7 w ≡ op → s_word imm (field 20 5 w) (field 15 5 w) f3 op ≡ w
unfolding s_word r_word
s_again w imm f3 op h ei e3 eo = omega arith

pub b_again : (w imm f3 op : ℕ) → w < 2 ^ 32 → imm ≡ field 31 1 w * 2 ^ 12 + field 7 1 w * 2 ^ 11 + field 25 6 w * 2 ^ 5 + field 8 4 w * 2 ^ 1 → f3 ≡ field 12 3 w → field 0 7 w ≡ op →
    b_word imm (field 20 5 w) (field 15 5 w) f3 op ≡ w
unfolding b_word r_word
b_again w imm f3 op h ei e3 eo = omega arith

pub u_again : (w op : ℕ) → w < 2 ^ 32 → field 0 7 w ≡ op → u_word (field 12 20 w * 2 ^ 12) (field 7 5 w) op ≡ w
unfolding u_word
u_again w op h eo = omega arith

pub j_again : (w imm op : ℕ) → w < 2 ^ 32 → imm ≡ field 31 1 w * 2 ^ 20 + field 12 8 w * 2 ^ 12 + field 20 1 w * 2 ^ 11 + field 21 10 w * 2 ^ 1 → field 0 7 w ≡ op → j_word imm (field 7 5 w) op ≡ w
unfolding j_word u_word
j_again w imm op h ei eo = omega arith

pub atomic_again : (w f5 rs2 : ℕ) → w < 2 ^ 32 → f5 ≡ field 27 5 w → rs2 ≡ field 20 5 w → field 12 3 w ≡ 2 → field 0 7 w ≡ 47 → atomic_word f5 (aq_of w) (rl_of w) rs2 (field 15 5 w) (field 7 5 w) ≡ w
unfolding atomic_word r_word
atomic_again w f5 rs2 h e5 e2 e3 eo =
    let aq : bit_of (aq_of w) ≡ field 26 1 w = bit_of-nat_eq (field 26 1 w) (omega arith) in
    let rl : bit_of (rl_of w) ≡ field 25 1 w = bit_of-nat_eq (field 25 1 w) (omega arith) in
    rw (aq, rl) (omega arith)
