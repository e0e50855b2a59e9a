-- The fields that an operation fixes select it, and no others do.
use Rattle.std.specs.Prelude.{IfSome}
use Rattle.std.proofs.Common.{◌≡◌, ℕ, ◌<◌, ◌⊎◌, inl, inr, Some, None, refl, arith, ℤ}
use Rattle.rv_decode.specs.declared.instructions.BranchOp.{BranchOp}
use Rattle.rv_decode.specs.declared.instructions.BranchOp.TheVariants.{Beq, Bne, Blt, Bge, Bltu, Bgeu}
use Rattle.rv_decode.specs.declared.instructions.LoadOp.{LoadOp}
use Rattle.rv_decode.specs.declared.instructions.LoadOp.TheVariants.{Lb, Lh, Lw, Lbu, Lhu}
use Rattle.rv_decode.specs.declared.instructions.StoreOp.{StoreOp}
use Rattle.rv_decode.specs.declared.instructions.StoreOp.TheVariants.{Sb, Sh, Sw}
use Rattle.rv_decode.specs.declared.instructions.ImmOp.{ImmOp}
use Rattle.rv_decode.specs.declared.instructions.ImmOp.TheVariants.{Addi, Slti, Sltiu, Xori, Ori, Andi, Slli, Srli, Srai}
use Rattle.rv_decode.specs.declared.instructions.RegOp.{RegOp}
use Rattle.rv_decode.specs.declared.instructions.RegOp.TheVariants.{Add, Sub, Sll, Slt, Sltu, Xor, Srl, Sra, Or, And}
use Rattle.rv_decode.specs.declared.instructions.AmoOp.{AmoOp}
use Rattle.rv_decode.specs.declared.instructions.AmoOp.TheVariants.{Add as AmoAdd, Swap as AmoSwap, Xor as AmoXor, Or as AmoOr, And as AmoAnd, Min as AmoMin, Max as AmoMax, Minu as AmoMinu, Maxu as AmoMaxu}
use Rattle.rv_decode.specs.Selectors.{branch_op, load_op, store_op, immediate_op, shift_op, register_op, amo_op}
use Rattle.rv_decode.specs.Encode.{branch_funct3, load_funct3, store_funct3, immediate_funct3, immediate_funct7, register_funct3, register_funct7, amo_funct5}
use Rattle.rv_decode.specs.Valid.{FitsBits, IsShiftAmount, FitsOperation}

pub branch_funct3_below : (op : BranchOp) → branch_funct3 op < 8
unfolding branch_funct3
branch_funct3_below Beq = omega arith
branch_funct3_below Bne = omega arith
branch_funct3_below Blt = omega arith
branch_funct3_below Bge = omega arith
branch_funct3_below Bltu = omega arith
branch_funct3_below Bgeu = omega arith

pub branch_selects : (op : BranchOp) → branch_op (branch_funct3 op) ≡ Some op
unfolding branch_op branch_funct3
branch_selects Beq = refl
branch_selects Bne = refl
branch_selects Blt = refl
branch_selects Bge = refl
branch_selects Bltu = refl
branch_selects Bgeu = refl

pub branch_selected : (f : ℕ) → IfSome (branch_op f) (λ op. branch_funct3 op ≡ f)
unfolding branch_op branch_funct3
branch_selected f = grind arith

pub load_funct3_below : (op : LoadOp) → load_funct3 op < 8
unfolding load_funct3
load_funct3_below Lb = omega arith
load_funct3_below Lh = omega arith
load_funct3_below Lw = omega arith
load_funct3_below Lbu = omega arith
load_funct3_below Lhu = omega arith

pub load_selects : (op : LoadOp) → load_op (load_funct3 op) ≡ Some op
unfolding load_op load_funct3
load_selects Lb = refl
load_selects Lh = refl
load_selects Lw = refl
load_selects Lbu = refl
load_selects Lhu = refl

pub load_selected : (f : ℕ) → IfSome (load_op f) (λ op. load_funct3 op ≡ f)
unfolding load_op load_funct3
load_selected f = grind arith

pub store_funct3_below : (op : StoreOp) → store_funct3 op < 8
unfolding store_funct3
store_funct3_below Sb = omega arith
store_funct3_below Sh = omega arith
store_funct3_below Sw = omega arith

pub store_selects : (op : StoreOp) → store_op (store_funct3 op) ≡ Some op
unfolding store_op store_funct3
store_selects Sb = refl
store_selects Sh = refl
store_selects Sw = refl

pub store_selected : (f : ℕ) → IfSome (store_op f) (λ op. store_funct3 op ≡ f)
unfolding store_op store_funct3
store_selected f = grind arith

pub amo_funct5_below : (op : AmoOp) → amo_funct5 op < 32
unfolding amo_funct5
amo_funct5_below AmoSwap = omega arith
amo_funct5_below AmoAdd = omega arith
amo_funct5_below AmoXor = omega arith
amo_funct5_below AmoAnd = omega arith
amo_funct5_below AmoOr = omega arith
amo_funct5_below AmoMin = omega arith
amo_funct5_below AmoMax = omega arith
amo_funct5_below AmoMinu = omega arith
amo_funct5_below AmoMaxu = omega arith

pub amo_selects : (op : AmoOp) → amo_op (amo_funct5 op) ≡ Some op
unfolding amo_op amo_funct5
amo_selects AmoSwap = refl
amo_selects AmoAdd = refl
amo_selects AmoXor = refl
amo_selects AmoAnd = refl
amo_selects AmoOr = refl
amo_selects AmoMin = refl
amo_selects AmoMax = refl
amo_selects AmoMinu = refl
amo_selects AmoMaxu = refl

pub amo_selected : (f : ℕ) → IfSome (amo_op f) (λ op. amo_funct5 op ≡ f)
unfolding amo_op amo_funct5
amo_selected f = grind arith

pub immediate_funct3_below : (op : ImmOp) → immediate_funct3 op < 8
unfolding immediate_funct3
immediate_funct3_below Addi = omega arith
immediate_funct3_below Slti = omega arith
immediate_funct3_below Sltiu = omega arith
immediate_funct3_below Xori = omega arith
immediate_funct3_below Ori = omega arith
immediate_funct3_below Andi = omega arith
immediate_funct3_below Slli = omega arith
immediate_funct3_below Srli = omega arith
immediate_funct3_below Srai = omega arith

pub immediate_funct7_below : (op : ImmOp) → immediate_funct7 op < 128
unfolding immediate_funct7
immediate_funct7_below Addi = omega arith
immediate_funct7_below Slti = omega arith
immediate_funct7_below Sltiu = omega arith
immediate_funct7_below Xori = omega arith
immediate_funct7_below Ori = omega arith
immediate_funct7_below Andi = omega arith
immediate_funct7_below Slli = omega arith
immediate_funct7_below Srli = omega arith
immediate_funct7_below Srai = omega arith

pub register_funct3_below : (op : RegOp) → register_funct3 op < 8
unfolding register_funct3
register_funct3_below Add = omega arith
register_funct3_below Sub = omega arith
register_funct3_below Sll = omega arith
register_funct3_below Slt = omega arith
register_funct3_below Sltu = omega arith
register_funct3_below Xor = omega arith
register_funct3_below Srl = omega arith
register_funct3_below Sra = omega arith
register_funct3_below Or = omega arith
register_funct3_below And = omega arith

pub register_funct7_below : (op : RegOp) → register_funct7 op < 128
unfolding register_funct7
register_funct7_below Add = omega arith
register_funct7_below Sub = omega arith
register_funct7_below Sll = omega arith
register_funct7_below Slt = omega arith
register_funct7_below Sltu = omega arith
register_funct7_below Xor = omega arith
register_funct7_below Srl = omega arith
register_funct7_below Sra = omega arith
register_funct7_below Or = omega arith
register_funct7_below And = omega arith

pub register_selects : (op : RegOp) → register_op (register_funct7 op) (register_funct3 op) ≡ Some op
unfolding register_op register_funct7 register_funct3
register_selects Add = refl
register_selects Sub = refl
register_selects Sll = refl
register_selects Slt = refl
register_selects Sltu = refl
register_selects Xor = refl
register_selects Srl = refl
register_selects Sra = refl
register_selects Or = refl
register_selects And = refl

pub register_selected : (f7 f3 : ℕ) → IfSome (register_op f7 f3) (λ op. (register_funct7 op ≡ f7) × (register_funct3 op ≡ f3))
unfolding register_op register_funct7 register_funct3
register_selected f7 f3 = grind arith

-- an operation with an immediate of 12 bits
pub record IsImmediate (op : ImmOp) (f3 : ℕ) : Type 0 where
  pub funct3 : immediate_funct3 op ≡ f3
  pub funct7 : immediate_funct7 op ≡ 0
  pub fits : (z : ℤ) → FitsBits 12 z → FitsOperation op z

-- a shift by a fixed amount
pub record IsShift (op : ImmOp) (f7 f3 : ℕ) : Type 0 where
  pub funct3 : immediate_funct3 op ≡ f3
  pub funct7 : immediate_funct7 op ≡ f7
  pub fits : (z : ℤ) → IsShiftAmount z → FitsOperation op z

pub immediate_selected : (f3 : ℕ) → IfSome (immediate_op f3) (λ op. IsImmediate op f3)
unfolding immediate_op immediate_funct3 immediate_funct7
immediate_selected f3 = grind arith

pub shift_selected : (f7 f3 : ℕ) → IfSome (shift_op f7 f3) (λ op. IsShift op f7 f3)
unfolding shift_op immediate_funct3 immediate_funct7
shift_selected f7 f3 = grind arith

-- what an operation's fields select, and what its immediate is
abbrev pub SelectsImmediate : ImmOp → ℤ → Type 0
SelectsImmediate op z = (immediate_op (immediate_funct3 op) ≡ Some op) × (immediate_funct7 op ≡ 0) × FitsBits 12 z

abbrev pub SelectsShift : ImmOp → ℤ → Type 0
SelectsShift op z = (immediate_op (immediate_funct3 op) ≡ None) × (shift_op (immediate_funct7 op) (immediate_funct3 op) ≡ Some op) × IsShiftAmount z

pub immediate_selects : (op : ImmOp) (z : ℤ) → FitsOperation op z → SelectsImmediate op z ⊎ SelectsShift op z
unfolding immediate_op shift_op immediate_funct3 immediate_funct7
immediate_selects Addi z fits = inl (refl, refl, fits)
immediate_selects Slti z fits = inl (refl, refl, fits)
immediate_selects Sltiu z fits = inl (refl, refl, fits)
immediate_selects Xori z fits = inl (refl, refl, fits)
immediate_selects Ori z fits = inl (refl, refl, fits)
immediate_selects Andi z fits = inl (refl, refl, fits)
immediate_selects Slli z fits = inr (refl, refl, fits)
immediate_selects Srli z fits = inr (refl, refl, fits)
immediate_selects Srai z fits = inr (refl, refl, fits)
