-- The table by opcode.
use Rattle.std.proofs.Common.{◌≡◌, ℕ, ◌^◌, ◌<◌, nat_eq, Bool, true, false, List, [], ◌∷◌, Option, Some, None, refl, ◌∙◌, arith, ◌&&◌, if◌then◌else◌}
use Rattle.rv_decode.specs.declared.instructions.ImmOp.{ImmOp}
use Rattle.rv_decode.specs.declared.instructions.BranchOp.{BranchOp}
use Rattle.rv_decode.specs.declared.instructions.BranchOp.TheVariants.{Beq, Bne, Blt, Bge, Bltu, Bgeu}
use Rattle.rv_decode.specs.declared.instructions.LoadOp.{LoadOp}
use Rattle.rv_decode.specs.declared.instructions.LoadOp.TheVariants.{Lb, Lh, Lw, Lbu, Lhu}
use Rattle.rv_decode.specs.declared.instructions.StoreOp.{StoreOp}
use Rattle.rv_decode.specs.declared.instructions.StoreOp.TheVariants.{Sb, Sh, Sw}
use Rattle.rv_decode.specs.declared.instructions.ImmOp.TheVariants.{Addi, Slti, Sltiu, Xori, Ori, Andi, Slli, Srli, Srai}
use Rattle.rv_decode.specs.declared.instructions.RegOp.{RegOp}
use Rattle.rv_decode.specs.declared.instructions.RegOp.TheVariants.{Add, Sub, Sll, Slt, Sltu, Xor, Srl, Sra, Or, And}
use Rattle.rv_decode.specs.declared.instructions.AmoOp.{AmoOp}
use Rattle.rv_decode.specs.declared.instructions.AmoOp.TheVariants.{Add as AmoAdd, Swap as AmoSwap, Xor as AmoXor, Or as AmoOr, And as AmoAnd, Min as AmoMin, Max as AmoMax, Minu as AmoMinu, Maxu as AmoMaxu}
use Rattle.rv_decode.specs.declared.instructions.Instr.TheVariants.{Lui, Auipc, Jal, Branch, Load, Store, Immediate, Register, Ecall, Ebreak, Amo}
use Rattle.std.specs.Option.{option_map}
use Rattle.std.specs.List.{list_any}
use Rattle.std.proofs.Math.Bool.{and-false}
use Rattle.std.proofs.lemmas.Bool.{true≢false, eqb-true, cond_both}
use Rattle.rv_decode.specs.Table.{field, table, decode_by, decode_of, rd_of, rs1_of, rs2_of, aq_of, rl_of, i_immediate, s_immediate, b_immediate, u_immediate, j_immediate, shift_amount}
use Rattle.rv_decode.specs.Selectors.{made_or, branch_op, load_op, store_op, immediate_op, shift_op, register_op, amo_op, jump_of, branch_of, load_of, store_of, shift_of, immediate_of, register_of, fence_of, system_of, load_reserved_of, amo_of, atomic_of, by_opcode}
use Rattle.rv_decode.proofs.Rows.{decode_by-rows_of, decode_by_none}

pub lui : (w : ℕ) → field 0 7 w ≡ 0b0110111 → decode_of w ≡ Some (Lui (rd_of w) (u_immediate w))
unfolding decode_of decode_by table
lui w opcode = decode_by-rows_of w 0b0110111 opcode table ∙ rw opcode (refl {a = Some (Lui (rd_of w) (u_immediate w))})

pub jal : (w : ℕ) → field 0 7 w ≡ 0b1101111 → decode_of w ≡ Some (Jal (rd_of w) (j_immediate w))
unfolding decode_of decode_by table
jal w opcode = decode_by-rows_of w 0b1101111 opcode table ∙ rw opcode (grind arith)

-- ---- the rows of one opcode, as a choice between operations

pub branch_rows : {A : Type 0} (make : BranchOp → A) (f3 : ℕ) → (
    if nat_eq f3 0 && true then Some (make Beq) else (
    if nat_eq f3 1 && true then Some (make Bne) else (
    if nat_eq f3 4 && true then Some (make Blt) else (
    if nat_eq f3 5 && true then Some (make Bge) else (
    if nat_eq f3 6 && true then Some (make Bltu) else (
    if nat_eq f3 7 && true then Some (make Bgeu) else (
    None))))))) ≡ option_map make (branch_op f3)
unfolding branch_op
branch_rows make f3 = grind arith

pub load_rows : {A : Type 0} (make : LoadOp → A) (f3 : ℕ) → (
    if nat_eq f3 0 && true then Some (make Lb) else (
    if nat_eq f3 1 && true then Some (make Lh) else (
    if nat_eq f3 2 && true then Some (make Lw) else (
    if nat_eq f3 4 && true then Some (make Lbu) else (
    if nat_eq f3 5 && true then Some (make Lhu) else (
    None)))))) ≡ option_map make (load_op f3)
unfolding load_op
load_rows make f3 = grind arith

pub store_rows : {A : Type 0} (make : StoreOp → A) (f3 : ℕ) → (
    if nat_eq f3 0 && true then Some (make Sb) else (
    if nat_eq f3 1 && true then Some (make Sh) else (
    if nat_eq f3 2 && true then Some (make Sw) else (
    None)))) ≡ option_map make (store_op f3)
unfolding store_op
store_rows make f3 = grind arith

pub shift_rows : {A : Type 0} (make : ImmOp → A) (f7 f3 : ℕ) → (
    if nat_eq f7 0 && (nat_eq f3 1 && true) then Some (make Slli) else (
    if nat_eq f7 0 && (nat_eq f3 5 && true) then Some (make Srli) else (
    if nat_eq f7 32 && (nat_eq f3 5 && true) then Some (make Srai) else (
    None)))) ≡ option_map make (shift_op f7 f3)
unfolding shift_op
shift_rows make f7 f3 = grind arith

pub immediate_rows : {A : Type 0} (make : ImmOp → A) (f3 : ℕ) (shifts rest : Option A) → shifts ≡ rest → (
    if nat_eq f3 0 && true then Some (make Addi) else (
    if nat_eq f3 2 && true then Some (make Slti) else (
    if nat_eq f3 3 && true then Some (make Sltiu) else (
    if nat_eq f3 4 && true then Some (make Xori) else (
    if nat_eq f3 6 && true then Some (make Ori) else (
    if nat_eq f3 7 && true then Some (make Andi) else (
    shifts))))))) ≡ made_or make (immediate_op f3) rest
unfolding immediate_op
immediate_rows make f3 shifts rest e = rw e (grind arith)

pub register_rows : {A : Type 0} (make : RegOp → A) (f7 f3 : ℕ) → (
    if nat_eq f7 0 && (nat_eq f3 0 && true) then Some (make Add) else (
    if nat_eq f7 32 && (nat_eq f3 0 && true) then Some (make Sub) else (
    if nat_eq f7 0 && (nat_eq f3 1 && true) then Some (make Sll) else (
    if nat_eq f7 0 && (nat_eq f3 2 && true) then Some (make Slt) else (
    if nat_eq f7 0 && (nat_eq f3 3 && true) then Some (make Sltu) else (
    if nat_eq f7 0 && (nat_eq f3 4 && true) then Some (make Xor) else (
    if nat_eq f7 0 && (nat_eq f3 5 && true) then Some (make Srl) else (
    if nat_eq f7 32 && (nat_eq f3 5 && true) then Some (make Sra) else (
    if nat_eq f7 0 && (nat_eq f3 6 && true) then Some (make Or) else (
    if nat_eq f7 0 && (nat_eq f3 7 && true) then Some (make And) else (
    None))))))))))) ≡ option_map make (register_op f7 f3)
unfolding register_op
register_rows make f7 f3 = grind arith

pub amo_rows : {A : Type 0} (make : AmoOp → A) (f5 : ℕ) → (
    if nat_eq f5 1 && true then Some (make AmoSwap) else (
    if nat_eq f5 0 && true then Some (make AmoAdd) else (
    if nat_eq f5 4 && true then Some (make AmoXor) else (
    if nat_eq f5 12 && true then Some (make AmoAnd) else (
    if nat_eq f5 8 && true then Some (make AmoOr) else (
    if nat_eq f5 16 && true then Some (make AmoMin) else (
    if nat_eq f5 20 && true then Some (make AmoMax) else (
    if nat_eq f5 24 && true then Some (make AmoMinu) else (
    if nat_eq f5 28 && true then Some (make AmoMaxu) else (
    None)))))))))) ≡ option_map make (amo_op f5)
unfolding amo_op
amo_rows make f5 = grind arith

abbrev pub by_funct5 : {A : Type 0} (lr sc : A) (make : AmoOp → A) (f5 r2 : ℕ) → Option A
by_funct5 lr sc make f5 r2 =
    if nat_eq f5 2 then (if nat_eq r2 0 then Some lr else None) else (
    if nat_eq f5 3 then Some sc else option_map make (amo_op f5))

-- a choice between two that exclude each other
pub lr_or_sc : {A : Type 0} (is_lr is_sc rs2_free : Bool) (lr sc : A) (amos : Option A) → (is_lr ≡ true → is_sc ≡ false) → (is_lr ≡ true → amos ≡ None) →
    (if is_lr && (rs2_free && true) then Some lr else (if is_sc && true then Some sc else amos))
    ≡ (if is_lr then (if rs2_free then Some lr else None) else (if is_sc then Some sc else amos))
lr_or_sc true b true lr sc amos one none = refl
lr_or_sc true true false lr sc amos one none = absurd (true≢false (one refl))
lr_or_sc true false false lr sc amos one none = none refl
lr_or_sc false true c lr sc amos one none = refl
lr_or_sc false false c lr sc amos one none = refl

pub not_sc : (f5 : ℕ) → nat_eq f5 2 ≡ true → nat_eq f5 3 ≡ false
not_sc f5 e = rw (eqb-true f5 2 e) refl

pub no_amo : {A : Type 0} (make : AmoOp → A) (f5 : ℕ) → nat_eq f5 2 ≡ true → option_map make (amo_op f5) ≡ None
unfolding amo_op
no_amo make f5 e = rw (eqb-true f5 2 e) refl

pub atomic_rows : {A : Type 0} (lr sc : A) (make : AmoOp → A) (f5 r2 : ℕ) (word : Bool) → (
    if nat_eq f5 2 && (nat_eq r2 0 && (word && true)) then Some (lr) else (
    if nat_eq f5 3 && (word && true) then Some (sc) else (
    if nat_eq f5 1 && (word && true) then Some (make AmoSwap) else (
    if nat_eq f5 0 && (word && true) then Some (make AmoAdd) else (
    if nat_eq f5 4 && (word && true) then Some (make AmoXor) else (
    if nat_eq f5 12 && (word && true) then Some (make AmoAnd) else (
    if nat_eq f5 8 && (word && true) then Some (make AmoOr) else (
    if nat_eq f5 16 && (word && true) then Some (make AmoMin) else (
    if nat_eq f5 20 && (word && true) then Some (make AmoMax) else (
    if nat_eq f5 24 && (word && true) then Some (make AmoMinu) else (
    if nat_eq f5 28 && (word && true) then Some (make AmoMaxu) else (
    None))))))))))))
    ≡ (if word then by_funct5 lr sc make f5 r2 else None)
atomic_rows lr sc make f5 r2 true = rw (amo_rows make f5) (lr_or_sc (nat_eq f5 2) (nat_eq f5 3) (nat_eq r2 0) lr sc (option_map make (amo_op f5)) (not_sc f5) (no_amo make f5))
atomic_rows lr sc make f5 r2 false = simp and-false

pub system_rows : (w : ℕ) → (
    if nat_eq w 0b00000000000000000000000001110011 && true then Some Ecall else (
    if nat_eq w 0b00000000000100000000000001110011 && true then Some Ebreak else None)) ≡ system_of w
unfolding system_of
system_rows w = grind arith

pub only : {A : Type 0} (b : Bool) (x : A) → (if b && true then Some x else None) ≡ (if b then Some x else None)
only true x = refl
only false x = refl

-- ---- the instruction of a word with this opcode

pub jump : (w : ℕ) → field 0 7 w ≡ 0b1100111 → decode_of w ≡ jump_of w
unfolding decode_of decode_by table jump_of
jump w opcode = decode_by-rows_of w 0b1100111 opcode table ∙ rw opcode (only _ _)

pub branch : (w : ℕ) → field 0 7 w ≡ 0b1100011 → decode_of w ≡ branch_of w
unfolding decode_of decode_by table branch_of
branch w opcode = decode_by-rows_of w 0b1100011 opcode table ∙ rw opcode (branch_rows (λ op. Branch op (rs1_of w) (rs2_of w) (b_immediate w)) (field 12 3 w))

pub load : (w : ℕ) → field 0 7 w ≡ 0b0000011 → decode_of w ≡ load_of w
unfolding decode_of decode_by table load_of
load w opcode = decode_by-rows_of w 0b0000011 opcode table ∙ rw opcode (load_rows (λ op. Load op (rd_of w) (rs1_of w) (i_immediate w)) (field 12 3 w))

pub store : (w : ℕ) → field 0 7 w ≡ 0b0100011 → decode_of w ≡ store_of w
unfolding decode_of decode_by table store_of
store w opcode = decode_by-rows_of w 0b0100011 opcode table ∙ rw opcode (store_rows (λ op. Store op (rs1_of w) (rs2_of w) (s_immediate w)) (field 12 3 w))

pub immediate : (w : ℕ) → field 0 7 w ≡ 0b0010011 → decode_of w ≡ immediate_of w
unfolding decode_of decode_by table immediate_of shift_of
immediate w opcode = decode_by-rows_of w 0b0010011 opcode table ∙ rw opcode (immediate_rows (λ op. Immediate op (rd_of w) (rs1_of w) (i_immediate w)) (field 12 3 w) _ _ (shift_rows (λ op. Immediate op (rd_of w) (rs1_of w) (shift_amount w)) (field 25 7 w) (field 12 3 w)))

pub register : (w : ℕ) → field 0 7 w ≡ 0b0110011 → decode_of w ≡ register_of w
unfolding decode_of decode_by table register_of
register w opcode = decode_by-rows_of w 0b0110011 opcode table ∙ rw opcode (register_rows (λ op. Register op (rd_of w) (rs1_of w) (rs2_of w)) (field 25 7 w) (field 12 3 w))

pub fence : (w : ℕ) → field 0 7 w ≡ 0b0001111 → decode_of w ≡ fence_of w
unfolding decode_of decode_by table fence_of
fence w opcode = decode_by-rows_of w 0b0001111 opcode table ∙ rw opcode (only _ _)

pub atomic : (w : ℕ) → field 0 7 w ≡ 0b0101111 → decode_of w ≡ atomic_of w
unfolding decode_of decode_by table atomic_of load_reserved_of amo_of
atomic w opcode = decode_by-rows_of w 0b0101111 opcode table ∙ rw opcode (atomic_rows _ _ (λ op. Amo op (rd_of w) (rs1_of w) (rs2_of w) (aq_of w) (rl_of w)) (field 27 5 w) (rs2_of w) (nat_eq (field 12 3 w) 2))

pub low_word : (w : ℕ) → w < 2 ^ 32 → field 0 32 w ≡ w
low_word w h = omega arith

pub system : (w : ℕ) → w < 2 ^ 32 → field 0 7 w ≡ 0b1110011 → decode_of w ≡ system_of w
unfolding decode_of decode_by table system_of
system w h opcode = decode_by-rows_of w 0b1110011 opcode table ∙ rw (low_word w h) (system_rows w)

abbrev pub opcodes : List ℕ
opcodes =
    0b0110111 ∷ 0b0010111 ∷ 0b1101111 ∷ 0b1100111 ∷ 0b1100011 ∷ 0b0000011 ∷ 0b0100011 ∷ 0b0010011 ∷ 0b0110011 ∷ 0b0001111 ∷ 0b1110011 ∷ 0b0101111 ∷ []

pub other : (w : ℕ) → list_any (nat_eq (field 0 7 w)) opcodes ≡ false → decode_of w ≡ None
unfolding decode_of table
other w none = decode_by_none w opcodes none table refl

pub auipc : (w : ℕ) → field 0 7 w ≡ 0b0010111 → decode_of w ≡ Some (Auipc (rd_of w) (u_immediate w))
unfolding decode_of decode_by table
auipc w opcode = decode_by-rows_of w 0b0010111 opcode table ∙ rw opcode (refl {a = Some (Auipc (rd_of w) (u_immediate w))})

-- ---- any word

pub if_opcode : {A : Type 0} (op v : ℕ) (d x rest : A) → (op ≡ v → d ≡ x) → (nat_eq op v ≡ false → d ≡ rest) → d ≡ (if nat_eq op v then x else rest)
if_opcode op v d x rest same other = cond_both (nat_eq op v) x rest (λ y. d ≡ y) (λ e. same (eqb-true op v e)) other

-- a word's instruction by its opcode
pub decoded_by_opcode : (w : ℕ) → w < 2 ^ 32 → decode_of w ≡ by_opcode (field 0 7 w) w
unfolding by_opcode
decoded_by_opcode w h =
    if_opcode (field 0 7 w) 0b0110111 (decode_of w) _ _ (lui w) (λ n0.
    if_opcode (field 0 7 w) 0b0010111 (decode_of w) _ _ (auipc w) (λ n1.
    if_opcode (field 0 7 w) 0b1101111 (decode_of w) _ _ (jal w) (λ n2.
    if_opcode (field 0 7 w) 0b1100111 (decode_of w) _ _ (jump w) (λ n3.
    if_opcode (field 0 7 w) 0b1100011 (decode_of w) _ _ (branch w) (λ n4.
    if_opcode (field 0 7 w) 0b0000011 (decode_of w) _ _ (load w) (λ n5.
    if_opcode (field 0 7 w) 0b0100011 (decode_of w) _ _ (store w) (λ n6.
    if_opcode (field 0 7 w) 0b0010011 (decode_of w) _ _ (immediate w) (λ n7.
    if_opcode (field 0 7 w) 0b0110011 (decode_of w) _ _ (register w) (λ n8.
    if_opcode (field 0 7 w) 0b0001111 (decode_of w) _ _ (fence w) (λ n9.
    if_opcode (field 0 7 w) 0b1110011 (decode_of w) _ _ (system w h) (λ n10.
    if_opcode (field 0 7 w) 0b0101111 (decode_of w) _ _ (atomic w) (λ n11.
    other w (rw (n0, n1, n2, n3, n4, n5, n6, n7, n8, n9, n10, n11) refl)))))))))))))
