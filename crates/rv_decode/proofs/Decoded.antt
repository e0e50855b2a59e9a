-- A word that is decoded is encoded again to itself.
use Rattle.std.specs.Prelude.{IfSome}
use Rattle.std.specs.Option.{option_map}
use Rattle.std.proofs.Common.{◌≡◌, ℕ, ◌+◌, ◌*◌, ◌^◌, ◌<◌, nat_eq, Option, Some, None, refl, sym, subst, arith, if◌then◌else◌}
use Rattle.std.proofs.lemmas.Bool.{eqb-true, cond_both}
use Rattle.rv_decode.specs.declared.instructions.Instr.{Instr}
use Rattle.rv_decode.specs.declared.instructions.Instr.TheVariants.{Lui, Auipc, Jal}
use Rattle.rv_decode.specs.Table.{field, decode_of, rd_of, rs2_of, i_immediate, u_immediate, j_immediate, shift_amount}
use Rattle.rv_decode.specs.Selectors.{made_or, branch_op, load_op, store_op, immediate_op, shift_op, register_op, amo_op, jump_of, branch_of, load_of, store_of, shift_of, immediate_of, register_of, fence_of, system_of, load_reserved_of, amo_of, atomic_of, by_opcode}
use Rattle.rv_decode.specs.Valid.{IsValid}
use Rattle.rv_decode.specs.Encode.{encode_of, bits_of}
use Rattle.rv_decode.proofs.Signed.{FitsBits-signed, bits_of-signed, IsEven-signed}
use Rattle.rv_decode.proofs.Words.{r_again, i_again, s_again, b_again, u_again, j_again, atomic_again}
use Rattle.rv_decode.proofs.Selected.{branch_selected, load_selected, store_selected, immediate_selected, shift_selected, register_selected, amo_selected}
use Rattle.rv_decode.proofs.Grouped.{decoded_by_opcode}

-- ---- what is so of an option's value

pub IfSome-option_map : {A B : Type 0} (P : B → Type 0) (Q : A → Type 0) (f : A → B) (o : Option A) → IfSome o Q → ((x : A) → Q x → P (f x)) → IfSome (option_map f o) P
IfSome-option_map P Q f None q h = tt
IfSome-option_map P Q f (Some x) q h = h x q

pub IfSome-made_or : {A B : Type 0} (P : B → Type 0) (Q : A → Type 0) (f : A → B) (o : Option A) (rest : Option B) → IfSome o Q → ((x : A) → Q x → P (f x)) → IfSome rest P → IfSome (made_or f o rest) P
IfSome-made_or P Q f None rest q h r = r
IfSome-made_or P Q f (Some x) rest q h r = h x q

-- a choice by a field
pub IfSome-if : {A : Type 0} (P : A → Type 0) (n v : ℕ) (x rest : Option A) → (n ≡ v → IfSome x P) → IfSome rest P → IfSome (if nat_eq n v then x else rest) P
IfSome-if P n v x rest h r = cond_both (nat_eq n v) x rest (λ o. IfSome o P) (λ e. h (eqb-true n v e)) (λ e. r)

-- ---- the instruction is valid, and its word is this one

pub record StandsFor (i : Instr) (w : ℕ) : Type 0 where
  pub valid : IsValid i
  pub word : encode_of i ≡ w

abbrev pub Stands : ℕ → Instr → Type 0
Stands w i = StandsFor i w

pub lui_stands : (w : ℕ) → w < 2 ^ 32 → field 0 7 w ≡ 0b0110111 → StandsFor (Lui (rd_of w) (u_immediate w)) w
unfolding encode_of
lui_stands w h opcode = record { valid = (omega arith, (omega arith, omega arith)); word = u_again w _ h opcode }

pub auipc_stands : (w : ℕ) → w < 2 ^ 32 → field 0 7 w ≡ 0b0010111 → StandsFor (Auipc (rd_of w) (u_immediate w)) w
unfolding encode_of
auipc_stands w h opcode = record { valid = (omega arith, (omega arith, omega arith)); word = u_again w _ h opcode }

pub jal_stands : (w : ℕ) → w < 2 ^ 32 → field 0 7 w ≡ 0b1101111 → StandsFor (Jal (rd_of w) (j_immediate w)) w
unfolding encode_of
jal_stands w h opcode =
    let n : ℕ = field 31 1 w * 2 ^ 20 + field 12 8 w * 2 ^ 12 + field 20 1 w * 2 ^ 11 + field 21 10 w * 2 ^ 1 in
    record {
      valid = (omega arith, FitsBits-signed 21 n refl (omega arith), IsEven-signed 21 n refl (omega arith) (omega arith));
      word = j_again w _ _ h (bits_of-signed 21 n (omega arith)) opcode;
    }

pub jump_stands : (w : ℕ) → w < 2 ^ 32 → field 0 7 w ≡ 0b1100111 → IfSome (jump_of w) (Stands w)
unfolding encode_of jump_of
jump_stands w h opcode =
    IfSome-if (Stands w) (field 12 3 w) 0 _ None (λ e. record {
      valid = (omega arith, omega arith, FitsBits-signed 12 (field 20 12 w) refl (omega arith));
      word = i_again w _ _ _ h (bits_of-signed 12 (field 20 12 w) (omega arith)) (sym e) opcode;
    }) tt

pub branch_stands : (w : ℕ) → w < 2 ^ 32 → field 0 7 w ≡ 0b1100011 → IfSome (branch_of w) (Stands w)
unfolding encode_of branch_of
branch_stands w h opcode =
    let n : ℕ = field 31 1 w * 2 ^ 12 + field 7 1 w * 2 ^ 11 + field 25 6 w * 2 ^ 5 + field 8 4 w * 2 ^ 1 in
    IfSome-option_map (Stands w) _ _ (branch_op (field 12 3 w)) (branch_selected (field 12 3 w)) (λ op e. record {
      valid = (omega arith, omega arith, FitsBits-signed 13 n refl (omega arith), IsEven-signed 13 n refl (omega arith) (omega arith));
      word = b_again w _ _ _ h (bits_of-signed 13 n (omega arith)) e opcode;
    })

pub load_stands : (w : ℕ) → w < 2 ^ 32 → field 0 7 w ≡ 0b0000011 → IfSome (load_of w) (Stands w)
unfolding encode_of load_of
load_stands w h opcode =
    IfSome-option_map (Stands w) _ _ (load_op (field 12 3 w)) (load_selected (field 12 3 w)) (λ op e. record {
      valid = (omega arith, omega arith, FitsBits-signed 12 (field 20 12 w) refl (omega arith));
      word = i_again w _ _ _ h (bits_of-signed 12 (field 20 12 w) (omega arith)) e opcode;
    })

pub store_stands : (w : ℕ) → w < 2 ^ 32 → field 0 7 w ≡ 0b0100011 → IfSome (store_of w) (Stands w)
unfolding encode_of store_of
store_stands w h opcode =
    let n : ℕ = field 25 7 w * 2 ^ 5 + field 7 5 w in
    IfSome-option_map (Stands w) _ _ (store_op (field 12 3 w)) (store_selected (field 12 3 w)) (λ op e. record {
      valid = (omega arith, omega arith, FitsBits-signed 12 n refl (omega arith));
      word = s_again w _ _ _ h (bits_of-signed 12 n (omega arith)) e opcode;
    })

pub shift_stands : (w : ℕ) → w < 2 ^ 32 → field 0 7 w ≡ 0b0010011 → IfSome (shift_of w) (Stands w)
unfolding encode_of shift_of
shift_stands w h opcode =
    IfSome-option_map (Stands w) _ _ (shift_op (field 25 7 w) (field 12 3 w)) (shift_selected (field 25 7 w) (field 12 3 w)) (λ op e. record {
      valid = (omega arith, omega arith, e.fits (shift_amount w) (omega arith));
      word = i_again w _ _ _ h (omega (arith, e.funct7)) e.funct3 opcode;
    })

pub immediate_stands : (w : ℕ) → w < 2 ^ 32 → field 0 7 w ≡ 0b0010011 → IfSome (immediate_of w) (Stands w)
unfolding encode_of immediate_of
immediate_stands w h opcode =
    let n : ℕ = field 20 12 w in
    let back : bits_of 12 (i_immediate w) ≡ n = bits_of-signed 12 n (omega arith) in
    IfSome-made_or (Stands w) _ _ (immediate_op (field 12 3 w)) (shift_of w) (immediate_selected (field 12 3 w)) (λ op e. record {
      valid = (omega arith, omega arith, e.fits (i_immediate w) (FitsBits-signed 12 n refl (omega arith)));
      word = i_again w _ _ _ h (omega (arith, e.funct7, back)) e.funct3 opcode;
    }) (shift_stands w h opcode)

pub register_stands : (w : ℕ) → w < 2 ^ 32 → field 0 7 w ≡ 0b0110011 → IfSome (register_of w) (Stands w)
unfolding encode_of register_of
register_stands w h opcode =
    IfSome-option_map (Stands w) _ _ (register_op (field 25 7 w) (field 12 3 w)) (register_selected (field 25 7 w) (field 12 3 w)) (λ op e. record {
      valid = (omega arith, omega arith, omega arith);
      word = r_again w _ _ _ _ h e.0 refl e.1 opcode;
    })

pub fence_stands : (w : ℕ) → w < 2 ^ 32 → field 0 7 w ≡ 0b0001111 → IfSome (fence_of w) (Stands w)
unfolding encode_of fence_of
fence_stands w h opcode =
    IfSome-if (Stands w) (field 12 3 w) 0 _ None (λ e. record {
      valid = (omega arith, omega arith, omega arith);
      word = i_again w _ _ _ h refl (sym e) opcode;
    }) tt

pub system_stands : (w : ℕ) → IfSome (system_of w) (Stands w)
unfolding encode_of system_of
system_stands w =
    IfSome-if (Stands w) w 0x73 _ _ (λ e. record { valid = tt; word = sym e })
    (IfSome-if (Stands w) w 0x100073 _ None (λ e. record { valid = tt; word = sym e }) tt)

pub load_reserved_stands : (w : ℕ) → w < 2 ^ 32 → field 0 7 w ≡ 0b0101111 → field 12 3 w ≡ 0b010 → field 27 5 w ≡ 0b00010 → IfSome (load_reserved_of w) (Stands w)
unfolding encode_of load_reserved_of
load_reserved_stands w h opcode f3 f5 =
    IfSome-if (Stands w) (rs2_of w) 0 _ None (λ e. record {
      valid = (omega arith, omega arith);
      word = atomic_again w _ _ h (sym f5) (sym e) f3 opcode;
    }) tt

pub amo_stands : (w : ℕ) → w < 2 ^ 32 → field 0 7 w ≡ 0b0101111 → field 12 3 w ≡ 0b010 → IfSome (amo_of w) (Stands w)
unfolding encode_of amo_of
amo_stands w h opcode f3 =
    IfSome-option_map (Stands w) _ _ (amo_op (field 27 5 w)) (amo_selected (field 27 5 w)) (λ op e. record {
      valid = (omega arith, omega arith, omega arith);
      word = atomic_again w _ _ h e refl f3 opcode;
    })

pub atomic_stands : (w : ℕ) → w < 2 ^ 32 → field 0 7 w ≡ 0b0101111 → IfSome (atomic_of w) (Stands w)
unfolding encode_of atomic_of
atomic_stands w h opcode =
    IfSome-if (Stands w) (field 12 3 w) 2 _ None (λ f3.
    IfSome-if (Stands w) (field 27 5 w) 2 _ _ (λ f5. load_reserved_stands w h opcode f3 f5)
    (IfSome-if (Stands w) (field 27 5 w) 3 _ _ (λ f5. record {
      valid = (omega arith, omega arith, omega arith);
      word = atomic_again w _ _ h (sym f5) refl f3 opcode;
    }) (amo_stands w h opcode f3))) tt

-- ---- any word

pub by_opcode_stands : (w : ℕ) → w < 2 ^ 32 → IfSome (by_opcode (field 0 7 w) w) (Stands w)
unfolding by_opcode
by_opcode_stands w h =
    IfSome-if (Stands w) (field 0 7 w) 0b0110111 _ _ (lui_stands w h) (
    IfSome-if (Stands w) (field 0 7 w) 0b0010111 _ _ (auipc_stands w h) (
    IfSome-if (Stands w) (field 0 7 w) 0b1101111 _ _ (jal_stands w h) (
    IfSome-if (Stands w) (field 0 7 w) 0b1100111 _ _ (jump_stands w h) (
    IfSome-if (Stands w) (field 0 7 w) 0b1100011 _ _ (branch_stands w h) (
    IfSome-if (Stands w) (field 0 7 w) 0b0000011 _ _ (load_stands w h) (
    IfSome-if (Stands w) (field 0 7 w) 0b0100011 _ _ (store_stands w h) (
    IfSome-if (Stands w) (field 0 7 w) 0b0010011 _ _ (immediate_stands w h) (
    IfSome-if (Stands w) (field 0 7 w) 0b0110011 _ _ (register_stands w h) (
    IfSome-if (Stands w) (field 0 7 w) 0b0001111 _ _ (fence_stands w h) (
    IfSome-if (Stands w) (field 0 7 w) 0b1110011 _ _ ((λ e. system_stands w)) (
    IfSome-if (Stands w) (field 0 7 w) 0b0101111 _ _ (atomic_stands w h) (
    tt))))))))))))

pub decoded_stands : (w : ℕ) → w < 2 ^ 32 → IfSome (decode_of w) (Stands w)
decoded_stands w h = rw (decoded_by_opcode w h) (by_opcode_stands w h)

pub one_word : (w : ℕ) (i : Instr) → w < 2 ^ 32 → decode_of w ≡ Some i → IsValid i × (encode_of i ≡ w)
one_word w i h e =
    let stands : IfSome (Some i) (Stands w) = subst (λ o. IfSome o (Stands w)) e (decoded_stands w h) in
    let this : StandsFor i w = stands in
    (this.valid, this.word)

pub IfSome-imp : {A : Type 0} (P Q : A → Type 0) (o : Option A) → IfSome o P → ((x : A) → P x → Q x) → IfSome o Q
IfSome-imp P Q None p h = tt
IfSome-imp P Q (Some x) p h = h x p

pub decoded_valid : (w : ℕ) → w < 2 ^ 32 → (o : Option Instr) → o ≡ by_opcode (field 0 7 w) w → IfSome o IsValid
decoded_valid w h o e = rw e (IfSome-imp (Stands w) IsValid (by_opcode (field 0 7 w) w) (by_opcode_stands w h) (λ i s. s.valid))
