-- The steps of an instruction: of the form of its mnemonic, and of its operands.
use Rattle.std.specs.Prelude.{ℕ, ◌+◌, ◌-◌, ◌*◌, ◌%◌, ◌^◌, Bool, ◌&&◌, nat_lt, List, [], ◌∷◌, map, ℤ, pos, negsuc}
use Rattle.std.specs.Prelude.{neg_ℤ, int_le, Option, Some, None, Ok, if◌then◌else◌}
use Rattle.std.specs.Int.{w32, cast_unsigned}
use Rattle.std.specs.Option.{option_map, option_and_then}
use Rattle.rv_decode.specs.declared.instructions.ImmOp.{ImmOp}
use Rattle.rv_decode.specs.declared.instructions.ImmOp.TheVariants.{Addi, Slti, Sltiu, Xori, Ori, Andi, Slli, Srli, Srai}
use Rattle.rv_decode.specs.declared.instructions.RegOp.TheVariants.{Sub, Sltu}
use Rattle.rv_decode.specs.declared.instructions.BranchOp.{BranchOp}
use Rattle.rv_decode.specs.declared.instructions.Instr.{Instr}
use Rattle.rv_decode.specs.declared.instructions.Instr.TheVariants as instr
use Rattle.litmus_model.specs.declared.parts.Part.{Part}
use Rattle.litmus_model.specs.declared.parts.Step.{Step}
use Rattle.litmus_model.specs.declared.parts.Step.TheVariants.{Plain, Branch, Jump}
use Rattle.litmus_model.specs.declared.test.Move.{Move}
use Rattle.litmus_model.specs.declared.test.Move.TheVariants.{Mv, Not, Neg, Seqz, Snez}
use Rattle.litmus_model.specs.declared.test.Form.{Form}
use Rattle.litmus_model.specs.declared.test.Form.TheVariants as form
use Rattle.litmus_model.specs.Refusing.{Judged, ◌>>=◌}
use Rattle.litmus_model.specs.declared.parts.Place.{Place}
use Rattle.litmus_model.specs.Operands.{register_operand, label_operand, number_operand, short_operand, memory_operand, set_operand}

abbrev pub plain : Instr → List Step
plain i = Plain i ∷ []

-- ---- operands, all of which an instruction needs

abbrev pub both : {A B C : Type 0} → (A → B → C) → Option A → Option B → Option C
both f a b = option_and_then (λ x. option_map (f x) b) a

abbrev pub all_three : {A B C D : Type 0} → (A → B → C → D) → Option A → Option B → Option C → Option D
all_three f a b c = option_and_then (λ x. both (f x) b c) a

-- ---- numbers

-- the low 12 bits of a word as a number that `addi` adds
unfoldable pub low_part : ℕ → ℤ
low_part v = if nat_lt (v % 4096) 2048 then pos (v % 4096) else neg_ℤ (pos (4096 - v % 4096))

-- what is left of the word: its low 12 bits are 0
unfoldable pub high_part : ℕ → ℕ
high_part v = let w = (v + 2048) % 2 ^ 32 in w - w % 4096

-- any word into a register: `lui` and `addi`, also where one would do
unfoldable pub load_number : ℕ → ℕ → List Instr
load_number rd v = instr.Lui rd (high_part v) ∷ instr.Immediate Addi rd rd (low_part v) ∷ []

-- `li`: `addi` alone where it suffices
unfoldable pub short_number : ℕ → ℤ → List Instr
short_number rd z =
    if int_le (negsuc 2047) z && int_le z (pos 2047) then instr.Immediate Addi rd 0 z ∷ []
    else load_number rd (cast_unsigned w32 z)

abbrev pub natural : ℤ → ℕ
natural z = cast_unsigned w32 z

-- the ranges of immediates: the amount of a shift, or 12 bits in two's complement
unfoldable pub immediate_operand : ImmOp → ℕ → List Part → Judged (Option ℤ)
immediate_operand Slli line parts = number_operand line (pos 0) (pos 31) parts
immediate_operand Srli line parts = number_operand line (pos 0) (pos 31) parts
immediate_operand Srai line parts = number_operand line (pos 0) (pos 31) parts
immediate_operand Addi line parts = short_operand line parts
immediate_operand Slti line parts = short_operand line parts
immediate_operand Sltiu line parts = short_operand line parts
immediate_operand Xori line parts = short_operand line parts
immediate_operand Ori line parts = short_operand line parts
immediate_operand Andi line parts = short_operand line parts

-- ---- what the operands make

unfoldable pub moved : Move → ℕ → ℕ → List Step
moved Mv rd rs = plain (instr.Immediate Addi rd rs (pos 0))
moved Not rd rs = plain (instr.Immediate Xori rd rs (negsuc 0))
moved Neg rd rs = plain (instr.Register Sub rd 0 rs)
moved Seqz rd rs = plain (instr.Immediate Sltiu rd rs (pos 1))
moved Snez rd rs = plain (instr.Register Sltu rd 0 rs)

abbrev pub branched : BranchOp → Bool → ℕ → ℕ → List ℕ → List Step
branched op turned a b label = if turned then Branch op b a label ∷ [] else Branch op a b label ∷ []

abbrev pub fenced : ℕ → ℕ → List Step
fenced before after = plain (instr.Fence 0 0 (16 * before + after))

-- an atomic instruction names its address alone
unfoldable pub without_offset : Place → Option ℕ
without_offset p = if int_le (pos 0) p.offset && int_le p.offset (pos 0) then Some p.register else None

-- the address of an atomic instruction, or none
unfoldable pub address_operand : ℕ → List Part → Judged (Option ℕ)
address_operand line parts = memory_operand line parts >>= (λ m. Ok (option_and_then without_offset m))

-- the steps of an instruction of this form with these operands; None where it has others
unfoldable pub form_steps : ℕ → Form → List (List Part) → Judged (Option (List Step))
form_steps line (form.Registers op) (a ∷ b ∷ c ∷ []) =
    Ok (all_three (λ rd rs1 rs2. plain (instr.Register op rd rs1 rs2)) (register_operand a) (register_operand b) (register_operand c))
form_steps line (form.Immediate op) (a ∷ b ∷ c ∷ []) =
    immediate_operand op line c >>= (λ n.
    Ok (all_three (λ rd rs1 imm. plain (instr.Immediate op rd rs1 imm)) (register_operand a) (register_operand b) n))
form_steps line form.Upper (a ∷ b ∷ []) =
    number_operand line (pos 0) (pos 1048575) b >>= (λ n.
    Ok (both (λ rd imm. plain (instr.Lui rd (4096 * natural imm))) (register_operand a) n))
form_steps line form.Number (a ∷ b ∷ []) =
    number_operand line (negsuc 2147483647) (pos 4294967295) b >>= (λ n.
    Ok (both (λ rd z. map Plain (short_number rd z)) (register_operand a) n))
form_steps line (form.Load op) (a ∷ b ∷ []) =
    memory_operand line b >>= (λ m.
    Ok (both (λ rd (p : Place). plain (instr.Load op rd p.register p.offset)) (register_operand a) m))
form_steps line (form.Store op) (a ∷ b ∷ []) =
    memory_operand line b >>= (λ m.
    Ok (both (λ rs2 (p : Place). plain (instr.Store op p.register rs2 p.offset)) (register_operand a) m))
form_steps line (form.Branch op turned) (a ∷ b ∷ c ∷ []) =
    Ok (all_three (branched op turned) (register_operand a) (register_operand b) (label_operand c))
form_steps line (form.ZeroBranch op turned) (a ∷ b ∷ []) =
    Ok (both (λ rs label. branched op turned rs 0 label) (register_operand a) (label_operand b))
form_steps line form.Jump (a ∷ []) = Ok (option_map (λ label. Jump label ∷ []) (label_operand a))
form_steps line (form.Move m) (a ∷ b ∷ []) = Ok (both (moved m) (register_operand a) (register_operand b))
form_steps line form.Nothing [] = Ok (Some (plain (instr.Immediate Addi 0 0 (pos 0))))
form_steps line form.Fence [] = Ok (Some (fenced 15 15))
form_steps line form.Fence (a ∷ b ∷ []) = Ok (both fenced (set_operand a) (set_operand b))
form_steps line (form.FixedFence bits) [] = Ok (Some (plain (instr.Fence 0 0 bits)))
form_steps line (form.LoadReserved o) (a ∷ b ∷ []) =
    address_operand line b >>= (λ m. Ok (both (λ rd rs1. plain (instr.Lr rd rs1 o.aq o.rl)) (register_operand a) m))
form_steps line (form.StoreConditional o) (a ∷ b ∷ c ∷ []) =
    address_operand line c >>= (λ m.
    Ok (all_three (λ rd rs2 rs1. plain (instr.Sc rd rs1 rs2 o.aq o.rl)) (register_operand a) (register_operand b) m))
form_steps line (form.Amo op o) (a ∷ b ∷ c ∷ []) =
    address_operand line c >>= (λ m.
    Ok (all_three (λ rd rs2 rs1. plain (instr.Amo op rd rs1 rs2 o.aq o.rl)) (register_operand a) (register_operand b) m))
form_steps line f operands = Ok None
