-- What a mnemonic says: the form of its instruction.
use Rattle.std.specs.Prelude.{ℕ, Bool, true, false, not, ◌||◌, nat_eq, bytes_eq, codes, List, [], ◌∷◌, length, take}
use Rattle.std.specs.Prelude.{drop, take_while, Option, Some, None, Ok, if◌then◌else◌}
use Rattle.std.specs.List.{list_any}
use Rattle.std.specs.Option.{option_or, option_map, option_and_then, option_map_or}
use Rattle.rv_decode.specs.declared.instructions.BranchOp.TheVariants.{Beq, Bne, Blt, Bge, Bltu, Bgeu}
use Rattle.rv_decode.specs.declared.instructions.LoadOp.TheVariants.{Lb, Lh, Lw, Lbu, Lhu}
use Rattle.rv_decode.specs.declared.instructions.StoreOp.TheVariants.{Sb, Sh, Sw}
use Rattle.rv_decode.specs.declared.instructions.ImmOp.TheVariants.{Addi, Slti, Sltiu, Xori, Ori, Andi, Slli, Srli, Srai}
use Rattle.rv_decode.specs.declared.instructions.RegOp.TheVariants.{Add, Sub, Sll, Slt, Sltu, Xor, Srl, Sra, Or, And}
use Rattle.rv_decode.specs.declared.instructions.AmoOp.TheVariants.{Add as AmoAdd, Swap as AmoSwap, Xor as AmoXor}
use Rattle.rv_decode.specs.declared.instructions.AmoOp.TheVariants.{Or as AmoOr, And as AmoAnd, Min as AmoMin}
use Rattle.rv_decode.specs.declared.instructions.AmoOp.TheVariants.{Max as AmoMax, Minu as AmoMinu, Maxu as AmoMaxu}
use Rattle.litmus_model.specs.declared.test.Orders.{Orders}
use Rattle.litmus_model.specs.declared.test.Move.TheVariants.{Mv, Not, Neg, Seqz, Snez}
use Rattle.litmus_model.specs.declared.test.Form.{Form}
use Rattle.litmus_model.specs.declared.test.Form.TheVariants.{Registers, Immediate, Upper, Number, Load, Store}
use Rattle.litmus_model.specs.declared.test.Form.TheVariants.{Branch, ZeroBranch, Jump, Move, Nothing, Fence}
use Rattle.litmus_model.specs.declared.test.Form.TheVariants.{FixedFence, LoadReserved, StoreConditional, Amo}
use Rattle.litmus_model.specs.declared.refusal.Fault.TheVariants.{SixtyFourBits, UnknownInstruction}
use Rattle.litmus_model.specs.Refusing.{Judged, refused}

-- a row of a table: a name, and what it stands for
pub record Named (A : Type 0) : Type 0 where
  pub name : List ℕ
  pub meaning : A

abbrev pub row : {A : Type 0} → List ℕ → A → Named A
row name meaning = record { name = name; meaning = meaning }

-- what the first row with this name says
abbrev pub meaning_in : {A : Type 0} → List (Named A) → List ℕ → Option A
meaning_in [] w = None
meaning_in (r ∷ rs) w = if bytes_eq w r.name then Some r.meaning else meaning_in rs w

-- ---- instructions of one word

unfoldable pub plain_rows : List (Named Form)
plain_rows =
    row (codes "add") (Registers Add) ∷ row (codes "sub") (Registers Sub) ∷ row (codes "sll") (Registers Sll) ∷
    row (codes "slt") (Registers Slt) ∷ row (codes "sltu") (Registers Sltu) ∷ row (codes "xor") (Registers Xor) ∷
    row (codes "srl") (Registers Srl) ∷ row (codes "sra") (Registers Sra) ∷ row (codes "or") (Registers Or) ∷
    row (codes "and") (Registers And) ∷
    row (codes "addi") (Immediate Addi) ∷ row (codes "slti") (Immediate Slti) ∷ row (codes "sltiu") (Immediate Sltiu) ∷
    row (codes "xori") (Immediate Xori) ∷ row (codes "ori") (Immediate Ori) ∷ row (codes "andi") (Immediate Andi) ∷
    row (codes "slli") (Immediate Slli) ∷ row (codes "srli") (Immediate Srli) ∷ row (codes "srai") (Immediate Srai) ∷
    row (codes "lui") Upper ∷ row (codes "li") Number ∷
    row (codes "lb") (Load Lb) ∷ row (codes "lh") (Load Lh) ∷ row (codes "lw") (Load Lw) ∷
    row (codes "lbu") (Load Lbu) ∷ row (codes "lhu") (Load Lhu) ∷
    row (codes "sb") (Store Sb) ∷ row (codes "sh") (Store Sh) ∷ row (codes "sw") (Store Sw) ∷
    row (codes "mv") (Move Mv) ∷ row (codes "not") (Move Not) ∷ row (codes "neg") (Move Neg) ∷
    row (codes "seqz") (Move Seqz) ∷ row (codes "snez") (Move Snez) ∷ row (codes "nop") Nothing ∷ []

-- a branch if less is one if greater with its registers exchanged
unfoldable pub jump_rows : List (Named Form)
jump_rows =
    row (codes "beq") (Branch Beq false) ∷ row (codes "bne") (Branch Bne false) ∷
    row (codes "blt") (Branch Blt false) ∷ row (codes "bge") (Branch Bge false) ∷
    row (codes "bltu") (Branch Bltu false) ∷ row (codes "bgeu") (Branch Bgeu false) ∷
    row (codes "bgt") (Branch Blt true) ∷ row (codes "ble") (Branch Bge true) ∷
    row (codes "bgtu") (Branch Bltu true) ∷ row (codes "bleu") (Branch Bgeu true) ∷
    row (codes "beqz") (ZeroBranch Beq false) ∷ row (codes "bnez") (ZeroBranch Bne false) ∷
    row (codes "bltz") (ZeroBranch Blt false) ∷ row (codes "bgez") (ZeroBranch Bge false) ∷
    row (codes "bgtz") (ZeroBranch Blt true) ∷ row (codes "blez") (ZeroBranch Bge true) ∷ row (codes "j") Jump ∷ []

-- `fence.tso` has the mode 8 and orders reads and writes; `fence.i` is a fence that orders nothing, as no code is written
unfoldable pub fence_rows : List (Named Form)
fence_rows =
    row (codes "fence") Fence ∷ row (codes "fence.tso") (FixedFence 0x833) ∷ row (codes "fence.i") (FixedFence 0) ∷ []

-- ---- instructions of memory that are atomic: a name, `.w`, and orders

abbrev pub orders : Bool → Bool → Orders
orders aq rl = record { aq = aq; rl = rl }

unfoldable pub order_rows : List (Named Orders)
order_rows =
    row [] (orders false false) ∷ row (codes ".aq") (orders true false) ∷ row (codes ".rl") (orders false true) ∷
    row (codes ".aqrl") (orders true true) ∷ row (codes ".aq.rl") (orders true true) ∷ []

unfoldable pub atomic_rows : List (Named (Orders → Form))
atomic_rows =
    row (codes "lr") LoadReserved ∷ row (codes "sc") StoreConditional ∷
    row (codes "amoswap") (Amo AmoSwap) ∷ row (codes "amoadd") (Amo AmoAdd) ∷ row (codes "amoxor") (Amo AmoXor) ∷
    row (codes "amoand") (Amo AmoAnd) ∷ row (codes "amoor") (Amo AmoOr) ∷ row (codes "amomin") (Amo AmoMin) ∷
    row (codes "amomax") (Amo AmoMax) ∷ row (codes "amominu") (Amo AmoMinu) ∷ row (codes "amomaxu") (Amo AmoMaxu) ∷ []

-- what is before the first full stop
abbrev pub stem : List ℕ → List ℕ
stem w = take_while (λ b. not (nat_eq b 46)) w

abbrev pub behind_stem : List ℕ → List ℕ
behind_stem w = drop (length (stem w)) w

-- an atomic instruction of words
unfoldable pub atomic_form : List ℕ → Option Form
atomic_form w =
    if bytes_eq (take 2 (behind_stem w)) (codes ".w") then
    option_and_then (λ (form : Orders → Form). option_map form (meaning_in order_rows (drop 2 (behind_stem w))))
    (meaning_in atomic_rows (stem w))
    else None

-- ---- what other machines have

unfoldable pub wide_names : List (List ℕ)
wide_names =
    codes "ld" ∷ codes "sd" ∷ codes "lwu" ∷ codes "addiw" ∷ codes "addw" ∷ codes "subw" ∷ codes "slliw" ∷ codes "srliw" ∷
    codes "sraiw" ∷ codes "sllw" ∷ codes "srlw" ∷ codes "sraw" ∷ codes "negw" ∷ codes "sext.w" ∷ []

-- an atomic instruction of two words, whatever stands behind `.d`
abbrev pub is_wide_atomic : List ℕ → Bool
is_wide_atomic w =
    option_map_or (λ form. bytes_eq (stem (drop 1 (behind_stem w))) (codes "d")) (meaning_in atomic_rows (stem w)) false

unfoldable pub is_wide : List ℕ → Bool
is_wide w = list_any (bytes_eq w) wide_names || is_wide_atomic w

-- ---- all of them

unfoldable pub form_in_tables : List ℕ → Option Form
form_in_tables w =
    option_or (meaning_in plain_rows w)
    (option_or (meaning_in jump_rows w) (option_or (meaning_in fence_rows w) (atomic_form w)))

unfoldable pub form_of : ℕ → List ℕ → Judged Form
form_of line w =
    option_map_or Ok (form_in_tables w) (if is_wide w then refused line SixtyFourBits else refused line UnknownInstruction)
