-- What a hart of 32-bit numbers does next is of such numbers, and so is its halt.
use Rattle.std.proofs.Common.{◌≡◌, ℕ, zero, suc, ◌+◌, ◌*◌, ◌/◌, ◌%◌, ◌^◌, ◌≤◌, Bool, true, false, cond, List, [], ◌∷◌, Option, Some, None, refl, ◌∙◌, arith}
use Rattle.std.specs.Prelude.{nat_eq, IfSome, slice_index, slice_set}
use Rattle.std.specs.List.{AllByRecursion}
use Rattle.std.proofs.lemmas.Bool.{ne_eqb}
use Rattle.std.specs.Int.{w32, cast_unsigned}
use Rattle.value_laws.specs.DdmTypes.declared.operations.HaltCause.TheVariants.{Exit, UnknownCall, MisalignedAccess, MisalignedTarget, StoreOutside}
use Rattle.value_laws.specs.DdmTypes.CodeMap.{CodeWord, word_at}
use Rattle.value_laws.specs.DdmTypes.ItemTable.{ItemTable, item_at, row_at}
use Rattle.value_laws.specs.RvDecode.declared.instructions.Instr.{Instr}
use Rattle.value_laws.specs.RvDecode.declared.instructions.Instr.TheVariants.{Lui, Auipc, Jal, Jalr, Branch, Load, Store, Immediate, Register, Fence, Ecall, Ebreak, Lr, Sc, Amo}
use Rattle.value_laws.specs.RvDecode.Table.{Row, decode_by, decode_of, field, fits, signed, table}
use Rattle.value_laws.specs.FlatModel.Hart.{Access, Action, Halts, Computes, Puts, Loads, Stores, Reserves, StoresIfReserved, Changes, HartValue, access_in, action_of, aligned, decoded_action, fetched_action, instr_action, is_taken, jump, load_at, load_found, next_pc, offset_by, operation, register, store_at, store_found, with_register, written}
use Rattle.value_laws.specs.Values.{IsWord, AreWords, CauseHasForm, HartHasForm, CodeHasForm}
use Rattle.value_laws.proofs.Words.{one_of, register_words, signed_immediate, word-at, words-set, wraps}

-- ---- a hart

behind-zero : (xs : List ℕ) (k v : ℕ) → slice_index (slice_set xs (suc k) v) 0 ≡ slice_index xs 0
behind-zero [] k v = refl
behind-zero (x ∷ xs) k v = refl

module _ (h : HartValue) (has : HartHasForm h) where
  register-word : (r : ℕ) → IsWord (register h r)
  register-word r = one_of (nat_eq r 0) 0 (slice_index h.registers r) (omega arith) (word-at h.registers r has.registers.each)

  with_register-words : (r v : ℕ) → IsWord v → AreWords 32 (with_register h r v).registers
  with_register-words r v small = by (nat_eq r 0) where
    by : (b : Bool) → AreWords 32 (cond b h.registers (slice_set h.registers r v))
    by true = has.registers
    by false = words-set 32 h.registers r v has.registers small

  with_register-zero : (r v : ℕ) → slice_index (with_register h r v).registers 0 ≡ 0
  with_register-zero zero v = has.zero
  with_register-zero (suc r) v =
      let other : nat_eq (suc r) 0 ≡ false = ne_eqb (suc r) 0 (λ e. omega arith) in
      rw other (behind-zero h.registers r v ∙ has.zero)

  pub written-form : (r v : ℕ) → IsWord v → HartHasForm (written h r v)
  written-form r v small = record { registers = with_register-words r v small; zero = with_register-zero r v; pc = wraps (h.pc + 4); halt = has.halt }

  pub advanced-form : HartHasForm (record h { pc = next_pc h })
  advanced-form = record { registers = has.registers; zero = has.zero; pc = wraps (h.pc + 4); halt = has.halt }

  at-form : (target : ℕ) → IsWord target → HartHasForm (record h { pc = target })
  at-form target small = record { registers = has.registers; zero = has.zero; pc = small; halt = has.halt }

-- ---- what an instruction does

abbrev pub ActionHasForm : Action → Type 0
ActionHasForm (Halts cause) = CauseHasForm cause
ActionHasForm (Computes after) = HartHasForm after
ActionHasForm (Puts byte after) = (byte ≤ 255) × HartHasForm after
ActionHasForm (Loads op rd a) = IsWord a.address
ActionHasForm (Stores op v a) = IsWord v × IsWord a.address
ActionHasForm (Reserves rd a) = IsWord a.address
ActionHasForm (StoresIfReserved rd v a) = IsWord v × IsWord a.address
ActionHasForm (Changes op rd v a) = IsWord v × IsWord a.address

abbrev HasSmallImmediate : Instr → Type 0
HasSmallImmediate (Lui rd imm) = IsWord imm
HasSmallImmediate (Immediate op rd rs1 imm) = IsWord (cast_unsigned w32 imm)
HasSmallImmediate i = Unit {0}

module _ (items : ItemTable) where
  aligned-form : (bytes a : ℕ) (action : ℕ → Action) → ((b : ℕ) → IsWord b → ActionHasForm (action b)) → IsWord a → ActionHasForm (aligned bytes a action)
  aligned-form bytes a action is small = by (nat_eq (a % bytes) 0) where
    by : (b : Bool) → ActionHasForm (cond b (action a) (Halts (MisalignedAccess a)))
    by true = is a small
    by false = small

  load-form : (action : Access → Action) → ((a : Access) → IsWord a.address → ActionHasForm (action a)) → (a : ℕ) → IsWord a → ActionHasForm (load_at items action a)
  load-form action is a small = by (item_at items a) where
    by : (o : Option ℕ) → ActionHasForm (load_found items action a o)
    by None = small
    by (Some x) = is (access_in items a x) small

  store-form : (action : Access → Action) → ((a : Access) → IsWord a.address → ActionHasForm (action a)) → (a : ℕ) → IsWord a → ActionHasForm (store_at items action a)
  store-form action is a small = by (item_at items a) where
    if_writable : (x : ℕ) (b : Bool) → ActionHasForm (cond b (action (access_in items a x)) (Halts (StoreOutside a)))
    if_writable x true = is (access_in items a x) small
    if_writable x false = small

    by : (o : Option ℕ) → ActionHasForm (store_found items action a o)
    by None = small
    by (Some x) = if_writable x (row_at items x).writable

  jump-form : (h : HartValue) → HartHasForm h → (target : ℕ) → IsWord target → ActionHasForm (jump h target)
  jump-form h has target small = by (nat_eq (target % 4) 0) where
    by : (b : Bool) → ActionHasForm (cond b (Computes (record h { pc = target })) (Halts (MisalignedTarget target)))
    by true = at-form h has target small
    by false = small

  module _ (h : HartValue) (has : HartHasForm h) where
    linked-form : (rd : ℕ) → HartHasForm (with_register h rd (next_pc h))
    linked-form rd = record { registers = with_register-words h has rd (next_pc h) (wraps (h.pc + 4)); zero = with_register-zero h has rd (next_pc h); pc = has.pc; halt = has.halt }

    branch-form : (target : ℕ) → IsWord target → (taken : Bool) → ActionHasForm (cond taken (jump h target) (Computes (record h { pc = next_pc h })))
    branch-form target small false = advanced-form h has
    branch-form target small true = jump-form h has target small

    call-form : (number argument : ℕ) → IsWord number → IsWord argument → ActionHasForm (cond (nat_eq number 93) (Halts (Exit argument)) (cond (nat_eq number 1000) (Puts (argument % 256) (record h { pc = next_pc h })) (Halts (UnknownCall number))))
    call-form number argument called given = by (nat_eq number 93) (nat_eq number 1000) where
      by : (b c : Bool) → ActionHasForm (cond b (Halts (Exit argument)) (cond c (Puts (argument % 256) (record h { pc = next_pc h })) (Halts (UnknownCall number))))
      by true c = given
      by false true = (omega arith, advanced-form h has)
      by false false = called

    instr-form : (i : Instr) → HasSmallImmediate i → ActionHasForm (instr_action items h i)
    unfolding instr_action
    instr-form (Lui rd imm) small = written-form h has rd imm small
    instr-form (Auipc rd imm) small = written-form h has rd _ (wraps (h.pc + imm))
    instr-form (Immediate op rd rs1 imm) small = written-form h has rd _ (register_words (operation op) (register h rs1) (cast_unsigned w32 imm) (register-word h has rs1) small)
    instr-form (Register op rd rs1 rs2) small = written-form h has rd _ (register_words op (register h rs1) (register h rs2) (register-word h has rs1) (register-word h has rs2))
    instr-form (Jal rd offset) small = jump-form (with_register h rd (next_pc h)) (linked-form rd) (offset_by h.pc offset) (wraps (h.pc + cast_unsigned w32 offset))
    instr-form (Jalr rd rs1 offset) small =
        let sum = wraps (register h rs1 + cast_unsigned w32 offset) in
        jump-form (with_register h rd (next_pc h)) (linked-form rd) (offset_by (register h rs1) offset / 2 * 2) (omega (arith, sum))
    instr-form (Branch op rs1 rs2 offset) small = branch-form (offset_by h.pc offset) (wraps (h.pc + cast_unsigned w32 offset)) (is_taken op (register h rs1) (register h rs2))
    instr-form (Load op rd rs1 offset) small = aligned-form _ (offset_by (register h rs1) offset) (load_at items (Loads op rd)) (load-form (Loads op rd) (λ a is. is)) (wraps (register h rs1 + cast_unsigned w32 offset))
    instr-form (Store op rs1 rs2 offset) small = aligned-form _ (offset_by (register h rs1) offset) (store_at items (Stores op (register h rs2))) (store-form (Stores op (register h rs2)) (λ a is. (register-word h has rs2, is))) (wraps (register h rs1 + cast_unsigned w32 offset))
    instr-form (Fence rd rs1 imm) small = advanced-form h has
    instr-form Ecall small = call-form (register h 17) (register h 10) (register-word h has 17) (register-word h has 10)
    instr-form Ebreak small = tt
    instr-form (Lr rd rs1 aq rl) small = aligned-form 4 (register h rs1) (load_at items (Reserves rd)) (load-form (Reserves rd) (λ a is. is)) (register-word h has rs1)
    instr-form (Sc rd rs1 rs2 aq rl) small = aligned-form 4 (register h rs1) (store_at items (StoresIfReserved rd (register h rs2))) (store-form (StoresIfReserved rd (register h rs2)) (λ a is. (register-word h has rs2, is))) (register-word h has rs1)
    instr-form (Amo op rd rs1 rs2 aq rl) small = aligned-form 4 (register h rs1) (store_at items (Changes op rd (register h rs2))) (store-form (Changes op rd (register h rs2)) (λ a is. (register-word h has rs2, is))) (register-word h has rs1)

-- ---- the immediates of the instructions that words are

abbrev MakesSmall : Row → Type 0
MakesSmall row = (w : ℕ) → HasSmallImmediate (row.makes w)

upper : (w : ℕ) → IsWord (field 12 20 w * 2 ^ 12)
upper w = omega arith

immediate : (w : ℕ) → IsWord (cast_unsigned w32 (signed 12 (field 20 12 w)))
immediate w = signed_immediate (field 20 12 w) (omega arith)

amount : (w : ℕ) → IsWord (field 20 5 w)
amount w = omega arith

none : (w : ℕ) → Unit {0}
none w = tt

rows_small : AllByRecursion MakesSmall table
unfolding table
rows_small = (upper, (none, (none, (none, (none, (none, (none, (none, (none, (none, (none, (none, (none, (none, (none, (none, (none, (none, (immediate, (immediate, (immediate, (immediate, (immediate, (immediate, (amount, (amount, (amount, (none, (none, (none, (none, (none, (none, (none, (none, (none, (none, (none, (none, (none, (none, (none, (none, (none, (none, (none, (none, (none, (none, (none, (none, tt)))))))))))))))))))))))))))))))))))))))))))))))))))

decoded_small : (rows : List Row) (w : ℕ) → AllByRecursion MakesSmall rows → IfSome (decode_by rows w) HasSmallImmediate
unfolding decode_by
decoded_small [] w all = tt
decoded_small (row ∷ rows) w all = by (fits w row) (decoded_small rows w all.1) where
  by : (b : Bool) → IfSome (decode_by rows w) HasSmallImmediate → IfSome (cond b (Some (row.makes w)) (decode_by rows w)) HasSmallImmediate
  by true rest = all.0 w
  by false rest = rest

-- ---- the next instruction

code-word : (code : List CodeWord) (pc : ℕ) → AllByRecursion CodeHasForm code → IfSome (word_at code pc) IsWord
unfolding word_at
code-word [] pc all = tt
code-word (e ∷ es) pc all = by (nat_eq e.address pc) (code-word es pc all.1) where
  by : (b : Bool) → IfSome (word_at es pc) IsWord → IfSome (cond b (Some e.word) (word_at es pc)) IsWord
  by true rest = all.0
  by false rest = rest

pub action-form : (code : List CodeWord) (items : ItemTable) (h : HartValue) → AllByRecursion CodeHasForm code → HartHasForm h → ActionHasForm (action_of code items h)
unfolding action_of decode_of
action-form code items h words has = by_word (word_at code h.pc) (code-word code h.pc words) where
  by_instr : (w : ℕ) → IsWord w → (o : Option Instr) → IfSome o HasSmallImmediate → ActionHasForm (decoded_action items h w o)
  by_instr w word None small = word
  by_instr w word (Some i) small = instr-form items h has i small

  by_word : (o : Option ℕ) → IfSome o IsWord → ActionHasForm (fetched_action items h o)
  by_word None word = has.pc
  by_word (Some w) word = by_instr w word (decode_by table w) (decoded_small table w rows_small)
