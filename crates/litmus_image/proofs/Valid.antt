-- All instructions of an image are ones that a word can be.
use Rattle.std.proofs.Common.{subst, ◌≡◌, ℕ, zero, suc, ◌+◌, ◌-◌, ◌*◌, ◌%◌, ◌^◌, ◌<◌, ◌≤◌, List, [], ◌∷◌, ◌++◌, length, map, get_or, refl, sym, arith}
use Rattle.std.specs.Prelude.{Bool, true, false, nat_le, nat_lt, nat_eq, pos, negsuc, neg_ℤ, All, if◌then◌else◌}
use Rattle.std.specs.List.{flat_map, position_or_len, range_with_len}
use Rattle.std.proofs.lemmas.Bool.Decides.{nat_tests}
use Rattle.std.proofs.lemmas.List.{get_or_past}
use Rattle.std.proofs.lemmas.List.FromFn.{get_or-map-range_with_len, length-map-range_with_len}
use Rattle.std.proofs.lemmas.List.Elements.{All-nil, All-cons, All-append, All-filter}
use Rattle.rv_decode.specs.declared.instructions.ImmOp.TheVariants.{Addi, Slli}
use Rattle.rv_decode.specs.declared.instructions.LoadOp.TheVariants.{Lw}
use Rattle.rv_decode.specs.declared.instructions.RegOp.TheVariants.{Add}
use Rattle.rv_decode.specs.declared.instructions.BranchOp.TheVariants.{Bne}
use Rattle.rv_decode.specs.declared.instructions.Instr.{Instr}
use Rattle.rv_decode.specs.declared.instructions.Instr.TheVariants as instr
use Rattle.rv_decode.specs.Valid.{FitsBits, IsEven, IsUpper, IsValid}
use Rattle.litmus_model.specs.declared.parts.Value.{Value}
use Rattle.litmus_model.specs.declared.parts.Value.TheVariants.{Number, Address}
use Rattle.litmus_model.specs.declared.parts.Target.TheVariants.{Register}
use Rattle.litmus_model.specs.declared.parts.Step.{Step}
use Rattle.litmus_model.specs.declared.parts.Step.TheVariants.{Label, Plain, Branch, Jump}
use Rattle.litmus_model.specs.declared.parts.PlacedStep.{PlacedStep}
use Rattle.litmus_model.specs.declared.test.Runs.{Runs}
use Rattle.litmus_model.specs.declared.test.Runs.TheVariants.{OfSeeds, All as AllRuns}
use Rattle.litmus_model.specs.Steps.{high_part, load_number, low_part}
use Rattle.litmus_model.specs.Init.{is_given}
use Rattle.litmus_model.specs.Program.{steps_of}
use Rattle.litmus_model.specs.Image.{address_of, block_of, blocks_of, count_of, distance, first_value, is_dirty, is_label_of, jump_by_number, label_place, leaf_word, own_code, prologue, resolved, resolved_from, setting, setting_one, waiting, warming, warming_load, word_of}
use Rattle.litmus_model.specs.Sound.{IsSound, IsSoundStep, instruction_count}
use Rattle.litmus_model.specs.Test.{Test}
use Rattle.litmus_image.specs.Made.{all_of, leaf_words}

-- ---- numbers in registers

upper : (w : ℕ) → w < 2 ^ 32 → IsUpper (w - w % 4096)
upper w small = (omega (arith, small), omega arith)

high_upper : (v : ℕ) → IsUpper (high_part v)
unfolding high_part
high_upper v = upper ((v + 2048) % 2 ^ 32) (omega arith)

neg_fits : (m : ℕ) → m ≤ 2048 → FitsBits 12 (neg_ℤ (pos m))
neg_fits zero h = omega arith
neg_fits (suc m) h = omega (arith, h)

low_case : (x : ℕ) (b : Bool) → nat_lt x 2048 ≡ b → FitsBits 12 (if b then pos x else neg_ℤ (pos (4096 - x)))
low_case x true e = grind (arith, nat_tests)
low_case x false e = let large : 2048 ≤ x = grind (arith, nat_tests) in neg_fits (4096 - x) (omega (arith, large))

low_fits : (v : ℕ) → FitsBits 12 (low_part v)
unfolding low_part
low_fits v = low_case (v % 4096) (nat_lt (v % 4096) 2048) refl

load_valid : (rd v : ℕ) → rd < 32 → All IsValid (load_number rd v)
unfolding load_number
load_valid rd v small =
    All-cons IsValid (instr.Lui rd (high_part v)) (instr.Immediate Addi rd rd (low_part v) ∷ []) (small, high_upper v)
    (All-cons IsValid (instr.Immediate Addi rd rd (low_part v)) [] (small, small, low_fits v) (All-nil IsValid))

-- ---- what comes before a thread's own instructions

flat_valid : (f : ℕ → List Instr) (a n most : ℕ) → a + n ≤ most → ((r : ℕ) → r < most → All IsValid (f r)) → All IsValid (flat_map f (range_with_len a n))
flat_valid f a zero most room h = All-nil IsValid
flat_valid f a (suc n) most room h =
    All-append IsValid (f a) (flat_map f (range_with_len (a + 1) n)) (h a (omega (arith, room))) (flat_valid f (a + 1) n most (omega (arith, room)) h)

valid_warming_load : (item_bytes : ℕ) (test : Test) (value : Value) → All IsValid (warming_load item_bytes test value)
unfolding warming_load
valid_warming_load item_bytes test (Number n) = All-nil IsValid
valid_warming_load item_bytes test (Address name) =
    All-append IsValid (load_number 10 (address_of test item_bytes name)) (instr.Load Lw 0 10 (pos 0) ∷ [])
    (load_valid 10 (address_of test item_bytes name) (omega arith))
    (All-cons IsValid (instr.Load Lw 0 10 (pos 0)) [] (omega arith, omega arith, omega arith) (All-nil IsValid))

waiting_valid : All IsValid waiting
waiting_valid =
    All-cons IsValid (instr.Immediate Addi 10 0 (pos 250)) (instr.Immediate Addi 10 10 (negsuc 0) ∷ instr.Branch Bne 10 0 (negsuc 3) ∷ []) (omega arith, omega arith, omega arith)
    (All-cons IsValid (instr.Immediate Addi 10 10 (negsuc 0)) (instr.Branch Bne 10 0 (negsuc 3) ∷ []) (omega arith, omega arith, omega arith)
    (All-cons IsValid (instr.Branch Bne 10 0 (negsuc 3)) [] (omega arith, omega arith, omega arith, omega arith) (All-nil IsValid)))

chosen : (b c : Bool) (is : List Instr) → All IsValid is → All IsValid (if b then is else (if c then is else []))
chosen true c is h = h
chosen false true is h = h
chosen false false is h = All-nil IsValid

valid_setting_one : (test : Test) (item_bytes k r : ℕ) → r < 32 → All IsValid (setting_one test item_bytes k r)
unfolding setting_one
valid_setting_one test item_bytes k r small =
    chosen (is_dirty r) (is_given test.init (Register k r)) (load_number r (word_of test item_bytes (first_value test (Register k r))))
    (load_valid r (word_of test item_bytes (first_value test (Register k r))) small)

valid_setting : (test : Test) (item_bytes k : ℕ) → All IsValid (setting test item_bytes k)
unfolding setting
valid_setting test item_bytes k = flat_valid (setting_one test item_bytes k) 0 32 32 (omega arith) (valid_setting_one test item_bytes k)

valid_warming : (test : Test) (item_bytes k : ℕ) → All IsValid (warming test item_bytes k)
unfolding warming
valid_warming test item_bytes k =
    flat_valid (λ r. warming_load item_bytes test (first_value test (Register k r))) 0 32 32 (omega arith) (λ r small. valid_warming_load item_bytes test (first_value test (Register k r)))

valid_prologue : (runs : Runs) (test : Test) (item_bytes k : ℕ) → All IsValid (prologue runs test item_bytes k)
unfolding prologue
valid_prologue OfSeeds test item_bytes k =
    All-append IsValid (warming test item_bytes k ++ waiting) (setting test item_bytes k)
    (All-append IsValid (warming test item_bytes k) waiting (valid_warming test item_bytes k) waiting_valid) (valid_setting test item_bytes k)
valid_prologue AllRuns test item_bytes k = valid_setting test item_bytes k

-- ---- distances

distance_case : (from to most bits : ℕ) (b : Bool) → nat_le from to ≡ b → from ≤ most → to ≤ most → 4 * most < 2 ^ (bits - 1) → FitsBits bits (if b then pos (4 * (to - from)) else negsuc (4 * (from - to) - 1))
distance_case from to most bits true e f t room = omega (arith, f, t, room)
distance_case from to most bits false e f t room = omega (arith, f, t, room)

distance_fits : (from to most bits : ℕ) → from ≤ most → to ≤ most → 4 * most < 2 ^ (bits - 1) → FitsBits bits (distance from to)
unfolding distance
distance_fits from to most bits f t room = distance_case from to most bits (nat_le from to) refl f t room

even_case : (from to : ℕ) (b : Bool) → nat_le from to ≡ b → IsEven (if b then pos (4 * (to - from)) else negsuc (4 * (from - to) - 1))
even_case from to true e = omega arith
even_case from to false e = let more : to < from = grind (arith, nat_tests) in omega (arith, more)

distance_even : (from to : ℕ) → IsEven (distance from to)
unfolding distance
distance_even from to = even_case from to (nat_le from to) refl

-- ---- a thread's own instructions

place_case : (b : Bool) (one place count : ℕ) → place ≤ count → (if b then 0 else one + place) ≤ one + count
place_case true one place count h = omega arith
place_case false one place count h = omega (arith, h)

near_label : (name : List ℕ) (ss : List PlacedStep) → label_place name ss ≤ instruction_count ss
unfolding label_place instruction_count
near_label name [] = omega arith
near_label name (s ∷ ss) = place_case (is_label_of name s.step) (count_of s.step) (label_place name ss) (instruction_count ss) (near_label name ss)

valid_resolved : (steps : List PlacedStep) (at : ℕ) (s : Step) → instruction_count steps ≤ 512 → at ≤ 512 → IsSoundStep s → All IsValid (resolved steps at s)
unfolding resolved
valid_resolved steps at (Label name) near here sound = All-nil IsValid
valid_resolved steps at (Plain i) near here sound = All-cons IsValid i [] sound (All-nil IsValid)
valid_resolved steps at (Branch op rs1 rs2 label) near here sound =
    let place : label_place label steps ≤ 512 = omega (arith, near_label label steps, near) in
    All-cons IsValid (instr.Branch op rs1 rs2 (distance at (label_place label steps))) []
    (sound.0, sound.1, distance_fits at (label_place label steps) 512 13 here place (omega arith), distance_even at (label_place label steps)) (All-nil IsValid)
valid_resolved steps at (Jump label) near here sound =
    let place : label_place label steps ≤ 512 = omega (arith, near_label label steps, near) in
    All-cons IsValid (instr.Jal 0 (distance at (label_place label steps))) []
    (omega arith, distance_fits at (label_place label steps) 512 21 here place (omega arith), distance_even at (label_place label steps)) (All-nil IsValid)

abbrev AreSound : List PlacedStep → Type 0
AreSound ss = All (λ (s : PlacedStep). IsSoundStep s.step) ss

first_sound : (s : PlacedStep) (ss : List PlacedStep) → AreSound (s ∷ ss) → IsSoundStep s.step
first_sound s ss sound = sound 0 s (omega arith)

others_sound : (s : PlacedStep) (ss : List PlacedStep) → AreSound (s ∷ ss) → AreSound ss
others_sound s ss sound = λ k d h. sound (suc k) d (omega (arith, h))

valid_own : (steps : List PlacedStep) (at : ℕ) (ss : List PlacedStep) → instruction_count steps ≤ 512 → at + instruction_count ss ≤ 512 → AreSound ss → All IsValid (resolved_from steps at ss)
unfolding resolved_from instruction_count
valid_own steps at [] near room sound = All-nil IsValid
valid_own steps at (s ∷ ss) near room sound =
    All-append IsValid (resolved steps at s.step) (resolved_from steps (at + count_of s.step) ss)
    (valid_resolved steps at s.step near (omega (arith, room)) (first_sound s ss sound))
    (valid_own steps (at + count_of s.step) ss near (omega (arith, room)) (others_sound s ss sound))

sound_steps : (k : ℕ) (program : List PlacedStep) → AreSound program → AreSound (steps_of k program)
unfolding steps_of
sound_steps k program sound = All-filter (λ (s : PlacedStep). nat_eq s.thread k) (λ (s : PlacedStep). IsSoundStep s.step) program sound

-- ---- blocks

valid_block : (runs : Runs) (test : Test) (item_bytes k : ℕ) → IsSound test → All IsValid (block_of runs test item_bytes k)
unfolding block_of
valid_block runs test item_bytes k sound =
    let steps = steps_of k test.program in
    let own = valid_own steps 0 steps (sound.near k) (omega (arith, sound.near k)) (sound_steps k test.program sound.steps) in
    All-append IsValid (prologue runs test item_bytes k ++ own_code steps) (instr.Ebreak ∷ [])
    (All-append IsValid (prologue runs test item_bytes k) (own_code steps) (valid_prologue runs test item_bytes k) own)
    (All-cons IsValid instr.Ebreak [] tt (All-nil IsValid))

valid_all : (runs : Runs) (test : Test) (item_bytes : ℕ) → IsSound test → (a n : ℕ) → All IsValid (all_of (map (block_of runs test item_bytes) (range_with_len a n)))
valid_all runs test item_bytes sound a zero = All-nil IsValid
valid_all runs test item_bytes sound a (suc n) =
    All-append IsValid (block_of runs test item_bytes a) (all_of (map (block_of runs test item_bytes) (range_with_len (a + 1) n)))
    (valid_block runs test item_bytes a sound) (valid_all runs test item_bytes sound (a + 1) n)

pub valid_blocks : (runs : Runs) (test : Test) (item_bytes : ℕ) → IsSound test → All IsValid (all_of (blocks_of runs test item_bytes))
unfolding blocks_of
valid_blocks runs test item_bytes sound = valid_all runs test item_bytes sound 0 test.threads

-- ---- the jumps to them

pub valid_jump : All IsValid jump_by_number
valid_jump =
    All-cons IsValid (instr.Immediate Slli 10 10 (pos 2)) (instr.Lui 11 0x10000 ∷ instr.Register Add 10 10 11 ∷ instr.Jalr 0 10 (pos 16) ∷ []) (omega arith, omega arith, omega arith)
    (All-cons IsValid (instr.Lui 11 0x10000) (instr.Register Add 10 10 11 ∷ instr.Jalr 0 10 (pos 16) ∷ []) (omega arith, (omega arith, refl))
    (All-cons IsValid (instr.Register Add 10 10 11) (instr.Jalr 0 10 (pos 16) ∷ []) (omega arith, omega arith, omega arith)
    (All-cons IsValid (instr.Jalr 0 10 (pos 16)) [] (omega arith, omega arith, omega arith) (All-nil IsValid))))

begin_case : (begins : List ℕ) (k : ℕ) (b : Bool) → nat_lt k (length begins) ≡ b → All (λ (begin : ℕ). begin ≤ 65536) begins → get_or begins k 0 ≤ 65536
begin_case begins k true e near = let inside : k < length begins = grind (arith, nat_tests) in near k 0 inside
begin_case begins k false e near = let past : length begins ≤ k = grind (arith, nat_tests) in rw (get_or_past begins k 0 past) (omega arith)

leaf_case : (leaf begin : ℕ) (b : Bool) → leaf ≤ 64 → begin ≤ 65536 → IsValid (if b then instr.Jal 0 (distance (4 + leaf) begin) else instr.Ebreak)
leaf_case leaf begin true small near =
    (omega arith, distance_fits (4 + leaf) begin 65536 21 (omega (arith, small)) near (omega arith), distance_even (4 + leaf) begin)
leaf_case leaf begin false small near = tt

valid_leaf : (places begins : List ℕ) (leaf : ℕ) → leaf ≤ 64 → All (λ (begin : ℕ). begin ≤ 65536) begins → IsValid (leaf_word places begins leaf)
unfolding leaf_word
valid_leaf places begins leaf small near =
    let k = position_or_len (nat_eq leaf) places in
    leaf_case leaf (get_or begins k 0) (nat_lt k (length places)) small (begin_case begins k (nat_lt k (length begins)) refl near)

pub valid_leaves : (places begins : List ℕ) (leaves : ℕ) → leaves ≤ 64 → All (λ (begin : ℕ). begin ≤ 65536) begins → All IsValid (leaf_words places begins leaves)
unfolding leaf_words
valid_leaves places begins leaves small near = λ k d h.
    let inside : k < leaves = omega (arith, h, length-map-range_with_len (leaf_word places begins) 0 leaves) in
    let is = get_or-map-range_with_len (leaf_word places begins) 0 leaves k k d inside (omega arith) in
    subst IsValid (sym is) (valid_leaf places begins k (omega (arith, inside, small)) near)

-- All pieces of the code are valid.
pub ruleset valid_pieces = (valid_jump, valid_leaves, valid_blocks)
