-- The image of a test for a tree: its threads as code for the leaves, and an item of memory for each location.
-- Letters: k is a thread.
use Rattle.std.specs.Prelude.{ℕ, ◌+◌, ◌-◌, ◌*◌, Bool, false, nat_eq, nat_lt, nat_le, bytes_eq, ℤ, pos, negsuc, List}
use Rattle.std.specs.Prelude.{[], ◌∷◌, ◌++◌, length, map, replicate, find, Option, Some, None, Result, Ok, Err}
use Rattle.std.specs.Prelude.{if◌then◌else◌}
use Rattle.std.specs.List.{flat_map, list_any, position_or_len, range_with_len, slice_index_or}
use Rattle.std.specs.Option.{option_map_or}
use Rattle.byteorder.specs.Endian.{little_bytes}
use Rattle.rv_decode.specs.declared.instructions.LoadOp.TheVariants.{Lw}
use Rattle.rv_decode.specs.declared.instructions.ImmOp.TheVariants.{Addi, Slli}
use Rattle.rv_decode.specs.declared.instructions.RegOp.TheVariants.{Add}
use Rattle.rv_decode.specs.declared.instructions.BranchOp.TheVariants.{Bne}
use Rattle.rv_decode.specs.declared.instructions.Instr.{Instr}
use Rattle.rv_decode.specs.declared.instructions.Instr.TheVariants as instr
use Rattle.rv_decode.specs.Encode.{encode_of}
use Rattle.elf_load.specs.TreeModel.Start.Sources.{SegmentValue}
use Rattle.elf_load.specs.Written.{written_image}
use Rattle.litmus_model.specs.declared.parts.Value.{Value}
use Rattle.litmus_model.specs.declared.parts.Value.TheVariants.{Number, Address}
use Rattle.litmus_model.specs.declared.parts.Target.{Target}
use Rattle.litmus_model.specs.declared.parts.Target.TheVariants.{Register, Location}
use Rattle.litmus_model.specs.declared.parts.Given.{Given}
use Rattle.litmus_model.specs.declared.parts.Step.{Step}
use Rattle.litmus_model.specs.declared.parts.Step.TheVariants.{Label, Plain, Branch, Jump}
use Rattle.litmus_model.specs.declared.parts.PlacedStep.{PlacedStep}
use Rattle.litmus_model.specs.declared.test.Runs.{Runs}
use Rattle.litmus_model.specs.declared.test.Runs.TheVariants.{OfSeeds, All}
use Rattle.litmus_model.specs.declared.refusal.ImageRefusal.{ImageRefusal}
use Rattle.litmus_model.specs.declared.refusal.ImageRefusal.TheVariants.{TooManyThreads, OtherPlaces, NoLeaf}
use Rattle.litmus_model.specs.Steps.{load_number}
use Rattle.litmus_model.specs.Init.{same_target, is_given}
use Rattle.litmus_model.specs.Program.{steps_of}
use Rattle.litmus_model.specs.Test.{Test}

-- ---- the leaves of the threads

-- the first place that is no leaf
unfoldable pub outside : ℕ → List ℕ → Option ℕ
outside leaves places = find (λ p. nat_le leaves p) places

abbrev pub judged_places : ℕ → ℕ → List ℕ → Result (List ℕ) ImageRefusal
judged_places threads leaves places =
    if nat_eq (length places) threads then option_map_or (λ p. Err (NoLeaf p)) (outside leaves places) (Ok places)
    else Err (OtherPlaces threads)

abbrev pub named_places : ℕ → ℕ → Option (List ℕ) → Result (List ℕ) ImageRefusal
named_places threads leaves None = Ok (range_with_len 0 threads)
named_places threads leaves (Some places) = judged_places threads leaves places

-- the leaf of each thread: the one of its number, where no places are given
unfoldable pub places_of : ℕ → ℕ → Option (List ℕ) → Result (List ℕ) ImageRefusal
places_of threads leaves places =
    if nat_lt leaves threads then Err (TooManyThreads threads) else named_places threads leaves places

-- ---- memory: an item for each location

abbrev pub entry : ℕ
entry = 0x10000

abbrev pub memory : ℕ
memory = 0x200000

unfoldable pub address_of : Test → ℕ → List ℕ → ℕ
address_of test item_bytes name = memory + item_bytes * position_or_len (bytes_eq name) test.locations

abbrev pub word_of : Test → ℕ → Value → ℕ
word_of test item_bytes (Number n) = n
word_of test item_bytes (Address name) = address_of test item_bytes name

-- what is given of a target, and 0 where nothing is
unfoldable pub first_value : Test → Target → Value
first_value test target = option_map_or (λ (g : Given). g.value) (find (λ (g : Given). same_target g.target target) test.init) (Number 0)

unfoldable pub item_of : Test → ℕ → List ℕ → List ℕ
item_of test item_bytes name = little_bytes 4 (word_of test item_bytes (first_value test (Location name))) ++ replicate (item_bytes - 4) 0

unfoldable pub memory_of : Test → ℕ → List ℕ
memory_of test item_bytes = flat_map (item_of test item_bytes) test.locations

-- ---- what comes before a thread's own instructions

-- a load of the location with whose address a register begins, so that the leaf has a copy
unfoldable pub warming_load : ℕ → Test → Value → List Instr
warming_load item_bytes test (Number n) = []
warming_load item_bytes test (Address name) =
    load_number 10 (address_of test item_bytes name) ++ instr.Load Lw 0 10 (pos 0) ∷ []

unfoldable pub warming : Test → ℕ → ℕ → List Instr
warming test item_bytes k = flat_map (λ r. warming_load item_bytes test (first_value test (Register k r))) (range_with_len 0 32)

-- some instructions more, so that harts don't begin all at once: 250 times two
abbrev pub waiting : List Instr
waiting =
    instr.Immediate Addi 10 0 (pos 250) ∷
    instr.Immediate Addi 10 10 (negsuc 0) ∷
    instr.Branch Bne 10 0 (negsuc 3) ∷ []

-- A hart begins with numbers in x2, x10 and x11, and what comes before its own instructions uses x10 and x11.
abbrev pub is_dirty : ℕ → Bool
is_dirty r = list_any (nat_eq r) (2 ∷ 10 ∷ 11 ∷ [])

-- a register's first value, where it isn't 0 by itself
unfoldable pub setting_one : Test → ℕ → ℕ → ℕ → List Instr
setting_one test item_bytes k r =
    if is_dirty r then load_number r (word_of test item_bytes (first_value test (Register k r)))
    else (if is_given test.init (Register k r) then load_number r (word_of test item_bytes (first_value test (Register k r)))
    else [])

unfoldable pub setting : Test → ℕ → ℕ → List Instr
setting test item_bytes k = flat_map (setting_one test item_bytes k) (range_with_len 0 32)

unfoldable pub prologue : Runs → Test → ℕ → ℕ → List Instr
prologue OfSeeds test item_bytes k = warming test item_bytes k ++ waiting ++ setting test item_bytes k
prologue All test item_bytes k = setting test item_bytes k

-- ---- a thread's own instructions

-- how many instructions it is
abbrev pub count_of : Step → ℕ
count_of (Label name) = 0
count_of (Plain i) = 1
count_of (Branch op rs1 rs2 label) = 1
count_of (Jump label) = 1

abbrev pub is_label_of : List ℕ → Step → Bool
is_label_of name (Label w) = bytes_eq w name
is_label_of name (Plain i) = false
is_label_of name (Branch op rs1 rs2 label) = false
is_label_of name (Jump label) = false

-- a label's place: how many instructions are before it
unfoldable pub label_place : List ℕ → List PlacedStep → ℕ
label_place name [] = 0
label_place name (s ∷ ss) = if is_label_of name s.step then 0 else count_of s.step + label_place name ss

-- the bytes from the first of these instructions to the second
unfoldable pub distance : ℕ → ℕ → ℤ
distance from to = if nat_le from to then pos (4 * (to - from)) else negsuc (4 * (from - to) - 1)

-- the instruction of a step that is the one of this number in its thread
unfoldable pub resolved : List PlacedStep → ℕ → Step → List Instr
resolved steps at (Label name) = []
resolved steps at (Plain i) = i ∷ []
resolved steps at (Branch op rs1 rs2 label) = instr.Branch op rs1 rs2 (distance at (label_place label steps)) ∷ []
resolved steps at (Jump label) = instr.Jal 0 (distance at (label_place label steps)) ∷ []

unfoldable pub resolved_from : List PlacedStep → ℕ → List PlacedStep → List Instr
resolved_from steps at [] = []
resolved_from steps at (s ∷ ss) =
    resolved steps at s.step ++ resolved_from steps (at + count_of s.step) ss

abbrev pub own_code : List PlacedStep → List Instr
own_code steps = resolved_from steps 0 steps

-- ---- code

unfoldable pub block_of : Runs → Test → ℕ → ℕ → List Instr
block_of runs test item_bytes k =
    prologue runs test item_bytes k ++ own_code (steps_of k test.program) ++ instr.Ebreak ∷ []

unfoldable pub blocks_of : Runs → Test → ℕ → List (List Instr)
blocks_of runs test item_bytes = map (block_of runs test item_bytes) (range_with_len 0 test.threads)

-- to the word of the hart's number
abbrev pub jump_by_number : List Instr
jump_by_number =
    instr.Immediate Slli 10 10 (pos 2) ∷ instr.Lui 11 entry ∷
    instr.Register Add 10 10 11 ∷ instr.Jalr 0 10 (pos 16) ∷ []

-- the numbers of the blocks' first instructions, the first block beginning at this one
unfoldable pub begins_from : ℕ → List (List Instr) → List ℕ
begins_from at [] = []
begins_from at (b ∷ bs) = at ∷ begins_from (at + length b) bs

-- a jump to the thread that is placed on a leaf, or an end
unfoldable pub leaf_word : List ℕ → List ℕ → ℕ → Instr
leaf_word places begins leaf =
    let k = position_or_len (nat_eq leaf) places in
    if nat_lt k (length places) then instr.Jal 0 (distance (4 + leaf) (slice_index_or begins k 0)) else instr.Ebreak

unfoldable pub code_of : ℕ → List ℕ → List (List Instr) → List Instr
code_of leaves places blocks =
    jump_by_number ++
    map (leaf_word places (begins_from (4 + leaves) blocks)) (range_with_len 0 leaves) ++
    flat_map (λ (block : List Instr). block) blocks

unfoldable pub code_bytes : List Instr → List ℕ
code_bytes code = flat_map (λ (i : Instr). little_bytes 4 (encode_of i)) code

-- ---- the file

-- code that can be read and executed, and memory that can be read and written
unfoldable pub test_segments : List ℕ → List ℕ → List SegmentValue
test_segments code words =
    record { header = 0; vaddr = entry; flags = 5; bytes = code; memsz = length code } ∷
    record { header = 1; vaddr = memory; flags = 6; bytes = words; memsz = length words } ∷ []

unfoldable pub placed_image : Runs → Test → ℕ → ℕ → List ℕ → List ℕ
placed_image runs test leaves item_bytes places =
    written_image entry
    (test_segments (code_bytes (code_of leaves places (blocks_of runs test item_bytes))) (memory_of test item_bytes))

abbrev pub image_at : Runs → Test → ℕ → ℕ → Result (List ℕ) ImageRefusal → Result (List ℕ) ImageRefusal
image_at runs test leaves item_bytes (Err refusal) = Err refusal
image_at runs test leaves item_bytes (Ok places) = Ok (placed_image runs test leaves item_bytes places)

-- the image of a test for a tree with so many leaves and bytes in an item, its threads being placed on these leaves
unfoldable pub test_image : Runs → Test → ℕ → ℕ → Option (List ℕ) → Result (List ℕ) ImageRefusal
test_image runs test leaves item_bytes places = image_at runs test leaves item_bytes (places_of test.threads leaves places)
