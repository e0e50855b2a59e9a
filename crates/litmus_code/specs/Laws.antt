-- The code of an assembled image, as the machine has it.
-- To be believed: it is what is claimed of every assembled image.
use Rattle.std.specs.Prelude.{◌≡◌, ℕ, ◌+◌, ◌*◌, ◌<◌, ◌≤◌, List, Option, Some, Ok, slice_get}
use Rattle.rv_decode.specs.declared.instructions.Instr.{Instr}
use Rattle.rv_decode.specs.Encode.{encode_of}
use Rattle.elf_load.specs.DdmTypes.CodeMap.{word_at}
use Rattle.elf_load.specs.DdmTypes.ItemTable.{IsItemSize}
use Rattle.elf_load.specs.ElfFile.{image_of}
use Rattle.elf_load.specs.TreeModel.Start.Memory.{start_code}
use Rattle.elf_load.specs.TreeModel.Start.Sources.{ImageValue}
use Rattle.litmus_model.specs.declared.test.Runs.{Runs}
use Rattle.litmus_model.specs.Image.{begins_from, block_of, blocks_of, code_of, entry, leaf_word, places_of, test_image}
use Rattle.litmus_model.specs.Sound.{IsSound}
use Rattle.litmus_model.specs.Test.{Test}

-- the machine's code has this instruction's word at this place of the listing
abbrev pub Has : ImageValue → ℕ → Instr → Type 0
Has image place instruction = word_at (start_code image) (entry + 4 * place) ≡ Some (encode_of instruction)

-- of every image that is made of a test for a tree, and read
abbrev pub OfAssembled : (Runs → Test → ℕ → ℕ → List ℕ → ImageValue → Type 0) → Type 0
OfAssembled P =
    (runs : Runs) (test : Test) (leaves item_bytes : ℕ) (named : Option (List ℕ)) (places file : List ℕ) (image : ImageValue)
    → IsSound test → leaves ≤ 64 → IsItemSize item_bytes
    → places_of test.threads leaves named ≡ Ok places → test_image runs test leaves item_bytes named ≡ Ok file
    → image_of item_bytes file ≡ Ok image
    → P runs test leaves item_bytes places image

-- each instruction of the listing is there
abbrev pub CodeIsThere : Type 0
CodeIsThere = OfAssembled (λ runs test leaves item_bytes places image.
    (place : ℕ) (instruction : Instr)
    → slice_get (code_of leaves places (blocks_of runs test item_bytes)) place ≡ Some instruction
    → Has image place instruction)

-- the word of each leaf, to which a hart jumps by its number: a jump to its thread's first instruction, or an end
abbrev pub LeavesAreThere : Type 0
LeavesAreThere = OfAssembled (λ runs test leaves item_bytes places image.
    (leaf : ℕ) → leaf < leaves
    → Has image (4 + leaf) (leaf_word places (begins_from (4 + leaves) (blocks_of runs test item_bytes)) leaf))

-- the instructions of each thread, from its first one on
abbrev pub ThreadsAreThere : Type 0
ThreadsAreThere = OfAssembled (λ runs test leaves item_bytes places image.
    (thread begin place : ℕ) (instruction : Instr) → thread < test.threads
    → slice_get (begins_from (4 + leaves) (blocks_of runs test item_bytes)) thread ≡ Some begin
    → slice_get (block_of runs test item_bytes thread) place ≡ Some instruction
    → Has image (begin + place) instruction)
