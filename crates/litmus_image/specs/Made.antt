-- What the code makes on the way, and what its answers say of a judgement: the same numbers or the same refusal, or there
-- was no memory.
use Rattle.std.specs.Prelude.{◌≡◌, ℕ, List, map, Result, Ok, Err}
use Rattle.std.specs.List.{flat_map, range_with_len}
use Rattle.std.specs.Global.{Vec}
use Rattle.rv_decode.specs.declared.instructions.Instr.{Instr}
use Rattle.litmus_model.specs.declared.refusal.ImageRefusal.{ImageRefusal}
use Rattle.litmus_model.specs.Image.{leaf_word}
use Rattle.litmus_image.specs.declared.assembling.TestImage.{TestImage}
use Rattle.litmus_image.specs.declared.places.Unmade.{Unmade}
use Rattle.litmus_image.specs.declared.places.Unmade.TheVariants.{Refused, NoMemory}

abbrev pub Makes : Result (List ℕ) ImageRefusal → Result (Vec ℕ) Unmade → Type 0
Makes judged (Ok numbers) = judged ≡ Ok numbers.items
Makes judged (Err (Refused refusal)) = judged ≡ Err refusal
Makes judged (Err NoMemory) = Unit {0}

-- the same of an image
abbrev pub Assembles : Result (List ℕ) ImageRefusal → Result TestImage Unmade → Type 0
Assembles judged (Ok made) = judged ≡ Ok made.bytes.items
Assembles judged (Err (Refused refusal)) = judged ≡ Err refusal
Assembles judged (Err NoMemory) = Unit {0}

-- the instructions of all threads
abbrev pub all_of : List (List Instr) → List Instr
all_of blocks = flat_map (λ (block : List Instr). block) blocks

-- the words of the leaves
unfoldable pub leaf_words : List ℕ → List ℕ → ℕ → List Instr
leaf_words places begins leaves = map (leaf_word places begins) (range_with_len 0 leaves)
