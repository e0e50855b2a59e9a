-- How long a made program is, and that its file fits.
use Rattle.std.proofs.Common.{◌≡◌, ℕ, zero, suc, ◌+◌, ◌*◌, List, [], ◌∷◌, ◌++◌, length, All, refl, ◌∙◌, arith, length-append}
use Rattle.std.specs.Prelude.{Bool, nat_eq, true, false, if◌then◌else◌}
use Rattle.std.proofs.lemmas.List.Elements.{All-nil, All-cons}
use Rattle.byteorder.specs.Endian.{little_bytes}
use Rattle.rand_pcg.specs.Lcg.{Lcg}
use Rattle.rand_pcg.specs.Pcg.{pcg32}
use Rattle.made_image.specs.RvDecode.declared.instructions.Instr.{Instr}
use Rattle.made_image.specs.RvDecode.Encode.{encode_of}
use Rattle.made_image.specs.TreeModel.Start.Sources.{SegmentValue}
use Rattle.text_model.specs.Seeded.{seeded_generator, words_of}
use Rattle.elf_load.specs.ImageRule.{FitsMemory}
use Rattle.elf_load.specs.Written.{segment_bytes, written_image}
use Rattle.elf_load.proofs.Pushes.{room_for_bytes}
use Rattle.made_image.specs.MadeImage.{adding, ending, kind_of, loading, made_program, made_segments, offset_of, opening, program_bytes, round_of, rounds_of, storing, swapping}

length-program_bytes : (program : List Instr) → length (program_bytes program) ≡ 4 * length program
unfolding program_bytes
length-program_bytes [] = refl
length-program_bytes (i ∷ is) =
    let rest = length-program_bytes is in
    rw (length-append (little_bytes 4 (encode_of i)) (program_bytes is), rest) (omega arith)

length-words_of : (g : Lcg) (n : ℕ) → length (words_of g n) ≡ n
unfolding words_of
length-words_of g zero = refl
length-words_of g (suc n) = let rest = length-words_of (pcg32 g).1 n in rw rest refl

abbrev chosen : Bool → Bool → Bool → ℕ → List Instr
chosen zeroth first second o = if zeroth then loading o else (if first then storing o else (if second then adding o else swapping o))

length-chosen : (zeroth first second : Bool) (o : ℕ) → length (chosen zeroth first second o) ≡ 2
length-chosen true first second o = refl
length-chosen false true second o = refl
length-chosen false false true o = refl
length-chosen false false false o = refl

length-round_of : (word : ℕ) → length (round_of word) ≡ 2
unfolding round_of
length-round_of word = length-chosen (nat_eq (kind_of word) 0) (nat_eq (kind_of word) 1) (nat_eq (kind_of word) 2) (offset_of word)

length-rounds_of : (ws : List ℕ) → length (rounds_of ws) ≡ 2 * length ws
unfolding rounds_of
length-rounds_of [] = refl
length-rounds_of (w ∷ ws) =
    let rest = length-rounds_of ws in
    let own = length-round_of w in
    rw (length-append (round_of w) (rounds_of ws), own, rest) (omega arith)

-- four words, and two for each round
pub program_length : (seed rounds : ℕ) → length (program_bytes (made_program seed rounds)) ≡ 16 + 8 * rounds
unfolding made_program
program_length seed rounds =
    let ws = words_of (seeded_generator seed) rounds in
    let words = length-words_of (seeded_generator seed) rounds in
    let middle = length-rounds_of ws in
    let whole = length-append (rounds_of ws) ending in
    let bytes = length-program_bytes (opening ++ rounds_of ws ++ ending) in
    omega (arith, words, middle, whole, bytes)

-- the headers and the code
pub made_length : (code : List ℕ) → length (written_image 0x10000 (made_segments code)) ≡ 116 + length code
unfolding made_segments segment_bytes
made_length code =
    let whole = room_for_bytes 0x10000 (made_segments code) in
    let bytes = length-append code [] in
    whole ∙ rw bytes (omega arith)

pub made_fits : (code : List ℕ) → All FitsMemory (made_segments code)
unfolding made_segments
made_fits code =
    let memory : SegmentValue = record { header = 1; vaddr = 0x200000; flags = 6; bytes = []; memsz = 256 } in
    All-cons FitsMemory _ (memory ∷ []) (omega arith) (All-cons FitsMemory memory [] (omega arith) (All-nil FitsMemory))
