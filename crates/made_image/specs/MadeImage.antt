-- The made image: a random program as an ELF file. Every hart runs it, on the same 64 words of memory.
use Rattle.std.specs.Prelude.{ℕ, ◌*◌, ◌/◌, ◌%◌, nat_eq, pos, false, List, [], ◌∷◌, ◌++◌, length, if◌then◌else◌}
use Rattle.std.specs.List.{flat_map}
use Rattle.byteorder.specs.Endian.{little_bytes}
use Rattle.made_image.specs.RvDecode.declared.instructions.LoadOp.TheVariants.{Lw}
use Rattle.made_image.specs.RvDecode.declared.instructions.StoreOp.TheVariants.{Sw}
use Rattle.made_image.specs.RvDecode.declared.instructions.ImmOp.TheVariants.{Addi}
use Rattle.made_image.specs.RvDecode.declared.instructions.RegOp.TheVariants.{Add}
use Rattle.made_image.specs.RvDecode.declared.instructions.AmoOp.TheVariants.{Add as AmoAdd, Swap as AmoSwap}
use Rattle.made_image.specs.RvDecode.declared.instructions.Instr.{Instr}
use Rattle.made_image.specs.RvDecode.declared.instructions.Instr.TheVariants.{Lui, Load, Store, Immediate, Register, Ecall, Amo}
use Rattle.made_image.specs.RvDecode.Encode.{encode_of}
use Rattle.made_image.specs.TreeModel.Start.Sources.{SegmentValue}
use Rattle.text_model.specs.Seeded.{seeded_generator, words_of}
use Rattle.elf_load.specs.Written.{written_image}

-- ---- a round: one word of the generator, two instructions

-- the word's lowest six bits choose one of the 64 words of memory, by its distance in bytes from the first
abbrev pub offset_of : ℕ → ℕ
offset_of word = 4 * (word % 64)

-- the two bits above choose what is done with it
abbrev pub kind_of : ℕ → ℕ
kind_of word = word / 64 % 4

-- lw x6,o(x5) and add x7,x7,x6
abbrev pub loading : ℕ → List Instr
loading o = Load Lw 6 5 (pos o) ∷ Register Add 7 7 6 ∷ []

-- sw x7,o(x5) and addi x7,x7,1
abbrev pub storing : ℕ → List Instr
storing o = Store Sw 5 7 (pos o) ∷ Immediate Addi 7 7 (pos 1) ∷ []

-- addi x8,x5,o and amoadd.w x6,x7,(x8)
abbrev pub adding : ℕ → List Instr
adding o = Immediate Addi 8 5 (pos o) ∷ Amo AmoAdd 6 8 7 false false ∷ []

-- addi x8,x5,o and amoswap.w x7,x6,(x8)
abbrev pub swapping : ℕ → List Instr
swapping o = Immediate Addi 8 5 (pos o) ∷ Amo AmoSwap 7 8 6 false false ∷ []

unfoldable pub round_of : ℕ → List Instr
round_of word =
    let o = offset_of word in
    if nat_eq (kind_of word) 0 then loading o
    else (if nat_eq (kind_of word) 1 then storing o
    else (if nat_eq (kind_of word) 2 then adding o
    else swapping o))

-- ---- the program

-- lui x5,0x200: the address of the first of the 64 words
abbrev pub opening : List Instr
opening = Lui 5 0x200000 ∷ []

-- addi x17,x0,93 and addi x10,x7,0 and ecall: exit with x7
abbrev pub ending : List Instr
ending = Immediate Addi 17 0 (pos 93) ∷ Immediate Addi 10 7 (pos 0) ∷ Ecall ∷ []

-- a round for each word
unfoldable pub rounds_of : List ℕ → List Instr
rounds_of words = flat_map round_of words

unfoldable pub made_program : ℕ → ℕ → List Instr
made_program seed rounds = opening ++ rounds_of (words_of (seeded_generator seed) rounds) ++ ending

-- ---- the file

-- the words of a program, each with its lowest byte first
unfoldable pub program_bytes : List Instr → List ℕ
program_bytes program = flat_map (λ (instr : Instr). little_bytes 4 (encode_of instr)) program

-- code that can be read and executed at 0x10000, and 256 bytes of memory that can be read and written at 0x200000
unfoldable pub made_segments : List ℕ → List SegmentValue
made_segments code =
    record { header = 0; vaddr = 0x10000; flags = 5; bytes = code; memsz = length code } ∷
    record { header = 1; vaddr = 0x200000; flags = 6; bytes = []; memsz = 256 } ∷ []

-- of a seed and a number of rounds; the entry is the first instruction
unfoldable pub made_image : ℕ → ℕ → List ℕ
made_image seed rounds = written_image 0x10000 (made_segments (program_bytes (made_program seed rounds)))
