-- A file as linkers make it: headers of other types, the code with the ELF header and the program headers before it, data.
use Rattle.std.specs.Prelude.{◌≡◌, ℕ, List, [], ◌∷◌, ◌++◌, take, replicate, Ok}
use Rattle.tree_model.specs.Start.Sources.{SegmentValue}
use Rattle.tree_model.specs.Start.Memory.{memory_word}
use Rattle.elf_load.specs.ElfFile.{loaded_headers, items_met}
use Rattle.elf_load.specs.Written.{words, file_header}
use Rattle.elf_load.specs.SmallFile.{read_small}

-- type, offset, vaddr, filesz, memsz, flags
abbrev header : ℕ → ℕ → ℕ → ℕ → ℕ → ℕ → List ℕ
header kind offset vaddr filesz memsz flags = words (kind ∷ offset ∷ vaddr ∷ vaddr ∷ filesz ∷ memsz ∷ flags ∷ 0x1000 ∷ [])

-- attributes and stack, then the code and the data; the entry is the word behind the headers
abbrev pub linked_file : List ℕ
linked_file =
    file_header 0x100b4 4 ++
    header 0x70000003 0x400 0 0x20 0 4 ++
    header 0x6474e551 0 0 0 0 6 ++
    header 1 0 0x10000 0x400 0x400 5 ++
    header 1 0x400 0x11400 0x20 0x120 6 ++
    replicate 0x34c 0x13 ++
    replicate 0x20 7

abbrev pub linked_segments : List SegmentValue
linked_segments =
    record { header = 2; vaddr = 0x10000; flags = 5; bytes = take 0x400 linked_file; memsz = 0x400 } ∷
    record { header = 3; vaddr = 0x11400; flags = 6; bytes = replicate 0x20 7; memsz = 0x120 } ∷ []

pub record LinkedImage : Type 0 where
  pub image : read_small linked_file ≡ Ok (record { entry = 0x100b4; segments = linked_segments })
  pub items : items_met 16 (loaded_headers linked_file) ≡ 82
  -- the first word of memory is the magic bytes
  pub magic_in_memory : memory_word linked_segments 0x10000 ≡ 0x464c457f
