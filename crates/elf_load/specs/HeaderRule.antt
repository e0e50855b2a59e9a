-- What holds of a file's program headers once they were judged.
use Rattle.std.specs.Prelude.{◌≡◌, ℕ, ◌+◌, ◌<◌, ◌≤◌, ◌^◌, List, [], length, None, true, false, All, AllPairs}
use Rattle.elf_load.specs.declared.headers.ProgramHeader.{ProgramHeader}
use Rattle.elf_load.specs.ElfFile.{header_count, header_place, headers_of, has_memory, meets, file_refusal, headers_refusal, loaded_headers}

-- the ELF header and the program headers are in the file
pub record HasTable (file : List ℕ) : Type 0 where
  pub long : 52 ≤ length file
  pub few : header_count file ≤ 64
  pub headers : (k : ℕ) → k < header_count file → header_place file k + 32 ≤ length file

-- a segment's bytes are in a file of this length, and its memory ends at the last address or before
pub record IsLoadable (file_length : ℕ) (h : ProgramHeader) : Type 0 where
  pub fits : h.filesz ≤ h.memsz
  pub inside : 0 < h.filesz → h.offset + h.filesz ≤ file_length
  pub ends : h.vaddr + h.memsz ≤ 2 ^ 32

-- the headers of an image's segments, in a file of this length
pub record AreLoaded (file_length : ℕ) (loaded : List ProgramHeader) : Type 0 where
  pub few : length loaded ≤ 64
  pub loadable : All (IsLoadable file_length) loaded
  pub memory : All (λ h. has_memory h ≡ true) loaded
  pub apart : AllPairs (λ a h. meets h a ≡ false) loaded

-- the headers of a file's segments, once nothing of the file and its headers was refused
pub record IsRead (file : List ℕ) (loaded : List ProgramHeader) : Type 0 where
  pub headers : loaded ≡ loaded_headers file
  pub table : HasTable file
  pub accepted : file_refusal file ≡ None
  pub judged : headers_refusal (length file) [] (headers_of file) ≡ None
  pub rule : AreLoaded (length file) loaded
