-- What a shelf has that never fails.
use Rattle.std.specs.Prelude.{ℕ, List, Option, Some}
use Rattle.ddm_outside.specs.NamedFiles.{bytes_or_none}
use Rattle.ddm_outside.specs.declared.named_file.NamedFile.{NamedFile}
use Rattle.ddm_outside.specs.declared.sound_shelf.SoundShelf.{SoundShelf}

-- the files that it has
abbrev pub files_of : SoundShelf → List NamedFile
files_of shelf = shelf.files.items

-- the bytes of a named file
abbrev pub told_of : SoundShelf → List ℕ → Option (List ℕ)
told_of shelf name = Some (bytes_or_none (files_of shelf) name)
