-- Files in memory by their names.
use Rattle.std.specs.Prelude.{ℕ, suc, List, [], ◌∷◌, Option, Some, None, if◌then◌else◌, bytes_eq, unwrap_or}
use Rattle.std.specs.Option.{option_map}
use Rattle.ddm_outside.specs.declared.named_file.NamedFile.{NamedFile}

-- the place of the first of the files that has this name
abbrev pub place_of : List NamedFile → List ℕ → Option ℕ
place_of [] name = None
place_of (file ∷ files) name = if bytes_eq file.name name then Some 0 else option_map suc (place_of files name)

-- the bytes of the first of the files that has this name
abbrev pub bytes_of : List NamedFile → List ℕ → Option (List ℕ)
bytes_of [] name = None
bytes_of (file ∷ files) name = if bytes_eq file.name name then Some file.bytes.items else bytes_of files name

-- the same, where a name that no file has is that of an empty file
abbrev pub bytes_or_none : List NamedFile → List ℕ → List ℕ
bytes_or_none files name = unwrap_or (bytes_of files name) []

-- the count of the first of the files that has this name, or the common count of the others
abbrev pub faults_of : ℕ → List NamedFile → List ℕ → ℕ
faults_of unknown [] name = unknown
faults_of unknown (file ∷ files) name = if bytes_eq file.name name then file.faults else faults_of unknown files name
