-- What a shelf in memory has, and which of its reads fail.
use Rattle.std.specs.Prelude.{◌≡◌, ◌≢◌, ◌⊎◌, ℕ, List, Option, IsNone, IsSome, Contains}
use Rattle.ddm_outside.specs.Causes.{raised}
use Rattle.ddm_outside.specs.NamedFiles.{bytes_of, faults_of}
use Rattle.ddm_outside.specs.declared.memory_shelf.MemoryShelf.{MemoryShelf}

-- the bytes of a named file
abbrev pub told_of : MemoryShelf → List ℕ → Option (List ℕ)
told_of shelf = bytes_of shelf.files.items

-- how often a read of this name has failed
abbrev pub count_of : MemoryShelf → List ℕ → ℕ
count_of shelf = faults_of shelf.unknown shelf.files.items

-- the number of the next read
abbrev pub next_read : MemoryShelf → ℕ
next_read shelf = shelf.calls

-- the numbers of the reads that fail
abbrev pub failing_reads : MemoryShelf → List ℕ
failing_reads shelf = shelf.fail.items

-- the next read fails, if it is of this name
abbrev pub FailsNext : MemoryShelf → List ℕ → Type 0
FailsNext shelf name = IsNone (told_of shelf name) ⊎ Contains (failing_reads shelf) (next_read shelf)

-- One read of this name has failed: its count is one higher, and no other has changed. The names that the
-- shelf doesn't have share one count.
pub record RaisesCount (old new : MemoryShelf) (name : List ℕ) : Type 0 where
  pub here : count_of new name ≡ raised (count_of old name)
  pub shared : (other : List ℕ) → IsNone (told_of old name) → IsNone (told_of old other) → count_of new other ≡ count_of new name
  pub others :
      (other : List ℕ) → other ≢ name → IsSome (told_of old name) ⊎ IsSome (told_of old other) →
      count_of new other ≡ count_of old other
