-- What a sink holds after bytes were written to it.
use Rattle.std.specs.Prelude.{◌≡◌, ℕ, ◌≤◌, List, ◌++◌, length, take, Option, Some, IfSome}

-- where the old bytes are told, the new ones are these bytes behind them
abbrev pub Appends : Option (List ℕ) → Option (List ℕ) → List ℕ → Type 0
Appends old new bytes = IfSome old (λ h. new ≡ Some (h ++ bytes))

-- the same of some first part of the bytes
abbrev pub AppendsPart : Option (List ℕ) → Option (List ℕ) → List ℕ → Type 0
AppendsPart old new bytes = (n : ℕ) × (n ≤ length bytes) × Appends old new (take n bytes)

-- of these bytes a first part was written, and the rest is left
abbrev pub IsWrittenFrom : Option (List ℕ) → Option (List ℕ) → List ℕ → List ℕ → Type 0
IsWrittenFrom old new bytes rest = (done : List ℕ) × (bytes ≡ done ++ rest) × Appends old new done
