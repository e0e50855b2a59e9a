-- What a read of a file gives whose bytes are told, and what a write leaves in a sink.
use Rattle.std.specs.Prelude.{◌≡◌, ℕ, ◌+◌, ◌<◌, ◌≤◌, List, [], ◌++◌, length, take, drop, Option, Some, IfSome, Result, IfOk, MatchResult}

-- A read of n bytes from an offset of a file: they are the file's bytes there, and none come exactly where
-- nothing is left of the file.
pub record ReadsPart (file : List ℕ) (at n : ℕ) (into : List ℕ) : Type 0 where
  pub bytes : drop at file ≡ take n into ++ drop (at + n) file
  pub ends : n ≡ 0 → drop at file ≡ []
  pub only : length file ≤ at → n ≡ 0

-- the same of a call's result, where the file is told
abbrev pub ReadsTold : {E : Type 0} → Option (List ℕ) → ℕ → Result ℕ E → List ℕ → Type 0
ReadsTold told at result into = IfOk result (λ n. IfSome told (λ file. ReadsPart file at n into))

-- A write of n of the offered bytes: at least one, and these are held behind the old ones.
pub record Takes (held_old held_new : Option (List ℕ)) (bytes : List ℕ) (n : ℕ) : Type 0 where
  pub some : 0 < n
  pub most : n ≤ length bytes
  pub held : IfSome held_old (λ h. held_new ≡ Some (h ++ take n bytes))

-- the same of a call's result; a failed call has taken none
abbrev pub WritesTold : {E : Type 0} → Option (List ℕ) → Option (List ℕ) → List ℕ → Result ℕ E → Type 0
WritesTold held_old held_new bytes result = MatchResult result (Takes held_old held_new bytes) (λ _. held_new ≡ held_old)
