-- How far a proposition has been read, and what is to come.
use Rattle.std.specs.Prelude.{◌≡◌, ℕ, Bool, true, false, List, [], ◌∷◌, ◌++◌, Option, None, Result, Ok, Err}
use Rattle.litmus_model.specs.declared.parts.Part.{Part}
use Rattle.litmus_model.specs.declared.parts.Token.{Token}
use Rattle.litmus_model.specs.declared.parts.Chunk.{Chunk}
use Rattle.litmus_model.specs.Refusing.{Judged, ◌>>=◌}
use Rattle.litmus_model.specs.Condition.{RawChunk, operator, atom, atom_of, operator_of_two, proposition_from}
use Rattle.litmus_text.specs.declared.judged.Unread.{Unread}
use Rattle.litmus_text.specs.declared.judged.Unread.TheVariants.{Refused, NoMemory}
use Rattle.litmus_text.specs.Reads.{behind}
use Rattle.litmus_read.specs.declared.proposition.Reading.{Reading}

-- the operator of two tokens with which these begin
unfoldable pub two_in : List Token → Option Chunk
two_in [] = None
two_in (t ∷ ts) = operator_of_two t.part ts

-- the chunk of an atom
unfoldable pub atom_chunks : ℕ → ℕ → List Part → Judged (List Chunk)
atom_chunks threads line parts = atom_of threads line parts >>= (λ c. Ok (c ∷ []))

abbrev pub begins_with_atom : List RawChunk → Bool
begins_with_atom [] = false
begins_with_atom (operator line c ∷ cs) = false
begins_with_atom (atom line parts ∷ cs) = true

-- parts in front of chunks, of which the first goes on where it is an atom
unfoldable pub with_row : ℕ → List Part → List RawChunk → List RawChunk
with_row line [] cs = cs
with_row line (p ∷ ps) [] = atom line (p ∷ ps) ∷ []
with_row line (p ∷ ps) (operator l c ∷ cs) = atom line (p ∷ ps) ∷ operator l c ∷ cs
with_row line (p ∷ ps) (atom l qs ∷ cs) = atom line (p ∷ ps ++ qs) ∷ cs

-- the line of a row with one token more
abbrev pub begun : ℕ → List Part → Token → ℕ
begun line [] t = t.line
begun line (p ∷ ps) t = line

-- what has been read, and behind it what these chunks make
abbrev pub from_here : ℕ → ℕ → Reading → List RawChunk → Judged (List Chunk)
from_here threads end r cs = behind r.chunks.items (proposition_from threads end r.standing (with_row r.line r.row.items cs))

-- what there was to read is what there is to read now, or it is refused
abbrev pub Leads : {A : Type 0} → Judged A → Judged A → Result (Unit {0}) Unread → Type 0
Leads old new (Ok done) = old ≡ new
Leads old new (Err (Refused refusal)) = old ≡ Err refusal
Leads old new (Err NoMemory) = Unit {0}

-- the same, where so many tokens were read
abbrev pub Takes : {A : Type 0} → Judged A → (ℕ → Judged A) → Result ℕ Unread → Type 0
Takes old new (Ok count) = old ≡ new count
Takes old new (Err (Refused refusal)) = old ≡ Err refusal
Takes old new (Err NoMemory) = Unit {0}
