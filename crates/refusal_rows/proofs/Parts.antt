-- A read into the front of a buffer is a read into the buffer.
use Rattle.std.proofs.Common.{◌≡◌, ℕ, ◌≤◌, List, ◌++◌, length, take, drop}
use Rattle.std.proofs.lemmas.List.{take-append-le}
use Rattle.refusal_rows.specs.DdmOutside.Telling.{ReadsPart}

pub front_part : (file front rest : List ℕ) (at n : ℕ) → n ≤ length front
    → ReadsPart file at n front → ReadsPart file at n (front ++ rest)
front_part file front rest at n within part = record {
  bytes = rw (take-append-le n front rest within) part.bytes;
  ends = part.ends;
  only = part.only;
}
