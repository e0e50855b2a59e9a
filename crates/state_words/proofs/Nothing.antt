-- Nothing put behind a list, and what is left of it where memory ended.
use Rattle.std.proofs.Common.{ℕ, List, [], ◌++◌, sym}
use Rattle.std.specs.Prelude.{Result, Ok, Err, OnErr}
use Rattle.std.proofs.lemmas.List.{append-nil}
use Rattle.ddm_text.specs.Adds.{Adds, ◌▸◌}
use Rattle.state_words.specs.Begins.{Begins}

pub adds-nothing : (xs : List ℕ) → Adds xs xs []
adds-nothing xs = record { is = sym (append-nil xs) }

pub begins-after : {a b c s : List ℕ} → Adds a b s → Begins b c → Begins a c
begins-after {a} {b} {c} {s} added more = record { rest = s ++ more.rest; added = added ▸ more.added }

pub on-err : {A E P : Type 0} (r : Result A E) → P → OnErr r P
on-err (Ok x) holds = tt
on-err (Err e) holds = holds
