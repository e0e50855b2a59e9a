-- Tables as the code has them, and as they are said.
-- To be believed with the contracts: they speak of it.
use Rattle.std.specs.Prelude.{◌≡◌, ℕ, map, Result, Err, sum_by}
use Rattle.joining.specs.OutcomeModel.Table.{OutcomeLine}
use Rattle.join_model.specs.Table as said
use Rattle.join_model.specs.Files.{Sum}
use Rattle.join_model.specs.declared.table.TableRefusal.{TableRefusal}
use Rattle.joining.specs.declared.lines.LineSet.{LineSet}
use Rattle.joining.specs.declared.reading.TableError.{TableError}
use Rattle.joining.specs.declared.reading.TableError.TheVariants.{Refused, Memory}
use Rattle.joining.specs.declared.reading.ReadTable.{ReadTable}
use Rattle.joining.specs.declared.summing.TableSum.{TableSum}
use Rattle.joining.specs.declared.words.Heading.{Heading}
use Rattle.joining.specs.declared.words.Row.{Row}

abbrev pub heading_said : Heading → said.Heading
heading_said h = record { kind = h.kind; lines = h.lines; runs = h.runs }

abbrev pub row_said : Row → OutcomeLine
row_said r = record { times = r.times; seed = r.seed; outcome = r.outcome.now }

abbrev pub table_said : ReadTable → said.Table
table_said t = record { kind = t.kind; runs = t.runs; lines = t.lines.items }

abbrev pub sum_said : TableSum → Sum
sum_said s = record { tables = s.tables; kind = s.kind; runs = s.runs; lines = s.set.lines.items }

-- what is kept after a refusal: all, but nothing is known after want of memory
abbrev pub IsKept : TableError → TableSum → TableSum → Type 0
IsKept (Refused r) old new = new ≡ old
IsKept Memory old new = Unit {0}

-- memory ran out, or this is the refusal
abbrev pub IsTableError : {A : Type 0} → Result A TableRefusal → TableError → Type 0
IsTableError answer (Refused r) = answer ≡ Err r
IsTableError answer Memory = Unit {0}

abbrev pub times : OutcomeLine → ℕ
times l = l.times

-- the outcomes of the lines are those whose places are kept
abbrev pub AreAlike : LineSet → Type 0
AreAlike s = map (λ text. text.items) s.places.keys ≡ map (λ (l : OutcomeLine). l.outcome) s.lines.items

-- and each run is in one line
pub record IsCounted (s : TableSum) : Type 0 where
  pub alike : AreAlike s.set
  pub runs : sum_by times s.set.lines.items ≡ s.runs
