-- Why a table isn't read of a file, by the status that says so.
use Rattle.std.specs.Prelude.{◌≡◌, ℕ, List, Option, IfSome, Err}
use Rattle.ddm_cli.specs.DdmOutside.Causes.{Rose}
use Rattle.joining.specs.JoinModel.Table.{table_in}
use Rattle.joining.specs.declared.reading.TableError.{TableError}
use Rattle.joining.specs.declared.reading.TableError.TheVariants.{Refused, Memory}
use Rattle.ddm_cli.specs.declared.status.Status.{Status}
use Rattle.ddm_cli.specs.declared.status.Status.TheVariants.{NoMemory, Table, UnreadTable}

abbrev pub TableCause : ℕ → Option (List ℕ) → ℕ → ℕ → Status → Type 0
TableCause number told before now (Table n r) = (n ≡ number) × IfSome told (λ file. table_in file ≡ Err r)
TableCause number told before now (UnreadTable n) = (n ≡ number) × Rose before now
TableCause number told before now NoMemory = Unit {0}
TableCause number told before now _ = ⊥

-- how a command ends whose table of this number isn't read
abbrev pub table_status : ℕ → TableError → Status
table_status number (Refused r) = Table number r
table_status number Memory = NoMemory
