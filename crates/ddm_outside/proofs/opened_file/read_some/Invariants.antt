-- Until a read succeeds or fails, nothing is read.
use Rattle.std.proofs.Common.{◌≡◌, length}
use Rattle.std.specs.Io.KnownBytes.{Keeps}
use Rattle.ddm_outside.proofs.opened_file.read_some.Given as goal

abbrev pub invariant-loop : goal.invariant-loop
invariant-loop g l = (length l.into ≡ length l.initial.into) × Keeps (g.F.Read.remaining l.initial.file) (g.F.Read.remaining l.file)
