use Rattle.std.proofs.Common.{◌≡◌, length}
use Rattle.litmus_model.specs.Condition.{chunks_of, proposition_of}
use Rattle.litmus_read.specs.Reading.{from_here}
use Rattle.litmus_read.proofs.proposition.proposition_of.Given as goal

abbrev pub invariant-tokens : goal.invariant-tokens
invariant-tokens l = proposition_of l.threads l.end l.tokens ≡ from_here l.threads l.end l.reading (chunks_of l.left)

abbrev pub decreases-tokens : goal.decreases-tokens
decreases-tokens l = length l.left
