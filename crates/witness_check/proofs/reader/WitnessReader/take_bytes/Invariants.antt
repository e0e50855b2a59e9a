use Rattle.std.proofs.Common.{◌≡◌, ◌≤◌, ◌-◌, length, take}
use Rattle.witness_check.specs.Judging.{lines_of}
use Rattle.witness_check.specs.Reader.{with_standing}
use Rattle.witness_check.proofs.reader.WitnessReader.take_bytes.Given as goal

abbrev pub invariant-lines : goal.invariant-lines
invariant-lines l = record {
  within : l.from ≤ length l.piece;
  read : l.self ≡ with_standing (lines_of l.initial.self.program l.initial.self.standing (take l.from l.piece)) l.initial.self;
}

abbrev pub decreases-lines : goal.decreases-lines
decreases-lines l = length l.piece - l.from
