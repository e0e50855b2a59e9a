use Rattle.std.proofs.Common.{◌≡◌, ◌≤◌, ◌-◌, [], drop, length}
use Rattle.ddm_tree.specs.StateReading.Parts.{read_op}
use Rattle.ddm_tree.specs.StateReading.Reading.{times}
use Rattle.ddm_tree.proofs.read_buses.fill_ops.Given as goal

-- the operations so far, and those that are left
abbrev pub invariant-loop-number : goal.invariant-loop-number
invariant-loop-number l = record {
  left : times (read_op l.counts.depth l.counts.leaves) l.retired [] l.initial.next (drop l.initial.next l.words)
      ≡ times (read_op l.counts.depth l.counts.leaves) (l.retired - l._number) l.ops.items l.next (drop l.next l.words);
  inside : l.next ≤ length l.words;
  many : length l.ops.items ≡ l._number;
}
