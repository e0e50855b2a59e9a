use Rattle.std.proofs.Common.{◌≡◌, take}
use Rattle.measuring.specs.Seen.{all_in, all_over, labels_of, seen_over}
use Rattle.measuring.proofs.lengths.look_around.Given as goal

abbrev pub invariant-loop-child : goal.invariant-loop-child
invariant-loop-child g l = record {
  most : l.most.items ≡ all_over l.machine.machine (take l.child (labels_of l.bus l.machine.machine)) (seen_over l.machine.machine l.bus l.fn.most.items);
  leaf_most : l.leaf_most.items ≡ all_in l.machine.machine (take l.child (labels_of l.bus l.machine.machine)) l.fn.leaf_most.items;
}
