use Rattle.std.proofs.Common.{◌≡◌, ◌+◌, ◌++◌, drop, map, take}
use Rattle.ddm_tree.specs.Reads.{leaf_count_among, states_among}
use Rattle.ddm_tree.proofs.unheld.unheld_states_under.Given as goal

-- what is put, and then what is left, is the whole
abbrev pub invariant-loop-child : goal.invariant-loop-child
invariant-loop-child g l = record {
  count : l.next + leaf_count_among (map g.C.Agent.value (drop l.child-index l.fn.children)) ≡ l.fn.at + leaf_count_among (map g.C.Agent.value l.fn.children);
  states : take l.next l.states ++ states_among l.fn.item (map g.C.Agent.value (drop l.child-index l.fn.children)) ≡ take l.fn.at l.initial.states ++ states_among l.fn.item (map g.C.Agent.value l.fn.children);
}
