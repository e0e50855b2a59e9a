use Rattle.bus_judging.specs.Queue.{facts_of}
use Rattle.directory.specs.TreeModel.State.Directory.{entry_item, entry_kind}
use Rattle.directory.specs.TreeModel.State.Lists.{names_item}
use Rattle.directory.proofs.Walks.{Walked}
use Rattle.directory.proofs.listed.told_down_facts.Given as goal

-- the entries so far
abbrev pub invariant-loop-number : goal.invariant-loop-number
invariant-loop-number g l = Walked entry_kind (names_item entry_item l.item) facts_of l.down.list l._number l.least l.facts
