use Rattle.bus_judging.specs.Parent.{request_facts}
use Rattle.directory.specs.TreeModel.State.Lists.{names_item}
use Rattle.directory.proofs.EntryKinds.{pair_item, pair_kind}
use Rattle.directory.proofs.Walks.{Walked}
use Rattle.directory.proofs.listed.told_asked_facts.Given as goal

-- the requests so far
abbrev pub invariant-loop-number : goal.invariant-loop-number
invariant-loop-number l = Walked pair_kind (names_item pair_item l.item) request_facts l.requests.list l._number l.least l.facts
