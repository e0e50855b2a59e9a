use Rattle.std.proofs.Common.{◌≡◌, take}
use Rattle.directory.specs.TreeModel.State.Lists.{names_item}
use Rattle.bus_judging.specs.Parent.{request_facts}
use Rattle.directory.proofs.EntryKinds.{pair_item, pair_kind, passing}
use Rattle.directory.proofs.gathered.asked_facts.Given as goal

abbrev pub invariant-loop-place : goal.invariant-loop-place
invariant-loop-place l = l.facts ≡ request_facts (passing pair_kind (names_item pair_item l.item) (take l.place l.requests.list))
