use Rattle.std.proofs.Common.{◌≡◌, take}
use Rattle.directory.specs.TreeModel.State.Directory.{queue_kinds}
use Rattle.bus_judging.specs.Queue.{facts_of}
use Rattle.directory.proofs.gathered.down_facts.Given as goal

abbrev pub invariant-loop-place : goal.invariant-loop-place
invariant-loop-place g l = l.facts ≡ facts_of (queue_kinds l.item (take l.place l.down.list))
