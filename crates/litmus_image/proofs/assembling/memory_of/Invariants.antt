use Rattle.std.proofs.Common.{◌≡◌, ◌++◌, drop}
use Rattle.litmus_model.specs.Kept.{test_from}
use Rattle.litmus_image.proofs.Bytes.{items_of}
use Rattle.litmus_image.proofs.assembling.memory_of.Given as goal

abbrev pub invariant-loop-name : goal.invariant-loop-name
invariant-loop-name l =
    items_of (test_from l.test) l.item_bytes l.test.locations.items ≡ l.bytes.items ++ items_of (test_from l.test) l.item_bytes (drop l.name-index l.test.locations.items)
