use Rattle.std.proofs.Common.{◌≡◌, drop}
use Rattle.std.specs.Prelude.{find, nat_eq}
use Rattle.litmus_model.specs.Image.{address_of}
use Rattle.litmus_model.specs.Kept.{test_from}
use Rattle.litmus_log.proofs.words.location_at.Given as goal

abbrev pub invariant-loop-name : goal.invariant-loop-name
invariant-loop-name l =
    find (λ name. nat_eq (address_of (test_from l.test) l.item_bytes name) l.word) l.test.locations.items ≡ find (λ name. nat_eq (address_of (test_from l.test) l.item_bytes name) l.word) (drop l.name-index l.test.locations.items)
