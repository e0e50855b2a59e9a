use Rattle.std.proofs.Common.{◌≡◌, drop}
use Rattle.std.specs.List.{list_all}
use Rattle.litmus_model.specs.Bytes.{is_between}
use Rattle.litmus_text.proofs.header.are_printed.Given as goal

abbrev pub invariant-loop-byte : goal.invariant-loop-byte
invariant-loop-byte l = list_all (is_between 33 126) l.name ≡ list_all (is_between 33 126) (drop l.byte-index l.name)
