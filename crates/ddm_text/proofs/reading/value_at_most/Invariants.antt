use Rattle.std.proofs.Common.{◌≡◌, ◌≤◌, drop}
use Rattle.ddm_text.specs.Numbers.{value_of, value_from}
use Rattle.ddm_text.proofs.reading.value_at_most.Given as goal

abbrev pub invariant-digits : goal.invariant-digits
invariant-digits l = record {
  rest : value_from l.value (drop l.byte-index l.bytes) ≡ value_of l.bytes;
  within : l.value ≤ l.most;
}
