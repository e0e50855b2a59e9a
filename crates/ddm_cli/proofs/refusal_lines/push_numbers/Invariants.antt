use Rattle.std.proofs.Common.{◌≡◌, ◌≤◌, ◌+◌, ◌*◌, ◌++◌, length, take}
use Rattle.ddm_cli.specs.TextModel.Faults.{number_texts}
use Rattle.ddm_cli.proofs.refusal_lines.push_numbers.Given as goal

abbrev pub invariant-loop-number : goal.invariant-loop-number
invariant-loop-number l = record {
  text : l.line ≡ l.initial.line ++ number_texts (take l.number-index l.numbers);
  short : length l.line ≤ length l.initial.line + 21 * l.number-index;
}
