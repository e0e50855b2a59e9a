use Rattle.std.proofs.Common.{◌≡◌, ◌+◌, ◌-◌, ◌≤◌, length, drop}
use Rattle.std.specs.Prelude.{option_map}
use Rattle.text_model.specs.Schedule.{pieces_at}
use Rattle.witness_check.specs.Lines.{numbers_in}
use Rattle.witness_check.proofs.words.count_numbers.Given as goal

-- the numbers so far and those of the bytes to come are all
abbrev pub invariant-numbers : goal.invariant-numbers
invariant-numbers l = record {
  count : option_map (λ numbers. length numbers) (numbers_in (pieces_at 46 l.word)) ≡ option_map (λ numbers. l.count + length numbers) (numbers_in (pieces_at 46 (drop l.from l.word)));
  within : l.from ≤ length l.word;
  few : l.count ≤ l.from;
}

abbrev pub decreases-numbers : goal.decreases-numbers
decreases-numbers l = length l.word - l.from
