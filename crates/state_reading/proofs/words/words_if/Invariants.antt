use Rattle.std.specs.Prelude.{◌≡◌, ◌-◌, ◌<◌, ◌≤◌, ◌^◌, ◌||◌, drop, length, nat_eq, take}
use Rattle.state_reading.specs.Reading.{words_that}
use Rattle.state_reading.proofs.Steps.{words_behind}
use Rattle.state_reading.proofs.words.words_if.Given as goal

-- the words so far, and those that are left
abbrev pub invariant-loop-place : goal.invariant-loop-place
invariant-loop-place l = record {
  left : words_that (λ w. l.means || nat_eq w 0) (length l.initial.into) l.fn.at (drop l.fn.at l.words) ≡ words_behind (λ w. l.means || nat_eq w 0) (take l.place l.into) (length l.initial.into - l.place) l.at (drop l.at l.words);
  inside : l.at ≤ length l.words;
  few : length l.words < 2 ^ 32;
}
