use Rattle.std.proofs.Common.{◌≡◌, ◌≤◌, ◌-◌, length, nat_eq}
use Rattle.std.specs.Prelude.{position}
use Rattle.witness_check.proofs.FirstPlaces.{from_on}
use Rattle.witness_check.proofs.places.place_of.Given as goal

-- what is left decides
abbrev pub invariant-blocks-2 : goal.invariant-blocks-2
invariant-blocks-2 l = record {
  within : l.from ≤ length l.text;
  left : position (λ byte. nat_eq byte l.separator) l.text ≡ from_on l.separator l.from l.text;
}

abbrev pub decreases-blocks-2 : goal.decreases-blocks-2
decreases-blocks-2 l = length l.text - l.from
