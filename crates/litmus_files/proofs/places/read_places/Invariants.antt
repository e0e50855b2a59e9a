use Rattle.std.proofs.Common.{◌≡◌, ◌≤◌}
use Rattle.litmus_files.specs.Different.{AreLeaves}
use Rattle.litmus_files.specs.Places.{places_from, places_in}
use Rattle.litmus_files.proofs.Pieces.{pieces_left}
use Rattle.litmus_files.proofs.places.read_places.Given as goal

abbrev pub invariant-loop-at : goal.invariant-loop-at
invariant-loop-at l = record {
  begun : l.begun ≤ l.at;
  left : places_in l.word ≡ places_from l.places (pieces_left l.word l.begun l.at);
  leaves : AreLeaves l.places;
}
