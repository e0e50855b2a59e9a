use Rattle.std.proofs.Common.{ℕ, List, subst, sym, ap, ◌∙◌, arith}
use Rattle.litmus_files.specs.Different.{AreLeaves}
use Rattle.litmus_files.specs.Places.{places_from}
use Rattle.litmus_files.proofs.Leaves.{no_leaves}
use Rattle.litmus_files.proofs.Pieces.{all_left, pieces_left}
use Rattle.litmus_files.proofs.places.read_places.Goals as goal

pub loop-at-init : goal.loop-at-init
loop-at-init c = record {
  begun = omega arith;
  left = all_left c.args.word.now ∙ ap (λ (ls : List ℕ). places_from ls (pieces_left c.args.word.now 0 0)) (sym c.none-places.ensures);
  leaves = subst AreLeaves (sym c.none-places.ensures) no_leaves;
}
