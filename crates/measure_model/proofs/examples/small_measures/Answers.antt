use Rattle.std.proofs.Common.{◌≡◌, ◌∙◌, ◌≤◌, ℕ, List, refl, sym, ap, arith}
use Rattle.recording_model.specs.Examples.{four_leaves, loads_of, shape_of, two_leaves}
use Rattle.recording_model.specs.TreeModel.Start.Sources.{TreeValue}
use Rattle.recording_model.specs.Recording.{Recording, drawn_limit, recording_within}
use Rattle.recording_model.specs.declared.RunEnd.{RunEnd}
use Rattle.recording_model.specs.declared.SeedKind.{SeedKind}
use Rattle.recording_model.proofs.FirstTurns.{first-turns-suffice}
use Rattle.measure_model.specs.Computing.{measures_compute}
use Rattle.measure_model.specs.Examples.{measured}
use Rattle.measure_model.specs.Text.{measure_text, run_text}
use Rattle.measure_model.proofs.examples.small_measures.Goals as goal

-- what is computed of a seed's first turns is so of the seed
by-first : (count : ℕ) (kind : SeedKind) (tree : TreeValue) (seed turns : ℕ) (why : RunEnd) (text : List ℕ) → count ≤ drawn_limit → (why ≡ RunEnd.Drawn → ⊥) → (recording_within count kind (shape_of tree) seed turns (loads_of tree)).end ≡ why
    → run_text (recording_within count kind (shape_of tree) seed turns (loads_of tree)) (loads_of tree) ≡ text → measured kind tree seed turns ≡ text
unfolding measure_text
by-first count kind tree seed turns why text few other ends within =
    ap (λ (r : Recording). run_text r (loads_of tree)) (first-turns-suffice kind (shape_of tree) seed turns count (loads_of tree) few (λ all. other (sym ends ∙ all))) ∙ within

pub returns : goal.returns
unfolding measures_compute
returns c = record {
  even = by-first 64 SeedKind.Even two_leaves 0 20 RunEnd.Halted _ (omega arith) (λ other. cc) refl refl;
  deep = by-first 64 SeedKind.Skewed four_leaves 4 9 RunEnd.Turns _ (omega arith) (λ other. cc) refl refl;
  none = by-first 0 SeedKind.Even two_leaves 0 0 RunEnd.Turns _ (omega arith) (λ other. cc) refl refl;
}
